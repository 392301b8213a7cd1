use Rattle.std.proofs.Common.{◌≡◌, ◌<◌, ◌++◌, ℕ, [], length, take, get_or}
use Rattle.virt_topo.specs.Owners.{at_ends}
use Rattle.virt_topo.proofs.EndLaws.{nodes_of}
use Rattle.top_text.proofs.TableLaws.{of_one}
use Rattle.top_text.proofs.tables.put_ends.Given as goal

abbrev pub invariant-loop-end : goal.invariant-loop-end
invariant-loop-end l = record {
  count : length l.on_node.items ≡ length l.initial.on_node.items;
  numbers : (v : ℕ) → v < length l.initial.on_node.items
      → get_or l.on_node.items v [] ≡ get_or l.initial.on_node.items v [] ++ at_ends v (nodes_of (take l.end-index l.ends)) (of_one l.segment (take l.end-index l.ends));
}
