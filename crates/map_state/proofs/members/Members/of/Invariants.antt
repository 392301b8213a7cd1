use Rattle.std.proofs.Common.{◌≡◌, ◌<◌, ◌+◌, ◌*◌, ℕ, List, length, get_or, Some, None}
use Rattle.std.specs.Prelude.{count_by}
use Rattle.lab_base.specs.Names.{same_name}
use Rattle.virt_topo.specs.declared.limits.TheConstants.{MAX_TYPES}
use Rattle.virt_topo.specs.Wirings.{virt_at}
use Rattle.lab_model.specs.Rules.{place_at}
use Rattle.cost_rule.specs.Counting.{types_from}
use Rattle.map_state.specs.Members.{class_index, asked_index, members_at}
use Rattle.map_state.proofs.members.Members.of.Given as goal

abbrev pub invariant-loop-virt : goal.invariant-loop-virt
invariant-loop-virt l = record {
  room : length l.members.counts.items ≡ length l.wiring.classes * MAX_TYPES;
  each : (c n : ℕ) (kind : List ℕ) → c < length l.wiring.classes → class_index l.wiring c kind ≡ Some n
      → get_or l.members.counts.items n 0 + count_by (same_name kind) (types_from l.wiring l.mapping c l.virt) ≡ members_at l.wiring l.mapping c kind;
  one_each : length l.members.own.items ≡ length l.wiring.nodes;
  own : (v : ℕ) → v < l.virt → get_or l.members.own.items v None ≡ asked_index l.wiring (virt_at l.wiring v).asks (place_at l.mapping v).1;
}
