use Rattle.std.proofs.Common.{◌≡◌, ◌<◌, ℕ, List, [], ◌++◌, None, length, get_or, arith, ap, ◌∙◌}
use Rattle.std.specs.Prelude.{nat_lt}
use Rattle.std.proofs.Math.ListN.{set}
use Rattle.std.proofs.lemmas.List.{take_all, length-set, get_or_default}
use Rattle.std.proofs.lemmas.Bool.{ltb-true}
use Rattle.virt_topo.specs.declared.wiring.VirtEnd.{VirtEnd}
use Rattle.virt_topo.specs.Owners.{at_ends}
use Rattle.virt_topo.proofs.EndLaws.{nodes_of}
use Rattle.virt_topo.proofs.CableLaws.{passes_at}
use Rattle.top_text.proofs.TableLaws.{of_one, next_end}
use Rattle.top_text.proofs.tables.put_ends.Goals as goal

abbrev none : VirtEnd
none = record { node = 0; address = None }

pub loop-end-preserved : goal.loop-end-preserved
loop-end-preserved c =
    let ends = c.args.ends.now in
    let i = c.loop-end.end-index in
    let e = get_or ends i none in
    let old = c.args.on_node.now.items in
    let so_far = c.loop-end.on_node.items in
    let own = c.index_mut.result.now in
    let is : e ≡ get_or ends i e = get_or_default ends i none e c.loop-end-test.true in
    let within : e.node < length old = ltb-true e.node (length old) (passes_at (λ x. nat_lt x.node (length old)) ends i e c.requires c.loop-end-test.true is) in
    record {
      count = length-set so_far e.node c.push.new.self ∙ c.loop-end.invariant.count;
      numbers = next_end old so_far (set so_far e.node c.push.new.self) own c.args.segment ends i e c.loop-end-test.true is c.loop-end.invariant.count within c.index_mut.ensures.value c.loop-end.invariant.numbers (ap (λ (l : List ℕ). set so_far e.node l) c.in_ok-push.ensures.ok);
    }

pub returns-clause-numbers : goal.returns-clause-numbers
returns-clause-numbers c = λ v lt.
    c.loop-end.invariant.numbers v lt
    ∙ ap (λ (l : List VirtEnd). get_or c.args.on_node.now.items v [] ++ at_ends v (nodes_of l) (of_one c.args.segment l)) (take_all c.loop-end.end-index c.args.ends.now (omega arith))
