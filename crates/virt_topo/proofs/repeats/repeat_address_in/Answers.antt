use Rattle.std.proofs.Common.{◌≡◌, ◌∷◌, ◌++◌, false, sym, rules, ◌∙◌}
use Rattle.std.specs.Prelude.{◌||◌}
use Rattle.std.specs.List.{list_any}
use Rattle.virt_topo.specs.Repeats.{stands_again}
use Rattle.virt_topo.specs.Soundness.{all_ends, same_address}
use Rattle.virt_topo.proofs.RepeatLaws.{again_from}
use Rattle.virt_topo.proofs.repeats.repeat_address_in.Goals as goal

pub loop-first-preserved : goal.loop-first-preserved
loop-first-preserved c =
    let is : c.loop-first.rest.now ≡ c.in-Some.first.now ∷ c.in-Some.others.now = search rules in
    let from = again_from c.loop-first.rest.now c.in-Some.others.now c.in-Some.first.now (all_ends c.args.later.now) is in
    let more = stands_again same_address (c.in-Some.others.now ++ all_ends c.args.later.now) in
    let beside : list_any (same_address c.in-Some.first.now) c.in-Some.others.now ≡ false = sym c.has_address.ensures ∙ c.if-has_address.false in
    let behind : list_any (same_address c.in-Some.first.now) (all_ends c.args.later.now) ≡ false = sym c.have_address.ensures ∙ c.if-have_address.false in
    sym (from ∙ (λ i. beside i || behind i || more)) ∙ c.loop-first.invariant
