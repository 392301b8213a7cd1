use Rattle.std.proofs.Common.{◌&&◌, ◌==◌, length, sym, ap, ◌∙◌}
use Rattle.claims.specs.Answered.{are_free_ids}
use Rattle.lab_state.proofs.BeginLaws.{free_of, can_is}
use Rattle.lab_state.proofs.claimed_lab.ClaimedLab.can_take.Goals as goal

pub is_feasible-requires-clause-free : goal.is_feasible-requires-clause-free
is_feasible-requires-clause-free c =
    let k = c.requires.kept in
    free_of c.args.self.now k.0 c.args.exp k.1 k.2 k.3 c.in_ok-free.free c.in_ok-free.ensures

pub returns-then-feasible : goal.returns-then-feasible
returns-then-feasible c = λ es e kept found.
    let new = c.args.new.now in
    let claims = c.args.self.now.claims in
    let feasible = sym c.in_ok-feasible.ensures ∙ c.if-feasible.true in
    c.has_ids.ensures
    ∙ sym (ap (λ v. v && ((length new.tags == length new.wiring.segments) && are_free_ids claims new.tags)) feasible)
    ∙ can_is c.args.self.now es c.args.exp e kept found c.in_ok-free.free new c.in_ok-free.ensures c.requires.shaped

pub returns : goal.returns
returns c = λ es e kept found.
    let new = c.args.new.now in
    let claims = c.args.self.now.claims in
    let feasible = sym c.in_ok-feasible.ensures ∙ c.if-feasible.false in
    sym (ap (λ v. v && ((length new.tags == length new.wiring.segments) && are_free_ids claims new.tags)) feasible)
    ∙ can_is c.args.self.now es c.args.exp e kept found c.in_ok-free.free new c.in_ok-free.ensures c.requires.shaped
