use Rattle.std.proofs.Common.{◌≡◌, ◌+◌, ℕ, suc, take, sym, subst, arith}
use Rattle.lab_grow.specs.Carried.{AreAtRest}
use Rattle.lab_grow.proofs.Walking.{rest_on}
use Rattle.lab_grow.proofs.standing.first_moving.Goals as goal

pub loop-number-preserved : goal.loop-number-preserved
loop-number-preserved c =
    let es = c.args.state.now.state.experiments in
    let number = c.loop-number.number in
    let step : suc number ≡ number + 1 = omega arith in
    subst (λ (k : ℕ). AreAtRest (take k es)) step
    (rest_on es number c.in-Some.own.now (sym c.in-Some.ensures) (c.moves.ensures.0 c.if-moves.false) c.loop-number.invariant)
