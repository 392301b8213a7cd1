use Rattle.std.proofs.Common.{◌∙◌, ℕ, ap, arith}
use Rattle.trunk_sums.specs.Summed.{used}
use Rattle.trunk_sums.specs.Totals.{sum_below}
use Rattle.trunk_sums.proofs.TotalLaws.{sum_is}
use Rattle.trunk_sums.proofs.sums.Sums.total.Goals as goal

pub returns : goal.returns
returns c =
    let f : ℕ → ℕ = used c.args._lab.now c.args._wiring.now c.args._plugs.now in
    c.requires.total
    ∙ sum_is c.args.self.now.uses.items f (λ t lt. c.requires.uses t (omega (arith, lt, c.requires.one_each)))
    ∙ ap (λ (n : ℕ). sum_below n f) c.requires.one_each
