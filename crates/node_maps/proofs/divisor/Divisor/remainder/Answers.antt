use Rattle.std.proofs.Common.{◌∙◌, ◌*◌, ◌/◌, ◌%◌, ◌^◌, ℕ, ap, arith}
use Rattle.node_maps.proofs.DivisorLaws.{by_inverse}
use Rattle.node_maps.proofs.divisor.Divisor.remainder.Goals as goal

pub returns : goal.returns
returns c =
    let x = c.self.inside in
    let word = c.args.word in
    (λ j. c.from-2.ensures j * c.from-3.ensures j / 2 ^ 64)
    ∙ ap (λ (k : ℕ). x.inverse * k % 2 ^ 64 * x.count / 2 ^ 64) c.from.ensures
    ∙ by_inverse x.count x.inverse word (omega arith) (omega arith) (omega arith) c.self.invariant
    ∙ ap (λ (n : ℕ). word % n) c.self.view_is
