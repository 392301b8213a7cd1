use Rattle.std.proofs.Common.{◌≡◌, ◌≤◌, ℕ, false, nat_le, arith}
use Rattle.std.proofs.lemmas.Bool.Decides.{nat_tests}
use Rattle.map_state.proofs.StateLaws.{counted_at}
use Rattle.map_state.proofs.full.is_taken.Goals as goal

more_than_none : (n hosted : ℕ) → 1 ≤ n → hosted ≡ 0 → false ≡ nat_le n hosted
more_than_none n hosted one none = grind (arith, nat_tests)

pub returns-then-hosted-eq0 : goal.returns-then-hosted-eq0
returns-then-hosted-eq0 c =
    more_than_none _ c.args.hosted (counted_at c.args.lab.now c.args.place.0.0 c.args.place.1 c.range-kept.ensures.lab c.requires.node c.requires.typed) c.if-hosted-eq0.true
