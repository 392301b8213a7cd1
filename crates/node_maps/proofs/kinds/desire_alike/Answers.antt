use Rattle.std.proofs.Common.{[], refl, arith}
use Rattle.std.proofs.lemmas.List.{ext_get_or}
use Rattle.node_maps.proofs.kinds.desire_alike.Goals as goal

pub returns : goal.returns
returns c = (λ yes. ext_get_or ([], 0) c.args.one.now c.args.other.now (omega arith) (λ k lt. c.loop-number.invariant k (omega (arith, lt))), λ same. refl)
