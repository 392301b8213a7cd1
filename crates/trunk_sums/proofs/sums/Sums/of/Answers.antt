use Rattle.std.proofs.Common.{◌≡◌, ◌<◌, ℕ, List, length, get_or, ap, arith}
use Rattle.phys_lab.proofs.TrunkCount.{few_trunks}
use Rattle.virt_topo.proofs.CableLaws.{whole_bound}
use Rattle.trunk_sums.specs.Crossed.{side_of}
use Rattle.trunk_sums.proofs.sums.Sums.of.Goals as goal

pub sum_of-total-requires-clause-few : goal.sum_of-total-requires-clause-few
sum_of-total-requires-clause-few c =
    omega (arith, few_trunks c.args.lab.now c.range-kept.ensures.lab, ap length c.deref.ensures.value, c.in_ok-uses.ensures.one_each)

pub sum_of-total-requires-clause-small : goal.sum_of-total-requires-clause-small
sum_of-total-requires-clause-small c = λ t lt.
    let here : t < length c.args.lab.now.trunks = omega (arith, lt, ap length c.deref.ensures.value, c.in_ok-uses.ensures.one_each) in
    let at : ◌≡◌ {A = ℕ} (get_or c.deref.result.now t 0) (get_or c.in_ok-uses.uses.items t 0) = ap (λ (l : List ℕ). get_or l t 0) c.deref.ensures.value in
    omega (arith, at, c.in_ok-uses.ensures.each t here, whole_bound (side_of c.args.lab.now t) c.args.wiring.now c.args.mapping.now.plugs c.requires.limits)
