use Rattle.std.proofs.Common.{arith}
use Rattle.trunk_sums.proofs.ShareLaws.{used_bound}
use Rattle.trunk_sums.proofs.sums.Sums.total_with.Goals as goal

pub overflow_add-result : goal.overflow_add-result
overflow_add-result c =
    let of = c.requires.uses in
    let few = used_bound c.args.lab.now c.args.wiring.now of.others c.requires.limits c.gain-gain.ensures.few in
    omega (arith, few, of.uses, c.gain-gain.ensures.small)

pub overflow_sub-result : goal.overflow_sub-result
overflow_sub-result c =
    let of = c.requires.uses in
    let is = c.gain-gain.ensures.is of.others of.one_each of.own in
    omega (arith, is, of.uses)

pub returns : goal.returns
returns c others count own uses =
    let is = c.gain-gain.ensures.is others count own in
    omega (arith, is, uses)
