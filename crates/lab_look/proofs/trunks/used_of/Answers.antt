use Rattle.std.proofs.Common.{ap, arith}
use Rattle.phys_lab.specs.declared.parts.Trunk.{Trunk}
use Rattle.phys_lab.proofs.TrunkCount.{few_trunks}
use Rattle.lab_look.proofs.Sums.{used_is}
use Rattle.lab_look.proofs.trunks.used_of.Goals as goal

pub overflow_cast-number : goal.overflow_cast-number
overflow_cast-number c = omega (arith, few_trunks c.args.lab.now c.range-kept.ensures.lab, c.requires.within)

pub returns : goal.returns
returns c =
    (used_is c.args.lab.now c.args.state.now.state c.args.claims.now c.args.number c.left-left.result c.trunk_at.result.now.kbps c.requires.sane c.requires.claims c.requires.within c.left-left.ensures
    (ap (λ (t : Trunk). t.kbps) c.trunk_at.ensures)).1
