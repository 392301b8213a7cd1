use Rattle.std.proofs.Common.{Bool, List, ap, arith, ◌∙◌}
use Rattle.phys_lab.proofs.TrunkCount.{few_trunks}
use Rattle.virt_topo.specs.Cables.{cables, cut_use}
use Rattle.virt_topo.proofs.CableLaws.{whole_bound, sound_keeps}
use Rattle.lab_model.proofs.CutLaws.{cut_is_use}
use Rattle.cost_rule.proofs.costs.trunk_use.Goals as goal

pub overflow_cast-trunk : goal.overflow_cast-trunk
overflow_cast-trunk c = omega (arith, few_trunks c.args.lab.now c.range-kept.ensures.lab)

pub returns-clause-used : goal.returns-clause-used
returns-clause-used c =
    let w = c.args.wiring.now in
    let m = c.args.mapping.now in
    c.cut_use.ensures ∙ ap (λ (side : List Bool). cut_use side (cables w.segments m.plugs)) c.first_side.ensures ∙ cut_is_use c.args.lab.now w m c.args.trunk c.requires.shaped.in_lab

pub returns-clause-bound : goal.returns-clause-bound
returns-clause-bound c =
    omega (arith, c.cut_use.ensures, whole_bound c.first_side.result.now c.args.wiring.now c.args.mapping.now.plugs (sound_keeps c.args.wiring.now c.requires.sound))
