use Rattle.std.proofs.Common.{Bool, List, ap, arith, ◌∙◌}
use Rattle.virt_topo.specs.Cables.{cables, cut_use}
use Rattle.lab_model.proofs.CutLaws.{cut_is_use}
use Rattle.phys_lab.proofs.TrunkCount.{few_trunks}
use Rattle.plain_model.proofs.uses.use_of.Goals as goal

pub overflow_cast-trunk : goal.overflow_cast-trunk
overflow_cast-trunk c = omega (arith, few_trunks c.args.lab.now c.range-kept.ensures.lab)

pub returns : goal.returns
returns c =
    let w = c.args.wiring.now in
    let m = c.args.mapping.now in
    c.cut_use.ensures ∙ ap (λ (side : List Bool). cut_use side (cables w.segments m.plugs)) c.first_side.ensures ∙ cut_is_use c.args.lab.now w m c.args.trunk c.requires.shaped.in_lab
