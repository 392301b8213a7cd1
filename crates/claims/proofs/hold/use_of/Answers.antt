use Rattle.std.proofs.Common.{Bool, List, ap, arith, ◌∙◌}
use Rattle.virt_topo.specs.Cables.{cables, cut_use}
use Rattle.phys_lab.proofs.TrunkCount.{few_trunks}
use Rattle.lab_model.proofs.CutLaws.{cut_is_use}
use Rattle.claims.proofs.hold.use_of.Goals as goal

pub overflow_cast-trunk : goal.overflow_cast-trunk
overflow_cast-trunk c = omega (arith, few_trunks c.args.lab.now c.range-kept.ensures.lab)

pub returns : goal.returns
returns c =
    let w = c.args.mapped.now.wiring in
    let m = c.args.mapped.now.mapping in
    c.cut_use.ensures ∙ ap (λ (side : List Bool). cut_use side (cables w.segments m.plugs)) c.first_side-first.ensures ∙ cut_is_use c.args.lab.now w m c.args.trunk c.requires.shaped.in_lab
