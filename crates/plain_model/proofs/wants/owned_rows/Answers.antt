use Rattle.std.proofs.Common.{◌<◌, List, All, length, sym, subst, ap, ◌∙◌}
use Rattle.lab_base.specs.declared.ids.IfaceId.{IfaceId}
use Rattle.virt_topo.specs.declared.wiring.Segment.{Segment}
use Rattle.virt_topo.specs.Ends.{end_nodes}
use Rattle.virt_topo.specs.Wirings.{mapped}
use Rattle.plain_model.proofs.HoldsLaws.{suits_from}
use Rattle.plain_model.proofs.wants.owned_rows.Goals as goal

pub push_cables-requires-clause-plugged : goal.push_cables-requires-clause-plugged
push_cables-requires-clause-plugged c =
    ap length c.as_slice-2.ensures ∙ (suits_from c.args.lab.now (mapped c.args.wiring.now c.args.mapping.now c.args.tags.now) c.requires).shaped.plugs
    ∙ ap (λ (l : List Segment). length (end_nodes l)) (sym c.as_slice.ensures)

pub push_cables-requires-clause-within : goal.push_cables-requires-clause-within
push_cables-requires-clause-within c =
    subst (λ (l : List IfaceId). All (λ i. i.0 < length c.args.lab.now.ifaces) l) (sym c.as_slice-2.ensures) (suits_from c.args.lab.now (mapped c.args.wiring.now c.args.mapping.now c.args.tags.now) c.requires).shaped.in_lab
