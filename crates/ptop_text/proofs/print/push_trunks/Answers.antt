use Rattle.std.proofs.Common.{◌≡◌, ◌<◌, List, length, get_or, sym, ap, subst, ◌∙◌}
use Rattle.phys_lab.specs.Forests.{IsWithin}
use Rattle.phys_lab.specs.declared.parts.Trunk.{Trunk}
use Rattle.ptop_text.proofs.print.push_trunks.Goals as goal

pub push_trunk-requires : goal.push_trunk-requires
push_trunk-requires c =
    let items = c.trunks-trunk-items.ensures.list in
    let at : c.trunk-item.result ≡ get_or c.args.lab.now.trunks c.loop-trunk.trunk-index c.trunk-item.result = c.trunk-item.is ∙ ap (λ (l : List Trunk). get_or l c.loop-trunk.trunk-index c.trunk-item.result) items in
    let lt : c.loop-trunk.trunk-index < length c.args.lab.now.trunks = subst (λ (l : List Trunk). c.loop-trunk.trunk-index < length l) items c.loop-trunk-test.true in
    subst (λ (t : Trunk). IsWithin (length c.args.lab.now.switches) t) (sym at) (c.trunks-trunk-items.ensures.linked.trunks c.loop-trunk.trunk-index c.trunk-item.result lt)
