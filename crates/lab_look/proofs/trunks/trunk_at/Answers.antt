use Rattle.std.proofs.Common.{◌≡◌, List, length, get_or, refl, sym, subst}
use Rattle.std.proofs.lemmas.Option.{slice_get_read, get_or_from_slice_get}
use Rattle.phys_lab.specs.Sides.{no_trunk}
use Rattle.phys_lab.specs.declared.parts.Trunk.{Trunk}
use Rattle.lab_look.proofs.trunks.trunk_at.Goals as goal

pub returns : goal.returns
returns c =
    let xs = c.args.lab.now.trunks in
    let found = c.index-trunks-number.result in
    let is = subst (λ (l : List Trunk). found ≡ get_or l c.args.number found) c.trunks.ensures.list c.index-trunks-number.is in
    sym (get_or_from_slice_get xs c.args.number found no_trunk (slice_get_read xs (length xs) c.args.number found refl c.requires is))
