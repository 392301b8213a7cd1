use Rattle.std.proofs.Common.{◌∙◌, List, ◌==◌, ap, refl}
use Rattle.std.specs.List.{list_any}
use Rattle.lab_base.specs.declared.ids.IfaceId.{IfaceId}
use Rattle.node_maps.proofs.TableLaws.{marks_cleared}
use Rattle.node_maps.proofs.ifaces.Given.clear.Goals as goal

pub returns : goal.returns
returns c = λ had marks.
    marks_cleared c.args._lab.now c.args.self.now (record { plugs = c.from_vec.result; used = c.unmark.new.used; last = c.args.self.now.last }) had marks
    (c.from_vec.ensures ∙ c.clear.ensures.items) c.unmark.ensures.one_each refl
    (λ i among. c.unmark.ensures.free i (ap (λ (l : List IfaceId). list_any (λ p. p.0 == i) l) c.as_slice.ensures ∙ among))
    c.unmark.ensures.others
