use Rattle.std.proofs.Common.{◌≡◌, Some, ap, ◌∙◌, true}
use Rattle.std.specs.Prelude.{◌↔◌, is_some}
use Rattle.lab_base.proofs.Tests.{some_weaker}
use Rattle.plant.specs.Told.{Told}
use Rattle.plant.specs.Worlds.{world_of}
use Rattle.virt_topo.specs.declared.experiment.Phase.{Phase}
use Rattle.virt_topo.specs.declared.mapping.Mapped.{Mapped}
use Rattle.lab_model.specs.Cabled.{SameNode}
use Rattle.lab_model.specs.Wants.{node_name}
use Rattle.lab_audit.specs.Diff.{standing, standing_in}
use Rattle.lab_audit.specs.Nodes.{row_with}
use Rattle.lab_audit.proofs.Owners.{off_by}
use Rattle.lab_audit.proofs.node_lines.is_off.Goals as goal

pub node_row_of-requires-clause-sound : goal.node_row_of-requires-clause-sound
node_row_of-requires-clause-sound g c =
    let e = c.args.experiment.now in
    (c.requires.fits (record { wiring = e.wiring; mapping = c.in-In.mapping; tags = c.in-In.tags }) (ap (λ (p : Phase). standing_in e.wiring p) c.in-In.is)).sound

pub node_row_of-requires-clause-shaped : goal.node_row_of-requires-clause-shaped
node_row_of-requires-clause-shaped g c =
    let e = c.args.experiment.now in
    (c.requires.fits (record { wiring = e.wiring; mapping = c.in-In.mapping; tags = c.in-In.tags }) (ap (λ (p : Phase). standing_in e.wiring p) c.in-In.is)).shaped

pub returns-in_ok-same-in-In-clause-exact : goal.returns-in_ok-same-in-In-clause-exact
returns-in_ok-same-in-In-clause-exact g c =
    let a = g.P.Plant.seen c.args.plant.now in
    let e = c.args.experiment.now in
    let m : Mapped = record { wiring = e.wiring; mapping = c.in-In.mapping; tags = c.in-In.tags } in
    let stands : standing e ≡ Some m = ap (λ (p : Phase). standing_in e.wiring p) c.in-In.is in
    let name = node_name c.args.lab.now c.args.node in
    let n = c.name_at.result in
    let same = c.in_ok-same-in-In.same in
    some_weaker a.told (λ (t : Told). is_some ((world_of t.trace).node n).boot ≡ true → (same ≡ true) ↔ SameNode ((world_of t.trace).node n) (row_with c.in_ok-wants-in-In.wants.os true c.deref.result.now)) _
    (λ t is. λ known. off_by c.args.lab.now (world_of t.trace) e m name n c.in_ok-wants-in-In.wants.os c.deref.result.now same stands c.name_at.ensures
    c.in_ok-wants-in-In.ensures.os (c.deref.ensures.value ∙ c.in_ok-wants-in-In.ensures.pipes)
    (is (ap (λ v. is_some ((world_of t.trace).node v).boot) c.name_at.ensures ∙ known m stands)))
    c.in_ok-same-in-In.ensures.exact
