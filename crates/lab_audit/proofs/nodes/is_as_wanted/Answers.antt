use Rattle.std.proofs.Common.{◌≡◌, true, List, subst}
use Rattle.std.specs.Prelude.{◌↔◌}
use Rattle.plant.specs.Told.{Told}
use Rattle.plant.specs.Worlds.{world_of}
use Rattle.plant.specs.Readings.{TellsNode}
use Rattle.plant.specs.declared.pipe_row.PipeRow.{PipeRow}
use Rattle.lab_audit.specs.Nodes.{agree, state_if}
use Rattle.lab_audit.specs.Reads.{ArePipes}
use Rattle.lab_audit.proofs.Agreeing.{wanted_by_reading}
use Rattle.lab_audit.proofs.Reading.{both_told, told_before}
use Rattle.lab_audit.proofs.nodes.is_as_wanted.Goals as goal

pub returns-clause-exact : goal.returns-clause-exact
returns-clause-exact g c =
    let a = g.P.Plant.seen c.args.plant.now in
    let b = g.P.Plant.seen c.node_at.new.plant in
    let row = c.in_ok-row.row in
    let found = c.in_ok-found.found in
    let wants = c.args.pipes.now in
    let same = c.is_same.result in
    let Pipes : Told → Type 0 = λ t. ArePipes ((world_of t.trace).node c.args.node) found in
    let pipes = told_before a b Pipes c.in_ok-row.ensures.reads c.in_ok-found.ensures.exact in
    let test : (same ≡ true) ↔ (row.os ≡ c.args.os) × (row.state ≡ state_if c.args.up) × (agree 0 found wants ≡ true) =
    subst (λ (l : List PipeRow). (same ≡ true) ↔ (row.os ≡ c.args.os) × (row.state ≡ state_if c.args.up) × (agree 0 l wants ≡ true)) c.as_slice.ensures c.is_same.ensures in
    both_told a.told (λ (t : Told). TellsNode ((world_of t.trace).node c.args.node) row) Pipes _
    (λ t n p. λ known. wanted_by_reading ((world_of t.trace).node c.args.node) row found c.args.os c.args.up wants same n p test known)
    c.in_ok-row.ensures.node pipes
