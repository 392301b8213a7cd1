use Rattle.std.proofs.Common.{arith}
use Rattle.trunk_sums.specs.declared.made.Change.{Change}
use Rattle.trunk_sums.proofs.Replugged.{in_ends}
use Rattle.trunk_sums.proofs.SummedLaws.{is_in}
use Rattle.map_state.proofs.remake.replug.Goals as goal

pub index_mut-requires : goal.index_mut-requires
index_mut-requires c =
    let w = c.args.wiring.now in
    let x : Change = c.args.change in
    let row = c.requires.changes.rows 0 x (omega arith) in
    let in_all = in_ends w.segments x.row.segment x.end (is_in w x.end x.row row) in
    omega (arith, in_all, c.requires.plugged)
