use Rattle.std.proofs.Common.{ap, ◌∙◌}
use Rattle.lab_state.specs.Replays.{records_of}
use Rattle.lab_look.specs.Beside.{is_begun}
use Rattle.lab_look.proofs.Beginning.{begun_by, none_by}
use Rattle.lab_look.proofs.beside.is_begun_by.Goals as goal

pub returns-in_ok-packed-in-Ok : goal.returns-in_ok-packed-in-Ok
returns-in_ok-packed-in-Ok c =
    begun_by c.args.live.now c.args.other.now c.in_ok-packed-in-Ok.packed (records_of c.args.found.now) c.in-Ok.state.state c.is_begun.result c.in-Ok.ensures.ok
    c.in_ok-packed-in-Ok.ensures.packed.spelled (c.is_begun.ensures ∙ ap (is_begun c.args.live.now c.args.other.now) c.bytes.ensures)

pub returns-in-Err-Bad : goal.returns-in-Err-Bad
returns-in-Err-Bad c =
    let stops = rw c.in-Err-Bad.field-0-is at c.in-Err-Bad.ensures.bad in
    none_by c.args.live.now c.args.other.now (records_of c.args.found.now) c.in-Err-Bad.field-0-0 stops
