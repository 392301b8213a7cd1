use Rattle.lab_state.specs.Replays.{records_of}
use Rattle.lab_grow.proofs.Sticking.{stops_inside, stuck_there}
use Rattle.lab_grow.proofs.reasons.first_stuck.Goals as goal

pub stuck_at-requires-clause-index : goal.stuck_at-requires-clause-index
stuck_at-requires-clause-index c =
    let stops = rw c.in-Err-Bad.field-0-is at c.in-Err-Bad.ensures.bad in
    stops_inside c.args.found.now c.in-Err-Bad.index stops

pub returns-in-Err-Bad : goal.returns-in-Err-Bad
returns-in-Err-Bad c =
    let stops = rw c.in-Err-Bad.field-0-is at c.in-Err-Bad.ensures.bad in
    stuck_there (records_of c.args.found.now) c.in-Err-Bad.index c.stuck_at.result stops c.stuck_at.ensures
