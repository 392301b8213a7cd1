use Rattle.std.proofs.Common.{true, false}
use Rattle.lab_state.proofs.SizeLaws.{in_short, change_short}
use Rattle.lab_state.proofs.state.LabState.judge_begin.Goals as goal

pub judge_in-requires : goal.judge_in-requires
judge_in-requires c = rw c.bytes.ensures (in_short c.args.exp c.in-In.map c.in-In.tags (rw c.in-In.is at c.requires))

pub judge_change-requires-clause-top : goal.judge_change-requires-clause-top
judge_change-requires-clause-top c = rw c.bytes-in-Change.ensures (change_short false c.args.exp c.in-Change.top c.in-Change.map c.in-Change.tags (rw c.in-Change.is at c.requires)).0

pub judge_change-requires-clause-map : goal.judge_change-requires-clause-map
judge_change-requires-clause-map c = rw c.bytes-in-Change-2.ensures (change_short false c.args.exp c.in-Change.top c.in-Change.map c.in-Change.tags (rw c.in-Change.is at c.requires)).1

pub judge_change-requires-in-Change2-clause-top : goal.judge_change-requires-in-Change2-clause-top
judge_change-requires-in-Change2-clause-top c = rw c.bytes-in-Change2.ensures (change_short true c.args.exp c.in-Change2.top c.in-Change2.map c.in-Change2.tags (rw c.in-Change2.is at c.requires)).0

pub judge_change-requires-in-Change2-clause-map : goal.judge_change-requires-in-Change2-clause-map
judge_change-requires-in-Change2-clause-map c = rw c.bytes-in-Change2-2.ensures (change_short true c.args.exp c.in-Change2.top c.in-Change2.map c.in-Change2.tags (rw c.in-Change2.is at c.requires)).1

pub returns-in-In : goal.returns-in-In
returns-in-In c = rw (c.in-In.is, ← c.bytes.ensures) c.judge_in.ensures

pub returns-in-Out : goal.returns-in-Out
returns-in-Out c = rw c.in-Out.is c.judge_out.ensures

pub returns-in-Change : goal.returns-in-Change
returns-in-Change c = rw (c.in-Change.is, ← c.bytes-in-Change.ensures, ← c.bytes-in-Change-2.ensures) c.judge_change.ensures

pub returns-in-Change2 : goal.returns-in-Change2
returns-in-Change2 c = rw (c.in-Change2.is, ← c.bytes-in-Change2.ensures, ← c.bytes-in-Change2-2.ensures) c.judge_change-in-Change2.ensures
