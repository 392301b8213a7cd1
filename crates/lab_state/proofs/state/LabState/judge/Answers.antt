use Rattle.std.proofs.Common.{true, false}
use Rattle.lab_state.proofs.SizeLaws.{lab_short, create_short}
use Rattle.lab_state.proofs.state.LabState.judge.Goals as goal

pub judge_lab-requires : goal.judge_lab-requires
judge_lab-requires c = rw c.bytes.ensures (lab_short c.in-Lab.ptop (rw c.in-Lab.is at c.requires))

pub judge_create-requires : goal.judge_create-requires
judge_create-requires c = rw c.bytes-in-Create.ensures (create_short false c.in-Create.exp c.in-Create.top (rw c.in-Create.is at c.requires))

pub judge_create-requires-in-Create2 : goal.judge_create-requires-in-Create2
judge_create-requires-in-Create2 c = rw c.bytes-in-Create2.ensures (create_short true c.in-Create2.exp c.in-Create2.top (rw c.in-Create2.is at c.requires))

pub judge_begin-requires : goal.judge_begin-requires
judge_begin-requires c = rw c.in-Begin.is at c.requires

pub returns-in-Lab-clause-judged : goal.returns-in-Lab-clause-judged
returns-in-Lab-clause-judged c = rw (c.in-Lab.is, ← c.bytes.ensures) c.judge_lab.ensures

pub returns-in-Create-clause-judged : goal.returns-in-Create-clause-judged
returns-in-Create-clause-judged c = rw (c.in-Create.is, ← c.bytes-in-Create.ensures) c.judge_create.ensures

pub returns-in-Create2-clause-judged : goal.returns-in-Create2-clause-judged
returns-in-Create2-clause-judged c = rw (c.in-Create2.is, ← c.bytes-in-Create2.ensures) c.judge_create-in-Create2.ensures

pub returns-in-Delete-clause-judged : goal.returns-in-Delete-clause-judged
returns-in-Delete-clause-judged c = rw c.in-Delete.is c.judge_delete.ensures

pub returns-in-Begin-clause-judged : goal.returns-in-Begin-clause-judged
returns-in-Begin-clause-judged c = rw c.in-Begin.is c.judge_begin.ensures

pub returns-in-Commit-clause-judged : goal.returns-in-Commit-clause-judged
returns-in-Commit-clause-judged c = rw c.in-Commit.is c.judge_end.ensures

pub returns-in-Abort-clause-judged : goal.returns-in-Abort-clause-judged
returns-in-Abort-clause-judged c = rw c.in-Abort.is c.judge_end-in-Abort.ensures
