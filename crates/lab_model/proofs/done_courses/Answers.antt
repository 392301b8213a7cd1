use Rattle.std.proofs.Common.{Some, refl}
use Rattle.lab_model.proofs.Whole.{forward_ends, undo_ends, out_ends, undo_in_ends}
use Rattle.lab_model.proofs.done_courses.Goals as goal

pub returns-clause-forward : goal.returns-clause-forward
returns-clause-forward c = λ lab e old m w cs moving suits part goes. forward_ends lab e old (Some m) moving suits w part m refl cs goes

pub returns-clause-undone : goal.returns-clause-undone
returns-clause-undone c = λ lab e m new w cs moving suits part goes. undo_ends lab e (Some m) new moving suits w part m refl cs goes

pub returns-clause-out : goal.returns-clause-out
returns-clause-out c = λ lab e m w cs moving suits goes. out_ends lab e m moving suits w cs goes

pub returns-clause-in_undone : goal.returns-clause-in_undone
returns-clause-in_undone c = λ lab e m w cs moving suits goes. undo_in_ends lab e m moving suits w cs goes
