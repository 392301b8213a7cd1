use Rattle.std.proofs.Common.{Some, refl}
use Rattle.lab_model.proofs.SafeMoves.{forward_safe, undo_safe}
use Rattle.lab_model.proofs.OwnCommands.{out_safe, undo_in_safe}
use Rattle.lab_model.proofs.every_moment.Goals as goal

pub returns-clause-forward : goal.returns-clause-forward
returns-clause-forward c = λ lab e old m w moving is_lab differ suits part cs mid op applied answer goes comes. forward_safe lab e old (Some m) moving is_lab differ suits w part m refl cs mid op applied answer goes comes

pub returns-clause-undone : goal.returns-clause-undone
returns-clause-undone c = λ lab e m new w moving is_lab differ suits part cs mid op applied answer goes comes. undo_safe lab e (Some m) new moving is_lab differ suits w part m refl cs mid op applied answer goes comes

pub returns-clause-out : goal.returns-clause-out
returns-clause-out c = λ lab e m w moving part cs mid op applied answer goes comes. out_safe lab e m moving cs w mid op applied answer part goes comes

pub returns-clause-in_undone : goal.returns-clause-in_undone
returns-clause-in_undone c = λ lab e m w moving part cs mid op applied answer goes comes. undo_in_safe lab e m moving cs w mid op applied answer part goes comes
