-- WHAT THE REPLY TO A PLAY TELLS of where its experiment is.
use Rattle.std.specs.Prelude.{◌≡◌, ℕ, Bool, false, List, [], Option, Some, None}
use Rattle.virt_topo.specs.declared.experiment.Phase.{Phase}
use Rattle.script_text.specs.Replies.{played_of}
use Rattle.script_text.specs.declared.reply.Reply.{Reply}
use Rattle.lab_core.specs.BatchLines.{TellsBefore}
use Rattle.lab_core.specs.Tells.{is_in, is_of_steps}

-- where each event was answered `in` it is in, and where a refusal ended the list, too; else it is where the reply tells that ended it
abbrev pub TellsEnded : ((Phase → Bool) → List ℕ → Type 0) → List ℕ → Option Reply → Type 0
TellsEnded Is exp None = Is is_in exp
TellsEnded Is exp (Some reply) = (is_of_steps reply ≡ false → Is is_in exp) × TellsBefore Is [] reply

pub record PlayTells (Is : (Phase → Bool) → List ℕ → Type 0) (exp : List ℕ) (reply : Reply) : Type 0 where
  pub played : ℕ
  pub ended : Option Reply
  pub reply_is : reply ≡ played_of exp played ended
  pub tells : TellsEnded Is exp ended
