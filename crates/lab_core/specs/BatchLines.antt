-- WHAT THE REPLY TO A BATCH TELLS: a line for each run, and where its experiment is.
use Rattle.std.specs.Prelude.{◌≡◌, ℕ, Bool, false, List, [], ◌∷◌, ◌++◌, map, Ok}
use Rattle.lab_ahead.specs.Batches.{batch_of_text}
use Rattle.lab_ahead.specs.declared.batch.Batch.{Batch}
use Rattle.lab_ahead.specs.declared.batch.Run.{Run}
use Rattle.records_model.specs.Labs.{LabState, is_out}
use Rattle.virt_topo.specs.declared.experiment.Phase.{Phase}
use Rattle.script_text.specs.Replies.{served_of}
use Rattle.script_text.specs.declared.reply.Reply.{Reply}
use Rattle.script_text.specs.declared.reply.Reply.TheVariants as replies
use Rattle.script_text.specs.declared.reply.FailedEnd.TheVariants as ends
use Rattle.script_text.specs.declared.reply.Served.{Served}
use Rattle.lab_core.specs.BatchList.{is_run_of}
use Rattle.lab_core.specs.Tells.{IsThere, is_in}

-- a run that was answered, and its reply
pub record Line : Type 0 where
  pub run : Run
  pub reply : Reply

abbrev pub runs_of : List Line → List Run
runs_of lines = map (λ l. l.run) lines

abbrev pub replies_of : List Line → List Reply
replies_of lines = map (λ l. l.reply) lines

-- where a line tells that an experiment is, in or out, there it is, if none of the later runs is of it
abbrev pub TellsBefore : ((Phase → Bool) → List ℕ → Type 0) → List Run → Reply → Type 0
TellsBefore Is later (replies.In exp) = is_run_of later exp ≡ false → Is is_in exp
TellsBefore Is later (replies.Out exp) = is_run_of later exp ≡ false → Is is_out exp
TellsBefore Is later (replies.Failed exp ends.In what) = is_run_of later exp ≡ false → Is is_in exp
TellsBefore Is later (replies.Failed exp ends.Out what) = is_run_of later exp ≡ false → Is is_out exp
TellsBefore Is later reply = Unit {0}

abbrev pub AllTell : ((Phase → Bool) → List ℕ → Type 0) → List Line → Type 0
AllTell Is [] = Unit {0}
AllTell Is (line ∷ later) = TellsBefore Is (runs_of later) line.reply × AllTell Is later

-- THE LINES OF A BATCH of these runs: its first runs in order, each with its reply; and what they tell is so
pub record LinesTell (Is : (Phase → Bool) → List ℕ → Type 0) (runs : List Run) (told : List Reply) : Type 0 where
  pub lines : List Line
  pub left : List Run
  pub runs_are : runs ≡ runs_of lines ++ left
  pub told_are : told ≡ replies_of lines
  pub tell : AllTell Is lines

-- WHAT A BATCH THAT WAS SERVED TELLS, of its text: there are replies to its first runs in order, whose texts are the lines
pub record BatchTells (Is : (Phase → Bool) → List ℕ → Type 0) (text : List ℕ) (served : Served) : Type 0 where
  pub batch : Batch
  pub means : batch_of_text text ≡ Ok batch
  pub told : List Reply
  pub served_is : served ≡ served_of told
  pub tells : LinesTell Is batch.runs told

-- it is so in that lab
abbrev pub there_in : LabState → (Phase → Bool) → List ℕ → Type 0
there_in u = λ is exp. IsThere is u exp
