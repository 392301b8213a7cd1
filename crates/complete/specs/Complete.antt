-- COMPLETENESS: where nothing goes wrong outside, the run is done, with no course cut, or memory was wanting.
use Rattle.std.specs.Prelude.{◌≡◌, ◌==◌, ◌&&◌, not, ℕ, Bool, true, false, codes, count_by, is_some, List, [], ◌∷◌, ◌++◌, Option, Some, None}
use Rattle.plant.specs.Events.{Event}
use Rattle.plant.specs.Told.{Told}
use Rattle.records_model.specs.Labs.{LabState}
use Rattle.recovery.specs.Settle.{is_stuck}
use Rattle.script_text.specs.Commands.{AtEnd, IsScript}
use Rattle.script_text.specs.declared.command.Command.{Command}
use Rattle.script_text.specs.declared.reply.Reply.{Reply}
use Rattle.script_text.specs.declared.reply.Reply.TheVariants.{Trouble, Failed, Recovered, Played, Served, Down, Stopped}
use Rattle.lab_top.specs.declared.status.Status.{Status}
use Rattle.lab_top.specs.declared.status.Status.TheVariants.{Done, ReadFault, WriteFault}
use Rattle.lab_top.specs.Pieces.{Begun, Piece, FirstLab, HasOpened, OpensTo, commands_of, is_early, steps_of}
use Rattle.lab_top.specs.Ran.{AreAnswered, Outside, WroteBy, number_of}
use Rattle.lab_gen.specs.Script.{generated}
use Rattle.lab_words.specs.Words.{Choices}
use Rattle.complete.specs.Booted.{GoesWell}

-- the text begins with these bytes
abbrev pub begins_with : List ℕ → List ℕ → Bool
begins_with [] text = true
begins_with (byte ∷ bytes) [] = false
begins_with (byte ∷ bytes) (first ∷ text) = (byte == first) && begins_with bytes text

-- the reply tells of a course that was cut, of a call of the journal that failed or of a stop; or the reply that ended `play` does, or that to a run of
-- `batch`
abbrev pub is_cut : Reply → Bool
is_cut (Trouble exp what) = true
is_cut (Failed exp end what) = true
is_cut (Recovered done stuck) = not (stuck == 0)
is_cut (Played exp played last closing blaming) = begins_with (codes "failed ") last
is_cut (Served served) = served.fails
is_cut Down = true
is_cut Stopped = true
is_cut reply = false

-- THE SCRIPT IS WHOLLY IN THE GRAMMAR: that which the source has left
abbrev pub IsWholeScript : Option ℕ → Option (List ℕ) → Type 0
IsWholeScript None left = (bytes : List ℕ) × (left ≡ Some bytes) × ((commands : List Command) × IsScript bytes commands AtEnd)
IsWholeScript (Some seed) left = Unit {0}

-- ALL COMMANDS WERE BEGUN, and the source was read to its end; or those of a generated run, which reads nothing
abbrev pub IsReadOut : Option ℕ → Option (List ℕ) → Option (List ℕ) → List Begun → Type 0
IsReadOut None old new made = ((bytes : List ℕ) → old ≡ Some bytes → IsScript bytes (commands_of made) AtEnd) × (new ≡ Some [])
IsReadOut (Some seed) old new made = IsScript (generated seed) (commands_of made) AtEnd × (new ≡ old)

-- NO COURSE OF AN OPENING WAS CUT: where the command opened the controller, none got stuck in that
abbrev pub OpensWell : List Event → Piece → Type 0
OpensWell trace piece =
    HasOpened piece
    → (s : LabState) × FirstLab (is_early piece) trace s × (mid : LabState) × (to : OpensTo trace piece s mid) × (count_by is_stuck to.opens.outcomes ≡ 0)

-- NO COURSE OF A COMMAND WAS CUT, as its reply tells, nor one of its opening
pub record IsUncut (trace : List Event) (piece : Piece) : Type 0 where
  pub reply : (reply : Reply) → piece.reply ≡ Some reply → is_cut reply ≡ false
  pub opening : OpensWell trace piece

abbrev pub AreUncut : List Event → List Begun → Type 0
AreUncut trace [] = Unit {0}
AreUncut trace (b ∷ made) = IsUncut trace b.piece × AreUncut (trace ++ steps_of b.piece) made

-- A RUN IS COMPLETE: the source is read to its end, each command is answered, no course is cut, and what was written are the replies
pub record IsComplete (choices : Option Choices) (old new : Outside) (trace : List Event) (made : List Begun) : Type 0 where
  pub read : IsReadOut (number_of choices) old.left new.left made
  pub answered : AreAnswered made
  pub uncut : AreUncut trace made
  pub wrote : WroteBy (number_of choices) old.written new.written made Done

-- THE PREMISES on the words, the script, the ends of the run, and what happens outside
pub record AllGoesWell (choices : Option Choices) (old : Outside) (status : Status) (steps : List Event) : Type 0 where
  pub accepted : is_some choices ≡ true
  pub script : IsWholeScript (number_of choices) old.left
  pub source : status ≡ ReadFault → ⊥
  pub sink : status ≡ WriteFault → ⊥
  pub plant : GoesWell steps

-- the steps of a run: those by which the trace grew
abbrev pub AreStepsOf : Told → Option Told → List Event → Type 0
AreStepsOf t new steps = (u : Told) → new ≡ Some u → u.trace ≡ t.trace ++ steps
