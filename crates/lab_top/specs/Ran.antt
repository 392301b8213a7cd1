-- THE RUN OF THE PROGRAM: what it says of the bytes that it read, the bytes that it wrote and the plant's past.
use Rattle.std.specs.Prelude.{◌≡◌, ◌⊎◌, ℕ, ◌+◌, ◌<◌, ◌≤◌, Bool, true, false, is_some, List, [], ◌∷◌, ◌++◌, length, take, Option, Some, None, IfSome}
use Rattle.std.specs.List.{list_all}
use Rattle.std.specs.Io.KnownBytes.{append_known}
use Rattle.lab_io.specs.Feeds.{NoFeed}
use Rattle.lab_io.specs.Lines.{script_lines}
use Rattle.lab_io.specs.Passed.{IsWhole}
use Rattle.plant.specs.Events.{Event}
use Rattle.plant.specs.Seen.{Seen}
use Rattle.plant.specs.declared.step.Side.{Side}
use Rattle.records_model.specs.Works.{IsSound}
use Rattle.lab_state.specs.Texts.{the_texts}
use Rattle.script_text.specs.declared.command.Command.{Command}
use Rattle.script_text.specs.Drills.{drill_of}
use Rattle.script_text.specs.Commands.{Lines, Got, next_of, AtEnd, BadLine, IsScript}
use Rattle.script_text.specs.Taking.{IsWithin}
use Rattle.lab_top.specs.declared.status.Status.{Status}
use Rattle.lab_top.specs.declared.status.Status.TheVariants.{Done, ReadFault, WriteFault, Usage, BadScript, Memory, JournalBad}
use Rattle.lab_core.specs.Sessions.{Closed, Terms}
use Rattle.lab_top.specs.Pieces.{Begun, AreHandedOn, ArePieces, Counts, FindsNone, commands_of, trace_after, with_pieces, reply_text, reply_texts, WantsOnly, Held, HandLabsOn, held_from, lab_behind}
use Rattle.lab_top.specs.ReplyTakers.{replies_of}
use Rattle.lab_gen.specs.Script.{generated}
use Rattle.lab_gen.specs.Summary.{summary}
use Rattle.lab_words.specs.Words.{Choices, Usual}
use Rattle.cost_rule.specs.declared.rule.RuleNumber.{RuleNumber}
use Rattle.cost_rule.specs.declared.rule.RuleNumber.TheVariants.{Trunk}
use Rattle.lab_core.specs.Moments.{trace_in}
use Rattle.records_model.specs.Labs.{LabState}

-- the outside: what the source has left, what is seen of the plant, and what was written
pub record Outside : Type 0 where
  pub left : Option (List ℕ)
  pub plant : Seen
  pub written : Option (List ℕ)

-- these are the first commands after line `number`
abbrev pub AreFirst : ℕ → Lines → List Command → Type 0
AreFirst number lines [] = Unit {0}
AreFirst number lines (c ∷ commands) = (after : ℕ) × (rest : Lines) × (next_of number lines ≡ Got c after rest) × AreFirst after rest commands

-- and a line of that number is not after what is found after them
abbrev pub AreFirstTo : ℕ → ℕ → Lines → List Command → Type 0
AreFirstTo line number lines [] = IsWithin line (next_of number lines)
AreFirstTo line number lines (c ∷ commands) = (after : ℕ) × (rest : Lines) × (next_of number lines ≡ Got c after rest) × AreFirstTo line after rest commands

-- bytes that are these commands, and perhaps a part of one more, whose next line is missing
abbrev pub AreWhole : List ℕ → List Command → Type 0
AreWhole bytes commands = IsScript bytes commands AtEnd ⊎ IsScript bytes commands (BadLine (length (script_lines bytes) + 1))

-- what was taken of these bytes: these commands to the last line, and after that no more than the longest line with a piece
abbrev pub IsReadTo : List ℕ → Option (List ℕ) → List Command → Type 0
IsReadTo bytes left commands = (done : List ℕ) × (ahead : List ℕ) × (rest : List ℕ) × (bytes ≡ done ++ ahead ++ rest) × (left ≡ Some rest) × (length ahead ≤ 8193) × IsScript done commands AtEnd

-- what was taken of these bytes: lines, of which none is after that of this number, and after them no more than the longest line with a piece
abbrev pub IsTakenTo : List ℕ → Option (List ℕ) → ℕ → Type 0
IsTakenTo bytes left line = (done : List ℕ) × (ahead : List ℕ) × (rest : List ℕ) × (bytes ≡ done ++ ahead ++ rest) × (left ≡ Some rest) × (length ahead ≤ 8193) × (length (script_lines done) ≤ line)

-- what was taken of these bytes: no line after the command that comes after these, or after the one that is not in the grammar
abbrev pub IsTakenAfter : List ℕ → Option (List ℕ) → List Command → Type 0
IsTakenAfter bytes left commands = (line : ℕ) × IsTakenTo bytes left line × AreFirstTo line 0 (script_lines bytes) commands

-- the commands that were begun, by how the run ended
abbrev pub BegunCommands : List ℕ → Option (List ℕ) → List Command → Status → Type 0
-- all of them, and nothing is left
BegunCommands bytes left begun Done = IsScript bytes begun AtEnd × (left ≡ Some [])
-- all before that line, which is the first that is not in the grammar, and no line after it is taken
BegunCommands bytes left begun (BadScript line) = IsScript bytes begun (BadLine line) × IsTakenTo bytes left line
-- those whose last line lies, with its line feed, in the bytes that were taken, and after the lines no more than a line with a piece
BegunCommands bytes left begun ReadFault = (done : List ℕ) × (pending : List ℕ) × (rest : List ℕ) × (bytes ≡ done ++ pending ++ rest) × (left ≡ Some rest) × (length pending ≤ 8193) × NoFeed pending × IsWhole done × AreWhole done begun
-- some of the first, and nothing further is read
BegunCommands bytes left begun WriteFault = AreFirst 0 (script_lines bytes) begun × IsReadTo bytes left begun
BegunCommands bytes left begun (JournalBad side at) = AreFirst 0 (script_lines bytes) begun × IsReadTo bytes left begun
-- some of the first, and no line is taken after the next one
BegunCommands bytes left begun Memory = AreFirst 0 (script_lines bytes) begun × IsTakenAfter bytes left begun
-- none, and nothing is taken
BegunCommands bytes left begun Usage = (begun ≡ []) × (left ≡ Some bytes)

-- those of a generated run, which reads nothing, and whose script is in the grammar
abbrev pub GeneratedCommands : List ℕ → List Command → Status → Type 0
-- all of them, also where their summary could not be written whole
GeneratedCommands bytes begun Done = IsScript bytes begun AtEnd
GeneratedCommands bytes begun WriteFault = IsScript bytes begun AtEnd
-- some of the first
GeneratedCommands bytes begun Memory = AreFirst 0 (script_lines bytes) begun
GeneratedCommands bytes begun (JournalBad side at) = AreFirst 0 (script_lines bytes) begun
-- it has no other end
GeneratedCommands bytes begun status = ⊥

-- the script is that of the number which the words give, else what the source has left
abbrev pub BegunBy : Option ℕ → Option (List ℕ) → Option (List ℕ) → List Command → Status → Type 0
BegunBy None old new begun status = (bytes : List ℕ) → old ≡ Some bytes → BegunCommands bytes new begun status
BegunBy (Some seed) old new begun status = (new ≡ old) × GeneratedCommands (generated seed) begun status

-- all that were begun are answered; at want of memory the last one may not be, and where the sides are no journal it is not
abbrev pub AreAnswered : List Begun → Type 0
AreAnswered made = list_all (λ b. is_some b.piece.reply) made ≡ true

pub record LastIsNot (made : List Begun) : Type 0 where
  pub before : List Begun
  pub last : Begun
  pub made_are : made ≡ before ++ last ∷ []
  pub answered : AreAnswered before
  pub waits : last.piece.reply ≡ None

-- where the sides are no journal, the last command is no drill and found the session closed, over every plant
pub record LastOpens (made : List Begun) : Type 0 where
  pub last_is : LastIsNot made
  pub no_drill : drill_of last_is.last.piece.command ≡ None
  pub closed : last_is.last.piece.from ≡ Closed

abbrev pub Answered : Status → List Begun → Type 0
Answered Memory made = AreAnswered made ⊎ LastIsNot made
Answered (JournalBad side at) made = LastOpens made
Answered status made = AreAnswered made

-- where the sides are no journal, the last command found them so
pub record LastFindsNone (trace : List Event) (made : List Begun) (side : Side) (at : ℕ) : Type 0 where
  pub before : List Begun
  pub last : Begun
  pub made_are : made ≡ before ++ last ∷ []
  pub answered : AreAnswered before
  pub finds : FindsNone (trace_after trace before) last.piece side at

-- at want of memory the last command may be unanswered, and where the plant is not stopped memory alone was wanting in it
pub record LastWants (terms : Terms) (trace : List Event) (made : List Begun) : Type 0 where
  pub before : List Begun
  pub last : Begun
  pub made_are : made ≡ before ++ last ∷ []
  pub answered : AreAnswered before
  pub waits : last.piece.reply ≡ None
  pub wants : WantsOnly terms (trace_after trace before) last.piece

abbrev pub EndsSo : Terms → List Event → List Begun → Status → Bool → Type 0
EndsSo terms trace made (JournalBad side at) stopped = LastFindsNone trace made side at
EndsSo terms trace made Memory stopped = stopped ≡ false → AreAnswered made ⊎ LastWants terms trace made
EndsSo terms trace made status stopped = Unit {0}

-- all replies, or, after a write that failed, the last one cut to a proper prefix
abbrev pub WroteReplies : Option (List ℕ) → Option (List ℕ) → List Begun → Status → Type 0
WroteReplies old new made WriteFault = (before : List Begun) × (last : Begun) × (n : ℕ) × (made ≡ before ++ last ∷ []) × (n < length (reply_text last)) × (new ≡ append_known old (reply_texts before ++ take n (reply_text last)))
WroteReplies old new made status = new ≡ append_known old (reply_texts made)

-- the summary of a generated run, at its end, or a proper prefix of it
abbrev pub WroteSummary : Option (List ℕ) → Option (List ℕ) → List ℕ → Status → Type 0
WroteSummary old new text Done = new ≡ append_known old text
WroteSummary old new text WriteFault = (n : ℕ) × (n < length text) × (new ≡ append_known old (take n text))
WroteSummary old new text status = new ≡ old

abbrev pub WroteBy : Option ℕ → Option (List ℕ) → Option (List ℕ) → List Begun → Status → Type 0
WroteBy None old new made status = WroteReplies old new made status
WroteBy (Some seed) old new made status = WroteSummary old new (summary seed (replies_of made)) status

-- the number that words give of a generated run, and words that give no more than that
abbrev pub number_of : Option Choices → Option ℕ
number_of None = None
number_of (Some choices) = choices.generated

abbrev pub Numbered : Option ℕ → Choices
Numbered number = record Usual { generated = number }

-- the cost rule of the session
abbrev pub rule_of : Option Choices → RuleNumber
rule_of None = Trunk
rule_of (Some choices) = choices.rule

-- the end of a generated run whose script was obeyed
abbrev pub Finishes : Status → Type 0
Finishes Done = Unit {0}
Finishes WriteFault = Unit {0}
Finishes Memory = Unit {0}
Finishes status = ⊥

-- whether the plant is stopped: only at want of memory
abbrev pub GoesOn : Status → Bool → Type 0
GoesOn Memory stopped = Unit {0}
GoesOn status stopped = stopped ≡ false

-- A RUN of the program by what its words choose, and by the commands that it began, over a plant that takes drills or not
pub record Ran (terms : Terms) (choices : Option Choices) (old new : Outside) (status : Status) (made : List Begun) : Type 0 where
  -- words that say nothing are refused, unless memory is wanting, and nothing is done; no others are
  pub refused : choices ≡ None → (status ≡ Usage) ⊎ (status ≡ Memory)
  pub usage : status ≡ Usage → choices ≡ None
  pub none : choices ≡ None → made ≡ []
  -- the marks are the moments just before the commands that were begun, after each mark stand the steps of its command, and the drills are those that were planned
  pub told : new.plant.told ≡ with_pieces old.plant.told made
  pub counts : Counts terms old.plant.faults made new.plant.faults
  -- the session is closed at first, and handed on
  pub sessions : AreHandedOn Closed made
  pub goes_on : old.plant.stopped ≡ false → GoesOn status new.plant.stopped
  -- over every plant, one that tells nothing too, each command is a lab step of its own part, and the lab of the session is handed on, with the length of
  -- the journal
  pub labs : (first : Held) × (last : Held) × HandLabsOn terms (trace_in old.plant.told) first made last
  -- over any trace each command finds the journal as its piece says, and is a lab step, from the lab of the moment before it to that of the moment after
  -- it, where it leaves the session open; over one that is sound at the entry each is
  pub pieces : IfSome old.plant.told (λ t. ArePieces terms t.trace made)
  -- JournalBad comes where the last command found the sides to be no journal, and left them so; and want of memory ends no swap
  pub ends : IfSome old.plant.told (λ t. EndsSo terms t.trace made status new.plant.stopped)
  -- and a trace that is sound at the entry is sound at the exit
  pub sound : IfSome old.plant.told (λ t. IsSound the_texts t.trace → IfSome new.plant.told (λ u. IsSound the_texts u.trace))
  pub answered : Answered status made
  -- the commands are those of the script
  pub begun : BegunBy (number_of choices) old.left new.left (commands_of made) status
  -- the output is the replies, or of a generated run their summary
  pub wrote : WroteBy (number_of choices) old.written new.written made status

-- THE LABS OF A RUN, as they are handed on in it: that from which the command after these goes in its own part, with the length of the journal there, and
-- that to which it leads
abbrev pub held_in : {terms : Terms} {choices : Option Choices} {old new : Outside} {status : Status} (before after : List Begun) (b : Begun)
    → Ran terms choices old new status (before ++ b ∷ after) → Held
held_in {terms} {choices} {old} before after b r = held_from terms (trace_in old.plant.told) r.labs.0 r.labs.1 before after b r.labs.2

abbrev pub from_in : {terms : Terms} {choices : Option Choices} {old new : Outside} {status : Status} (before after : List Begun) (b : Begun)
    → Ran terms choices old new status (before ++ b ∷ after) → LabState
from_in before after b r = (held_in before after b r).lab

abbrev pub after_in : {terms : Terms} {choices : Option Choices} {old new : Outside} {status : Status} (before after : List Begun) (b : Begun)
    → Ran terms choices old new status (before ++ b ∷ after) → LabState
after_in {terms} {choices} {old} before after b r = lab_behind terms (trace_in old.plant.told) r.labs.0 r.labs.1 before after b r.labs.2
