-- THE COURSE OF AN OPEN SWAP in a run: its experiment's own commands since its Begin became durable, or since its undo began.
use Rattle.std.specs.Prelude.{◌≡◌, ℕ, false, List, [], ◌∷◌, ◌++◌, Some}
use Rattle.lab_base.specs.Lists.{Has}
use Rattle.plant.specs.Events.{Event}
use Rattle.plant.specs.declared.step.Side.{Side}
use Rattle.journal_rec.specs.declared.record.Record.TheVariants.{Begin}
use Rattle.journal_rec.specs.declared.record.Way.{Way}
use Rattle.journal_model.specs.Appends.{All, added}
use Rattle.lab_model.specs.Courses.{Trouble as Cause}
use Rattle.lab_model.specs.OnCourse.{own_events}
use Rattle.records_model.specs.Labs.{LabState, lab_in}
use Rattle.recovery.specs.Due.{is_busy}
use Rattle.script_text.specs.declared.reply.Reply.TheVariants.{Trouble}
use Rattle.swap_txn.specs.Troubles.{what_of}
use Rattle.swap_turns.specs.Legs.{Leg, Forth, Undo}
use Rattle.swap_turns.specs.Running.{OpenSwap as RunningSwap}
use Rattle.swap_turns.specs.Swaps.{Swap, Moves}
use Rattle.swap_turns.specs.Turning.{IsOneCommand}
use Rattle.lab_core.specs.Sessions.{OpenSwap, Session}
use Rattle.lab_core.specs.Tells.{busy_of, opens_of}
use Rattle.lab_top.specs.Pieces.{Begun, Piece, steps_of}

-- the steps of all commands that were begun
abbrev pub steps_in : List Begun → List Event
steps_in [] = []
steps_in (b ∷ made) = steps_of b.piece ++ steps_in made

-- THE COMMAND BEGAN THAT LEG of the swap: it found no open swap of the experiment, and appended its Begin; or it found the swap on its way forth, and
-- the one command that it sent met the trouble that began the undo
pub data BeginsLeg (piece : Piece) (swap : Swap) (leg : Leg) : Type 0 where
  forth : leg ≡ Forth → is_busy (busy_of piece.from) swap.name ≡ false
      → (side : Side) (gate : ℕ) (way : Way) → piece.own ≡ added side gate (Begin swap.name way) All → BeginsLeg piece swap leg
  undo : (why : Cause) → leg ≡ Undo why
      → (o : OpenSwap) → Has (opens_of piece.from) o → o.running.swap ≡ swap → o.running.leg ≡ Forth
      → IsOneCommand piece.own → piece.reply ≡ Some (Trouble swap.name (what_of why)) → BeginsLeg piece swap leg

-- the swap is open on that leg
abbrev pub IsOnLeg : Swap → Leg → Session → Type 0
IsOnLeg swap leg session = (o : OpenSwap) × Has (opens_of session) o × (o.running.swap ≡ swap) × (o.running.leg ≡ leg)

-- and so before each of these commands
abbrev pub AreOnLeg : Swap → Leg → List Begun → Type 0
AreOnLeg swap leg [] = Unit {0}
AreOnLeg swap leg (b ∷ made) = IsOnLeg swap leg b.piece.from × AreOnLeg swap leg made

-- THE COURSE OF AN OPEN SWAP, after these commands and in the lab of that moment: its experiment moves so, one of the commands began its leg, it was on
-- that leg ever since, and its course is the experiment's own commands among the steps after that one
pub record IsCourse (made : List Begun) (s : LabState) (o : RunningSwap) : Type 0 where
  pub moves : Moves o.swap s
  pub front : List Begun
  pub first : Begun
  pub behind : List Begun
  pub made_are : made ≡ front ++ first ∷ behind
  pub begins : BeginsLeg first.piece o.swap o.leg
  pub on_leg : AreOnLeg o.swap o.leg behind
  pub own : own_events (lab_in s.lab) moves.exp (steps_in behind) ≡ o.course
