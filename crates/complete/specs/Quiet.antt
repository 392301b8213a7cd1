-- A COMMAND THAT NOTHING DISTURBS, whatever happened before it.
use Rattle.std.specs.Prelude.{◌≡◌, ◌++◌}
use Rattle.lab_base.specs.Lists.{Has}
use Rattle.swap_turns.specs.Legs.{Forth}
use Rattle.script_text.specs.declared.reply.Reply.{Reply}
use Rattle.script_text.specs.declared.reply.Reply.TheVariants.{FullSwaps, FullJournal}
use Rattle.lab_core.specs.Sessions.{OpenSwap, name_in}
use Rattle.lab_core.specs.Tells.{IsTurnOf, opens_of}
use Rattle.lab_top.specs.Pieces.{Piece, steps_of}
use Rattle.complete.specs.Booted.{GoesWell}

-- NOTHING DISTURBS A COMMAND: nothing goes wrong in its steps. Where it turns an open swap, that one is on its way forth, and nothing goes wrong in the
-- commands that were sent of it so far with those of this command.
pub record IsUndisturbed (piece : Piece) : Type 0 where
  pub steps : GoesWell (steps_of piece)
  pub turned : (o : OpenSwap) → Has (opens_of piece.from) o → IsTurnOf (name_in o) piece.command → (o.running.leg ≡ Forth) × GoesWell (o.running.course ++ piece.own)

-- the reply tells that there is no room: so many swaps are open, or the journal is full
abbrev pub LacksRoom : Reply → Type 0
LacksRoom FullSwaps = Unit {0}
LacksRoom (FullJournal length) = Unit {0}
LacksRoom reply = ⊥
