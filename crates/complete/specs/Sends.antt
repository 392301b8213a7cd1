-- WHAT THE STEPS OF A COMMAND SEND at most.
use Rattle.std.specs.Prelude.{◌≡◌, ◌≤◌, ◌+◌, ℕ, Bool, true, false, not, List, [], ◌++◌, Some}
use Rattle.lab_base.specs.Lists.{Has}
use Rattle.plant.specs.Events.{Event}
use Rattle.plant.specs.declared.step.Side.{Side}
use Rattle.journal_rec.specs.declared.record.Record.TheVariants.{Begin}
use Rattle.journal_rec.specs.declared.record.Way.{Way}
use Rattle.journal_model.specs.Appends.{All, added}
use Rattle.records_model.specs.Labs.{LabState, Move, Says, lab_in, moved}
use Rattle.lab_state.specs.Texts.{the_texts}
use Rattle.recovery.specs.Due.{swaps_of}
use Rattle.swap_turns.specs.Legs.{Forth}
use Rattle.swap_turns.specs.Swaps.{Swap, Moves}
use Rattle.script_text.specs.declared.command.Command.{Command}
use Rattle.script_text.specs.declared.command.Command.TheVariants.{Batch, Modify, ModifyWith, Play, Recover, Swapin, SwapinWith, Swapout}
use Rattle.lab_tasks.specs.OpenNames.{name_of}
use Rattle.lab_core.specs.Sessions.{OpenSwap, name_in, names_of}
use Rattle.lab_core.specs.Tells.{IsTurnOf}
use Rattle.complete.specs.Bounds.{commands_in, most_from, most_settled}

-- A SWAP BEGINS AND IS TURNED TO ITS END: its Begin is appended, and in the lab after that the experiment moves so; at most as many commands are sent as
-- that move and its undo have
pub record BeginsWithin (s : LabState) (exp : List ℕ) (own : List Event) : Type 0 where
  pub side : Side
  pub gate : ℕ
  pub way : Way
  pub behind : List Event
  pub own_is : own ≡ added side gate (Begin exp way) All ++ behind
  pub move : Move
  pub says : Says the_texts s (Begin exp way) move
  pub state : LabState
  pub gives : moved s move ≡ Some state
  pub swap : Swap
  pub named : swap.name ≡ exp
  pub moves : Moves swap state
  pub few : commands_in own ≤ most_from (lab_in state.lab) swap Forth

-- AN OPEN SWAP IS TURNED, once or to its end: with those that were sent of it on its leg, at most as many commands are sent as that leg has, and its undo
pub record TurnsWithin (s : LabState) (opens : List OpenSwap) (exp : List ℕ) (own : List Event) : Type 0 where
  pub swap : OpenSwap
  pub is_open : Has opens swap
  pub named : name_in swap ≡ exp
  pub moves : Moves swap.running.swap s
  pub few : commands_in swap.running.course + commands_in own ≤ most_from (lab_in s.lab) swap.running.swap swap.running.leg

-- the command begins a swap and turns it to its end: a swap-in, a change or a swap-out, with no `open` before it
abbrev pub begins_whole : Command → Bool
begins_whole (Swapin only exp seed) = not only
begins_whole (SwapinWith only exp lines text) = not only
begins_whole (Modify only exp seed lines text) = not only
begins_whole (ModifyWith only exp lines top others map) = not only
begins_whole (Swapout only exp) = not only
begins_whole command = false

-- WHAT A COMMAND'S OWN STEPS SEND, from that lab and beside those open swaps: none; or those of the swap that it begins, or of the one that it turns;
-- or `recover` those by which all that move and have no open swap are settled
pub data SendsWithin (s : LabState) (opens : List OpenSwap) (command : Command) (own : List Event) : Type 0 where
  none : commands_in own ≡ 0 → SendsWithin s opens command own
  begins : (exp : List ℕ) → name_of command ≡ Some exp → begins_whole command ≡ true → BeginsWithin s exp own → SendsWithin s opens command own
  turns : (exp : List ℕ) → IsTurnOf exp command → TurnsWithin s opens exp own → SendsWithin s opens command own
  settles : command ≡ Recover → commands_in own ≤ most_settled (lab_in s.lab) (swaps_of (names_of opens) s.experiments) → SendsWithin s opens command own

-- the command is a list of commands
abbrev pub is_list : Command → Bool
is_list (Play exp from to lines text) = true
is_list (Batch moment lines text) = true
is_list command = false

-- THE SWAPS OF A LIST, one after another, of experiments that it is about: each within what its move and its undo have, and at most so many commands in all
pub data SwapsWithin (about : List ℕ → Bool) : List Event → ℕ → Type 0 where
  none : SwapsWithin about [] 0
  calm : (front steps : List Event) (most : ℕ) → SwapsWithin about front most → commands_in steps ≡ 0 → SwapsWithin about (front ++ steps) most
  swaps : (front steps : List Event) (most : ℕ) → SwapsWithin about front most → (s : LabState) (exp : List ℕ) → about exp ≡ true → (begins : BeginsWithin s exp steps)
      → SwapsWithin about (front ++ steps) (most + most_from (lab_in begins.state.lab) begins.swap Forth)

-- A TURN GOES ON: it sends one command, and the swap is open after it with a course that is longer by that one, and no longer than its leg and undo have
pub record TurnsOn (s : LabState) (opens to : List OpenSwap) (exp : List ℕ) (own : List Event) : Type 0 where
  pub swap : OpenSwap
  pub is_open : Has opens swap
  pub named : name_in swap ≡ exp
  pub moves : Moves swap.running.swap s
  pub next : OpenSwap
  pub stays_open : Has to next
  pub longer : next.running ≡ record swap.running { course = swap.running.course ++ own }
  pub one : commands_in own ≡ 1
  pub few : commands_in next.running.course ≤ most_from (lab_in s.lab) swap.running.swap swap.running.leg
