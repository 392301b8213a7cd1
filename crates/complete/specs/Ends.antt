-- HOW AN OPEN SWAP ENDS: how often it is turned, and what hinders it.
use Rattle.std.specs.Prelude.{◌≡◌, ◌⊎◌, ◌+◌, ℕ, true, List, [], ◌∷◌, Option, Some, if◌then◌else◌}
use Rattle.std.specs.Str.{bytes_eq}
use Rattle.lab_base.specs.declared.what.What.{What}
use Rattle.script_text.specs.declared.command.Command.{Command}
use Rattle.script_text.specs.declared.command.Command.TheVariants.{Turn}
use Rattle.script_text.specs.declared.reply.FailedEnd.{FailedEnd}
use Rattle.script_text.specs.declared.reply.Reply.{Reply}
use Rattle.script_text.specs.declared.reply.Reply.TheVariants.{Failed, Trouble}
use Rattle.lab_top.specs.Pieces.{Begun, may_shut}

-- how often these commands turn the swap of that experiment
abbrev pub turn_if : List ℕ → Command → ℕ
turn_if exp (Turn name) = if bytes_eq name exp then 1 else 0
turn_if exp command = 0

abbrev pub turns_of : List ℕ → List Begun → ℕ
turns_of exp [] = 0
turns_of exp (b ∷ made) = turn_if exp b.piece.command + turns_of exp made

-- ONE OF THEM MET TROUBLE: its reply tells that the undo of that experiment's swap begins
abbrev pub MetTrouble : List ℕ → List Begun → Type 0
MetTrouble exp [] = ⊥
MetTrouble exp (b ∷ made) = ((what : What) × (b.piece.reply ≡ Some (Trouble exp what))) ⊎ MetTrouble exp made

-- THE REPLY TELLS A FAILURE of that swap; or it closes the controller, the plant stopped, or there is no reply
abbrev pub FailsOrShuts : List ℕ → Option Reply → Type 0
FailsOrShuts exp reply = ((end : FailedEnd) × (what : What) × (reply ≡ Some (Failed exp end what))) ⊎ (may_shut reply ≡ true)
