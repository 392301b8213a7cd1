-- Whether a controller is open, and how a command leaves it.
use Rattle.std.specs.Prelude.{◌≡◌, ◌⊎◌, ◌≤◌, ℕ, Bool, true, false, List, [], ◌∷◌, map, Option, Some, None, if◌then◌else◌}
use Rattle.std.specs.Str.{bytes_eq}
use Rattle.lab_base.specs.Lists.{Has}
use Rattle.lab_base.specs.Counts.{Rose}
use Rattle.records_model.specs.Labs.{LabState}
use Rattle.lab_model.specs.Courses.{Device}
use Rattle.script_text.specs.declared.reply.FailedEnd.TheVariants as ends
use Rattle.script_text.specs.declared.reply.Reply.{Reply}
use Rattle.script_text.specs.declared.reply.Reply.TheVariants as replies
use Rattle.lab_base.specs.declared.what.What.TheVariants as whats
use Rattle.cost_rule.specs.declared.rule.RuleNumber.{RuleNumber}
use Rattle.swap_turns.specs.Legs.{Leg, Undo}
use Rattle.swap_turns.specs.Running.{OpenSwap as RunningSwap}

-- AN OPEN SWAP: which swap it is, its leg and its own commands on that leg, and the count of device faults when it was opened
pub record OpenSwap : Type 0 where
  pub running : RunningSwap
  pub devices : ℕ

abbrev pub name_in : OpenSwap → List ℕ
name_in o = o.running.swap.name

-- the controller is closed, or open with its open swaps
pub data Session : Type 0 where
  Closed : Session
  Open : (opens : List OpenSwap) → Session

-- the open swap of a name
abbrev pub open_at : List ℕ → List OpenSwap → Option OpenSwap
open_at name [] = None
open_at name (o ∷ opens) = if bytes_eq (name_in o) name then Some o else open_at name opens

abbrev pub names_of : List OpenSwap → List (List ℕ)
names_of opens = map name_in opens

-- WHAT IS COUNTED FROM: the count of device faults when the experiment's swap was opened, or this count where it has none
abbrev pub devices_if : Option OpenSwap → ℕ → ℕ
devices_if None count = count
devices_if (Some o) count = o.devices

abbrev pub counted_from : List OpenSwap → Option (List ℕ) → ℕ → ℕ
counted_from opens None count = count
counted_from opens (Some exp) count = devices_if (open_at exp opens) count

-- the open swap was open before, with its count
abbrev pub WasOpen : List OpenSwap → OpenSwap → Type 0
WasOpen old o = (q : OpenSwap) × Has old q × (name_in q ≡ name_in o) × (q.devices ≡ o.devices)

-- the reply tells that the swap of the name has ended. Where the journal is why, the reply closes the controller, and no swap is open after it.
abbrev pub ends_swap : Option Reply → List ℕ → Bool
ends_swap None name = false
ends_swap (Some (replies.In exp)) name = bytes_eq exp name
ends_swap (Some (replies.Out exp)) name = bytes_eq exp name
ends_swap (Some (replies.Failed exp ends.Stuck whats.Journal)) name = false
ends_swap (Some (replies.Failed exp end what)) name = bytes_eq exp name
ends_swap (Some reply) name = false

-- each of these open swaps was open before, and the reply does not tell that it has ended; or the command is about its experiment, the reply tells that
-- it has begun, and its count is this one
abbrev pub AreOpenedBy : Option (List ℕ) → Option Reply → List OpenSwap → List OpenSwap → ℕ → Type 0
AreOpenedBy exp reply old new count =
    (o : OpenSwap) → Has new o → ((exp ≡ Some (name_in o)) × (reply ≡ Some (replies.More (name_in o))) × (o.devices ≡ count)) ⊎ ((ends_swap reply (name_in o) ≡ false) × WasOpen old o)

-- THE REPLY BLAMES A DEVICE for what the command itself sent: that trouble begins the undo, or the experiment is stuck by it; or the reply that ended
-- `play` or to a run of `batch` blames one, since the swaps of a list are its own; or that it did not tell what it holds
abbrev pub blames_now : Reply → Bool
blames_now (replies.Trouble exp (whats.Device name)) = true
blames_now (replies.Failed exp ends.Stuck (whats.Device name)) = true
blames_now (replies.Played exp played last closing blaming) = blaming
blames_now (replies.Served served) = served.blames
blames_now (replies.Unread name) = true
blames_now reply = false

-- A FAILURE that began the undo of an open swap came since it was opened
abbrev pub HasRisenBy : Leg → ℕ → ℕ → Type 0
HasRisenBy (Undo (Device name)) devices count = Rose devices count
HasRisenBy leg devices count = Unit {0}

pub record IsSince (count : ℕ) (o : OpenSwap) : Type 0 where
  pub later : o.devices ≤ count
  pub caused : HasRisenBy o.running.leg o.devices count

-- WHAT HOLDS OVER A WHOLE RUN: whether the plant takes drills, and the cost rule of the searches
pub record Terms : Type 0 where
  pub takes : Bool
  pub rule : RuleNumber

abbrev pub terms_of : Bool → RuleNumber → Terms
terms_of takes rule = record { takes = takes; rule = rule }

-- what the limit of the journal is judged by, its length before the command's own steps and its limit; and the count of device faults at which a swap
-- of the command is opened
pub record Setting : Type 0 where
  pub length : ℕ
  pub limit : ℕ
  pub devices : ℕ

-- after a command: its reply, if it has one, the lab, and the session
pub record After : Type 0 where
  pub reply : Option Reply
  pub lab : LabState
  pub session : Session

-- it answers, and the controller is closed after it; or open, with these open swaps
abbrev pub shut_by : Option Reply → LabState → After
shut_by reply lab = record { reply = reply; lab = lab; session = Closed }

abbrev pub open_by : Reply → LabState → List OpenSwap → After
open_by reply lab to = record { reply = Some reply; lab = lab; session = Open to }
