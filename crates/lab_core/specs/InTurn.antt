-- LINK EVENTS ONE AFTER ANOTHER: what is in hand, what each of them leaves, and how far they came.
use Rattle.std.specs.Prelude.{◌≡◌, ◌≢◌, ◌⊎◌, ◌≤◌, ℕ, Bool, true, false, List, Option, Some, None, Result, Ok, Err}
use Rattle.lab_base.specs.declared.memory.Memory.{Memory}
use Rattle.lab_base.specs.declared.what.What.TheVariants.{Journal}
use Rattle.plant.specs.Seen.{Seen}
use Rattle.virt_topo.specs.declared.wiring.Wiring.{Wiring}
use Rattle.ns_events.specs.declared.event.Event.{Event as LinkEvent}
use Rattle.script_text.specs.Replies.{closes, played_of}
use Rattle.script_text.specs.declared.reply.FailedEnd.TheVariants as ends
use Rattle.script_text.specs.declared.reply.Reply.{Reply}
use Rattle.script_text.specs.declared.reply.Reply.TheVariants as replies
use Rattle.lab_core.specs.declared.fault.CoreFault.{CoreFault}
use Rattle.lab_core.specs.declared.fault.CoreFault.TheVariants as faults
use Rattle.lab_core.specs.Coming.{AllDone, AllWants, Origin}
use Rattle.lab_core.specs.Controller.{Control, WorksWith}
use Rattle.lab_core.specs.Obey.{Obeyed, Obeys}
use Rattle.lab_core.specs.PlayList.{JudgedEvent, events_in_turn}
use Rattle.lab_tasks.specs.Playing.{Playing}
use Rattle.lab_core.specs.Sessions.{OpenSwap}

-- THE REPLY TO AN EVENT lets the next one come; begins no swap that stays open, and closes the controller only where the last record can't be written
abbrev pub is_in : Reply → Bool
is_in (replies.In exp) = true
is_in reply = false

abbrev pub stuck_by_journal : List ℕ → Reply
stuck_by_journal exp = replies.Failed exp ends.Stuck Journal

pub record IsPart (exp : List ℕ) (reply : Reply) : Type 0 where
  pub ended : (name : List ℕ) → reply ≢ replies.More name
  pub shuts : closes reply ≡ true → reply ≡ stuck_by_journal exp

-- what is told of the whole after so many that were answered `in`: nothing yet, or that this reply ended it. For the text of one that closes the
-- controller no memory is wanting.
abbrev pub TellsWhole : List ℕ → ℕ → Reply → Result (Option Reply) Memory → Type 0
TellsWhole exp played reply (Ok None) = is_in reply ≡ true
TellsWhole exp played reply (Ok (Some whole)) = (is_in reply ≡ false) × (whole ≡ played_of exp played (Some reply))
TellsWhole exp played reply (Err memory) = closes reply ≡ false

-- ONE EVENT, with any swaps open
abbrev pub ObeysEvent : List ℕ → Wiring → LinkEvent → Seen → Seen → Control → Control → Result Reply CoreFault → Type 0
ObeysEvent exp text event before now old new result =
    (opens : List OpenSwap) (devices : ℕ) → devices ≤ before.faults.devices → WorksWith before old opens → Obeyed devices before now (JudgedEvent exp text event old.lab opens) old new opens (Some exp) result

-- how it ended: it was answered, and the next may come or the whole is told; or the plant stopped; or memory was wanting, before it was done or after it
abbrev pub EndsEvent : List ℕ → ℕ → (Result Reply CoreFault → Type 0) → Result (Option Reply) CoreFault → Type 0
EndsEvent exp played Leaves (Ok None) = (reply : Reply) × (is_in reply ≡ true) × IsPart exp reply × Leaves (Ok reply)
EndsEvent exp played Leaves (Ok (Some whole)) = (reply : Reply) × (is_in reply ≡ false) × IsPart exp reply × (whole ≡ played_of exp played (Some reply)) × Leaves (Ok reply)
EndsEvent exp played Leaves (Err faults.Stopped) = Leaves (Err faults.Stopped)
EndsEvent exp played Leaves (Err faults.Memory) = Leaves (Err faults.Memory) ⊎ ((reply : Reply) × (closes reply ≡ false) × IsPart exp reply × Leaves (Ok reply))

-- where they begin, with any swaps open but the experiment's
abbrev pub origin_of : Seen → Control → List OpenSwap → Playing → ℕ → Origin Playing
origin_of before old opens start devices = record { before = before; old = old; opens = opens; start = start; devices = devices }

-- ALL OF THEM, from that place
abbrev pub ObeysEvents : List ℕ → Playing → ℕ → Seen → Seen → Control → Control → List OpenSwap → Result Reply CoreFault → Type 0
ObeysEvents exp start devices before now old new opens result =
    Obeys (AllDone (events_in_turn exp) (origin_of before old opens start devices)) (AllWants (events_in_turn exp) (origin_of before old opens start devices)) devices before now old new opens (Some exp) result
