-- HOW FAR A LIST OF COMMANDS CAME, of what is seen of a plant.
use Rattle.std.specs.Prelude.{◌≡◌, ◌⊎◌, ◌≤◌, ℕ, true, false, List, ◌++◌, Option, IfSome, Some, None}
use Rattle.lab_base.specs.Counts.{Rose}
use Rattle.plant.specs.Events.{Event}
use Rattle.plant.specs.Seen.{Seen}
use Rattle.plant.specs.Told.{with_steps}
use Rattle.records_model.specs.Works.{IsSound}
use Rattle.lab_state.specs.Texts.{the_texts}
use Rattle.swap_turns.specs.Lengths.{IsLonger}
use Rattle.journal_disk.specs.Standing.{limit_of}
use Rattle.script_text.specs.Replies.{blames_device, closes}
use Rattle.script_text.specs.declared.reply.Reply.{Reply}
use Rattle.lab_core.specs.Controller.{Control, WorksWith}
use Rattle.lab_core.specs.Sessions.{OpenSwap, WasOpen, blames_now, counted_from, open_at}
use Rattle.lab_tasks.specs.Tasks.{tells_end}
use Rattle.lab_core.specs.Lists.{Listing, Past}
use Rattle.lab_core.specs.Moments.{trace_in}
use Rattle.lab_core.specs.Coming.{Origin, ground_of}
use Rattle.lab_core.specs.PlayList.{events_in_turn}
use Rattle.lab_tasks.specs.Playing.{Playing}
use Rattle.cost_rule.specs.declared.rule.RuleNumber.{RuleNumber}
use Rattle.lab_core.specs.InTurn.{origin_of}
use Rattle.lab_judge.specs.Serving.{Serving}
use Rattle.lab_core.specs.BatchList.{runs_in_turn}
use Rattle.lab_base.specs.Lists.{Has}
use Rattle.lab_core.specs.Queues.{runs_from}

-- each open swap was open before, with its count
abbrev pub WereOpen : List OpenSwap → List OpenSwap → Type 0
WereOpen old new = (o : OpenSwap) → Has new o → WasOpen old o

-- IT CAME TO THIS PLACE, and the controller works on with these open swaps, each of which was open before
pub record HasComeTo {X : Type 0} (l : Listing X) (o : Origin X) (exp : Option (List ℕ)) (now : Seen) (new : Control) (at : X) : Type 0 where
  pub to : List OpenSwap
  pub own : List Event
  pub told : now.told ≡ with_steps o.before.told own
  pub past : Past l (ground_of o) (trace_in o.before.told) o.start o.old.lab o.opens own at new.lab to
  pub sound : IfSome o.before.told (λ t. IsSound the_texts t.trace → IsSound the_texts (t.trace ++ own))
  pub works : WorksWith now new to
  pub limit : limit_of new.journal ≡ limit_of o.old.journal
  pub longer : IsLonger o.old.journal new.journal own
  pub opened : WereOpen o.opens to
  pub device : blames_device (l.whole at) ≡ true → Rose (counted_from o.opens exp o.devices) now.faults.devices
  pub here : blames_now (l.whole at) ≡ true → Rose o.before.faults.devices now.faults.devices
  pub disk : o.before.faults.disk ≤ now.faults.disk
  pub devices : o.before.faults.devices ≤ now.faults.devices
  pub runs : o.before.stopped ≡ false → now.stopped ≡ false

-- the whole reply blames a device only where it did before or the new reply does, closes where the last reply does, and tells of no swap that has ended
pub record TellsAll {X : Type 0} (l : Listing X) : Type 0 where
  pub blames : (at : X) (reply : Reply) → blames_device (l.whole (l.behind at reply)) ≡ true → (blames_device (l.whole at) ≡ true) ⊎ (blames_device reply ≡ true)
  pub here : (at : X) (reply : Reply) → blames_now (l.whole (l.behind at reply)) ≡ true → (blames_now (l.whole at) ≡ true) ⊎ (blames_device reply ≡ true)
  pub shuts : (at : X) (reply : Reply) → closes reply ≡ true → closes (l.whole (l.behind at reply)) ≡ true
  pub ends : (at : X) → tells_end (l.whole at) ≡ false

-- with any swaps open but the experiment's, a play; and with any, runs
abbrev pub ComesTo : List ℕ → Playing → Seen → Seen → Control → Control → Playing → Type 0
ComesTo exp start before now old new at =
    (opens : List OpenSwap) (devices : ℕ) → devices ≤ before.faults.devices → WorksWith before old opens → open_at exp opens ≡ None
    → HasComeTo (events_in_turn exp) (origin_of before old opens start devices) (Some exp) now new at

abbrev pub ComesToRun : RuleNumber → ℕ → Serving → Seen → Seen → Control → Control → Serving → Type 0
ComesToRun rule moment start before now old new at =
    (opens : List OpenSwap) (devices : ℕ) → devices ≤ before.faults.devices → WorksWith before old opens → HasComeTo (runs_in_turn rule moment) (runs_from before old opens start devices) None now new at
