-- By how much steps make the journal longer.
use Rattle.std.proofs.Common.{◌≡◌, ◌+◌, List, [], ◌∷◌, ◌++◌, length-append, Bool, Result, ℕ, ap, arith}
use Rattle.std.proofs.lemmas.List.Sums.{sum_by-append}
use Rattle.plant.specs.Events.{Event, Did}
use Rattle.plant.specs.declared.device.Answer.{Answer}
use Rattle.plant.specs.declared.device.DeviceOp.{DeviceOp}
use Rattle.plant.specs.declared.device.Fault.{Fault}
use Rattle.plant.specs.declared.step.Side.{Side}
use Rattle.journal_rec.specs.declared.record.Record.{Record}
use Rattle.journal_rec.specs.Payloads.{payload}
use Rattle.journal_model.specs.Appends.{All, added}
use Rattle.journal_model.specs.Journals.{size}
use Rattle.journal_disk.specs.Standing.{length_of}
use Rattle.journal_disk.specs.declared.journal.Journal.{Journal}
use Rattle.swap_turns.specs.Lengths.{appended_by, appended, IsLonger}
use Rattle.swap_turns.specs.Turning.{Outcome, More, TurnsBack, Ended, Stuck, Unwritten, Stopped, IfGoesOn}

pub appended_both : (a b : List Event) → appended (a ++ b) ≡ appended a + appended b
appended_both a b = sum_by-append appended_by a b

-- A WHOLE APPEND has the size of its record, and a command none
pub appended_whole : (side : Side) (g : ℕ) (r : Record) → appended (added side g r All) ≡ size r
appended_whole side g r = omega (arith, length-append (payload r) (0 ∷ []))

pub longer_none : (j : Journal) → IsLonger j j []
longer_none j = omega arith

pub longer_did : (j k : Journal) (op : DeviceOp) (applied : Bool) (answer : Result Answer Fault) → k ≡ j → IsLonger j k (Did op applied answer ∷ [])
longer_did j k op applied answer same = omega (arith, ap length_of same)

-- one after the other
pub longer_on : (i j k : Journal) (a b : List Event) → IsLonger i j a → IsLonger j k b → IsLonger i k (a ++ b)
longer_on i j k a b first then = omega (arith, first, then, appended_both a b)

-- where the controller goes on
pub goes_so : (outcome : Outcome) (P Q : Type 0) → (P → Q) → IfGoesOn outcome P → IfGoesOn outcome Q
goes_so More P Q so h = so h
goes_so (TurnsBack why) P Q so h = so h
goes_so (Ended leg) P Q so h = so h
goes_so (Stuck trouble) P Q so h = so h
goes_so Unwritten P Q so h = tt
goes_so Stopped P Q so h = tt
