-- The effect of one turn outside: a command or a record.
use Rattle.std.specs.Prelude.{◌≡◌, ◌↔◌, ◌≤◌, ◌+◌, ℕ, List, [], ◌∷◌, ◌++◌, Option, Some, Result, Err, IsErrOf, IsTrue, IfSome, OnOk, OnErr}
use Rattle.lab_base.specs.Counts.{Rose}
use Rattle.plant.specs.Events.{Event}
use Rattle.plant.specs.Seen.{Seen}
use Rattle.plant.specs.Told.{Told, with_steps}
use Rattle.plant.specs.Calls.{CommandSteps, DeviceCause}
use Rattle.plant.specs.declared.device.DeviceOp.{DeviceOp}
use Rattle.plant.specs.declared.device.Answer.{Answer}
use Rattle.plant.specs.declared.device.Fault.{Fault}
use Rattle.plant.specs.declared.device.Fault.TheVariants.{Stopped}
use Rattle.plant.specs.declared.step.Side.{Side}
use Rattle.journal_rec.specs.declared.record.Record.{Record}
use Rattle.journal_model.specs.Journals.{size}
use Rattle.journal_disk.specs.Epochs.{epoch_of, HasEpoch}
use Rattle.journal_disk.specs.Standing.{side_of, length_of, limit_of, IsAt, Appends, Moments}
use Rattle.journal_disk.specs.declared.journal.Journal.{Journal}
use Rattle.journal_disk.specs.declared.fault.AppendFault.{AppendFault}
use Rattle.journal_disk.specs.declared.fault.AppendFault.TheVariants as faults
use Rattle.lab_model.specs.Courses.{Left, Course, next, answered}

-- both sides are as the journal's last call left them
abbrev pub Stands : Option Told → Journal → Type 0
Stands told j = IfSome told (λ t. (rs : List Record) × IsAt t.trace j rs)

-- the journal stands for the same records as before
abbrev pub SameRecords : Option Told → Option Told → Journal → Type 0
SameRecords was now j = (rs : List Record) → IfSome was (λ t. IsAt t.trace j rs → IfSome now (λ u. IsAt u.trace j rs))

-- the side that is live, and its epoch
abbrev pub live_of : Journal → Side × ℕ
live_of j = (side_of j, epoch_of j)

-- a command is sent and answered so: it adds its step
pub record Commanded (op : DeviceOp) (was now : Seen) (answer : Result Answer Fault) : Type 0 where
  pub steps : List Event
  pub trace : now.told ≡ with_steps was.told steps
  pub made : CommandSteps op was.stopped answer steps
  pub cause : DeviceCause was.faults now.faults answer
  pub halts : IsErrOf answer Stopped ↔ IsTrue now.stopped

-- ONE COMMAND is sent, the next one of the course; by its answer the course goes on, is cut or is ended by a stop
pub record Sends (left : Left) (was now : Seen) (course : Course) : Type 0 where
  pub op : DeviceOp
  pub comes : next left.todo left.watch left.boot ≡ Some op
  pub answer : Result Answer Fault
  pub sent : Commanded op was now answer
  pub goes : course ≡ answered left.todo left.watch left.boot answer

-- ONE RECORD is appended, for which there is room, with that answer
pub record Writes (r : Record) (was now : Seen) (j k : Journal) (answer : Result (Unit {0}) AppendFault) : Type 0 where
  pub fits : (length size : ℕ) → answer ≡ Err (faults.Full length size) → ⊥
  pub cause : IsErrOf answer faults.Plant → Rose was.faults.disk now.faults.disk
  pub later : was.faults.disk ≤ now.faults.disk
  pub devices : now.faults.devices ≡ was.faults.devices
  pub halts : IsErrOf answer faults.Stopped ↔ IsTrue now.stopped
  pub appends : Appends was.told now.told j r answer
  pub moments : (rs : List Record) → IfSome was.told (λ t. IsAt t.trace j rs
      → (steps : List Event) × (now.told ≡ with_steps was.told steps) × Moments t.trace steps (side_of j) rs r answer)
  pub stands : OnOk answer ((rs : List Record) → IfSome was.told (λ t. IsAt t.trace j rs → IfSome now.told (λ u. IsAt u.trace k (rs ++ r ∷ []))))
  pub epoch : OnOk answer ((rs : List Record) → IfSome was.told (λ t. IsAt t.trace j rs → HasEpoch t.trace j → IfSome now.told (λ u. HasEpoch u.trace k)))
  pub longer : OnOk answer (length_of k ≡ length_of j + size r)
  pub side : side_of k ≡ side_of j
  pub limit : limit_of k ≡ limit_of j
  pub live : live_of k ≡ live_of j
  pub unwritten : OnErr answer (k ≡ j)
