-- The turns of a swap's states.
use Rattle.std.specs.Prelude.{ℕ, ◌≡◌, ◌≤◌, ◌+◌, Bool, true, false, if◌then◌else◌, List, Option, Some, None, IsSome, Result, Ok, Err}
use Rattle.lab_base.specs.declared.what.What.{What}
use Rattle.lab_base.specs.declared.what.What.TheVariants.{Journal as OfJournal}
use Rattle.journal_rec.specs.declared.record.Record.{Record}
use Rattle.journal_model.specs.Journals.{size}
use Rattle.journal_disk.specs.Standing.{length_of, limit_of}
use Rattle.journal_disk.specs.declared.journal.Journal.{Journal}
use Rattle.journal_disk.specs.declared.fault.AppendFault.{AppendFault}
use Rattle.journal_disk.specs.declared.fault.AppendFault.TheVariants as faults
use Rattle.lab_model.specs.Courses.{Plan, Watch, Course, Going, Cut, Halted, nothing_left}
use Rattle.swap_txn.specs.declared.stage.Stage.{Stage}
use Rattle.swap_txn.specs.declared.stage.Stage.TheVariants as stages
use Rattle.swap_txn.specs.declared.ended.Ended.{Ended}
use Rattle.swap_txn.specs.declared.live.Live.{Live}
use Rattle.swap_txn.specs.declared.live.Live.TheVariants.{Begun, Clearing, Cabling, Loading, Booting, Ready, Undoing, Undone, Ended as IsOver}
use Rattle.swap_txn.specs.declared.turned.Turned.{Turned}
use Rattle.swap_txn.specs.declared.turned.Turned.TheVariants.{Same, Next, Trouble as Troubled, Stuck, Stopped}
use Rattle.swap_txn.specs.States.{Undo, View, Plans, stage_of, undone, again, last_by}
use Rattle.plant.specs.Seen.{Seen}
use Rattle.swap_txn.specs.Steps.{Sends, Writes}
use Rattle.swap_txn.specs.Troubles.{what_of}

-- the work that a state has left, and the state of that name with other work
abbrev pub view_of : Live → Option View
view_of (Begun v) = Some v
view_of (Clearing v) = Some v
view_of (Cabling v) = Some v
view_of (Loading v) = Some v
view_of (Booting v) = Some v
view_of (Ready v) = Some v
view_of (Undoing v) = Some v
view_of (Undone v) = Some v
view_of (IsOver ended) = None

abbrev pub with_view : Live → View → Live
with_view (Begun old) v = Begun v
with_view (Clearing old) v = Clearing v
with_view (Cabling old) v = Cabling v
with_view (Loading old) v = Loading v
with_view (Booting old) v = Booting v
with_view (Ready old) v = Ready v
with_view (Undoing old) v = Undoing v
with_view (Undone old) v = Undone v
with_view (IsOver ended) v = IsOver ended

-- THE STATE OF A SWAP, by what is left: the first that has work left
abbrev pub state_at : Bool → Stage → View → Live
state_at true stages.Clear v = Clearing v
state_at true stages.Cable v = Cabling v
state_at true stages.Load v = Loading v
state_at true stages.Boot v = Booting v
state_at true stages.Done v = Ready v
state_at false stages.Done v = Undone v
state_at false stage v = Undoing v

abbrev pub state_of : View → Live
state_of v = state_at v.commit (stage_of v.plan v.left) v

-- both are states of one name
abbrev pub same_state : Live → Live → Bool
same_state (Clearing v) (Clearing w) = true
same_state (Cabling v) (Cabling w) = true
same_state (Loading v) (Loading w) = true
same_state (Booting v) (Booting w) = true
same_state (Undoing v) (Undoing w) = true
same_state a b = false

-- the record that ends it, and how it is then
abbrev pub last_of : View → Record
last_of v = last_by v.commit v.exp

abbrev pub ended_of : View → Ended
ended_of v = record { exp = v.exp; inside = v.inside; committed = v.commit; why = v.why }

-- trouble begins the way back whole; a swap that has none is stuck as it was but for its watch
abbrev pub CutBy : View → What → Option Undo → Turned View → Type 0
CutBy v what (Some u) turned = turned ≡ Troubled (undone v.exp u what) what
CutBy v what None turned = (watch : Option Watch) × (turned ≡ Stuck (record v { left = record v.left { watch = watch } }) what)

-- what the course of a command makes of a swap
abbrev pub SentBy : View → Course → Turned View → Type 0
SentBy v (Going left) turned = turned ≡ Same (record v { left = left })
SentBy v (Cut trouble) turned = CutBy v (what_of trouble) v.undo turned
SentBy v Halted turned = turned ≡ Stopped

-- and its last record
abbrev pub EndedBy : View → Result (Unit {0}) AppendFault → Turned View → Type 0
EndedBy v (Ok done) turned = turned ≡ Next (IsOver (ended_of v))
EndedBy v (Err faults.Plant) turned = turned ≡ Stuck v OfJournal
EndedBy v (Err faults.Stopped) turned = turned ≡ Stopped
EndedBy v (Err (faults.Full length size)) turned = ⊥

-- WHAT A TURN DOES, where work is left: it sends exactly the next command, or appends exactly the last record where nothing is left of the course
pub data TurnOf (v : View) (was now : Seen) (j k : Journal) (turned : Turned View) : Type 0 where
  sends : (course : Course) → Sends v.left was now course → k ≡ j → SentBy v course turned → TurnOf v was now j k turned
  writes : v.left ≡ nothing_left → (answer : Result (Unit {0}) AppendFault) → Writes (last_of v) was now j k answer → EndedBy v answer turned → TurnOf v was now j k turned

-- as the answer of a state of that name: the same one with work left, or the first later one
abbrev pub moved : Live → Live → Turned Live
moved old new = if same_state old new then Same old else Next new

abbrev pub turned_by : (View → Live) → Turned View → Turned Live
turned_by hold (Same v) = moved (hold v) (state_of v)
turned_by hold (Next live) = Next live
turned_by hold (Troubled back what) = Troubled back what
turned_by hold (Stuck v what) = Stuck (hold v) what
turned_by hold Stopped = Stopped

-- A TURN OF A STATE; one that ended stays as it is
abbrev pub TurnsBy : Option View → Live → Seen → Seen → Journal → Journal → Turned Live → Type 0
TurnsBy None live was now j k turned = (turned ≡ Same live) × (now ≡ was) × (k ≡ j)
TurnsBy (Some v) live was now j k turned = (work : Turned View) × TurnOf v was now j k work × (turned ≡ turned_by (with_view live) work)

pub record Turns (live : Live) (was now : Seen) (j k : Journal) (turned : Turned Live) : Type 0 where
  pub by : TurnsBy (view_of live) live was now j k turned

-- the answer of a state's turn, as one of any state
abbrev pub held : {T : Type 0} → (T → Live) → Turned T → Turned Live
held hold (Same state) = Same (hold state)
held hold (Next live) = Next live
held hold (Troubled back what) = Troubled back what
held hold (Stuck state what) = Stuck (hold state) what
held hold Stopped = Stopped

-- what an append makes of a swap that isn't begun: it leads to the first state, or a failure of the journal makes it stuck
abbrev pub WrittenBy : {T : Type 0} → T → Live → Result (Unit {0}) AppendFault → Turned T → Type 0
WrittenBy state following (Ok done) turned = turned ≡ Next following
WrittenBy state following (Err faults.Plant) turned = turned ≡ Stuck state OfJournal
WrittenBy state following (Err faults.Stopped) turned = turned ≡ Stopped
WrittenBy state following (Err (faults.Full length size)) turned = ⊥

-- A TURN THAT BEGINS A SWAP appends Begin
pub record Begins (p : Plans) (was now : Seen) (j k : Journal) (turned : Turned Plans) (r : Record) : Type 0 where
  pub answer : Result (Unit {0}) AppendFault
  pub writes : Writes r was now j k answer
  pub turns : WrittenBy p (Begun p.forth) answer turned

-- there is room for the record that the next turn appends, if it appends one
abbrev pub HasRoom : Journal → Record → Type 0
HasRoom j r = length_of j + size r ≤ limit_of j

abbrev pub FitsBy : Option View → Journal → Type 0
FitsBy None j = Unit {0}
FitsBy (Some v) j = v.left ≡ nothing_left → HasRoom j (last_of v)

abbrev pub Fits : Live → Journal → Type 0
Fits live j = FitsBy (view_of live) j

-- a swap that ended has no work left
abbrev pub HasWork : Live → Type 0
HasWork live = IsSome (view_of live)

-- the turn was ended by a stop
abbrev pub IsStopped : {T : Type 0} → Turned T → Type 0
IsStopped Stopped = Unit {0}
IsStopped turned = ⊥

-- what holds unless the turn was ended by a stop or by a failure of the journal
abbrev pub IfStanding : {T : Type 0} → Turned T → Type 0 → Type 0
IfStanding Stopped P = Unit {0}
IfStanding (Stuck state OfJournal) P = Unit {0}
IfStanding turned P = P

-- the state of a swap whose Begin is durable already
abbrev pub begun_again : List ℕ → Plan → Plan → Bool → Bool → Live
begun_again exp commands undo inside out = state_of (again exp commands undo inside out)
