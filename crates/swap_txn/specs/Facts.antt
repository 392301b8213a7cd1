-- The facts that a state of a swap keeps of a trace. The turns of other experiments keep them.
use Rattle.std.specs.Prelude.{ℕ, ◌≡◌, List, [], length, take, Option, Some, None, IfSome}
use Rattle.phys_lab.specs.Labs.{Lab}
use Rattle.virt_topo.specs.declared.experiment.Experiment.{Experiment}
use Rattle.plant.specs.Events.{Event}
use Rattle.plant.specs.Told.{Told}
use Rattle.plant.specs.Worlds.{World, world_of}
use Rattle.plant.specs.declared.device.DeviceOp.{DeviceOp}
use Rattle.lab_model.specs.Courses.{Plan, Left, Going, whole, next, Goes, IsCommandOf}
use Rattle.lab_model.specs.Leavings.{Sent}
use Rattle.lab_model.specs.OnCourse.{OnCourse, EveryMoment}
use Rattle.lab_model.specs.Parts.{Part}
use Rattle.swap_txn.specs.declared.live.Live.{Live}
use Rattle.swap_txn.specs.declared.live.Live.TheVariants.{Ended}
use Rattle.swap_txn.specs.declared.turned.Turned.{Turned}
use Rattle.swap_txn.specs.declared.turned.Turned.TheVariants.{Same, Next, Trouble, Stuck, Stopped}
use Rattle.swap_txn.specs.States.{Undo, View}
use Rattle.swap_txn.specs.Turns.{view_of}

-- WHERE THE EXPERIMENT'S PART HELD AT THAT MOMENT, IT HOLDS: its kept nodes are as both sides want them, no pipe stands that neither wants, and no frame leaves its link
abbrev pub KeepsPart : Lab → Experiment → ℕ → List Event → Type 0
KeepsPart lab e start trace = Part lab (world_of (take start trace)) e → Part lab (world_of trace) e

-- Since that moment the experiment's own commands are these, all acknowledged, they lead from the whole plan to what is left, and its rows and nodes are as they left them.
pub record IsUnderWay (lab : Lab) (e : Experiment) (start : ℕ) (plan : Plan) (left : Left) (trace : List Event) : Type 0 where
  pub sent : Sent
  pub goes : Goes sent (Going (whole plan)) (Going left)
  pub on : OnCourse lab e sent start trace
  pub part : KeepsPart lab e start trace

-- each command that can come in a course of the plan is of the experiment, and keeps its part, applied or not
pub record IsOwn (lab : Lab) (e : Experiment) (plan : Plan) : Type 0 where
  pub each : (sent : Sent) (left : Left) (op : DeviceOp) → Goes sent (Going (whole plan)) (Going left)
      → next left.todo left.watch left.boot ≡ Some op → IsCommandOf lab e op
  pub safe : (w : World) → Part lab w e → EveryMoment lab e plan w

-- THE FACTS OF A STATE since a moment; none when the swap ended
abbrev pub KnowsBy : Lab → Experiment → ℕ → Option View → List Event → Type 0
KnowsBy lab e start None trace = Unit {0}
KnowsBy lab e start (Some v) trace = IsUnderWay lab e start v.plan v.left trace

abbrev pub Knows : Lab → Experiment → ℕ → Live → List Event → Type 0
Knows lab e start live trace = KnowsBy lab e start (view_of live) trace

-- the commands of a state, and of the way back that it may begin, are the experiment's own
abbrev pub IsOwnUndo : Lab → Experiment → Option Undo → Type 0
IsOwnUndo lab e None = Unit {0}
IsOwnUndo lab e (Some u) = IsOwn lab e u.plan

abbrev pub IsOfBy : Lab → Experiment → Option View → Type 0
IsOfBy lab e None = Unit {0}
IsOfBy lab e (Some v) = IsOwn lab e v.plan × IsOwnUndo lab e v.undo

abbrev pub IsOf : Lab → Experiment → Live → Type 0
IsOf lab e live = IsOfBy lab e (view_of live)

abbrev pub IsOfAfter : Lab → Experiment → Turned Live → Type 0
IsOfAfter lab e (Same live) = IsOf lab e live
IsOfAfter lab e (Next live) = IsOf lab e live
IsOfAfter lab e (Trouble back what) = IsOfBy lab e (Some back)
IsOfAfter lab e (Stuck live what) = IsOf lab e live
IsOfAfter lab e Stopped = Unit {0}

-- the experiment of a state, and after a turn
abbrev pub exp_by : Option View → List ℕ
exp_by None = []
exp_by (Some v) = v.exp

abbrev pub exp_of : Live → List ℕ
exp_of (Ended ended) = ended.exp
exp_of live = exp_by (view_of live)

abbrev pub IsNamedAfter : List ℕ → Turned Live → Type 0
IsNamedAfter exp (Same live) = exp_of live ≡ exp
IsNamedAfter exp (Next live) = exp_of live ≡ exp
IsNamedAfter exp (Trouble back what) = back.exp ≡ exp
IsNamedAfter exp (Stuck live what) = exp_of live ≡ exp
IsNamedAfter exp Stopped = Unit {0}

-- what is known after a turn: since the same moment, or of an undo since its beginning
abbrev pub KnowsAfter : Lab → Experiment → ℕ → Turned Live → List Event → Type 0
KnowsAfter lab e start (Same live) trace = Knows lab e start live trace
KnowsAfter lab e start (Next live) trace = Knows lab e start live trace
KnowsAfter lab e start (Trouble back what) trace = KnowsBy lab e (length trace) (Some back) trace
KnowsAfter lab e start (Stuck live what) trace = Unit {0}
KnowsAfter lab e start Stopped trace = Unit {0}

-- A TURN GIVES THE FACTS of its state to the next one, and keeps its part, whatever it leads to; experiment and commands stay
pub record HandsOn (was now : Option Told) (live : Live) (turned : Turned Live) : Type 0 where
  pub named : IsNamedAfter (exp_of live) turned
  pub own : (lab : Lab) (e : Experiment) → IsOf lab e live → IsOfAfter lab e turned
  pub each : IfSome was (λ t. IfSome now (λ u. (lab : Lab) (e : Experiment) (start : ℕ) → IsOf lab e live → Knows lab e start live t.trace
      → KnowsAfter lab e start turned u.trace × (KeepsPart lab e start t.trace → KeepsPart lab e start u.trace)))

-- a state knows its facts from now on, over every trace and for each experiment
abbrev pub StartsAt : List Event → Live → Type 0
StartsAt trace live = (lab : Lab) (e : Experiment) → Knows lab e (length trace) live trace

-- a swap that was begun starts so
abbrev pub StartsBy : {T : Type 0} → Option Told → Turned T → Type 0
StartsBy told (Next live) = IfSome told (λ t. StartsAt t.trace live)
StartsBy told turned = Unit {0}
