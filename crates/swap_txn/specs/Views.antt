-- A course on its way, and the values that have it, as contracts see them.
use Rattle.std.specs.Prelude.{◌≡◌, ◌<◌, ◌++◌, ℕ, Bool, true, false, List, [], drop, length, Option, Some, None, Result, Ok, Err}
use Rattle.lab_base.specs.declared.boot.Boot.{Boot as BootState}
use Rattle.lab_base.specs.declared.what.What.{What}
use Rattle.plant.specs.declared.device.DeviceOp.{DeviceOp}
use Rattle.plant.specs.declared.device.Answer.TheVariants.{State}
use Rattle.lab_model.specs.Courses.{Plan, Left, Watch, Course, Going, Cut, answered}
use Rattle.swap_txn.specs.Troubles.{what_of}
use Rattle.swap_txn.specs.declared.stage.Stage.{Stage}
use Rattle.swap_txn.specs.declared.stage.Stage.TheVariants.{Clear, Cable, Load, Boot, Done}
use Rattle.swap_txn.specs.declared.watched.Watched.{Watched}

-- the listed commands that are left, where that many of the stage's list were sent
abbrev pub rest : Plan → Stage → ℕ → List DeviceOp
rest plan Clear at = drop at plan.clear ++ plan.cable ++ plan.load
rest plan Cable at = drop at plan.cable ++ plan.load
rest plan Load at = drop at plan.load
rest plan stage at = []

-- the nodes that are left to boot
abbrev pub boots : Plan → Stage → ℕ → List (List ℕ)
boots plan Boot at = drop at plan.boot
boots plan Done at = []
boots plan stage at = plan.boot

-- a node that is watched, as a course has it
abbrev pub watch_of : Option Watched → Option Watch
watch_of None = None
watch_of (Some w) = Some (record { node = w.node; state = w.watch.last; polls = w.watch.polls })

abbrev pub left_of : Plan → Stage → ℕ → Option Watched → Left
left_of plan stage at watched = record { todo = rest plan stage at; boot = boots plan stage at; watch = watch_of watched }

-- how many commands the stage lists
abbrev pub count_of : Plan → Stage → ℕ
count_of plan Clear = length plan.clear
count_of plan Cable = length plan.cable
count_of plan Load = length plan.load
count_of plan stage = 0

-- the stage is the first in which something is left
abbrev pub IsAt : Plan → Stage → ℕ → Option Watched → Type 0
IsAt plan Boot at None = at < length plan.boot
IsAt plan Boot at (Some w) = w.watch.polls < 64
IsAt plan Done at watched = watched ≡ None
IsAt plan stage at watched = (at < count_of plan stage) × (watched ≡ None)

-- the position in the plan from which these commands are left, and all nodes to boot
pub record IsLeftFrom (plan : Plan) (todo : List DeviceOp) (stage : Stage) (at : ℕ) : Type 0 where
  pub left : left_of plan stage at None ≡ record { todo = todo; boot = plan.boot; watch = None }
  pub position : IsAt plan stage at None

-- what a watched node's state leads to: the node is up, or is polled again, or its trouble
abbrev pub WatchBy : List (List ℕ) → Course → Result Bool What → Watched → Type 0
WatchBy boot (Going left) (Ok true) w = left ≡ record { todo = []; boot = boot; watch = None }
WatchBy boot (Going left) (Ok false) w = left ≡ record { todo = []; boot = boot; watch = watch_of (Some w) }
WatchBy boot (Cut trouble) result w = result ≡ Err (what_of trouble)
WatchBy boot course result w = ⊥

-- a watched node that told that state
pub record IsSeenBy (old : Watched) (state : BootState) (result : Result Bool What) (new : Watched) : Type 0 where
  pub node : new.node ≡ old.node
  pub polls : (result ≡ Ok true → ⊥) → new.watch.polls < 64
  pub leads : (boot : List (List ℕ)) → WatchBy boot (answered [] (watch_of (Some old)) boot (Ok (State state))) result new
