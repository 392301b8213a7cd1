-- The facts that a state of an open swap keeps of a trace.
use Rattle.std.specs.Prelude.{Result, ◌≤◌, ℕ, Bool, false, ◌||◌, List, [], ◌∷◌, ◌++◌, length, take, drop, map, true, ◌≡◌, Option, Some, None, if◌then◌else◌, fold}
use Rattle.std.specs.List.{list_any}
use Rattle.phys_lab.specs.Labs.{Lab}
use Rattle.virt_topo.specs.declared.experiment.Experiment.{Experiment}
use Rattle.plant.specs.Worlds.{Row, World, is_row, world_after, world_of}
use Rattle.plant.specs.Events.{Event, Did}
use Rattle.plant.specs.declared.device.DeviceOp.{DeviceOp}
use Rattle.plant.specs.declared.device.Answer.{Answer}
use Rattle.plant.specs.declared.device.Fault.{Fault}
use Rattle.lab_model.specs.Claims.{claims_it, Old, New, claimed}
use Rattle.lab_model.specs.Parts.{Part}
use Rattle.lab_model.specs.Courses.{next, op_row, op_node, rows_from, Plan, Left, Going, whole, Goes}
use Rattle.lab_model.specs.Leavings.{did, Sent, ran, SameFor}

-- a mapping of the experiment wants the row, as a test
abbrev pub is_row_of : Lab → Experiment → Option Row → Bool
is_row_of lab e None = false
is_row_of lab e (Some row) = list_any (λ o. is_row o.row.switch o.row.port o.row.vlan row) (rows_from lab (claimed e Old) ++ rows_from lab (claimed e New))

abbrev pub is_node_of : Lab → Experiment → Option (List ℕ) → Bool
is_node_of lab e None = false
is_node_of lab e (Some name) = claims_it lab e name

-- the command is of the experiment, as a test
abbrev pub is_of : Lab → Experiment → DeviceOp → Bool
is_of lab e op = is_row_of lab e (op_row op) || is_node_of lab e (op_node op)

-- the experiment's own commands in a trace
abbrev pub own_events : Lab → Experiment → List Event → List Event
own_events lab e [] = []
own_events lab e (Did op applied answer ∷ events) = if is_of lab e op then Did op applied answer ∷ own_events lab e events else own_events lab e events
own_events lab e (event ∷ events) = own_events lab e events

-- to the experiment the world is as if since that moment only its own commands had been sent
abbrev pub IsAlone : Lab → Experiment → ℕ → List Event → Type 0
IsAlone lab e start trace = SameFor lab e (fold world_after (world_of (take start trace)) (own_events lab e (drop start trace))) (world_of trace)

-- commands that were applied and answered so
abbrev pub acknowledged : Sent → List Event
acknowledged cs = map (λ c. Did c.0 true c.1) cs

-- WHAT A STATE KEEPS: since that moment its own commands are these, all acknowledged, and to the experiment the world is as if only they had been sent.
pub record OnCourse (lab : Lab) (e : Experiment) (cs : Sent) (start : ℕ) (trace : List Event) : Type 0 where
  pub within : start ≤ length trace
  pub sent : own_events lab e (drop start trace) ≡ acknowledged cs
  pub alone : IsAlone lab e start trace

-- EVERY MOMENT of a course begun in that world: after each acknowledged prefix of the plan, the next command keeps the experiment's part,
-- applied or not, whatever it answers
abbrev pub EveryMoment : Lab → Experiment → Plan → World → Type 0
EveryMoment lab e plan w = (cs : Sent) (mid : Left) (op : DeviceOp) (applied : Bool) (answer : Result Answer Fault)
    → Goes cs (Going (whole plan)) (Going mid) → next mid.todo mid.watch mid.boot ≡ Some op → Part lab (did (ran w cs) op applied answer) e
