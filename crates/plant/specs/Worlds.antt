-- The rows and nodes of the devices after the steps of a trace.
use Rattle.std.specs.Prelude.{ℕ, Bool, true, false, ◌&&◌, ◌||◌, not, ◌==◌, List, fold, Option, Some, None, Result, Ok, if◌then◌else◌}
use Rattle.std.specs.Str.{bytes_eq}
use Rattle.lab_base.specs.declared.boot.Boot.{Boot}
use Rattle.lab_base.specs.declared.boot.Boot.TheVariants.{Off, Booting}
use Rattle.plant.specs.declared.device.DeviceOp.{DeviceOp}
use Rattle.plant.specs.declared.device.DeviceOp.TheVariants.{Join, Leave, Shape, Load, Boot as BootIt, Poll, Wipe}
use Rattle.plant.specs.declared.device.Answer.{Answer}
use Rattle.plant.specs.declared.device.Answer.TheVariants.{State}
use Rattle.plant.specs.declared.device.Fault.{Fault}
use Rattle.lab_base.specs.declared.rates.Rates.{Rates}
use Rattle.plant.specs.Events.{Event, Did}

-- a port of a switch is in a VLAN
pub record Row : Type 0 where
  pub switch : List ℕ
  pub port : ℕ
  pub vlan : ℕ

-- a pipe of a node, between two of its interfaces
pub record PipeRow : Type 0 where
  pub from : List ℕ
  pub to : List ℕ
  pub there : Rates
  pub back : Rates

-- what a node holds; the boot state may be open
pub record NodeRow : Type 0 where
  pub os : Option (List ℕ)
  pub pipes : ℕ → Option PipeRow
  pub boot : Option Boot

-- what the devices hold
pub record World : Type 0 where
  pub rows : Row → Bool
  pub node : List ℕ → NodeRow

-- a node that no command named, or that was wiped
abbrev pub wiped : NodeRow
wiped = record { os = None; pipes = λ k. None; boot = Some Off }

-- before any command
abbrev pub blank : World
blank = record { rows = λ row. false; node = λ name. wiped }

-- the row of that port and that VLAN, as a test
abbrev pub is_row : List ℕ → ℕ → ℕ → Row → Bool
is_row switch port vlan row = bytes_eq row.switch switch && (row.port == port) && (row.vlan == vlan)

-- the row is there after the command
abbrev pub row_after : DeviceOp → Row → Bool → Bool
row_after (Join switch port vlan) row had = is_row switch port vlan.0 row || had
row_after (Leave switch port vlan) row had = not (is_row switch port vlan.0 row) && had
row_after op row had = had

-- the pipes with that one set
abbrev pub pipes_with : ℕ → PipeRow → (ℕ → Option PipeRow) → ℕ → Option PipeRow
pipes_with number pipe pipes k = if k == number then Some pipe else pipes k

-- the named node after the command that was applied
abbrev pub node_after : DeviceOp → List ℕ → NodeRow → NodeRow
node_after (Shape node pipe from to there back) name row = if bytes_eq name node then record row { pipes = pipes_with pipe (record { from = from; to = to; there = there; back = back }) row.pipes } else row
node_after (Load node os) name row = if bytes_eq name node then record row { os = Some os; boot = Some Off } else row
node_after (BootIt node) name row = if bytes_eq name node then record row { boot = Some Booting } else row
node_after (Wipe node) name row = if bytes_eq name node then wiped else row
node_after op name row = row

-- what a Poll tells of the boot state
abbrev pub told : Result Answer Fault → Option Boot
told (Ok (State state)) = Some state
told answer = None

-- a poll that was not answered with a state leaves it open
abbrev pub node_polled : DeviceOp → Result Answer Fault → List ℕ → NodeRow → NodeRow
node_polled (Poll node) answer name row = if bytes_eq name node then record row { boot = told answer } else row
node_polled op answer name row = row

-- what the devices hold after a command that was applied, and after its answer
abbrev pub after_op : World → DeviceOp → World
after_op w op = record { rows = λ row. row_after op row (w.rows row); node = λ name. node_after op name (w.node name) }

abbrev pub after_answer : World → DeviceOp → Result Answer Fault → World
after_answer w op answer = record { rows = w.rows; node = λ name. node_polled op answer name (w.node name) }

-- after one step, and after a trace
abbrev pub world_after : World → Event → World
world_after w (Did op true answer) = after_answer (after_op w op) op answer
world_after w (Did op false answer) = after_answer w op answer
world_after w event = w

abbrev pub world_of : List Event → World
world_of trace = fold world_after blank trace
