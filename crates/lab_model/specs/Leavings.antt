-- The rows and nodes that commands leave of an experiment.
use Rattle.std.specs.Prelude.{◌≡◌, ℕ, Bool, true, List, [], ◌∷◌, slice_get, Some, Result}
use Rattle.lab_base.specs.Lists.{Has}
use Rattle.phys_lab.specs.Labs.{Lab}
use Rattle.virt_topo.specs.declared.experiment.Experiment.{Experiment}
use Rattle.virt_topo.specs.declared.mapping.Mapped.{Mapped}
use Rattle.plant.specs.Worlds.{Row, PipeRow, World, wiped, world_after}
use Rattle.plant.specs.declared.device.Answer.{Answer}
use Rattle.plant.specs.declared.device.Fault.{Fault}
use Rattle.plant.specs.declared.device.DeviceOp.{DeviceOp}
use Rattle.plant.specs.Events.{Did}
use Rattle.lab_model.specs.Wants.{rows_of, pipes_on, node_row_of}
use Rattle.lab_model.specs.Claims.{Claims, Places, IsOf}
use Rattle.lab_model.specs.Isolated.{IsRow}
use Rattle.lab_model.specs.Cabled.{SameNode}

-- the world after a device command
abbrev pub did : World → DeviceOp → Bool → Result Answer Fault → World
did w op applied answer = world_after w (Did op applied answer)

-- commands with their answers
abbrev pub Sent : Type 0
Sent = List (DeviceOp × Result Answer Fault)

-- the world after these commands, each applied and answered so
abbrev pub ran : World → Sent → World
ran w [] = w
ran w (c ∷ cs) = ran (did w c.0 true c.1) cs

-- the two worlds are alike in the rows and nodes of the experiment
pub record SameFor (lab : Lab) (e : Experiment) (v w : World) : Type 0 where
  pub rows : (row : Row) → IsOf lab e row → w.rows row ≡ v.rows row
  pub nodes : (name : List ℕ) → Claims lab e name → w.node name ≡ v.node name

-- what stands of the experiment is of this one mapping
pub record OneSided (lab : Lab) (w : World) (e : Experiment) (m : Mapped) : Type 0 where
  pub rows : (row : Row) → IsOf lab e row → IsRow w row → (link : List ℕ) × Has (rows_of lab m) (record { row = row; owner = link })
  pub pipes : (name : List ℕ) (k : ℕ) (row : PipeRow) → Claims lab e name → (w.node name).pipes k ≡ Some row → slice_get (pipes_on lab m name) k ≡ Some row

-- WHAT A DONE COURSE LEAVES of the experiment: exactly what m wants, and the other nodes wiped
pub record Ends (lab : Lab) (e : Experiment) (m : Mapped) (w : World) : Type 0 where
  pub only : (row : Row) → IsOf lab e row → IsRow w row → (link : List ℕ) × Has (rows_of lab m) (record { row = row; owner = link })
  pub stand : (row : Row) (link : List ℕ) → Has (rows_of lab m) (record { row = row; owner = link }) → IsRow w row
  pub exact : (name : List ℕ) → Claims lab e name → Places lab m name → SameNode (w.node name) (node_row_of lab m name)
  pub clean : (name : List ℕ) → Claims lab e name → (Places lab m name → ⊥) → SameNode (w.node name) wiped

-- WHAT A DONE SWAP-OUT LEAVES, and a done undo of a swap-in: nothing
pub record Gone (lab : Lab) (e : Experiment) (w : World) : Type 0 where
  pub rows : (row : Row) → IsOf lab e row → IsRow w row → ⊥
  pub nodes : (name : List ℕ) → Claims lab e name → SameNode (w.node name) wiped
