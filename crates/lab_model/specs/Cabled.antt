-- Rows and nodes are as the claimed mappings want them.
use Rattle.std.specs.Prelude.{◌≡◌, ◌⊎◌, ℕ, true, false, List, slice_get, Option, Some, None}
use Rattle.lab_base.specs.Lists.{Has}
use Rattle.phys_lab.specs.Labs.{Lab}
use Rattle.virt_topo.specs.declared.mapping.Mapped.{Mapped}
use Rattle.virt_topo.specs.declared.experiment.Experiment.{Experiment}
use Rattle.virt_topo.specs.declared.experiment.Phase.{Phase}
use Rattle.virt_topo.specs.declared.experiment.Phase.TheVariants.{Out, In, Moving}
use Rattle.plant.specs.Worlds.{Row, PipeRow, NodeRow, World, wiped}
use Rattle.lab_model.specs.Wants.{pipes_on, node_row_of, rows_of}
use Rattle.lab_model.specs.Claims.{Places, Claims, IsOf}
use Rattle.lab_model.specs.Kept.{is_kept}
use Rattle.lab_model.specs.Isolated.{IsRow}

-- the two are alike
pub record SameNode (a b : NodeRow) : Type 0 where
  pub os : a.os ≡ b.os
  pub pipes : (k : ℕ) → a.pipes k ≡ b.pipes k
  pub boot : a.boot ≡ b.boot

-- the mapping, if there is one, wants that pipe on the node under that number
abbrev pub WantsPipe : Lab → Option Mapped → List ℕ → ℕ → PipeRow → Type 0
WantsPipe lab None name k row = ⊥
WantsPipe lab (Some m) name k row = slice_get (pipes_on lab m name) k ≡ Some row

-- what stands of an experiment in each phase
abbrev pub CabledPhase : Lab → World → Experiment → Phase → Type 0
CabledPhase lab w e Out = Unit {0}
CabledPhase lab w e (In mapping tags) =
    let m : Mapped = record { wiring = e.wiring; mapping = mapping; tags = tags } in
    ((row : Row) (link : List ℕ) → Has (rows_of lab m) (record { row = row; owner = link }) → IsRow w row)
    × ((name : List ℕ) → Places lab m name → SameNode (w.node name) (node_row_of lab m name))
CabledPhase lab w e (Moving old new) =
    ((m : Mapped) (name : List ℕ) → Claims lab e name → new ≡ Some m → is_kept lab old new name ≡ true → SameNode (w.node name) (node_row_of lab m name))
    × ((name : List ℕ) (k : ℕ) (row : PipeRow) → Claims lab e name → is_kept lab old new name ≡ false → (w.node name).pipes k ≡ Some row → WantsPipe lab old name k row ⊎ WantsPipe lab new name k row)

-- each row is wanted by a claimed mapping
abbrev pub AllWanted : Lab → List Experiment → World → Type 0
AllWanted lab es w = (row : Row) → IsRow w row → (e : Experiment) × Has es e × IsOf lab e row

-- each node that no claim has is wiped
abbrev pub FreeWiped : Lab → List Experiment → World → Type 0
FreeWiped lab es w = (name : List ℕ) → ((e : Experiment) → Has es e → Claims lab e name → ⊥) → SameNode (w.node name) wiped

-- Rows and nodes are as the mappings want them.
pub record Cabled (lab : Lab) (es : List Experiment) (w : World) : Type 0 where
  pub wanted : AllWanted lab es w
  pub phases : (e : Experiment) → Has es e → CabledPhase lab w e e.phase
  pub free : FreeWiped lab es w
