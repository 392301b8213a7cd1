-- A frame reaches only ports of its own link or LAN.
use Rattle.std.specs.Prelude.{◌≡◌, ℕ, true, List, Some}
use Rattle.lab_base.specs.Lists.{Has}
use Rattle.phys_lab.specs.Labs.{Lab}
use Rattle.virt_topo.specs.declared.experiment.Experiment.{Experiment}
use Rattle.plant.specs.Worlds.{Row, PipeRow, World}
use Rattle.lab_model.specs.Claims.{Which, Wants}
use Rattle.lab_model.specs.Reach.{Next, Reaches}

-- the owner of a point: an experiment, its old or its new mapping, and a link or LAN
pub record Owner : Type 0 where
  pub exp : List ℕ
  pub which : Which
  pub link : List ℕ

-- a mapping of an experiment wants the point
pub record Owns (lab : Lab) (es : List Experiment) (point : Row) (owner : Owner) : Type 0 where
  pub by : Experiment
  pub listed : Has es by
  pub name_is : by.name ≡ owner.exp
  pub wants : Wants lab by point owner.which owner.link

-- a point, and a pipe of a node, of the world
abbrev pub IsRow : World → Row → Type 0
IsRow w row = w.rows row ≡ true

abbrev pub IsPipe : World → List ℕ → PipeRow → Type 0
IsPipe w name pipe = (k : ℕ) × ((w.node name).pipes k ≡ Some pipe)

-- A frame reaches only ports of its own link or LAN.
pub record Isolated (lab : Lab) (es : List Experiment) (w : World) : Type 0 where
  pub owned : (p : Row) → IsRow w p → (owner : Owner) × Owns lab es p owner
  pub apart : (p q : Row) (a b : Owner) → Reaches lab (IsPipe w) (IsRow w) p q → Owns lab es p a → Owns lab es q b → a ≡ b

-- THE SAME OVER NEIGHBOURS ALONE: each point has an owner, and no second one, and points next to each other have the same.
pub record IsolatedBeside (lab : Lab) (es : List Experiment) (w : World) : Type 0 where
  pub owned : (p : Row) → IsRow w p → (owner : Owner) × Owns lab es p owner
  pub one : (p : Row) (a b : Owner) → IsRow w p → Owns lab es p a → Owns lab es p b → a ≡ b
  pub beside : (p q : Row) (a b : Owner) → IsRow w p → IsRow w q → Next lab (IsPipe w) p q → Owns lab es p a → Owns lab es q b → a ≡ b
