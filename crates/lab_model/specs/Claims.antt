-- The claims of experiments.
use Rattle.std.specs.Prelude.{◌≡◌, ℕ, max, Bool, false, ◌||◌, List, [], ◌++◌, map, Option, Some, None}
use Rattle.std.specs.List.{list_any}
use Rattle.std.specs.Str.{bytes_eq}
use Rattle.lab_base.specs.Lists.{Has}
use Rattle.phys_lab.specs.Labs.{Lab}
use Rattle.virt_topo.specs.declared.wiring.Wiring.{Wiring}
use Rattle.virt_topo.specs.declared.mapping.Mapped.{Mapped}
use Rattle.virt_topo.specs.declared.experiment.Experiment.{Experiment}
use Rattle.virt_topo.specs.declared.experiment.Phase.{Phase}
use Rattle.virt_topo.specs.declared.experiment.Phase.TheVariants.{Out, In, Moving}
use Rattle.plant.specs.Worlds.{Row}
use Rattle.lab_model.specs.Uses.{use_of}
use Rattle.lab_model.specs.Wants.{node_name, rows_of}

-- which of the two mappings of a move; In has a new one alone
pub data Which : Type 0 where
  Old : Which
  New : Which

-- the mapping that a phase claims as its old or its new one
abbrev pub claimed_in : Wiring → Phase → Which → Option Mapped
claimed_in wiring Out which = None
claimed_in wiring (In mapping tags) Old = None
claimed_in wiring (In mapping tags) New = Some (record { wiring = wiring; mapping = mapping; tags = tags })
claimed_in wiring (Moving old new) Old = old
claimed_in wiring (Moving old new) New = new

-- the mapping that an experiment claims as its old or its new one
abbrev pub claimed : Experiment → Which → Option Mapped
claimed e which = claimed_in e.wiring e.phase which

-- one of the mappings that it claims wants the row, for that link or LAN
pub record Wants (lab : Lab) (e : Experiment) (row : Row) (which : Which) (link : List ℕ) : Type 0 where
  pub mapped : Mapped
  pub is : claimed e which ≡ Some mapped
  pub row_of : Has (rows_of lab mapped) (record { row = row; owner = link })

-- the mapping places a virtual node there
abbrev pub Places : Lab → Mapped → List ℕ → Type 0
Places lab m name = Has (map (λ p. node_name lab p.0) m.mapping.places) name

-- the node is claimed: a virtual node of a claimed mapping is placed on it
pub record Claims (lab : Lab) (e : Experiment) (name : List ℕ) : Type 0 where
  pub which : Which
  pub mapped : Mapped
  pub is : claimed e which ≡ Some mapped
  pub placed : Places lab mapped name

-- the same as tests: the mapping places a virtual node there; so does the mapping, if there is one; the experiment claims the node
abbrev pub places_it : Lab → Mapped → List ℕ → Bool
places_it lab m name = list_any (λ p. bytes_eq (node_name lab p.0) name) m.mapping.places

abbrev pub is_placed : Lab → Option Mapped → List ℕ → Bool
is_placed lab None name = false
is_placed lab (Some m) name = places_it lab m name

abbrev pub claims_it : Lab → Experiment → List ℕ → Bool
claims_it lab e name = is_placed lab (claimed e Old) name || is_placed lab (claimed e New) name

-- the VLAN ids of a mapping, if there is one
abbrev pub tags_of : Option Mapped → List ℕ
tags_of None = []
tags_of (Some m) = map (λ tag. tag.0) m.tags

-- the VLAN ids that the experiment claims
abbrev pub claimed_tags : Experiment → List ℕ
claimed_tags e = tags_of (claimed e Old) ++ tags_of (claimed e New)

-- what the mapping, if there is one, uses of trunk t
abbrev pub use_in : Lab → ℕ → Option Mapped → ℕ
use_in lab t None = 0
use_in lab t (Some m) = use_of lab m.wiring m.mapping t

-- what the experiment claims of trunk t
abbrev pub claimed_use : Lab → ℕ → Experiment → ℕ
claimed_use lab t e = max (use_in lab t (claimed e Old)) (use_in lab t (claimed e New))

-- some mapping of the experiment wants the row
abbrev pub IsOf : Lab → Experiment → Row → Type 0
IsOf lab e row = (which : Which) × (link : List ℕ) × Wants lab e row which link
