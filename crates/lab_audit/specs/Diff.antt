-- In what the devices differ from what is wanted of them.
use Rattle.std.specs.Prelude.{◌≡◌, ◌⊎◌, ◌↔◌, ℕ, true, false, List, [], ◌∷◌, ◌++◌, Option, Some, None, is_some}
use Rattle.lab_base.specs.Lists.{Has, Apart}
use Rattle.phys_lab.specs.Labs.{Lab}
use Rattle.virt_topo.specs.declared.experiment.Experiment.{Experiment}
use Rattle.virt_topo.specs.declared.experiment.Phase.{Phase}
use Rattle.virt_topo.specs.declared.experiment.Phase.TheVariants.{Out, In, Moving}
use Rattle.virt_topo.specs.declared.mapping.Mapped.{Mapped}
use Rattle.virt_topo.specs.declared.wiring.Wiring.{Wiring}
use Rattle.plant.specs.Worlds.{Row, World, wiped}
use Rattle.plant.specs.Readings.{IsBefore}
use Rattle.lab_model.specs.Cabled.{SameNode}
use Rattle.lab_model.specs.Claims.{Places, Claims, IsOf}
use Rattle.lab_model.specs.Courses.{node_names}
use Rattle.lab_model.specs.Wants.{rows_of, node_row_of}
use Rattle.script_text.specs.declared.reply.AuditLine.{AuditLine}
use Rattle.script_text.specs.declared.reply.AuditLine.TheVariants.{Lacks, Strange, Node}

-- the mapping with which an experiment stands in the lab; one that is out or that moves has none
abbrev pub standing_in : Wiring → Phase → Option Mapped
standing_in wiring Out = None
standing_in wiring (In mapping tags) = Some (record { wiring = wiring; mapping = mapping; tags = tags })
standing_in wiring (Moving old new) = None

abbrev pub standing : Experiment → Option Mapped
standing e = standing_in e.wiring e.phase

-- an experiment that is in wants the row
pub record IsWanted (lab : Lab) (es : List Experiment) (row : Row) : Type 0 where
  pub by : Experiment
  pub listed : Has es by
  pub mapped : Mapped
  pub stands : standing by ≡ Some mapped
  pub link : List ℕ
  pub wants : Has (rows_of lab mapped) (record { row = row; owner = link })

-- some claimed mapping wants the row, of an experiment that is in or that moves
abbrev pub IsClaimed : Lab → List Experiment → Row → Type 0
IsClaimed lab es row = (e : Experiment) × Has es e × IsOf lab e row

-- what a line tells of a switch
abbrev pub Tells : Lab → List Experiment → World → List ℕ → AuditLine → Type 0
Tells lab es w switch (Lacks named port vlan) = (named ≡ switch) × IsWanted lab es (record { switch = named; port = port; vlan = vlan.0 }) × (w.rows (record { switch = named; port = port; vlan = vlan.0 }) ≡ false)
Tells lab es w switch (Strange named port vlan) = (named ≡ switch) × (w.rows (record { switch = named; port = port; vlan = vlan.0 }) ≡ true) × (IsClaimed lab es (record { switch = named; port = port; vlan = vlan.0 }) → ⊥)
Tells lab es w switch (Node node) = ⊥

-- the port and the VLAN id of a line
abbrev pub entry_in : AuditLine → ℕ × ℕ
entry_in (Lacks switch port vlan) = (port, vlan.0)
entry_in (Strange switch port vlan) = (port, vlan.0)
entry_in (Node node) = (0, 0)

-- THE LINES OF A SWITCH: all that tell something of it, each once, by port and then by VLAN id
pub record AreLinesOf (lab : Lab) (es : List Experiment) (w : World) (switch : List ℕ) (lines : List AuditLine) : Type 0 where
  pub rising : Apart (λ a b. IsBefore (entry_in a) (entry_in b)) lines
  pub exact : (line : AuditLine) → Has lines line ↔ Tells lab es w switch line

-- those of switches, one after another
abbrev pub AreLines : Lab → List Experiment → World → List (List ℕ) → List AuditLine → Type 0
AreLines lab es w [] lines = lines ≡ []
AreLines lab es w (switch ∷ switches) lines =
    (own : List AuditLine) × (rest : List AuditLine) × AreLinesOf lab es w switch own × AreLines lab es w switches rest × (lines ≡ own ++ rest)

-- A NODE DIFFERS: an experiment that is in has it, and it isn't as that one wants it; or nobody claims it, and it isn't wiped
pub data Differs (lab : Lab) (es : List Experiment) (w : World) (name : List ℕ) : Type 0 where
  Held : (e : Experiment) (m : Mapped) → Has es e → standing e ≡ Some m → Places lab m name → (SameNode (w.node name) (node_row_of lab m name) → ⊥) → Differs lab es w name
  Free : ((e : Experiment) → Has es e → Claims lab e name → ⊥) → (SameNode (w.node name) wiped → ⊥) → Differs lab es w name

-- a line for each of these nodes that differs, in their order
abbrev pub AreDiffering : Lab → List Experiment → World → List (List ℕ) → List AuditLine → Type 0
AreDiffering lab es w [] lines = lines ≡ []
AreDiffering lab es w (name ∷ names) lines =
    (Differs lab es w name × ((rest : List AuditLine) × AreDiffering lab es w names rest × (lines ≡ Node name ∷ rest)))
    ⊎ ((Differs lab es w name → ⊥) × AreDiffering lab es w names lines)

-- THE DIFFERENCE OF A WORLD AND A LAB: the lines of its switches, and then those of its nodes
pub record IsDiff (lab : Lab) (es : List Experiment) (w : World) (report : List AuditLine) : Type 0 where
  pub lines : List AuditLine
  pub nodes : List AuditLine
  pub switches : AreLines lab es w lab.switches lines
  pub differing : AreDiffering lab es w (node_names lab) nodes
  pub are : report ≡ lines ++ nodes

-- a node is compared that an experiment has that is in, or that nobody claims
abbrev pub IsCompared : Lab → List Experiment → List ℕ → Type 0
IsCompared lab es name = ((e : Experiment) × Has es e × ((m : Mapped) × (standing e ≡ Some m) × Places lab m name)) ⊎ ((e : Experiment) → Has es e → Claims lab e name → ⊥)

-- the world leaves open no state that is compared
abbrev pub IsKnown : Lab → List Experiment → World → Type 0
IsKnown lab es w = (name : List ℕ) → Has (node_names lab) name → IsCompared lab es name → is_some (w.node name).boot ≡ true

-- WHAT A REPORT TELLS OF SWITCHES: whatever its lines of nodes are, those of switches are exactly those of the world
pub record TellsSwitches (lab : Lab) (es : List Experiment) (w : World) (report : List AuditLine) : Type 0 where
  pub lines : List AuditLine
  pub nodes : List AuditLine
  pub switches : AreLines lab es w lab.switches lines
  pub of_nodes : (line : AuditLine) → Has nodes line → (name : List ℕ) × (line ≡ Node name)
  pub are : report ≡ lines ++ nodes
