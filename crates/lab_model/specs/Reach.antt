-- How far frames go.
use Rattle.std.specs.Prelude.{◌≡◌, ◌⊎◌, ◌<◌, ℕ, length, List, [], ◌∷◌}
use Rattle.lab_base.specs.Lists.{Has}
use Rattle.lab_base.specs.declared.ids.IfaceId.{IfaceId}
use Rattle.phys_lab.specs.Labs.{Lab}
use Rattle.phys_lab.specs.declared.parts.Trunk.{Trunk}
use Rattle.plant.specs.Worlds.{Row, PipeRow}
use Rattle.lab_model.specs.Wants.{switch_name, node_name}
use Rattle.lab_model.specs.Uses.{iface_at}

-- the row's port is that of the node's interface of that name
pub record IsAt (lab : Lab) (node iface : List ℕ) (row : Row) : Type 0 where
  pub number : IfaceId
  pub in_lab : number.0 < length lab.ifaces
  pub node_is : node_name lab (iface_at lab number).node ≡ node
  pub name_is : (iface_at lab number).name ≡ iface
  pub switch_is : row.switch ≡ switch_name lab (iface_at lab number).switch.0
  pub port_is : row.port ≡ (iface_at lab number).port

-- the row is at the first end of the trunk, or at its second one
abbrev pub IsFirstEnd : Lab → Trunk → Row → Type 0
IsFirstEnd lab t row = (row.switch ≡ switch_name lab t.first.0.0) × (row.port ≡ t.first.1)

abbrev pub IsSecondEnd : Lab → Trunk → Row → Type 0
IsSecondEnd lab t row = (row.switch ≡ switch_name lab t.second.0.0) × (row.port ≡ t.second.1)

-- two points are next to each other, where these pipes stand on the nodes
pub data Next (lab : Lab) (Pipe : List ℕ → PipeRow → Type 0) (p q : Row) : Type 0 where
  by_switch : p.vlan ≡ q.vlan → p.switch ≡ q.switch → Next lab Pipe p q
  by_trunk : (t : Trunk) → Has lab.trunks t → p.vlan ≡ q.vlan → ((IsFirstEnd lab t p × IsSecondEnd lab t q) ⊎ (IsSecondEnd lab t p × IsFirstEnd lab t q)) → Next lab Pipe p q
  by_pipe : (node : List ℕ) (pipe : PipeRow) → Pipe node pipe → ((IsAt lab node pipe.from p × IsAt lab node pipe.to q) ⊎ (IsAt lab node pipe.to p × IsAt lab node pipe.from q)) → Next lab Pipe p q

-- these points lead from p to q, each next to the one before
abbrev pub LeadsOn : Lab → (List ℕ → PipeRow → Type 0) → (Row → Type 0) → Row → List Row → Row → Type 0
LeadsOn lab Pipe Point p [] q = p ≡ q
LeadsOn lab Pipe Point p (mid ∷ path) q = Point mid × Next lab Pipe p mid × LeadsOn lab Pipe Point mid path q

-- a list of points leads from p to q
abbrev pub Reaches : Lab → (List ℕ → PipeRow → Type 0) → (Row → Type 0) → Row → Row → Type 0
Reaches lab Pipe Point p q = Point p × ((path : List Row) × LeadsOn lab Pipe Point p path q)
