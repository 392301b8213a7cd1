-- Isolation as a test over lists of rows and pipes.
use Rattle.std.specs.Prelude.{◌≡◌, ℕ, Bool, true, false, not, ◌&&◌, ◌||◌, ◌==◌, List, ◌++◌, map}
use Rattle.std.specs.List.{flat_map, list_any, list_all}
use Rattle.std.specs.Str.{bytes_eq}
use Rattle.lab_base.specs.Lists.{Has}
use Rattle.phys_lab.specs.Labs.{Lab}
use Rattle.phys_lab.specs.declared.parts.Iface.{Iface}
use Rattle.phys_lab.specs.declared.parts.Trunk.{Trunk}
use Rattle.virt_topo.specs.declared.experiment.Experiment.{Experiment}
use Rattle.plant.specs.Worlds.{Row, PipeRow, World}
use Rattle.lab_model.specs.Wants.{switch_name, node_name}
use Rattle.lab_model.specs.Claims.{Which, Old, New, claimed}
use Rattle.lab_model.specs.Courses.{rows_from}
use Rattle.lab_model.specs.Isolated.{Owner, IsRow, IsPipe}

-- a row with its owner
pub record Wanted : Type 0 where
  pub row : Row
  pub owner : Owner

-- the rows that an experiment's old or new mapping wants, and those that all experiments want
abbrev pub wanted_by : Lab → Experiment → Which → List Wanted
wanted_by lab e which = map (λ o. record { row = o.row; owner = record { exp = e.name; which = which; link = o.owner } }) (rows_from lab (claimed e which))

abbrev pub wanted_in : Lab → List Experiment → List Wanted
wanted_in lab es = flat_map (λ e. wanted_by lab e Old ++ wanted_by lab e New) es

-- the ends of a pipe: a node, and two of its interfaces
pub record PipeEnds : Type 0 where
  pub node : List ℕ
  pub from : List ℕ
  pub to : List ℕ

abbrev pub same_row : Row → Row → Bool
same_row p q = bytes_eq p.switch q.switch && (p.port == q.port && p.vlan == q.vlan)

abbrev pub same_half : Which → Which → Bool
same_half Old Old = true
same_half New New = true
same_half a b = false

abbrev pub same_owner : Owner → Owner → Bool
same_owner a b = bytes_eq a.exp b.exp && (same_half a.which b.which && bytes_eq a.link b.link)

-- the row is at the port of that switch
abbrev pub is_at_port : Lab → ℕ → ℕ → Row → Bool
is_at_port lab switch port row = bytes_eq row.switch (switch_name lab switch) && row.port == port

-- the row's port is that of the node's interface of that name
abbrev pub is_at : Lab → List ℕ → List ℕ → Row → Bool
is_at lab node iface row = list_any (λ (i : Iface). bytes_eq (node_name lab i.node) node && (bytes_eq i.name iface && is_at_port lab i.switch.0 i.port row)) lab.ifaces

-- one is at an end of the trunk, and one at the other
abbrev pub is_over_trunk : Lab → Row → Row → Trunk → Bool
is_over_trunk lab p q t =
    (is_at_port lab t.first.0.0 t.first.1 p && is_at_port lab t.second.0.0 t.second.1 q)
    || (is_at_port lab t.second.0.0 t.second.1 p && is_at_port lab t.first.0.0 t.first.1 q)

abbrev pub is_over_pipe : Lab → Row → Row → PipeEnds → Bool
is_over_pipe lab p q pipe =
    (is_at lab pipe.node pipe.from p && is_at lab pipe.node pipe.to q) || (is_at lab pipe.node pipe.to p && is_at lab pipe.node pipe.from q)

-- two points are next to each other
abbrev pub is_next : Lab → List PipeEnds → Row → Row → Bool
is_next lab pipes p q =
    (p.vlan == q.vlan && (bytes_eq p.switch q.switch || list_any (is_over_trunk lab p q) lab.trunks))
    || list_any (is_over_pipe lab p q) pipes

-- the row stands
abbrev pub stands : List Row → Row → Bool
stands rows p = list_any (same_row p) rows

-- what of the wanted is at one point or next to another, and stands, is of one owner
abbrev pub agree : Lab → List PipeEnds → Wanted → Wanted → Bool
agree lab pipes a b = same_owner a.owner b.owner || not (same_row a.row b.row || is_next lab pipes a.row b.row)

abbrev pub all_agree : Lab → List Wanted → List Row → List PipeEnds → Wanted → Bool
all_agree lab wanted rows pipes a = not (stands rows a.row) || list_all (λ b. not (stands rows b.row) || agree lab pipes a b) wanted

-- ISOLATED, as a test: each row that stands is wanted, and the wanted rows that stand agree
abbrev pub is_isolated : Lab → List Wanted → List Row → List PipeEnds → Bool
is_isolated lab wanted rows pipes = list_all (λ p. list_any (λ a. same_row p a.row) wanted) rows && list_all (all_agree lab wanted rows pipes) wanted

-- the rows and the pipes of the world are these
pub record IsSeen (w : World) (rows : List Row) (pipes : List PipeEnds) : Type 0 where
  pub rows_there : (p : Row) → IsRow w p → Has rows p
  pub rows_stand : (p : Row) → Has rows p → IsRow w p
  pub pipes_there : (name : List ℕ) (pipe : PipeRow) → IsPipe w name pipe → Has pipes (record { node = name; from = pipe.from; to = pipe.to })
  pub pipes_stand : (p : PipeEnds) → Has pipes p → (pipe : PipeRow) × IsPipe w p.node pipe × (pipe.from ≡ p.from) × (pipe.to ≡ p.to)
