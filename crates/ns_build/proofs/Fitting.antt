-- The facts of each task that a network's commands ask for.
use Rattle.std.proofs.Common.{◌≡◌, ℕ, ◌<◌, ◌≤◌, Bool, true, false, List, length, Some}
use Rattle.std.specs.Prelude.{nat_lt, ◌==◌}
use Rattle.std.specs.List.{list_all}
use Rattle.lab_base.specs.Names.{same_name}
use Rattle.virt_topo.specs.declared.wiring.Asks.{Asks}
use Rattle.virt_topo.specs.declared.wiring.Class.{Class}
use Rattle.virt_topo.specs.declared.topo.AskedLink.{AskedLink}
use Rattle.virt_topo.specs.Repeats.{stands_again}
use Rattle.virt_topo.specs.Soundness.{is_address, limits_class}
use Rattle.virt_topo.specs.Topos.{limits_link}
use Rattle.ns_words.specs.Objects.{IsObjectName}
use Rattle.ns_build.specs.declared.task.Task.{Task}
use Rattle.ns_build.specs.declared.task.Task.TheVariants as tasks
use Rattle.ns_build.specs.declared.task.NodeChange.{NodeChange}
use Rattle.ns_build.specs.declared.task.NodeChange.TheVariants as nodes
use Rattle.ns_build.specs.declared.task.LinkChange.{LinkChange}
use Rattle.ns_build.specs.declared.task.LinkChange.TheVariants as links
use Rattle.ns_build.specs.Networks.{Network, next_node, next_link, asks_of, refuses_class}
use Rattle.ns_build.specs.declared.task.Planned.{Planned}
use Rattle.ns_build.specs.Kept.{IsKeptEvent}
use Rattle.ns_build.specs.Tasks.{has_node, has_link}

pub record FitsNode (n : Network) (name : List ℕ) : Type 0 where
  pub few : length n.nodes < 256
  pub next : name ≡ next_node n

pub record FitsLink (n : Network) (l : AskedLink) : Type 0 where
  pub few : length n.links < 512
  pub name : l.name ≡ next_link n
  pub limits : limits_link l ≡ true
  pub known : list_all (λ e. nat_lt e.node (length n.nodes)) l.ends ≡ true
  pub differ : stands_again (λ a b. a.node == b.node) l.ends ≡ false

pub record FitsClass (n : Network) (c : Class) : Type 0 where
  pub few : length n.classes < 64
  pub limits : limits_class c ≡ true
  pub free : refuses_class n c.name ≡ false
  pub differ : stands_again same_name c.types ≡ false

-- a name that a variable gives, and none of those has
pub record FitsName (taken : Bool) (name : List ℕ) : Type 0 where
  pub variable : List ℕ
  pub given : IsObjectName variable name
  pub free : taken ≡ false

pub record FitsEvent (n : Network) (e : Planned) : Type 0 where
  pub few : length n.events < 1024
  pub is : IsKeptEvent n e

abbrev pub FitsAsks : Network → Asks → Type 0
FitsAsks n asks = (type : List ℕ) × (asks ≡ asks_of n type)

abbrev pub FitsNodeChange : Network → NodeChange → Type 0
FitsNodeChange n (nodes.Name name) = FitsName (has_node n name) name
FitsNodeChange n (nodes.Asks asks) = FitsAsks n asks
FitsNodeChange n change = Unit {0}

abbrev pub FitsLinkChange : Network → LinkChange → Type 0
FitsLinkChange n (links.Name name) = FitsName (has_link n name) name
FitsLinkChange n (links.Loss ppm) = ppm ≤ 1000000
FitsLinkChange n (links.Multiplexed multiplexed) = Unit {0}
FitsLinkChange n (links.Address v ip) = is_address (Some ip) ≡ true

abbrev pub Fits : Network → Task → Type 0
Fits n (tasks.AddNode name) = FitsNode n name
Fits n (tasks.AddLink l) = FitsLink n l
Fits n (tasks.AddClass c) = FitsClass n c
Fits n (tasks.AddEvent e) = FitsEvent n e
Fits n (tasks.ChangeNode v change) = FitsNodeChange n change
Fits n (tasks.ChangeLink l change) = FitsLinkChange n change
Fits n task = Unit {0}
