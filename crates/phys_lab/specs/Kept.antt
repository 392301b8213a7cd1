-- The facts that hold of every lab, in whatever order it was built.
use Rattle.std.specs.Prelude.{◌≡◌, ◌≤◌, ℕ, true, false, List, ◌++◌, length, map, None}
use Rattle.std.specs.List.{flat_map}
use Rattle.lab_base.specs.Names.{is_name}
use Rattle.lab_base.specs.Lists.{Has, AllDiffer}
use Rattle.phys_lab.specs.declared.parts.Node.{Node}
use Rattle.phys_lab.specs.declared.parts.Iface.{Iface}
use Rattle.phys_lab.specs.declared.parts.Trunk.{Trunk}
use Rattle.phys_lab.specs.Labs.{Lab}
use Rattle.phys_lab.specs.Sides.{IsForest}
use Rattle.phys_lab.specs.Tables.{IsLinked}
use Rattle.phys_lab.specs.Keys.{name_on_node, port_of, ports_of}
use Rattle.phys_lab.specs.Faults.{range_fault, is_node, node_has_twice, is_iface, is_trunk, ifaces_of}

-- a node by itself: names, counts and weights, each type and each feature once
pub record IsWhole (node : Node) : Type 0 where
  pub ranges : is_node node ≡ true
  pub differ : node_has_twice node ≡ false
  pub few_types : length node.types ≤ 8
  pub few_features : length node.features ≤ 8

-- the names of the switches and the nodes; the link names; the names on nodes; the ports in use
abbrev pub device_names : Lab → List (List ℕ)
device_names lab = lab.switches ++ map (λ node. node.name) lab.nodes

abbrev pub link_names : Lab → List (List ℕ)
link_names lab = map (λ iface. iface.link) lab.ifaces ++ map (λ trunk. trunk.link) lab.trunks

pub record IsLab (lab : Lab) : Type 0 where
  pub range : range_fault lab.range.0 lab.range.1 ≡ None
  pub switches : (name : List ℕ) → Has lab.switches name → is_name name ≡ true
  pub nodes : (node : Node) → Has lab.nodes node → IsWhole node
  pub ifaces : (iface : Iface) → Has lab.ifaces iface → is_iface iface ≡ true
  pub trunks : (trunk : Trunk) → Has lab.trunks trunk → is_trunk trunk ≡ true
  pub linked : IsLinked lab
  pub devices_differ : AllDiffer (device_names lab)
  pub links_differ : AllDiffer (link_names lab)
  pub names_differ : AllDiffer (map name_on_node lab.ifaces)
  pub ports_differ : AllDiffer (map port_of lab.ifaces ++ flat_map ports_of lab.trunks)
  pub few_switches : length lab.switches ≤ 64
  pub few_nodes : length lab.nodes ≤ 1024
  pub few_ifaces : (node : ℕ) → ifaces_of lab node ≤ 16
  pub forest : IsForest lab.trunks
