-- Tables of the OS and pipes that a mapping wants, by node of the lab.
use Rattle.std.specs.Prelude.{◌≡◌, map}
use Rattle.phys_lab.specs.Labs.{Lab}
use Rattle.virt_topo.specs.declared.wiring.Wiring.{Wiring}
use Rattle.virt_topo.specs.declared.mapping.Mapping.{Mapping}
use Rattle.lab_model.specs.Courses.{node_names}
use Rattle.lab_model.specs.Wants.{os_on}
use Rattle.swap_plan.specs.Plans.{pipes_at}
use Rattle.swap_plan.specs.declared.tables.NodeTable.{NodeTable}

-- the OS and the pipes that a mapping wants of each node, in the lab's order
pub record IsTable (lab : Lab) (w : Wiring) (m : Mapping) (t : NodeTable) : Type 0 where
  pub oses : t.oses.items ≡ map (os_on lab w.nodes m.places) (node_names lab)
  pub pipes : t.pipes.items ≡ map (pipes_at lab w m) (node_names lab)
