-- The nodes of which an OS is told, by name.
use Rattle.std.specs.Prelude.{ℕ, List, Option}
use Rattle.std.specs.List.{flat_map}
use Rattle.phys_lab.specs.Labs.{Lab}
use Rattle.virt_topo.specs.declared.wiring.Wiring.{Wiring}
use Rattle.virt_topo.specs.declared.mapping.Mapping.{Mapping}
use Rattle.lab_model.specs.Courses.{node_names}
use Rattle.lab_model.specs.Wants.{os_on}
use Rattle.swap_plan.specs.Plans.{Host, host_if}

abbrev pub hosts_by : (List ℕ → Option (List ℕ)) → List (List ℕ) → List Host
hosts_by os names = flat_map (λ name. host_if name (os name)) names

abbrev pub host_at : Lab → Wiring → Mapping → List ℕ → List Host
host_at lab w m name = host_if name (os_on lab w.nodes m.places name)

-- the nodes that virtual nodes are placed on, in the lab's order, each with the OS that is wanted of it
abbrev pub hosts_of : Lab → Wiring → Mapping → List Host
hosts_of lab w m = flat_map (host_at lab w m) (node_names lab)
