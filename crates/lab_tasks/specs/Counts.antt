-- How many nodes and VLAN ids an experiment claims, and how many none claims.
use Rattle.std.specs.Prelude.{ℕ, ◌+◌, ◌==◌, Bool, not, List, length, count_by, map, take, filter}
use Rattle.lab_base.specs.declared.ids.VlanId.{VlanId}
use Rattle.std.specs.List.{flat_map, list_any}
use Rattle.phys_lab.specs.Labs.{Lab}
use Rattle.phys_lab.specs.Forests.{numbers}
use Rattle.virt_topo.specs.declared.experiment.Experiment.{Experiment}
use Rattle.lab_model.specs.Claims.{claims_it, claimed_tags}
use Rattle.lab_model.specs.Beside.{is_claimed, ids_of}

-- the nodes, and the VLAN ids, that an experiment claims
abbrev pub nodes_claimed : Lab → Experiment → ℕ
nodes_claimed lab e = count_by (λ node. claims_it lab e node.name) lab.nodes

abbrev pub ids_claimed : Experiment → ℕ
ids_claimed e = length (claimed_tags e)

-- the nodes that no experiment claims
abbrev pub nodes_free : Lab → List Experiment → ℕ
nodes_free lab es = count_by (λ node. not (is_claimed lab es node.name)) lab.nodes

-- an experiment claims the VLAN id
abbrev pub is_taken : List Experiment → ℕ → Bool
is_taken es id = list_any (λ tag. tag == id) (flat_map claimed_tags es)

-- the VLAN ids of the lab's range that no experiment claims
abbrev pub ids_free : Lab → List Experiment → ℕ
ids_free lab es = count_by (λ n. not (is_taken es (lab.range.0 + n))) (numbers (ids_of lab))

-- the least n of them, as tags
abbrev pub least_tags : Lab → List Experiment → ℕ → List VlanId
least_tags lab es n = map (λ i. record { 0 = lab.range.0 + i }) (take n (filter (λ i. not (is_taken es (lab.range.0 + i))) (numbers (ids_of lab))))
