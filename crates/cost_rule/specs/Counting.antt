-- Counts, step by step.
use Rattle.std.specs.Prelude.{ℕ, Bool, ◌&&◌, List, drop}
use Rattle.lab_base.specs.Names.{same_name}
use Rattle.virt_topo.specs.declared.wiring.Wiring.{Wiring}
use Rattle.virt_topo.specs.declared.mapping.Mapping.{Mapping}
use Rattle.virt_topo.specs.Wirings.{virt_at}
use Rattle.lab_model.specs.Rules.{place_at, is_member}
use Rattle.cost_rule.specs.Cost.{types_of}

-- virtual node v is a member of the class, and this is its type
abbrev pub is_of_kind : Wiring → Mapping → ℕ → List ℕ → ℕ → Bool
is_of_kind w m c kind v = is_member c (virt_at w v).asks && same_name kind (place_at m v).1

-- the types of the members from virtual node v on
abbrev pub types_from : Wiring → Mapping → ℕ → ℕ → List (List ℕ)
types_from w m c v = types_of c (drop v w.nodes) (drop v m.places)
