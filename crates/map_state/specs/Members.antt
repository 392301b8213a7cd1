-- The members of classes, counted by class and type.
use Rattle.std.specs.Prelude.{◌≡◌, ◌<◌, ◌+◌, ◌*◌, ◌==◌, ℕ, Bool, true, false, List, length, nat_lt, count_by, position, option_map, slice_index_or, Option, Some, None, if◌then◌else◌}
use Rattle.lab_base.specs.Names.{same_name}
use Rattle.virt_topo.specs.declared.limits.TheConstants.{MAX_TYPES}
use Rattle.virt_topo.specs.declared.wiring.Asks.{Asks}
use Rattle.virt_topo.specs.declared.wiring.Asks.TheVariants.{Plain, Class as InClass}
use Rattle.virt_topo.specs.declared.wiring.Wiring.{Wiring}
use Rattle.virt_topo.specs.declared.mapping.Mapping.{Mapping}
use Rattle.virt_topo.specs.Wirings.{virt_at}
use Rattle.lab_model.specs.Rules.{class_at, place_at}
use Rattle.cost_rule.specs.Cost.{types_of}
use Rattle.map_state.specs.declared.members.Members.{Members}

-- how many members of class c have a type
abbrev pub members_at : Wiring → Mapping → ℕ → List ℕ → ℕ
members_at w m c kind = count_by (same_name kind) (types_of c w.nodes m.places)

-- the place of a type among those that class c lists
abbrev pub type_index : Wiring → ℕ → List ℕ → Option ℕ
type_index w c kind = position (λ t. same_name t kind) (class_at w c).types

-- where the members of class c that have a type are counted, if the class lists the type
abbrev pub class_index : Wiring → ℕ → List ℕ → Option ℕ
class_index w c kind = option_map (λ k. c * MAX_TYPES + k) (type_index w c kind)

-- the same of the class that a virtual node asks for, if it asks for one
abbrev pub asked_index : Wiring → Asks → List ℕ → Option ℕ
asked_index w (Plain t) kind = None
asked_index w (InClass c) kind = if nat_lt c (length w.classes) then class_index w c kind else None

-- one type is asked for, and so no class
abbrev pub is_plain : Asks → Bool
is_plain (Plain t) = true
is_plain (InClass c) = false

-- 1 at that place, and 0 elsewhere
abbrev pub one_at : Option ℕ → ℕ → ℕ
one_at None n = 0
one_at (Some k) n = if k == n then 1 else 0

-- by class and type that it lists, how many members of the class have the type; by virtual node where it is counted, if it is
pub record AreMembers (w : Wiring) (m : Mapping) (x : Members) : Type 0 where
  pub room : length x.counts.items ≡ length w.classes * MAX_TYPES
  pub each : (c n : ℕ) (kind : List ℕ) → c < length w.classes → class_index w c kind ≡ Some n → slice_index_or x.counts.items n 0 ≡ members_at w m c kind
  pub one_each : length x.own.items ≡ length w.nodes
  pub own : (v : ℕ) → v < length w.nodes → slice_index_or x.own.items v None ≡ asked_index w (virt_at w v).asks (place_at m v).1
