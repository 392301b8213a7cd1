-- The answers of the calls on claims.
use Rattle.std.specs.Prelude.{◌≡◌, ◌<◌, ◌≤◌, ℕ, Bool, not, ◌&&◌, nat_le, List, [], length, map, take, Result, Ok, Err}
use Rattle.std.specs.List.{list_all}
use Rattle.lab_base.specs.declared.ids.VlanId.{VlanId}
use Rattle.phys_lab.specs.Labs.{Lab}
use Rattle.lab_model.specs.Beside.{all_differ}
use Rattle.claims.specs.Held.{Held, has_id}
use Rattle.claims.specs.declared.fault.TakeFault.{TakeFault}
use Rattle.claims.specs.declared.fault.TakeFault.TheVariants as faults

-- the claims of a lab in which nothing is claimed
abbrev pub none_of : Lab → Held
none_of lab = record { range = lab.range; nodes = length lab.nodes; kbps = map (λ t. t.kbps) lab.trunks; entries = [] }

-- no two of these VLAN ids are one, each lies in the range, and no claim has it
abbrev pub are_free_ids : Held → List VlanId → Bool
are_free_ids held tags =
    all_differ (map (λ tag. tag.0) tags)
    && list_all (λ tag. nat_le held.range.0 tag.0 && nat_le tag.0 held.range.1 && not (has_id held.entries tag.0)) tags

-- the least n of the free VLAN ids, TooFew exactly where there are fewer; or Memory
abbrev pub AreTaken : List ℕ → ℕ → Result (List VlanId) TakeFault → Type 0
AreTaken free n (Ok tags) = (n ≤ length free) × (map (λ tag. tag.0) tags ≡ take n free)
AreTaken free n (Err (faults.TooFew few)) = (few ≡ length free) × (few < n)
AreTaken free n (Err faults.Memory) = Unit {0}
