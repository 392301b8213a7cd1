-- The interfaces of each node of a lab, and those that the interface rule gave so far.
use Rattle.std.specs.Prelude.{◌≡◌, ℕ, ◌+◌, ◌-◌, ◌<◌, ◌≤◌, ◌==◌, ◌&&◌, ◌||◌, not, nat_le, max, sum_by, List, [], ◌∷◌, length, Bool, true, false, if◌then◌else◌, slice_index_or, Some, None, All}
use Rattle.std.specs.List.{list_all}
use Rattle.phys_lab.specs.declared.parts.Iface.{Iface}
use Rattle.phys_lab.specs.Labs.{Lab}
use Rattle.lab_model.specs.Shapes.{Place}
use Rattle.virt_topo.specs.declared.loads.Load.{Load}
use Rattle.lab_model.specs.Rules.{Laid, loads_on}
use Rattle.node_maps.specs.declared.ends.End.{End}
use Rattle.node_maps.specs.declared.ifaces.Given.{Given}
use Rattle.node_maps.specs.declared.index.NodeIface.{NodeIface}
use Rattle.node_maps.specs.NodeMaps.{plugs_in, with_plug}

-- those of a node among interfaces that are numbered from n on
abbrev pub ifaces_of : ℕ → List Iface → ℕ → List NodeIface
ifaces_of n [] node = []
ifaces_of n (x ∷ xs) node = if x.node.0 == node then record { id = record { 0 = n }; kbps = x.kbps } ∷ ifaces_of (n + 1) xs node else ifaces_of (n + 1) xs node

-- by node of the lab its interfaces; a number that is no node's has none
pub record IsIndex (lab : Lab) (lists : List (List NodeIface)) : Type 0 where
  pub each : (node : ℕ) → slice_index_or lists node [] ≡ ifaces_of 0 lab.ifaces node

-- the same for the nodes that have one of these places
pub record HasPlaces (lab : Lab) (places : List Place) (lists : List (List NodeIface)) : Type 0 where
  pub each : (k : ℕ) (d : Place) → k < length places → slice_index_or lists (slice_index_or places k d).0.0 [] ≡ ifaces_of 0 lab.ifaces (slice_index_or places k d).0.0

-- what is noted of the loads on one interface: their kbps, or more than any interface has, where one isn't multiplexed
abbrev pub noted : List Load → ℕ
noted xs = if list_all (λ x. x.multiplexed) xs then sum_by (λ x. x.kbps) xs else 18446744073709551615

-- one more than the greatest number of their segments
abbrev pub newest : List Load → ℕ
newest [] = 0
newest (x ∷ xs) = max (x.segment + 1) (newest xs)

-- one more load may come to an interface of which this is noted
abbrev pub serves : ℕ → ℕ → ℕ → Load → Bool
serves used last kbps x =
    nat_le x.kbps kbps
    && ((used == 0) || (x.multiplexed && (nat_le used (kbps - x.kbps) && not (last == x.segment + 1))))

-- what is kept while the rule gives interfaces is of these loads; the newest segment is kept where all on an interface are multiplexed
pub record Marks (lab : Lab) (x : Given) (had : List Laid) : Type 0 where
  pub plugs : x.plugs ≡ plugs_in had
  pub used_each : length x.used.items ≡ length lab.ifaces
  pub last_each : length x.last.items ≡ length lab.ifaces
  pub used : (i : ℕ) → i < length lab.ifaces → slice_index_or x.used.items i 0 ≡ noted (loads_on i had)
  pub last : (i : ℕ) → i < length lab.ifaces → list_all (λ y. y.multiplexed) (loads_on i had) ≡ true → 0 < length (loads_on i had) → slice_index_or x.last.items i 0 ≡ newest (loads_on i had)
  pub some : All (λ y. 1 ≤ y.0.kbps) had

-- the tables have an entry for each interface
pub record IsSized (lab : Lab) (x : Given) : Type 0 where
  pub used : length x.used.items ≡ length lab.ifaces
  pub last : length x.last.items ≡ length lab.ifaces

-- an end that may come next: it has kbps, and no earlier one is of a later segment
pub record IsNext (e : End) (had : List Laid) : Type 0 where
  pub some : 1 ≤ e.kbps
  pub rising : All (λ y. y.0.segment ≤ e.segment) had

-- what comes of one end more
abbrev pub Adds : Lab → List Place → End → List Laid → Given → Bool → Type 0
Adds lab places e had x true = (more : List Laid) × (with_plug lab places e had ≡ Some more) × Marks lab x more
Adds lab places e had x false = (with_plug lab places e had ≡ None) × Marks lab x had

-- ends with kbps, whose segments rise
pub record AreOrdered (es : List End) : Type 0 where
  pub some : All (λ e. 1 ≤ e.kbps) es
  pub few : All (λ e. e.segment < 512) es
  pub rising : (j k : ℕ) (d : End) → j ≤ k → k < length es → (slice_index_or es j d).segment ≤ (slice_index_or es k d).segment

-- an end that isn't multiplexed comes to an interface that is fast enough for it
abbrev pub fits : End → NodeIface → Bool
fits e x = not e.multiplexed && nat_le e.kbps x.kbps

-- each end fits the interface of its own place
abbrev pub are_in_order : List End → List NodeIface → Bool
are_in_order [] xs = true
are_in_order (e ∷ es) [] = false
are_in_order (e ∷ es) (x ∷ xs) = fits e x && are_in_order es xs
