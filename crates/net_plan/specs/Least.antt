-- The rule of addresses, end by end.
use Rattle.std.specs.Prelude.{◌≡◌, ℕ, ◌+◌, ◌*◌, ◌<◌, ◌≤◌, true, false, List, ◌∷◌, ◌++◌, length, map, Option, Some, None}
use Rattle.std.specs.List.{enumerate_from, flat_map}
use Rattle.virt_topo.specs.declared.topo.AskedLink.{AskedLink}
use Rattle.net_plan.specs.Addresses.{addresses_of, ends_of, subnet_of, uses, addressed}

-- the ends of all links and LANs, in order, each with the subnet of its link or LAN and the address that it asks for
abbrev pub seats : List AskedLink → List (Option ℕ × Option ℕ)
seats links = flat_map (λ p. map (λ e. (subnet_of p.0 (addresses_of p.1.ends), e.address)) p.1.ends) (enumerate_from 1 links)

-- the address of the least host number from 1 to 254 that is not among these
pub record IsLeast (used : List ℕ) (subnet address : ℕ) : Type 0 where
  pub host : ℕ
  pub low : 1 ≤ host
  pub high : host ≤ 254
  pub is : address ≡ subnet * 256 + host
  pub free : uses used address ≡ false
  pub least : (h : ℕ) → 1 ≤ h → h < host → uses used (subnet * 256 + h) ≡ true

-- an end has its own address, or the least of its subnet
abbrev pub IsFor : List ℕ → (Option ℕ × Option ℕ) → ℕ → Type 0
IsFor used (subnet, Some own) address = own ≡ address
IsFor used (Some subnet, None) address = IsLeast used subnet address
IsFor used (None, None) address = ⊥

-- each end has one by what explicit addresses and those of earlier ends leave
pub record AreLeast (explicit : List ℕ) (ends : List (Option ℕ × Option ℕ)) (addresses : List ℕ) : Type 0 where
  pub all : length addresses ≡ length ends
  pub each : (before after : List (Option ℕ × Option ℕ)) (end : Option ℕ × Option ℕ) (earlier later : List ℕ) (address : ℕ)
      → ends ≡ before ++ end ∷ after → addresses ≡ earlier ++ address ∷ later → length earlier ≡ length before → IsFor (explicit ++ earlier) end address

-- some end is left without one, those before it having theirs
pub record OneLacks (explicit : List ℕ) (ends : List (Option ℕ × Option ℕ)) : Type 0 where
  pub before : List (Option ℕ × Option ℕ)
  pub end : Option ℕ × Option ℕ
  pub after : List (Option ℕ × Option ℕ)
  pub earlier : List ℕ
  pub whole : ends ≡ before ++ end ∷ after
  pub least : AreLeast explicit before earlier
  pub lacks : (address : ℕ) → IsFor (explicit ++ earlier) end address → ⊥

-- the expansion gives such addresses, or one end lacks one
abbrev pub GivesLeast : Type 0
GivesLeast = (links given : List AskedLink) → addressed links ≡ Some given → AreLeast (addresses_of (ends_of links)) (seats links) (addresses_of (ends_of given))

abbrev pub LacksOne : Type 0
LacksOne = (links : List AskedLink) → addressed links ≡ None → OneLacks (addresses_of (ends_of links)) (seats links)
