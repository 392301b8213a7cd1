-- The links and LANs by the nodes that are on them.
use Rattle.std.specs.Prelude.{◌≡◌, ℕ, ◌==◌, List, position, count_by, nat_eq, Option, Some, None, if◌then◌else◌}
use Rattle.indexmap.specs.IndexMap.{IndexMap, get}
use Rattle.virt_topo.specs.declared.topo.AskedLink.{AskedLink}
use Rattle.ns_build.specs.Networks.{is_on}

-- nothing of a node that is on none, None of one that is on several, and else the index of the only one
abbrev pub one_of : ℕ → Option ℕ → Option (Option ℕ)
one_of count index = if count == 0 then None else if count == 1 then Some index else Some None

abbrev pub place_of : List AskedLink → ℕ → Option (Option ℕ)
place_of links v = one_of (count_by (is_on v) links) (position (is_on v) links)

-- a table has it by node
abbrev pub ArePlaces : {S : Type 0} → List AskedLink → IndexMap ℕ (Option ℕ) S → Type 0
ArePlaces links places = (v : ℕ) → get nat_eq places v ≡ place_of links v

-- what is noted of a node that is on the one at this index, where so much is noted already
abbrev pub noted : ℕ → Option (Option ℕ) → Option ℕ
noted index None = Some index
noted index (Some None) = None
noted index (Some (Some other)) = if other == index then Some index else None
