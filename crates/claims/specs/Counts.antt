-- Owners by place, as tests.
use Rattle.std.specs.Prelude.{◌+◌, ◌-◌, ◌&&◌, nat_le, slice_get, ℕ, Bool, true, false, List, [], ◌∷◌, Option, None, Some, is_none, if◌then◌else◌}
use Rattle.std.specs.Str.{bytes_eq}

-- the experiment is the owner; nobody else is
abbrev pub is_owned_by : List ℕ → Option (List ℕ) → Bool
is_owned_by exp None = false
is_owned_by exp (Some name) = bytes_eq name exp

abbrev pub is_free_to : List ℕ → Option (List ℕ) → Bool
is_free_to exp None = true
is_free_to exp (Some name) = bytes_eq name exp

-- the place is one of the table's, and has no owner; a VLAN id has such a place in a table from a first one on
abbrev pub is_unowned : Option (Option (List ℕ)) → Bool
is_unowned None = false
is_unowned (Some owner) = is_none owner

abbrev pub is_free_id : ℕ → List (Option (List ℕ)) → ℕ → Bool
is_free_id first owners id = nat_le first id && is_unowned (slice_get owners (id - first))

-- the numbers of the places without an owner, from a first number on
abbrev pub free_from : ℕ → List (Option (List ℕ)) → List ℕ
free_from first [] = []
free_from first (owner ∷ owners) = if is_none owner then first ∷ free_from (first + 1) owners else free_from (first + 1) owners
