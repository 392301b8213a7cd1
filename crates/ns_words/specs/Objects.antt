-- Names of objects.
use Rattle.std.specs.Prelude.{◌≡◌, ◌≤◌, ℕ, Bool, ◌&&◌, ◌||◌, ◌==◌, nat_le, List, [], ◌∷◌, ◌++◌, length, codes, decimal, Option, Some, None, if◌then◌else◌}
use Rattle.std.specs.List.{list_all}
use Rattle.lab_base.specs.Texts.{parted_at}
use Rattle.virt_topo.specs.Topos.{is_word_byte, IsWord, IsIndex}
use Rattle.ns_words.specs.declared.names.Numbered.{Numbered}
use Rattle.ns_words.specs.declared.names.Numbered.TheVariants.{Node, Link}

-- a variable `v` gives the name `v`, and `v(i)` gives `v-i`
pub data IsGiven (variable : List ℕ) (name : List ℕ) : Type 0 where
  plain : IsWord variable → name ≡ variable → IsGiven variable name
  indexed : (v : List ℕ) (i : List ℕ) → IsWord v → IsIndex i → variable ≡ v ++ 40 ∷ i ++ 41 ∷ [] → name ≡ v ++ 45 ∷ i → IsGiven variable name

-- a name of at most 26 bytes
pub record IsObjectName (variable : List ℕ) (name : List ℕ) : Type 0 where
  pub given : IsGiven variable name
  pub short : length name ≤ 26

-- THE SAME, COMPUTED

abbrev pub is_index_byte : ℕ → Bool
is_index_byte b = is_word_byte b || (b == 45)

abbrev pub is_word : List ℕ → Bool
is_word bytes = nat_le 1 (length bytes) && list_all is_word_byte bytes

abbrev pub is_index : List ℕ → Bool
is_index bytes = nat_le 1 (length bytes) && list_all is_index_byte bytes

abbrev pub if_short : List ℕ → Option (List ℕ)
if_short name = if nat_le (length name) 26 then Some name else None

abbrev pub plain_of : List ℕ → Option (List ℕ)
plain_of v = if is_word v then if_short v else None

abbrev pub indexed_of : List ℕ → List ℕ → Option (List ℕ)
indexed_of v i = if is_word v && is_index i then if_short (v ++ 45 ∷ i) else None

-- what stands after the opening parenthesis has to end at the first closing one
abbrev pub closed_of : List ℕ → Option (List ℕ × List ℕ) → Option (List ℕ)
closed_of v None = None
closed_of v (Some parts) = if length parts.1 == 0 then indexed_of v parts.0 else None

abbrev pub named_of : List ℕ → Option (List ℕ × List ℕ) → Option (List ℕ)
named_of variable None = plain_of variable
named_of variable (Some parts) = closed_of parts.0 (parted_at 41 parts.1)

unfoldable pub object_name_of : List ℕ → Option (List ℕ)
object_name_of variable = named_of variable (parted_at 40 variable)

-- OBJECTS THAT NO VARIABLE NAMES

abbrev pub numbered_prefix : Numbered → List ℕ
numbered_prefix Node = codes "tb.n"
numbered_prefix Link = codes "tb.l"

abbrev pub numbered_name_of : Numbered → ℕ → List ℕ
numbered_name_of of k = numbered_prefix of ++ decimal k
