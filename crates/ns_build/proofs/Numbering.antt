-- The names of numbers, and those that variables give.
use Rattle.std.proofs.Common.{◌≡◌, inl, inr, ℕ, zero, suc, ◌+◌, ◌^◌, ◌<◌, Bool, true, false, List, [], ◌∷◌, ◌++◌, length, map, refl, sym, ap, subst, ◌∙◌, arith}
use Rattle.std.specs.Prelude.{◌||◌, ◌==◌, decimal}
use Rattle.std.specs.List.{list_any}
use Rattle.std.specs.Str.Parse.{digits_value}
use Rattle.std.proofs.lemmas.Fmt.{decimal_is_IsNumeral}
use Rattle.std.proofs.lemmas.List.{append_cancel_left}
use Rattle.std.proofs.lemmas.List.Folds.{list_any-append}
use Rattle.std.proofs.lemmas.Bool.{or_from}
use Rattle.lab_base.specs.Names.{same_name}
use Rattle.lab_base.proofs.Bytes.{bytes_same}
use Rattle.lab_base.proofs.Members.{all_has, none_from}
use Rattle.virt_topo.specs.Topos.{is_word_byte, IsWord, IsIndex}
use Rattle.ns_words.specs.declared.names.Numbered.{Numbered}
use Rattle.ns_words.specs.declared.names.Numbered.TheVariants.{Node, Link}
use Rattle.ns_words.specs.Objects.{IsGiven, IsObjectName, numbered_prefix, numbered_name_of}
use Rattle.ns_build.specs.Networks.{changed_at}
use Rattle.ns_build.specs.Kept.{has_dot, AreNumbered}

-- the name of a number has a dot
pub dotted : (of : Numbered) (k : ℕ) → has_dot (numbered_name_of of k) ≡ true
dotted Node k = refl
dotted Link k = refl

-- names of two numbers are two
pub one_number : (of : Numbered) (j k : ℕ) → j < 2 ^ 64 → k < 2 ^ 64 → numbered_name_of of j ≡ numbered_name_of of k → j ≡ k
one_number of j k small fits h =
    let same : decimal j ≡ decimal k = append_cancel_left (numbered_prefix of) (decimal j) (decimal k) h in
    sym (decimal_is_IsNumeral j small).1 ∙ ap (digits_value 10) same ∙ (decimal_is_IsNumeral k fits).1

-- a name without a dot is no number's
unlike : (of : Numbered) (k : ℕ) (name : List ℕ) → has_dot name ≡ false → same_name name (numbered_name_of of k) ≡ false
unlike of k name plain = by (same_name name (numbered_name_of of k)) refl
  where
    by : (t : Bool) → same_name name (numbered_name_of of k) ≡ t → t ≡ false
    by false e = refl
    by true e = sym (dotted of k) ∙ subst (λ (l : List ℕ). has_dot l ≡ false) (bytes_same name (numbered_name_of of k) e) plain

-- nor is that of an earlier one
earlier : (of : Numbered) (j k : ℕ) (name : List ℕ) → j < k → k < 2 ^ 64 → name ≡ numbered_name_of of j → same_name name (numbered_name_of of k) ≡ false
earlier of j k name less fits is = by (same_name name (numbered_name_of of k)) refl
  where
    by : (t : Bool) → same_name name (numbered_name_of of k) ≡ t → t ≡ false
    by false e = refl
    by true e = absurd (let one : j ≡ k = one_number of j k (omega arith) fits (sym is ∙ bytes_same name (numbered_name_of of k) e) in omega arith)

-- THE NEXT NUMBER'S NAME is no name so far
pub next_is_new : (of : Numbered) (k m : ℕ) (names : List (List ℕ)) → k + length names ≡ m → m < 2 ^ 64 → AreNumbered of k names → list_any (λ name. same_name name (numbered_name_of of m)) names ≡ false
next_is_new of k m [] sum fits h = refl
next_is_new of k m (name ∷ names) sum fits h =
    or_from (same_name name (numbered_name_of of m)) (list_any (λ other. same_name other (numbered_name_of of m)) names)
    (elim h.0 [ inl plain ↦ unlike of m name plain | inr is ↦ earlier of k m name (omega arith) fits is ])
    (next_is_new of (k + 1) m names (omega arith) fits h.1)

pub numbered_push : (of : Numbered) (k m : ℕ) (names : List (List ℕ)) → k + length names ≡ m → AreNumbered of k names → AreNumbered of k (names ++ numbered_name_of of m ∷ [])
numbered_push of k m [] sum h = let same : k ≡ m = omega arith in (inr (ap (numbered_name_of of) (sym same)), tt)
numbered_push of k m (name ∷ names) sum h = (h.0, numbered_push of (k + 1) m names (omega arith) h.1)

-- one is named anew
pub numbered_named : {X : Type 0} (of : Numbered) (name_of : X → List ℕ) (name : List ℕ) (f : X → X) → ((x : X) → name_of (f x) ≡ name) → has_dot name ≡ false
    → (k index : ℕ) (xs : List X) → AreNumbered of k (map name_of xs) → AreNumbered of k (map name_of (changed_at f index xs))
numbered_named of name_of name f named plain k index [] h = h
numbered_named of name_of name f named plain k zero (x ∷ xs) h = (inl (ap has_dot (named x) ∙ plain), h.1)
numbered_named of name_of name f named plain k (suc index) (x ∷ xs) h = (h.0, numbered_named of name_of name f named plain (k + 1) index xs h.1)

-- A VARIABLE'S NAME has no dot
word_byte : (b : ℕ) → is_word_byte b ≡ true → (b == 46) ≡ false
word_byte b h = grind arith

index_byte : (b : ℕ) → (is_word_byte b || (b == 45)) ≡ true → (b == 46) ≡ false
index_byte b h = grind arith

word_plain : (bytes : List ℕ) → IsWord bytes → has_dot bytes ≡ false
word_plain bytes h = none_from (λ b. b == 46) bytes (λ b m. word_byte b (all_has is_word_byte bytes b h.1 m))

index_plain : (bytes : List ℕ) → IsIndex bytes → has_dot bytes ≡ false
index_plain bytes h = none_from (λ b. b == 46) bytes (λ b m. index_byte b (all_has (λ c. is_word_byte c || (c == 45)) bytes b h.1 m))

pub given_plain : (variable name : List ℕ) → IsObjectName variable name → has_dot name ≡ false
given_plain variable name h = by h.given
  where
    by : IsGiven variable name → has_dot name ≡ false
    by (IsGiven.plain word is) = ap has_dot is ∙ word_plain variable word
    by (IsGiven.indexed v i word index text is) =
        ap has_dot is ∙ list_any-append (λ b. b == 46) v (45 ∷ i) ∙ or_from (has_dot v) (has_dot (45 ∷ i)) (word_plain v word) (index_plain i index)
