-- A variable gives a name exactly where the definition says so.
use Rattle.std.proofs.Common.{◌≡◌, ◌↔◌, ℕ, ◌^◌, ◌<◌, ◌≤◌, Bool, true, false, eqb, ◌&&◌, ◌||◌, List, [], ◌∷◌, ◌++◌, length, Option, Some, None, refl, sym, ap, subst, ◌∙◌, arith, append_assoc, length-append}
use Rattle.std.specs.Prelude.{nat_le, decimal, option_map, codes}
use Rattle.std.specs.Char.{is_ascii_digit}
use Rattle.std.specs.List.{list_all}
use Rattle.std.proofs.lemmas.Bool.{and_parts, and_from, leb-true, eqb-true, le-leb}
use Rattle.std.proofs.lemmas.List.Folds.{list_all-append}
use Rattle.std.proofs.lemmas.Fmt.{digits_decimal, length-decimal-le}
use Rattle.lab_base.specs.Names.{is_name, is_name_byte}
use Rattle.lab_base.specs.Texts.{parted_at}
use Rattle.lab_base.proofs.Digits.{own}
use Rattle.lab_base.proofs.Names.{digit_named}
use Rattle.lab_base.proofs.Members.{all_weaker}
use Rattle.line_text.proofs.PartsAgain.{others, position_none, parted_again}
use Rattle.virt_topo.specs.Soundness.{is_between}
use Rattle.virt_topo.specs.Topos.{is_word_byte, IsWord, IsIndex, IsAskedName, HasForm}
use Rattle.ns_words.specs.declared.names.Numbered.{Numbered}
use Rattle.ns_words.specs.declared.names.Numbered.TheVariants.{Node, Link}
use Rattle.ns_words.specs.Seen.{named_if, numbered_letter}
use Rattle.ns_words.specs.Objects.{IsGiven, IsObjectName, is_index_byte, is_word, is_index, if_short, plain_of, indexed_of, closed_of, named_of, object_name_of, numbered_prefix, numbered_name_of}
use Rattle.line_text.proofs.AddressLaws.{parted_is}

-- BYTES OF NAMES

word_byte : (b : ℕ) → is_word_byte b ≡ true → is_name_byte b ≡ true
word_byte b h = by (is_between 97 122 b) (is_between 65 90 b) (is_between 48 57 b) (eqb b 45) (eqb b 46) (eqb b 95) h
  where
    by : (small large digit dash dot line : Bool) → (small || (large || (digit || line))) ≡ true → (small || (large || (digit || (dash || (dot || line))))) ≡ true
    by true large digit dash dot line h = refl
    by false true digit dash dot line h = refl
    by false false true dash dot line h = refl
    by false false false true dot line h = refl
    by false false false false true line h = refl
    by false false false false false line h = h

index_byte : (b : ℕ) → is_index_byte b ≡ true → is_name_byte b ≡ true
index_byte b h = by (is_word_byte b) refl h
  where
    by : (t : Bool) → is_word_byte b ≡ t → (t || eqb b 45) ≡ true → is_name_byte b ≡ true
    by true is h = word_byte b is
    by false is h = subst (λ (n : ℕ). is_name_byte n ≡ true) (sym (eqb-true b 45 h)) refl

-- bytes of a name, one at least, are a name where they are few
named_is : (bytes : List ℕ) → 1 ≤ length bytes → list_all is_name_byte bytes ≡ true → named_if bytes ≡ if_short bytes
named_is bytes some all = by (nat_le (length bytes) 26) refl
  where
    by : (b : Bool) → nat_le (length bytes) 26 ≡ b → named_if bytes ≡ if_short bytes
    by true is =
        let few : nat_le (length bytes) 32 ≡ true = le-leb (length bytes) 32 (omega (arith, leb-true _ _ is)) in
        let name : is_name bytes ≡ true = and_from _ _ (le-leb 1 (length bytes) some) (and_from _ _ few all) in
        rw (is, name) refl
    by false is = rw is refl

pub plain_is : (v : List ℕ) → is_word v ≡ true → named_if v ≡ plain_of v
plain_is v word =
    let parts = and_parts (nat_le 1 (length v)) (list_all is_word_byte v) word in
    rw word (named_is v (leb-true _ _ parts.0) (all_weaker is_word_byte is_name_byte word_byte v parts.1))

pub indexed_is : (v i : List ℕ) → is_word v ≡ true → is_index i ≡ true → named_if (v ++ 45 ∷ [] ++ i) ≡ indexed_of v i
indexed_is v i word index =
    let front = and_parts (nat_le 1 (length v)) (list_all is_word_byte v) word in
    let back = and_parts (nat_le 1 (length i)) (list_all is_index_byte i) index in
    let joined : v ++ 45 ∷ [] ++ i ≡ v ++ 45 ∷ i = append_assoc v (45 ∷ []) i in
    let all : list_all is_name_byte (v ++ 45 ∷ i) ≡ true =
    list_all-append is_name_byte v (45 ∷ i)
    ∙ and_from _ _ (all_weaker is_word_byte is_name_byte word_byte v front.1) (all_weaker is_index_byte is_name_byte index_byte i back.1) in
    let some : 1 ≤ length (v ++ 45 ∷ i) = omega (arith, length-append v (45 ∷ i)) in
    let value : named_if (v ++ 45 ∷ i) ≡ if_short (v ++ 45 ∷ i) = named_is (v ++ 45 ∷ i) some all in
    rw (word, index) (ap named_if joined ∙ value)

-- WHAT A VARIABLE GIVES

short_is : (bytes name : List ℕ) → if_short bytes ≡ Some name → (name ≡ bytes) × (length name ≤ 26)
short_is bytes name h = by (nat_le (length bytes) 26) refl
  where
    by : (b : Bool) → nat_le (length bytes) 26 ≡ b → (name ≡ bytes) × (length name ≤ 26)
    by true is =
        let some : Some bytes ≡ Some name = rw is at h in
        let same : name ≡ bytes = cc in
        (same, subst (λ (l : List ℕ). length l ≤ 26) (sym same) (leb-true _ _ is))
    by false is = absurd (let none : None ≡ Some name = rw is at h in cc)

short_again : (bytes : List ℕ) → length bytes ≤ 26 → if_short bytes ≡ Some bytes
short_again bytes few = rw (le-leb (length bytes) 26 few) refl

word_is : (v : List ℕ) → is_word v ≡ true → IsWord v
word_is v h = let parts = and_parts (nat_le 1 (length v)) (list_all is_word_byte v) h in (leb-true _ _ parts.0, parts.1)

index_is : (i : List ℕ) → is_index i ≡ true → IsIndex i
index_is i h = let parts = and_parts (nat_le 1 (length i)) (list_all is_index_byte i) h in (leb-true _ _ parts.0, parts.1)

word_again : (v : List ℕ) → IsWord v → is_word v ≡ true
word_again v h = and_from _ _ (le-leb 1 (length v) h.0) h.1

index_again : (i : List ℕ) → IsIndex i → is_index i ≡ true
index_again i h = and_from _ _ (le-leb 1 (length i) h.0) h.1

plain_given : (v name : List ℕ) → plain_of v ≡ Some name → IsObjectName v name
plain_given v name h = by (is_word v) refl
  where
    by : (b : Bool) → is_word v ≡ b → IsObjectName v name
    by true is =
        let few : if_short v ≡ Some name = rw is at h in
        let name_is = short_is v name few in
        record { given = IsGiven.plain (word_is v is) name_is.0; short = name_is.1 }
    by false is = absurd (let none : None ≡ Some name = rw is at h in cc)

indexed_given : (variable v i name : List ℕ) → variable ≡ v ++ 40 ∷ (i ++ 41 ∷ []) → indexed_of v i ≡ Some name → IsObjectName variable name
indexed_given variable v i name text h = by (is_word v && is_index i) refl
  where
    by : (b : Bool) → (is_word v && is_index i) ≡ b → IsObjectName variable name
    by true is =
        let parts = and_parts (is_word v) (is_index i) is in
        let few : if_short (v ++ 45 ∷ i) ≡ Some name = rw is at h in
        let name_is = short_is (v ++ 45 ∷ i) name few in
        record {
          given = IsGiven.indexed v i (word_is v parts.0) (index_is i parts.1) (text ∙ sym (append_assoc v (40 ∷ i) (41 ∷ []))) name_is.0;
          short = name_is.1;
        }
    by false is = absurd (let none : None ≡ Some name = rw is at h in cc)

empty_is : (xs : List ℕ) → eqb (length xs) 0 ≡ true → xs ≡ []
empty_is [] h = refl
empty_is (x ∷ xs) h = absurd (let e : length (x ∷ xs) ≡ 0 = eqb-true _ _ h in omega arith)

closed_given : (variable v rest name : List ℕ) (o : Option (List ℕ × List ℕ)) → variable ≡ v ++ 40 ∷ rest → parted_at 41 rest ≡ o → closed_of v o ≡ Some name → IsObjectName variable name
closed_given variable v rest name None text is h = absurd cc
closed_given variable v rest name (Some parts) text is h = by (eqb (length parts.1) 0) refl
  where
    by : (b : Bool) → eqb (length parts.1) 0 ≡ b → IsObjectName variable name
    by true empty =
        let read : indexed_of v parts.0 ≡ Some name = rw empty at h in
        let inner : rest ≡ parts.0 ++ 41 ∷ [] = parted_is 41 rest parts is ∙ ap (λ (l : List ℕ). parts.0 ++ 41 ∷ l) (empty_is parts.1 empty) in
        indexed_given variable v parts.0 name (text ∙ ap (λ (l : List ℕ). v ++ 40 ∷ l) inner) read
    by false empty = absurd (let none : None ≡ Some name = rw empty at h in cc)

named_given : (variable name : List ℕ) (o : Option (List ℕ × List ℕ)) → parted_at 40 variable ≡ o → named_of variable o ≡ Some name → IsObjectName variable name
named_given variable name None is h = plain_given variable name h
named_given variable name (Some parts) is h = closed_given variable parts.0 parts.1 name (parted_at 41 parts.1) (parted_is 40 variable parts is) refl h

given_is : (variable name : List ℕ) → object_name_of variable ≡ Some name → IsObjectName variable name
unfolding object_name_of
given_is variable name h = named_given variable name (parted_at 40 variable) refl h

plain_again : (variable name : List ℕ) → IsWord variable → name ≡ variable → length name ≤ 26 → named_of variable (parted_at 40 variable) ≡ Some name
plain_again variable name word is few =
    let none : parted_at 40 variable ≡ None = ap (option_map _) (position_none (λ b. eqb b 40) variable (others is_word_byte 40 refl variable word.1)) in
    let short_name : length variable ≤ 26 = subst (λ (l : List ℕ). length l ≤ 26) is few in
    ap (named_of variable) none ∙ rw (word_again variable word) (short_again variable short_name) ∙ ap (λ (l : List ℕ). Some l) (sym is)

indexed_again : (variable name v i : List ℕ) → IsWord v → IsIndex i → variable ≡ v ++ 40 ∷ i ++ 41 ∷ [] → name ≡ v ++ 45 ∷ i → length name ≤ 26
    → named_of variable (parted_at 40 variable) ≡ Some name
indexed_again variable name v i word index text is few =
    let outer : parted_at 40 (v ++ 40 ∷ (i ++ 41 ∷ [])) ≡ Some (v, i ++ 41 ∷ []) = parted_again 40 v (i ++ 41 ∷ []) (others is_word_byte 40 refl v word.1) in
    let inner : parted_at 41 (i ++ 41 ∷ []) ≡ Some (i, []) = parted_again 41 i [] (others is_index_byte 41 refl i index.1) in
    let short_name : length (v ++ 45 ∷ i) ≤ 26 = subst (λ (l : List ℕ). length l ≤ 26) is few in
    ap object_named (text ∙ append_assoc v (40 ∷ i) (41 ∷ []))
    ∙ ap (named_of (v ++ 40 ∷ (i ++ 41 ∷ []))) outer
    ∙ ap (closed_of v) inner
    ∙ rw (word_again v word, index_again i index) (short_again (v ++ 45 ∷ i) short_name)
    ∙ ap (λ (l : List ℕ). Some l) (sym is)
  where
    object_named : List ℕ → Option (List ℕ)
    object_named l = named_of l (parted_at 40 l)

named_again : (variable name : List ℕ) → IsGiven variable name → length name ≤ 26 → named_of variable (parted_at 40 variable) ≡ Some name
named_again variable name (IsGiven.plain word is) few = plain_again variable name word is few
named_again variable name (IsGiven.indexed v i word index text is) few = indexed_again variable name v i word index text is few

given_again : (variable name : List ℕ) → IsObjectName variable name → object_name_of variable ≡ Some name
unfolding object_name_of
given_again variable name h = named_again variable name h.given h.short

pub name_exact : (variable name : List ℕ) → (object_name_of variable ≡ Some name) ↔ IsObjectName variable name
name_exact variable name = (given_is variable name, given_again variable name)

-- a name that a variable gives has the form of an object's name
pub has_form : (numbered variable name : List ℕ) → IsObjectName variable name → HasForm numbered name
has_form numbered variable name h = record { short = h.short; asked = by h.given }
  where
    by : IsGiven variable name → IsAskedName numbered name
    by (IsGiven.plain word is) = IsAskedName.plain (subst IsWord (sym is) word)
    by (IsGiven.indexed v i word index text is) = IsAskedName.indexed v i word index is

-- NUMBERED NAMES

prefix_is : (of : Numbered) → codes "tb." ++ numbered_letter of ≡ numbered_prefix of
prefix_is Node = refl
prefix_is Link = refl

prefix_bytes : (of : Numbered) → list_all is_name_byte (numbered_prefix of) ≡ true
prefix_bytes Node = refl
prefix_bytes Link = refl

prefix_length : (of : Numbered) → length (numbered_prefix of) ≡ 4
prefix_length Node = refl
prefix_length Link = refl

pub numbered_short : (of : Numbered) (k : ℕ) → k < 2 ^ 16 → length (numbered_name_of of k) ≤ 26
numbered_short of k fits =
    let few : length (decimal k) ≤ 5 = length-decimal-le 5 k (omega arith) (omega arith) (omega arith) in
    omega (arith, length-append (numbered_prefix of) (decimal k), prefix_length of)

pub numbered_is : (of : Numbered) (k : ℕ) → k < 2 ^ 16 → named_if (codes "tb." ++ numbered_letter of ++ decimal k) ≡ Some (numbered_name_of of k)
numbered_is of k fits =
    let name = numbered_name_of of k in
    let digits : list_all is_name_byte (decimal k) ≡ true = all_weaker is_ascii_digit is_name_byte digit_named (decimal k) (digits_decimal own k (omega arith)) in
    let all : list_all is_name_byte name ≡ true = list_all-append is_name_byte (numbered_prefix of) (decimal k) ∙ and_from _ _ (prefix_bytes of) digits in
    let some : 1 ≤ length name = omega (arith, length-append (numbered_prefix of) (decimal k), prefix_length of) in
    ap (λ (l : List ℕ). named_if (l ++ decimal k)) (prefix_is of) ∙ named_is name some all ∙ short_again name (numbered_short of k fits)
