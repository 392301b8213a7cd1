-- Entries that are taken out of a list or put into it, and names.
use Rattle.std.proofs.Common.{◌≡◌, ℕ, Bool, true, false, not, cond, ◌||◌, List, [], ◌∷◌, ◌++◌, Option, Some, None, refl, sym, ap, ◌∙◌}
use Rattle.std.specs.List.{find, list_any}
use Rattle.std.specs.Str.{bytes_eq}
use Rattle.lab_base.proofs.Bytes.{bytes_same}
use Rattle.plant_file.specs.declared.entry.Entry.{Entry}
use Rattle.plant_file.specs.Entries.{without}

abbrev pub Test : Type 0
Test = Entry → Bool

-- LISTS OF WHICH SOME ENTRIES ARE TAKEN OUT

-- the entries that pass one test don't pass another
abbrev pub Apart : Test → Test → Type 0
Apart p q = (entry : Entry) → p entry ≡ true → q entry ≡ false

-- those that pass one test pass another
abbrev pub Within : Test → Test → Type 0
Within p q = (entry : Entry) → p entry ≡ true → q entry ≡ true

pub any_apart : (p q : Test) → Apart p q → (entries : List Entry) → list_any p (without q entries) ≡ list_any p entries
any_apart p q apart [] = refl
any_apart p q apart (x ∷ xs) = by (p x) refl (q x) refl (any_apart p q apart xs)
  where
    by : (a : Bool) → p x ≡ a → (b : Bool) → q x ≡ b → list_any p (without q xs) ≡ list_any p xs → list_any p (without q (x ∷ xs)) ≡ list_any p (x ∷ xs)
    by a is false out rest = ap (λ (c : Bool). list_any p (cond (not c) (x ∷ without q xs) (without q xs))) out ∙ ap (λ (c : Bool). p x || c) rest
    by false is true out rest = ap (λ (c : Bool). list_any p (cond (not c) (x ∷ without q xs) (without q xs))) out ∙ rest ∙ sym (ap (λ (c : Bool). c || list_any p xs) is)
    by true is true out rest = absurd (let never : true ≡ false = sym out ∙ apart x is in cc never)

pub any_within : (p q : Test) → Within p q → (entries : List Entry) → list_any p (without q entries) ≡ false
any_within p q within [] = refl
any_within p q within (x ∷ xs) = by (p x) refl (q x) refl (any_within p q within xs)
  where
    by : (a : Bool) → p x ≡ a → (b : Bool) → q x ≡ b → list_any p (without q xs) ≡ false → list_any p (without q (x ∷ xs)) ≡ false
    by a is true out rest = ap (λ (c : Bool). list_any p (cond (not c) (x ∷ without q xs) (without q xs))) out ∙ rest
    by false is false out rest = ap (λ (c : Bool). list_any p (cond (not c) (x ∷ without q xs) (without q xs))) out ∙ ap (λ (c : Bool). c || list_any p (without q xs)) is ∙ rest
    by true is false out rest = absurd (let never : true ≡ false = sym (within x is) ∙ out in cc never)

pub find_apart : (p q : Test) → Apart p q → (entries : List Entry) → find p (without q entries) ≡ find p entries
find_apart p q apart [] = refl
find_apart p q apart (x ∷ xs) = by (p x) refl (q x) refl (find_apart p q apart xs)
  where
    by : (a : Bool) → p x ≡ a → (b : Bool) → q x ≡ b → find p (without q xs) ≡ find p xs → find p (without q (x ∷ xs)) ≡ find p (x ∷ xs)
    by a is false out rest = ap (λ (c : Bool). find p (cond (not c) (x ∷ without q xs) (without q xs))) out ∙ ap (λ (o : Option Entry). cond (p x) (Some x) o) rest
    by false is true out rest = ap (λ (c : Bool). find p (cond (not c) (x ∷ without q xs) (without q xs))) out ∙ rest ∙ sym (ap (λ (c : Bool). cond c (Some x) (find p xs)) is)
    by true is true out rest = absurd (let never : true ≡ false = sym out ∙ apart x is in cc never)

pub find_within : (p q : Test) → Within p q → (entries : List Entry) → find p (without q entries) ≡ None
find_within p q within [] = refl
find_within p q within (x ∷ xs) = by (p x) refl (q x) refl (find_within p q within xs)
  where
    by : (a : Bool) → p x ≡ a → (b : Bool) → q x ≡ b → find p (without q xs) ≡ None → find p (without q (x ∷ xs)) ≡ None
    by a is true out rest = ap (λ (c : Bool). find p (cond (not c) (x ∷ without q xs) (without q xs))) out ∙ rest
    by false is false out rest = ap (λ (c : Bool). find p (cond (not c) (x ∷ without q xs) (without q xs))) out ∙ ap (λ (c : Bool). cond c (Some x) (find p (without q xs))) is ∙ rest
    by true is false out rest = absurd (let never : true ≡ false = sym (within x is) ∙ out in cc never)

-- an entry after them that is missed, or found
pub find_missed : (p : Test) (entries : List Entry) (entry : Entry) → p entry ≡ false → find p (entries ++ entry ∷ []) ≡ find p entries
find_missed p [] entry differs = ap (λ (c : Bool). cond c (Some entry) None) differs
find_missed p (x ∷ xs) entry differs = ap (λ (o : Option Entry). cond (p x) (Some x) o) (find_missed p xs entry differs)

pub find_found : (p : Test) (entries : List Entry) (entry : Entry) → find p entries ≡ None → p entry ≡ true → find p (entries ++ entry ∷ []) ≡ Some entry
find_found p [] entry none agrees = ap (λ (c : Bool). cond c (Some entry) None) agrees
find_found p (x ∷ xs) entry none agrees = by (p x) refl (λ gone. find_found p xs entry gone agrees)
  where
    by : (a : Bool) → p x ≡ a → (find p xs ≡ None → find p (xs ++ entry ∷ []) ≡ Some entry) → find p ((x ∷ xs) ++ entry ∷ []) ≡ Some entry
    by true is later = absurd (let found : Some x ≡ None = sym (ap (λ (c : Bool). cond c (Some x) (find p xs)) is) ∙ none in cc found)
    by false is later =
        ap (λ (c : Bool). cond c (Some x) (find p (xs ++ entry ∷ []))) is
        ∙ later (sym (ap (λ (c : Bool). cond c (Some x) (find p xs)) is) ∙ none)

-- NAMES

-- two names that differ stay so when turned round, or when one of them is told of by a third
pub differ : (a b c : List ℕ) → bytes_eq a b ≡ false → bytes_eq c a ≡ true → bytes_eq c b ≡ false
differ a b c differs agrees = ap (λ (n : List ℕ). bytes_eq n b) (bytes_same c a agrees) ∙ differs
