-- No name stands twice: one element more, one changed, one named anew.
use Rattle.std.proofs.Common.{◌≡◌, ℕ, zero, suc, Bool, true, false, List, [], ◌∷◌, ◌++◌, refl, sym, ap, subst, ◌∙◌}
use Rattle.std.specs.Prelude.{◌||◌}
use Rattle.std.specs.List.{list_any}
use Rattle.std.proofs.lemmas.Bool.{or_from}
use Rattle.lab_base.specs.Names.{same_name}
use Rattle.lab_base.proofs.Bytes.{bytes_self, bytes_same}
use Rattle.lab_base.proofs.Tests.{or_first, or_rest}
use Rattle.virt_topo.specs.Repeats.{stands_again}
use Rattle.ns_build.specs.Networks.{changed_at}
use Rattle.ns_build.proofs.Elements.{none_push}

-- the order of two names is nothing to the test
pub same_turned : (a b : List ℕ) → same_name a b ≡ false → same_name b a ≡ false
same_turned a b h = by (same_name b a) refl
  where
    by : (t : Bool) → same_name b a ≡ t → t ≡ false
    by false e = refl
    by true e = sym (bytes_self a) ∙ subst (λ (l : List ℕ). same_name a l ≡ false) (bytes_same b a e) h

module _ {X : Type 0} (same : X → X → Bool) where
  -- one element more
  pub again_push : (xs : List X) (x : X) → stands_again same xs ≡ false → list_any (λ y. same y x) xs ≡ false → stands_again same (xs ++ x ∷ []) ≡ false
  again_push [] x h e = refl
  again_push (y ∷ ys) x h e =
      or_from (list_any (same y) (ys ++ x ∷ [])) (stands_again same (ys ++ x ∷ []))
      (none_push (same y) ys x (or_first (list_any (same y) ys) (stands_again same ys) h) (or_first (same y x) (list_any (λ z. same z x) ys) e))
      (again_push ys x (or_rest (list_any (same y) ys) (stands_again same ys) h) (or_rest (same y x) (list_any (λ z. same z x) ys) e))

  module _ (f : X → X) (left : (x y : X) → same (f x) y ≡ same x y) (right : (x y : X) → same x (f y) ≡ same x y) where
    any_kept : (x : X) (k : ℕ) (xs : List X) → list_any (same x) (changed_at f k xs) ≡ list_any (same x) xs
    any_kept x k [] = refl
    any_kept x zero (y ∷ ys) = ap (λ (b : Bool). b || list_any (same x) ys) (right x y)
    any_kept x (suc k) (y ∷ ys) = ap (λ (b : Bool). same x y || b) (any_kept x k ys)

    any_moved : (x : X) (xs : List X) → list_any (same (f x)) xs ≡ list_any (same x) xs
    any_moved x [] = refl
    any_moved x (y ∷ ys) = ap (λ (b : Bool). b || list_any (same (f x)) ys) (left x y) ∙ ap (λ (b : Bool). same x y || b) (any_moved x ys)

    -- one changed in what is nothing to the test
    pub again_kept : (k : ℕ) (xs : List X) → stands_again same (changed_at f k xs) ≡ stands_again same xs
    again_kept k [] = refl
    again_kept zero (x ∷ xs) = ap (λ (b : Bool). b || stands_again same xs) (any_moved x xs)
    again_kept (suc k) (x ∷ xs) =
        ap (λ (b : Bool). b || stands_again same (changed_at f k xs)) (any_kept x k xs) ∙ ap (λ (b : Bool). list_any (same x) xs || b) (again_kept k xs)

module _ {X : Type 0} (name_of : X → List ℕ) (name : List ℕ) (f : X → X) (named : (x : X) → name_of (f x) ≡ name) where
  alike : X → X → Bool
  alike a b = same_name (name_of a) (name_of b)

  -- an element whose name is another than the new one
  none_named : (x : X) (k : ℕ) (xs : List X) → same_name name (name_of x) ≡ false → list_any (λ y. same_name (name_of x) (name_of y)) xs ≡ false
      → list_any (λ y. same_name (name_of x) (name_of y)) (changed_at f k xs) ≡ false
  none_named x k [] e h = refl
  none_named x zero (y ∷ ys) e h =
      or_from (same_name (name_of x) (name_of (f y))) (list_any (λ z. same_name (name_of x) (name_of z)) ys)
      (ap (same_name (name_of x)) (named y) ∙ same_turned name (name_of x) e)
      (or_rest (same_name (name_of x) (name_of y)) (list_any (λ z. same_name (name_of x) (name_of z)) ys) h)
  none_named x (suc k) (y ∷ ys) e h =
      or_from (same_name (name_of x) (name_of y)) (list_any (λ z. same_name (name_of x) (name_of z)) (changed_at f k ys))
      (or_first (same_name (name_of x) (name_of y)) (list_any (λ z. same_name (name_of x) (name_of z)) ys) h)
      (none_named x k ys e (or_rest (same_name (name_of x) (name_of y)) (list_any (λ z. same_name (name_of x) (name_of z)) ys) h))

  -- one is named anew, as none is named
  pub again_named : (k : ℕ) (xs : List X) → list_any (λ x. same_name name (name_of x)) xs ≡ false → stands_again (λ a b. same_name (name_of a) (name_of b)) xs ≡ false
      → stands_again (λ a b. same_name (name_of a) (name_of b)) (changed_at f k xs) ≡ false
  again_named k [] e h = refl
  again_named zero (x ∷ xs) e h =
      let same : X → X → Bool = λ a b. same_name (name_of a) (name_of b) in
      or_from (list_any (same (f x)) xs) (stands_again same xs)
      (subst (λ (l : List ℕ). list_any (λ y. same_name l (name_of y)) xs ≡ false) (sym (named x)) (or_rest (same_name name (name_of x)) (list_any (λ y. same_name name (name_of y)) xs) e))
      (or_rest (list_any (same x) xs) (stands_again same xs) h)
  again_named (suc k) (x ∷ xs) e h =
      let same : X → X → Bool = λ a b. same_name (name_of a) (name_of b) in
      or_from (list_any (same x) (changed_at f k xs)) (stands_again same (changed_at f k xs))
      (none_named x k xs (or_first (same_name name (name_of x)) (list_any (λ y. same_name name (name_of y)) xs) e) (or_first (list_any (same x) xs) (stands_again same xs) h))
      (again_named k xs (or_rest (same_name name (name_of x)) (list_any (λ y. same_name name (name_of y)) xs) e) (or_rest (list_any (same x) xs) (stands_again same xs) h))
