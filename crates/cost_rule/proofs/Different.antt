-- How many are different, where one stands among others.
use Rattle.std.proofs.Common.{◌≡◌, ◌+◌, ◌≤◌, ◌∙◌, ℕ, List, [], ◌∷◌, ◌++◌, Bool, true, false, cond, ◌||◌, refl, sym, ap, arith}
use Rattle.std.specs.Bool.{Decides}
use Rattle.std.specs.List.{list_any}
use Rattle.lab_base.proofs.Tests.{or_swapped}
use Rattle.cost_rule.specs.Cost.{different}

abbrev pub new_if : Bool → ℕ
new_if b = cond b 0 1

-- one more counts where it isn't among them
pub different_cons : {X : Type 0} (same : X → X → Bool) (x : X) (xs : List X) → different same (x ∷ xs) ≡ different same xs + new_if (list_any (same x) xs)
different_cons same x xs = by (list_any (same x) xs)
  where
    by : (b : Bool) → cond b (different same xs) (different same xs + 1) ≡ different same xs + new_if b
    by true = omega arith
    by false = refl

pub any_within : {X : Type 0} (same : X → X → Bool) (xs ys : List X) (x y : X) → list_any (same x) (xs ++ y ∷ ys) ≡ (same x y || list_any (same x) (xs ++ ys))
any_within same [] ys x y = refl
any_within same (z ∷ xs) ys x y = ap (λ (b : Bool). same x z || b) (any_within same xs ys x y) ∙ or_swapped (same x z) (same x y) (list_any (same x) (xs ++ ys))

-- where the test tells equal ones, those that differ differ both ways
turned_false : {X : Type 0} (same : X → X → Bool) → ((a b : X) → Decides (same a b) (a ≡ b)) → (x y : X) → same x y ≡ false → same y x ≡ false
turned_false same decides x y apart = by (same y x) refl
  where
    by : (b : Bool) → same y x ≡ b → b ≡ false
    by false is = refl
    by true is = let other : same x y ≡ true = (decides x y).1 (sym ((decides y x).0 is)) in absurd (cc (other, apart))

-- one in the middle counts as one in front
pub within : {X : Type 0} (same : X → X → Bool) → ((a b : X) → Decides (same a b) (a ≡ b)) → (xs ys : List X) (y : X)
    → different same (xs ++ y ∷ ys) ≡ different same (xs ++ ys) + new_if (list_any (same y) (xs ++ ys))
within same decides [] ys y = different_cons same y ys
within same decides (x ∷ xs) ys y =
    by (same x y) refl (within same decides xs ys y) (different_cons same x (xs ++ y ∷ ys)) (different_cons same x (xs ++ ys)) (ap new_if (any_within same xs ys x y))
  where
    by : (b : Bool) → same x y ≡ b
        → different same (xs ++ y ∷ ys) ≡ different same (xs ++ ys) + new_if (list_any (same y) (xs ++ ys))
        → different same (x ∷ (xs ++ y ∷ ys)) ≡ different same (xs ++ y ∷ ys) + new_if (list_any (same x) (xs ++ y ∷ ys))
        → different same (x ∷ (xs ++ ys)) ≡ different same (xs ++ ys) + new_if (list_any (same x) (xs ++ ys))
        → new_if (list_any (same x) (xs ++ y ∷ ys)) ≡ new_if (same x y || list_any (same x) (xs ++ ys))
        → different same (x ∷ (xs ++ y ∷ ys)) ≡ different same (x ∷ (xs ++ ys)) + new_if (same y x || list_any (same y) (xs ++ ys))
    by true is later whole part any =
        let equal : x ≡ y = (decides x y).0 is in
        let here : ◌≡◌ {A = ℕ} (new_if (same x y || list_any (same x) (xs ++ ys))) 0 = ap (λ (b : Bool). new_if (b || list_any (same x) (xs ++ ys))) is in
        let there : ◌≡◌ {A = ℕ} (new_if (same y x || list_any (same y) (xs ++ ys))) 0 = ap (λ (b : Bool). new_if (b || list_any (same y) (xs ++ ys))) ((decides y x).1 (sym equal)) in
        let alike : ◌≡◌ {A = ℕ} (new_if (list_any (same x) (xs ++ ys))) (new_if (list_any (same y) (xs ++ ys))) = ap (λ z. new_if (list_any (same z) (xs ++ ys))) equal in
        omega (arith, later, whole, part, any, here, there, alike)
    by false is later whole part any =
        let here : ◌≡◌ {A = ℕ} (new_if (same x y || list_any (same x) (xs ++ ys))) (new_if (list_any (same x) (xs ++ ys))) = ap (λ (b : Bool). new_if (b || list_any (same x) (xs ++ ys))) is in
        let there : ◌≡◌ {A = ℕ} (new_if (same y x || list_any (same y) (xs ++ ys))) (new_if (list_any (same y) (xs ++ ys))) = ap (λ (b : Bool). new_if (b || list_any (same y) (xs ++ ys))) (turned_false same decides x y is) in
        omega (arith, later, whole, part, any, here, there)

-- ONE IN THE PLACE OF ANOTHER: each counts where the other one stands and none is equal to it
pub replaced : {X : Type 0} (same : X → X → Bool) → ((a b : X) → Decides (same a b) (a ≡ b)) → (xs ys : List X) (a b : X)
    → different same (xs ++ b ∷ ys) + new_if (list_any (same a) (xs ++ b ∷ ys)) ≡ different same (xs ++ a ∷ ys) + new_if (list_any (same b) (xs ++ a ∷ ys))
replaced same decides xs ys a b = by (same a b) refl
  where
    by : (t : Bool) → same a b ≡ t → different same (xs ++ b ∷ ys) + new_if (list_any (same a) (xs ++ b ∷ ys)) ≡ different same (xs ++ a ∷ ys) + new_if (list_any (same b) (xs ++ a ∷ ys))
    by true is = let equal : a ≡ b = (decides a b).0 is in (λ j. different same (xs ++ sym equal j ∷ ys) + new_if (list_any (same (equal j)) (xs ++ sym equal j ∷ ys)))
    by false is =
        let old = within same decides xs ys a in
        let new = within same decides xs ys b in
        let first : ◌≡◌ {A = ℕ} (new_if (list_any (same a) (xs ++ b ∷ ys))) (new_if (list_any (same a) (xs ++ ys))) =
        ap new_if (any_within same xs ys a b ∙ ap (λ (t : Bool). t || list_any (same a) (xs ++ ys)) is) in
        let second : ◌≡◌ {A = ℕ} (new_if (list_any (same b) (xs ++ a ∷ ys))) (new_if (list_any (same b) (xs ++ ys))) =
        ap new_if (any_within same xs ys b a ∙ ap (λ (t : Bool). t || list_any (same b) (xs ++ ys)) (turned_false same decides a b is)) in
        omega (arith, old, new, first, second)

-- some are different where there are some
pub some_different : {X : Type 0} (same : X → X → Bool) (xs ys : List X) (y : X) → 1 ≤ different same (xs ++ y ∷ ys)
some_different same [] ys y = front same y ys
  where
    front : {X : Type 0} (same : X → X → Bool) (x : X) (xs : List X) → 1 ≤ different same (x ∷ xs)
    front same x [] = omega arith
    front same x (z ∷ xs) = let rest = front same z xs in let step = different_cons same x (z ∷ xs) in omega (arith, rest, step)
some_different same (x ∷ xs) ys y = let rest = some_different same xs ys y in let step = different_cons same x (xs ++ y ∷ ys) in omega (arith, rest, step)
