-- Numbers of a range that are not among some of it.
use Rattle.std.specs.List.{list_any, count_by, range_with_len, flat_map}
use Rattle.std.proofs.Common.{◌≡◌, inl, inr, ℕ, zero, suc, ◌+◌, ◌<◌, ◌≤◌, ◌||◌, ◌==◌, Bool, false, not, cond, List, [], ◌∷◌, length, refl, sym, ap, ◌∙◌, arith}
use Rattle.std.proofs.lemmas.Bool.{cases_eq, eq-eqb, ne_eqb}
use Rattle.std.proofs.lemmas.List.Folds.{list_any-append}
use Rattle.std.proofs.lemmas.List.Sums.{sum_by-cons}
use Rattle.lab_base.specs.Lists.{Has, AllDiffer}
use Rattle.claims.specs.Held.{is_in}
use Rattle.claims.proofs.Entries.{out_if}

-- how many of them pass, by the first
abbrev weight : Bool → ℕ
weight b = cond b 1 0

count_cons : (p : ℕ → Bool) (x : ℕ) (xs : List ℕ) → count_by p (x ∷ xs) ≡ weight (p x) + count_by p xs
count_cons p x xs = sum_by-cons (λ y. cond (p y) 1 0) x xs

-- another number out makes no difference where it isn't
count_missed : (q : ℕ → Bool) (x a n : ℕ) → x < a → count_by (λ id. not ((x == id) || q id)) (range_with_len a n) ≡ count_by (λ id. not (q id)) (range_with_len a n)
count_missed q x a zero h = refl
count_missed q x a (suc n) h =
    count_cons (λ id. not ((x == id) || q id)) a (range_with_len (a + 1) n)
    ∙ (λ i. weight (not (ne_eqb x a (λ e. omega (arith, h, e)) i || q a)) + count_missed q x (a + 1) n (omega (arith, h)) i)
    ∙ sym (count_cons (λ id. not (q id)) a (range_with_len (a + 1) n))

-- and one less where it is
count_less : (q : ℕ → Bool) (x a n : ℕ) → a ≤ x → x < a + n → q x ≡ false → count_by (λ id. not ((x == id) || q id)) (range_with_len a n) + 1 ≡ count_by (λ id. not (q id)) (range_with_len a n)
count_less q x a zero low high free = absurd (omega (arith, low, high))
count_less q x a (suc n) low high free = elim (cases_eq x a) [
  | inl same ↦
      let out : weight (not ((x == a) || q a)) ≡ 0 = ap (λ b. weight (not (b || q a))) (eq-eqb x a same) in
      let one : weight (not (q a)) ≡ 1 = ap (λ m. weight (not (q m))) (sym same) ∙ ap (λ b. weight (not b)) free in
      omega (arith, count_cons (λ id. not ((x == id) || q id)) a (range_with_len (a + 1) n), count_cons (λ id. not (q id)) a (range_with_len (a + 1) n), out, one, count_missed q x (a + 1) n (omega (arith, same)))
  | inr apart ↦
      let head : weight (not ((x == a) || q a)) ≡ weight (not (q a)) = ap (λ b. weight (not (b || q a))) (ne_eqb x a apart) in
      omega (arith, count_cons (λ id. not ((x == id) || q id)) a (range_with_len (a + 1) n), count_cons (λ id. not (q id)) a (range_with_len (a + 1) n), head, count_less q x (a + 1) n (omega (arith, low, apart)) (omega (arith, high)) free)
]

all_in : (a n : ℕ) → count_by (λ id. not (is_in id [])) (range_with_len a n) ≡ n
all_in a zero = refl
all_in a (suc n) = omega (arith, count_cons (λ id. not (is_in id [])) a (range_with_len (a + 1) n), all_in (a + 1) n)

-- NUMBERS OF A RANGE THAT DIFFER, and the rest of it, are the whole range
pub rest_of_range : (taken : List ℕ) (a n : ℕ) → AllDiffer taken → ((x : ℕ) → Has taken x → (a ≤ x) × (x < a + n)) → count_by (λ id. not (is_in id taken)) (range_with_len a n) + length taken ≡ n
rest_of_range [] a n differ within = omega (arith, all_in a n)
rest_of_range (x ∷ taken) a n differ within =
    let here = within x (inl refl) in
    omega (arith, count_less (λ id. is_in id taken) x a n here.0 here.1 (out_if x taken (λ h. differ.0 x h refl)), rest_of_range taken a n differ.1 (λ y h. within y (inr h)))

-- a number among the numbers of some
pub in_flat : {X : Type 0} (f : X → List ℕ) (xs : List X) (n : ℕ) → list_any (λ x. is_in n (f x)) xs ≡ is_in n (flat_map f xs)
in_flat f [] n = refl
in_flat f (x ∷ xs) n = ap (λ b. is_in n (f x) || b) (in_flat f xs n) ∙ sym (list_any-append (λ m. m == n) (f x) (flat_map f xs))
