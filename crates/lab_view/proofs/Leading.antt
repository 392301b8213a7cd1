-- A number that is more than half of a list.
use Rattle.std.proofs.Common.{◌≡◌, inl, inr, ℕ, ◌+◌, ◌<◌, ◌≤◌, ◌==◌, Bool, true, false, cond, List, [], ◌∷◌, length, get_or, Some, refl, sym, ap, ◌∙◌, arith}
use Rattle.std.specs.Prelude.{◌/◌, nat_le, nat_lt, find, slice_get}
use Rattle.std.proofs.lemmas.Bool.{cases_eq, eq-eqb, le-leb, ltb-true, ne_eqb}
use Rattle.std.proofs.lemmas.List.Sums.{sum_by-cons}
use Rattle.lab_base.proofs.Members.{all_from}
use Rattle.lab_view.specs.Views.{is_most, times}

abbrev one_if : Bool → ℕ
one_if b = cond b 1 0

times_more : (n x : ℕ) (xs : List ℕ) → times n (x ∷ xs) ≡ one_if (x == n) + times n xs
times_more n x xs = sum_by-cons (λ m. one_if (m == n)) x xs

-- an item is one number or the other
at_most_one : (m n x : ℕ) → (m ≡ n → ⊥) → one_if (x == m) + one_if (x == n) ≤ 1
at_most_one m n x apart = elim (cases_eq x m) [
  | inl same ↦ omega (arith, ap one_if (eq-eqb x m same), ap one_if (ne_eqb x n (λ e. apart (sym same ∙ e))))
  | inr other ↦ omega (arith, ap one_if (ne_eqb x m other), small (x == n))
]
  where
    small : (b : Bool) → one_if b ≤ 1
    small true = omega arith
    small false = omega arith

-- together two numbers stand at most as often as there are items
pub times_apart : (m n : ℕ) (xs : List ℕ) → (m ≡ n → ⊥) → times m xs + times n xs ≤ length xs
times_apart m n [] apart = omega arith
times_apart m n (x ∷ xs) apart = omega (arith, times_more m x xs, times_more n x xs, at_most_one m n x apart, times_apart m n xs apart)

-- it stands most often
pub leads_most : (n : ℕ) (xs : List ℕ) → length xs < times n xs + times n xs → is_most xs n ≡ true
leads_most n xs more = all_from (λ m. nat_le (times m xs) (times n xs)) xs (λ m has. le-leb (times m xs) (times n xs) (by m))
  where
    by : (m : ℕ) → times m xs ≤ times n xs
    by m = elim (cases_eq m n) [
      | inl same ↦ omega (arith, ap (λ (k : ℕ). times k xs) same)
      | inr apart ↦ omega (arith, times_apart m n xs apart, more)
    ]

-- and where it is the first, it is found
pub leads_first : (x : ℕ) (xs : List ℕ) → length (x ∷ xs) < times x (x ∷ xs) + times x (x ∷ xs) → find (is_most (x ∷ xs)) (x ∷ xs) ≡ Some x
leads_first x xs more = ap (λ (b : Bool). cond b (Some x) (find (is_most (x ∷ xs)) xs)) (leads_most x (x ∷ xs) more)

pub leads_front : (xs : List ℕ) → nat_lt (length xs / 2) (times (get_or xs 0 0) xs) ≡ true → find (is_most xs) xs ≡ slice_get xs 0
leads_front [] more = refl
leads_front (x ∷ xs) more = leads_first x xs (half (length (x ∷ xs)) (times x (x ∷ xs)) (ltb-true _ _ more))
  where
    half : (n t : ℕ) → n / 2 < t → n < t + t
    half n t lt = omega (arith, lt)
