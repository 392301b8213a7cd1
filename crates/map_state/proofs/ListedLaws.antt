-- The numbers of the ends on a node, those of each virtual node there taken together.
use Rattle.std.proofs.Common.{◌≡◌, ◌≢◌, ◌<◌, ◌≤◌, ◌+◌, ◌∙◌, ◌∷◌, ◌++◌, ◌==◌, ◌&&◌, [], inl, inr, ℕ, suc, List, length, map, get_or, Bool, true, false, cond, eqb, Option, Some, All, refl, ap, sym, arith}
use Rattle.std.specs.Prelude.{nat_lt, count_by, slice_get}
use Rattle.std.specs.Option.{option_map, option_map_or}
use Rattle.std.specs.List.Sorted.{IsPermutation, IsNonDecreasing, IsSorted}
use Rattle.std.specs.Ordering.{nat_cmp}
use Rattle.std.proofs.lemmas.Bool.{cases_eq, eq-eqb, ne_eqb}
use Rattle.std.proofs.lemmas.Bool.Decides.{nat_tests}
use Rattle.std.proofs.lemmas.Option.{slice_get-get_or, slice_get-map, slice_get_cases}
use Rattle.std.proofs.lemmas.List.Sorted.{IsNonDecreasingBy-from_sort, sum_by-IsPermutation}
use Rattle.std.proofs.lemmas.List.Sums.{sum_by-cons, sum_by-append}
use Rattle.lab_model.specs.Shapes.{Place}
use Rattle.lab_model.specs.Rules.{no_place}
use Rattle.node_maps.specs.declared.ends.End.{End}
use Rattle.map_state.specs.Nodes.{is_host, is_on, numbers_of}
use Rattle.map_state.proofs.OwnEnds.{numbers_rise}
use Rattle.map_state.proofs.WhereLaws.{numbers_alike}

-- how often a number stands in a list
abbrev pub times : ℕ → List ℕ → ℕ
times n xs = count_by (λ (x : ℕ). x == n) xs

-- the end is of a virtual node before virtual node v, whose host is node n
abbrev pub is_before : List ℕ → ℕ → ℕ → End → Bool
is_before hosts n v e = nat_lt e.node v && (get_or hosts e.node 0 == n)

abbrev one_if : Bool → ℕ
one_if b = cond b 1 0

times_cons : (n x : ℕ) (xs : List ℕ) → times n (x ∷ xs) ≡ one_if (eqb x n) + times n xs
times_cons n x xs = sum_by-cons (λ (y : ℕ). cond (eqb y n) 1 0) x xs

pub times_append : (n : ℕ) (xs ys : List ℕ) → times n (xs ++ ys) ≡ times n xs + times n ys
times_append n xs ys = sum_by-append (λ (y : ℕ). cond (eqb y n) 1 0) xs ys

one_same : (x : ℕ) → one_if (eqb x x) ≡ 1
one_same x = ap one_if (eq-eqb x x refl)

-- LISTS THAT ASCEND
-- a number that stands in a list is as large as each number that is at most those
no_less : (y n : ℕ) (xs : List ℕ) → All (λ (x : ℕ). y ≤ x) xs → 1 ≤ times n xs → y ≤ n
no_less y n [] low some = absurd (omega (arith, some))
no_less y n (x ∷ xs) low some =
    let step = times_cons n x xs in
    elim (cases_eq x n) [
      | inl is ↦ (let le : y ≤ x = low 0 0 (omega arith) in omega (arith, le, is))
      | inr apart ↦ (
          let none : ◌≡◌ {A = ℕ} (one_if (eqb x n)) 0 = ap one_if (ne_eqb x n apart) in
          no_less y n xs (λ k d lt. low (suc k) d (omega (arith, lt))) (omega (arith, step, none, some)))
    ]

first_least : (y : ℕ) (ys : List ℕ) → IsNonDecreasing (y ∷ ys) → All (λ (x : ℕ). y ≤ x) (y ∷ ys)
first_least y ys up k d lt = up 0 k d (omega arith) lt

-- two lists that ascend and have each number equally often are one
pub same_numbers : (xs ys : List ℕ) → IsNonDecreasing xs → IsNonDecreasing ys → ((n : ℕ) → times n xs ≡ times n ys) → xs ≡ ys
same_numbers [] [] up_x up_y same = refl
same_numbers [] (y ∷ ys) up_x up_y same =
    let here : 0 ≡ times y (y ∷ ys) = same y in
    let step = times_cons y y ys in
    let one = one_same y in
    absurd (omega (arith, here, step, one))
same_numbers (x ∷ xs) [] up_x up_y same =
    let here : times x (x ∷ xs) ≡ 0 = same x in
    let step = times_cons x x xs in
    let one = one_same x in
    absurd (omega (arith, here, step, one))
same_numbers (x ∷ xs) (y ∷ ys) up_x up_y same =
    let x_here = times_cons x x xs in
    let y_here = times_cons y y ys in
    let x_one = one_same x in
    let y_one = one_same y in
    let x_same = same x in
    let y_same = same y in
    let low = no_less y x (y ∷ ys) (first_least y ys up_y) (omega (arith, x_here, x_one, x_same)) in
    let high = no_less x y (x ∷ xs) (first_least x xs up_x) (omega (arith, y_here, y_one, y_same)) in
    let first : x ≡ y = omega (arith, low, high) in
    let rest = same_numbers xs ys (λ i j d le lt. up_x (suc i) (suc j) d (omega (arith, le)) (omega (arith, lt))) (λ i j d le lt. up_y (suc i) (suc j) d (omega (arith, le)) (omega (arith, lt)))
    (λ n.
    let all = same n in
    let one = times_cons n x xs in
    let other = times_cons n y ys in
    let head : ◌≡◌ {A = ℕ} (one_if (eqb x n)) (one_if (eqb y n)) = ap (λ (k : ℕ). one_if (eqb k n)) first in
    omega (arith, all, one, other, head)) in
    (λ j. first j ∷ rest j)

-- the numbers of the ends that pass a test ascend
numbers_ascend : (p : End → Bool) (es : List End) → IsNonDecreasing (numbers_of 0 p es)
numbers_ascend p es i j d le lt =
    elim (cases_eq i j) [
      | inl is ↦ (let same = ap (λ (k : ℕ). get_or (numbers_of 0 p es) k d) is in omega (arith, same))
      | inr apart ↦ (let less = numbers_rise 0 p es i j d d (omega (arith, le, apart)) lt in omega (arith, less))
    ]

-- a list that is sorted and has the numbers of these ends
pub sorted_numbers : (p : End → Bool) (es : List End) (xs ys : List ℕ) → ((k : ℕ) → times k xs ≡ times k (numbers_of 0 p es)) → IsPermutation xs ys → IsSorted nat_cmp ys → ys ≡ numbers_of 0 p es
sorted_numbers p es xs ys same moved sorted =
    same_numbers ys (numbers_of 0 p es) (IsNonDecreasingBy-from_sort (λ (x : ℕ). x) ys sorted) (numbers_ascend p es)
    (λ n. sum_by-IsPermutation (λ (x : ℕ). cond (eqb x n) 1 0) xs ys moved ∙ same n)

-- THE ENDS OF TWO TESTS
pub times_parts : (i n : ℕ) (p q r : End → Bool) (es : List End) → ((k : ℕ) (d : End) → k < length es → one_if (r (get_or es k d)) ≡ one_if (p (get_or es k d)) + one_if (q (get_or es k d)))
    → times i (numbers_of n r es) ≡ times i (numbers_of n p es) + times i (numbers_of n q es)
times_parts i n p q r [] parts = refl
times_parts i n p q r (e ∷ es) parts =
    by (numbers_of (n + 1) p es) (numbers_of (n + 1) q es) (numbers_of (n + 1) r es) (p e) (q e) (r e) (parts 0 e (omega arith)) (times_parts i (n + 1) p q r es (λ k d lt. parts (suc k) d (omega (arith, lt))))
    (times_cons i n (numbers_of (n + 1) p es)) (times_cons i n (numbers_of (n + 1) q es)) (times_cons i n (numbers_of (n + 1) r es))
  where
    by : (a b c : List ℕ) (x y z : Bool) → one_if z ≡ one_if x + one_if y → times i c ≡ times i a + times i b
        → times i (n ∷ a) ≡ one_if (eqb n i) + times i a → times i (n ∷ b) ≡ one_if (eqb n i) + times i b → times i (n ∷ c) ≡ one_if (eqb n i) + times i c
        → times i (cond z (n ∷ c) c) ≡ times i (cond x (n ∷ a) a) + times i (cond y (n ∷ b) b)
    by a b c true true true eq later at_a at_b at_c = absurd (omega (arith, eq))
    by a b c true true false eq later at_a at_b at_c = absurd (omega (arith, eq))
    by a b c true false true eq later at_a at_b at_c = omega (arith, later, at_a, at_c)
    by a b c true false false eq later at_a at_b at_c = absurd (omega (arith, eq))
    by a b c false true true eq later at_a at_b at_c = omega (arith, later, at_b, at_c)
    by a b c false true false eq later at_a at_b at_c = absurd (omega (arith, eq))
    by a b c false false true eq later at_a at_b at_c = absurd (omega (arith, eq))
    by a b c false false false eq later at_a at_b at_c = later

-- VIRTUAL NODE BY VIRTUAL NODE
pub none_before : (hosts : List ℕ) (n k : ℕ) (es : List End) → [] ≡ numbers_of k (is_before hosts n 0) es
none_before hosts n k [] = refl
none_before hosts n k (e ∷ es) =
    let off : nat_lt e.node 0 ≡ false = grind (arith, nat_tests) in
    none_before hosts n (k + 1) es
    ∙ ap (λ (b : Bool). cond (b && (get_or hosts e.node 0 == n)) (k ∷ numbers_of (k + 1) (is_before hosts n 0) es) (numbers_of (k + 1) (is_before hosts n 0) es)) (sym off)

still_before : (u v : ℕ) → u ≢ v → nat_lt u (v + 1) ≡ nat_lt u v
still_before u v apart = by (nat_lt u v) refl
  where
    by : (b : Bool) → nat_lt u v ≡ b → nat_lt u (v + 1) ≡ b
    by true is = grind (arith, nat_tests)
    by false is = grind (arith, nat_tests)

-- the host of the next virtual node is another one
pub none_more : (hosts : List ℕ) (n v : ℕ) (es : List End) → get_or hosts v 0 ≢ n → numbers_of 0 (is_before hosts n v) es ≡ numbers_of 0 (is_before hosts n (v + 1)) es
none_more hosts n v es other =
    numbers_alike 0 (is_before hosts n v) (is_before hosts n (v + 1)) es (λ k d lt.
    let u = (get_or es k d).node in
    elim (cases_eq u v) [
      | inl is ↦ (
          let off : (get_or hosts u 0 == n) ≡ false = ne_eqb (get_or hosts u 0) n (λ e. other (ap (λ (j : ℕ). get_or hosts j 0) (sym is) ∙ e)) in
          neither (nat_lt u v) (nat_lt u (v + 1)) off)
      | inr apart ↦ ap (λ (b : Bool). b && (get_or hosts u 0 == n)) (sym (still_before u v apart))
    ])
  where
    neither : {c : Bool} (a b : Bool) → c ≡ false → a && c ≡ b && c
    neither true true is = refl
    neither true false is = is
    neither false true is = sym is
    neither false false is = refl

-- the next virtual node is hosted there
pub times_more : (i : ℕ) (hosts : List ℕ) (n v : ℕ) (es : List End) → get_or hosts v 0 ≡ n
    → times i (numbers_of 0 (is_before hosts n (v + 1)) es) ≡ times i (numbers_of 0 (is_before hosts n v) es) + times i (numbers_of 0 (λ e. e.node == v) es)
times_more i hosts n v es here =
    times_parts i 0 (is_before hosts n v) (λ e. e.node == v) (is_before hosts n (v + 1)) es (λ k d lt.
    let u = (get_or es k d).node in
    elim (cases_eq u v) [
      | inl is ↦ (
          let own : (u == v) ≡ true = eq-eqb u v is in
          let past : nat_lt u v ≡ false = grind (arith, nat_tests, is) in
          let within : nat_lt u (v + 1) ≡ true = grind (arith, nat_tests, is) in
          let on : (get_or hosts u 0 == n) ≡ true = eq-eqb (get_or hosts u 0) n (ap (λ (j : ℕ). get_or hosts j 0) is ∙ here) in
          let now : ◌≡◌ {A = ℕ} (one_if (nat_lt u (v + 1) && (get_or hosts u 0 == n))) 1 = (λ j. one_if (within j && on j)) in
          let before : ◌≡◌ {A = ℕ} (one_if (nat_lt u v && (get_or hosts u 0 == n))) 0 = ap (λ (b : Bool). one_if (b && (get_or hosts u 0 == n))) past in
          let its : ◌≡◌ {A = ℕ} (one_if (u == v)) 1 = ap one_if own in
          omega (arith, now, before, its))
      | inr apart ↦ (
          let same = ap (λ (b : Bool). one_if (b && (get_or hosts u 0 == n))) (still_before u v apart) in
          let none : ◌≡◌ {A = ℕ} (one_if (u == v)) 0 = ap one_if (ne_eqb u v apart) in
          omega (arith, same, none))
    ])

-- all virtual nodes with hosts are gone through
pub all_before : (hosts : List ℕ) (n v : ℕ) (es : List End) → v ≡ length hosts → numbers_of 0 (is_before hosts n v) es ≡ numbers_of 0 (is_host hosts n) es
all_before hosts n v es all =
    numbers_alike 0 (is_before hosts n v) (is_host hosts n) es (λ k d lt.
    let u = (get_or es k d).node in
    elim ((slice_get_cases hosts u).1) [
      | inl found ↦ (
          let within : u < length hosts = found.1 in
          let is : nat_lt u v ≡ true = grind (arith, nat_tests, within, all) in
          ap (λ (b : Bool). b && (get_or hosts u 0 == n)) is ∙ ap (λ (o : Option ℕ). option_map_or (λ h. h == n) o false) (sym (slice_get-get_or hosts u 0 within)))
      | inr beyond ↦ (
          let past : length hosts ≤ u = beyond.0 in
          let off : nat_lt u v ≡ false = grind (arith, nat_tests, past, all) in
          ap (λ (b : Bool). b && (get_or hosts u 0 == n)) off ∙ ap (λ (o : Option ℕ). option_map_or (λ h. h == n) o false) (sym beyond.1))
    ])

-- hosts are those of places
pub hosts_on : (n : ℕ) (hosts : List ℕ) (places : List Place) (es : List End) → hosts ≡ map (λ (p : Place). p.0.0) places → All (λ (e : End). e.node < length places) es
    → numbers_of 0 (is_host hosts n) es ≡ numbers_of 0 (is_on places n) es
hosts_on n hosts places es are placed =
    numbers_alike 0 (is_host hosts n) (is_on places n) es (λ k d lt.
    let u = (get_or es k d).node in
    let at : slice_get hosts u ≡ Some (get_or places u no_place).0.0 = ap (λ (l : List ℕ). slice_get l u) are ∙ slice_get-map (λ (p : Place). p.0.0) places u ∙ ap (option_map (λ (p : Place). p.0.0)) (slice_get-get_or places u no_place (placed k d lt)) in
    ap (λ (o : Option ℕ). option_map_or (λ h. h == n) o false) at)
