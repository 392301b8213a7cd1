-- The first place, from a number on, of what passes a test.
use Rattle.std.proofs.Common.{◌≡◌, ℕ, suc, ◌+◌, ◌<◌, ◌≤◌, Bool, true, false, not, cond, List, [], ◌∷◌, length, drop, get_or, Some, refl, sym, ap, ◌∙◌, arith, length-drop}
use Rattle.std.specs.List.{position_from, position_or_len}
use Rattle.std.proofs.lemmas.List.{drop_more, drop-drop, get_or-drop}
use Rattle.std.proofs.lemmas.List.Sums.{prefix_len-drop_yes, prefix_len-drop_no, prefix_len-drop_all, prefix_len-le-length, passes_at_first}

-- the place of the first one that passes, from a number on, or the length
abbrev pub next : {X : Type 0} → (X → Bool) → List X → ℕ → ℕ
next q xs n = n + position_or_len q (drop n xs)

pub next_here : {X : Type 0} (q : X → Bool) (xs : List X) (n : ℕ) (d : X) → n < length xs → q (get_or xs n d) ≡ true → next q xs n ≡ n
next_here q xs n d lt passes = omega (arith, prefix_len-drop_no (λ x. not (q x)) xs n d lt (ap not passes))

pub next_later : {X : Type 0} (q : X → Bool) (xs : List X) (n : ℕ) (d : X) → n < length xs → q (get_or xs n d) ≡ false → next q xs n ≡ next q xs (n + 1)
next_later q xs n d lt fails = omega (arith, prefix_len-drop_yes (λ x. not (q x)) xs n d lt (ap not fails))

pub next_none : {X : Type 0} (q : X → Bool) (xs : List X) (n : ℕ) → n ≡ length xs → next q xs n ≡ length xs
next_none q xs n end = omega (arith, prefix_len-drop_all (λ x. not (q x)) xs n (omega arith))

pub next_within : {X : Type 0} (q : X → Bool) (xs : List X) (n : ℕ) → n ≤ length xs → next q xs n ≤ length xs
next_within q xs n le = omega (arith, prefix_len-le-length (λ x. not (q x)) (drop n xs), length-drop n xs)

pub next_passes : {X : Type 0} (q : X → Bool) (xs : List X) (n : ℕ) (d : X) → next q xs n < length xs → q (get_or xs (next q xs n) d) ≡ true
next_passes {X} q xs n d lt =
    ap q (sym (get_or-drop n xs (position_or_len q (drop n xs)) d)) ∙ passes_at_first q (drop n xs) d (omega (arith, length-drop n xs))

-- WHAT PASSES A NARROWER TEST STANDS NO EARLIER

skip : {X : Type 0} (p q : X → Bool) → ((x : X) → q x ≡ false → p x ≡ false) → (xs : List X) (k : ℕ)
    → position_from p k xs ≡ position_from p (k + position_or_len q xs) (drop (position_or_len q xs) xs)
skip p q less [] k = refl
skip {X} p q less (x ∷ xs) k = by (q x) refl (skip p q less xs (k + 1))
  where
    by : (b : Bool) → q x ≡ b → position_from p (k + 1) xs ≡ position_from p (k + 1 + position_or_len q xs) (drop (position_or_len q xs) xs)
        → position_from p k (x ∷ xs) ≡ position_from p (k + position_or_len q (x ∷ xs)) (drop (position_or_len q (x ∷ xs)) (x ∷ xs))
    by true passes rest =
        let none : position_or_len q (x ∷ xs) ≡ 0 = ap (λ (b : Bool). cond (not b) (1 + position_or_len q xs) 0) passes in
        let same : k + 0 ≡ k = omega arith in
        ap (λ (n : ℕ). position_from p n (x ∷ xs)) (sym same) ∙ ap (λ (n : ℕ). position_from p (k + n) (drop n (x ∷ xs))) (sym none)
    by false fails rest =
        let m = position_or_len q xs in
        let more : position_or_len q (x ∷ xs) ≡ 1 + m = ap (λ (b : Bool). cond (not b) (1 + m) 0) fails in
        let sum : (k + 1) + m ≡ k + (1 + m) = omega arith in
        let behind : suc m ≡ 1 + m = omega arith in
        ap (λ (b : Bool). cond b (Some k) (position_from p (k + 1) xs)) (less x fails)
        ∙ rest
        ∙ ap (λ (n : ℕ). position_from p n (drop m xs)) sum
        ∙ ap (λ (n : ℕ). position_from p (k + (1 + m)) (drop n (x ∷ xs))) behind
        ∙ ap (λ (n : ℕ). position_from p (k + n) (drop n (x ∷ xs))) (sym more)

pub skipped : {X : Type 0} (p q : X → Bool) → ((x : X) → q x ≡ false → p x ≡ false) → (xs : List X) (n : ℕ)
    → position_from p n (drop n xs) ≡ position_from p (next q xs n) (drop (next q xs n) xs)
skipped {X} p q less xs n =
    skip p q less (drop n xs) n ∙ ap (λ (l : List X). position_from p (next q xs n) l) (drop-drop (position_or_len q (drop n xs)) n xs)

pub stands_here : {X : Type 0} (p : X → Bool) (xs : List X) (n : ℕ) (d : X) → n < length xs → p (get_or xs n d) ≡ true → position_from p n (drop n xs) ≡ Some n
stands_here {X} p xs n d lt passes =
    ap (λ (l : List X). position_from p n l) (drop_more xs n d lt) ∙ ap (λ (b : Bool). cond b (Some n) (position_from p (n + 1) (drop (n + 1) xs))) passes

pub stands_later : {X : Type 0} (p : X → Bool) (xs : List X) (n : ℕ) (d : X) → n < length xs → p (get_or xs n d) ≡ false
    → position_from p n (drop n xs) ≡ position_from p (n + 1) (drop (n + 1) xs)
stands_later {X} p xs n d lt fails =
    ap (λ (l : List X). position_from p n l) (drop_more xs n d lt) ∙ ap (λ (b : Bool). cond b (Some n) (position_from p (n + 1) (drop (n + 1) xs))) fails
