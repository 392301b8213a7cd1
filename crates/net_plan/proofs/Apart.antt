-- Lists whose elements differ.
use Rattle.std.specs.Prelude.{◌||◌, nat_eq}
use Rattle.std.proofs.Common.{◌≡◌, ◌≢◌, inl, inr, ℕ, zero, suc, ◌+◌, ◌<◌, ◌≤◌, Bool, true, false, List, [], ◌∷◌, ◌++◌, map, refl, sym, ap, subst, ◌∙◌, arith}
use Rattle.std.specs.List.{list_any, flat_map, range_with_len}
use Rattle.std.proofs.lemmas.Bool.{or_parts, cases_eq, eq-eqb}
use Rattle.lab_base.specs.Lists.{Has, AllDiffer}
use Rattle.lab_base.proofs.Members.{Has-map, Has-mapped, Has-flat_map, Apart-append, none_has, none_from}
use Rattle.virt_topo.specs.Repeats.{stands_again}

pub differ-append : {X : Type 0} (xs ys : List X) → AllDiffer xs → AllDiffer ys → ((x : X) → Has xs x → Has ys x → ⊥) → AllDiffer (xs ++ ys)
differ-append xs ys first second across = Apart-append (λ x y. x ≢ y) xs ys first second (λ x y h g e. across x h (subst (λ v. Has ys v) (sym e) g))

-- lists of elements whose keys differ, where a common element makes keys equal
pub differ-flat : {X Y K : Type 0} (key : X → K) (f : X → List Y) (xs : List X) → AllDiffer (map key xs) → ((x : X) → Has xs x → AllDiffer (f x))
    → ((x y : X) (v : Y) → Has xs x → Has xs y → Has (f x) v → Has (f y) v → key x ≡ key y) → AllDiffer (flat_map f xs)
differ-flat key f [] keys each common = tt
differ-flat {X} {Y} key f (x ∷ xs) keys each common =
    differ-append (f x) (flat_map f xs) (each x (inl refl)) (differ-flat key f xs keys.1 (λ y h. each y (inr h)) (λ y z v h g. common y z v (inr h) (inr g))) across
  where
    across : (v : Y) → Has (f x) v → Has (flat_map f xs) v → ⊥
    across v h g =
        let r = Has-flat_map f xs v g in
        keys.0 (key r.0) (Has-mapped key xs r.0 r.1) (common x r.0 v (inl refl) (inr r.1) h r.2)

pub differ-map : {X Y : Type 0} (f : X → Y) (xs : List X) → ((x y : X) → Has xs x → Has xs y → f x ≡ f y → x ≡ y) → AllDiffer xs → AllDiffer (map f xs)
differ-map f [] same differ = tt
differ-map {X} {Y} f (x ∷ xs) same differ = (head, differ-map f xs (λ y z h g. same y z (inr h) (inr g)) differ.1)
  where
    head : (y : Y) → Has (map f xs) y → f x ≢ y
    head y h e = let r = Has-map f xs y h in differ.0 r.0 r.1 (same x r.0 (inl refl) (inr r.1) (e ∙ sym r.2))

-- RANGES

pub Has-range : (a n x : ℕ) → Has (range_with_len a n) x → (a ≤ x) × (x < a + n)
Has-range a zero x h = absurd h
Has-range a (suc n) x (inl e) = (omega (arith, e), omega (arith, e))
Has-range a (suc n) x (inr h) = let r = Has-range (a + 1) n x h in (omega (arith, r.0), omega (arith, r.1))

pub range-Has : (a n x : ℕ) → a ≤ x → x < a + n → Has (range_with_len a n) x
range-Has a zero x low high = absurd (omega arith)
range-Has a (suc n) x low high =
    elim (cases_eq a x) [ inl e ↦ inl e | inr ne ↦ inr (range-Has (a + 1) n x (omega (arith, low, ne)) (omega (arith, high))) ]

pub range-differ : (a n : ℕ) → AllDiffer (range_with_len a n)
range-differ a zero = tt
range-differ a (suc n) = (λ x h e. let r = Has-range (a + 1) n x h in absurd (omega (arith, r.0, e)), range-differ (a + 1) n)

pub range-append : (a m n : ℕ) → range_with_len a (m + n) ≡ range_with_len a m ++ range_with_len (a + m) n
range-append a zero n =
    let count : zero + n ≡ n = omega arith in
    let start : a ≡ a + zero = omega arith in
    λ i. range_with_len (start i) (count i)
range-append a (suc m) n =
    let count : suc m + n ≡ suc (m + n) = omega arith in
    let start : (a + 1) + m ≡ a + suc m = omega arith in
    ap (range_with_len a) count ∙ ap (λ (l : List ℕ). a ∷ l) (range-append (a + 1) m n ∙ ap (λ (b : ℕ). range_with_len (a + 1) m ++ range_with_len b n) start)

-- A TEST FINDS NOTHING AGAIN WHERE KEYS DIFFER, AND THE OTHER WAY ROUND

module _ {X K : Type 0} (same : K → K → Bool) (tells : (a b : K) → same a b ≡ true → a ≡ b) (key : X → K) where
  other : (a b : K) → a ≢ b → same a b ≡ false
  other a b ne = by (same a b) refl
    where
      by : (t : Bool) → same a b ≡ t → t ≡ false
      by true e = absurd (ne (tells a b e))
      by false e = refl

  pub once-differ : (xs : List X) → AllDiffer (map key xs) → stands_again (λ a b. same (key a) (key b)) xs ≡ false
  once-differ [] differ = refl
  once-differ (x ∷ xs) differ =
      let head : list_any (λ b. same (key x) (key b)) xs ≡ false = none_from (λ b. same (key x) (key b)) xs (λ y h. other (key x) (key y) (differ.0 (key y) (Has-mapped key xs y h))) in
      λ i. head i || once-differ xs differ.1 i

module _ {X K : Type 0} (same : K → K → Bool) (self : (a : K) → same a a ≡ true) (key : X → K) where
  pub differ-once : (xs : List X) → stands_again (λ a b. same (key a) (key b)) xs ≡ false → AllDiffer (map key xs)
  differ-once [] none = tt
  differ-once (x ∷ xs) none = (head, differ-once xs parts.1)
    where
      parts : (list_any (λ b. same (key x) (key b)) xs ≡ false) × (stands_again (λ a b. same (key a) (key b)) xs ≡ false)
      parts = or_parts (list_any (λ b. same (key x) (key b)) xs) (stands_again (λ a b. same (key a) (key b)) xs) none

      head : (k : K) → Has (map key xs) k → key x ≢ k
      head k h e =
          let r = Has-map key xs k h in
          let no : same (key x) (key r.0) ≡ false = none_has (λ b. same (key x) (key b)) xs r.0 (or_parts (list_any (λ b. same (key x) (key b)) xs) (stands_again (λ a b. same (key a) (key b)) xs) none).0 r.1 in
          let one : key x ≡ key r.0 = e ∙ sym r.2 in
          let yes : same (key x) (key r.0) ≡ true = ap (same (key x)) (sym one) ∙ self (key x) in
          absurd (cc (no, yes))

pub eqb-self : (a : ℕ) → nat_eq a a ≡ true
eqb-self a = eq-eqb a a refl
