-- A search by key among entries that rise, and an edit at the place that it finds.
use Rattle.std.proofs.Common.{◌≡◌, ◌⊎◌, inl, inr, ap₂, ℕ, zero, suc, ◌+◌, ◌-◌, ◌<◌, ◌≤◌, Bool, true, false, cond, List, [], ◌∷◌, length, get_or, set, Option, Some, None, Err, refl, sym, ap, ◌∙◌, arith, if◌then◌else◌}
use Rattle.std.specs.Cmp.{IsTotalOrder}
use Rattle.std.specs.List.{find, insert, HoldsAt}
use Rattle.std.specs.List.Sorted.{IsBinarySearchResult, IsPartitionPoint, IsSortedBy}
use Rattle.std.specs.Ordering.{is_eq, is_lt, ordering_reverse}
use Rattle.std.specs.declared.cmp.Ordering.{Ordering}
use Rattle.std.specs.declared.cmp.Ordering.TheVariants.{Less, Equal, Greater}
use Rattle.std.proofs.lemmas.Bool.{cases_eq, cases_lt, true≢false, false≢true}
use Rattle.std.proofs.lemmas.Cmp.{alike_right, tied_itself}
use Rattle.std.proofs.lemmas.List.{length-set, get_or-set_same, get_or-set_other}
use Rattle.std.proofs.lemmas.List.Edits.{length-insert, get_or-insert_below, get_or-insert_at, get_or-insert_above}
use Rattle.std.proofs.lemmas.List.Sorted.{searchable_from_sorted}

-- an entry that takes the place of one, and an entry that is put among others, is the first that passes
module _ {X : Type 0} (test : X → Bool) where
  abbrev pub Before : List X → ℕ → Type 0
  Before xs i = (j : ℕ) (d : X) → j < i → test (get_or xs j d) ≡ false

  behind : (x : X) (xs : List X) (i : ℕ) → Before (x ∷ xs) (suc i) → Before xs i
  behind x xs i b j d lt = b (suc j) d (omega (arith, lt))

  passes : (t : Bool) (x y : X) (rest : Option X) → t ≡ false → cond t (Some x) rest ≡ rest
  passes true x y rest is = absurd (true≢false is)
  passes false x y rest is = refl

  pub find_here : (xs : List X) (i : ℕ) (d : X) → i < length xs → Before xs i → test (get_or xs i d) ≡ true → find test xs ≡ Some (get_or xs i d)
  find_here [] i d lt b is = absurd (omega (arith, lt))
  find_here (x ∷ xs) zero d lt b is = ap (λ (t : Bool). cond t (Some x) (find test xs)) is
  find_here (x ∷ xs) (suc i) d lt b is = ap (λ (t : Bool). cond t (Some x) (find test xs)) (b 0 d (omega arith)) ∙ find_here xs i d (omega (arith, lt)) (behind x xs i b) is

  pub find_none : (xs : List X) → Before xs (length xs) → find test xs ≡ None
  find_none [] b = refl
  find_none (x ∷ xs) b = ap (λ (t : Bool). cond t (Some x) (find test xs)) (b 0 x (omega arith)) ∙ find_none xs (behind x xs (length xs) b)

  -- the entry that stands there passes where the new one does
  pub find_set : (xs : List X) (i : ℕ) (v d : X) → i < length xs → (test v ≡ true → Before xs i) → test (get_or xs i d) ≡ test v → find test (set xs i v) ≡ (if test v then Some v else find test xs)
  find_set [] i v d lt b is = absurd (omega (arith, lt))
  find_set (x ∷ xs) zero v d lt b is = by (test v) refl
    where
      by : (t : Bool) → test v ≡ t → cond t (Some v) (find test xs) ≡ (if t then Some v else cond (test x) (Some x) (find test xs))
      by true e = refl
      by false e = sym (ap (λ (t : Bool). cond t (Some x) (find test xs)) (is ∙ e))
  find_set (x ∷ xs) (suc i) v d lt b is = by (test x) refl (test v) refl (find_set xs i v d (omega (arith, lt)) (λ e. behind x xs i (b e)) is)
    where
      by : (s : Bool) → test x ≡ s → (t : Bool) → test v ≡ t → find test (set xs i v) ≡ (if t then Some v else find test xs) → cond s (Some x) (find test (set xs i v)) ≡ (if t then Some v else cond s (Some x) (find test xs))
      by true f true e rest = absurd (true≢false (sym f ∙ b e 0 d (omega arith)))
      by true f false e rest = refl
      by false f true e rest = rest
      by false f false e rest = rest

  pub find_insert : (xs : List X) (i : ℕ) (v : X) → i ≤ length xs → (test v ≡ true → Before xs i) → find test (insert xs i v) ≡ (if test v then Some v else find test xs)
  find_insert xs zero v le b = by (test v)
    where
      by : (t : Bool) → cond t (Some v) (find test xs) ≡ (if t then Some v else find test xs)
      by true = refl
      by false = refl
  find_insert [] (suc i) v le b = absurd (omega (arith, le))
  find_insert (x ∷ xs) (suc i) v le b = by (test x) refl (test v) refl (find_insert xs i v (omega (arith, le)) (λ e. behind x xs i (b e)))
    where
      by : (s : Bool) → test x ≡ s → (t : Bool) → test v ≡ t → find test (insert xs i v) ≡ (if t then Some v else find test xs) → cond s (Some x) (find test (insert xs i v)) ≡ (if t then Some v else cond s (Some x) (find test xs))
      by true f true e rest = absurd (true≢false (sym f ∙ b e 0 x (omega arith)))
      by true f false e rest = refl
      by false f true e rest = rest
      by false f false e rest = rest

equal : (r : Ordering) → is_eq r ≡ true → r ≡ Equal
equal Less e = absurd (false≢true e)
equal Equal e = refl
equal Greater e = absurd (false≢true e)

-- ENTRIES THAT RISE BY THEIR KEYS, and what passes the test of a key
module _ {X K : Type 0} (key : X → K) (c : K → K → Ordering) (o : IsTotalOrder c) where
  abbrev pub Rise : List X → Type 0
  Rise xs = (i j : ℕ) (d : X) → i < j → j < length xs → c (key (get_or xs i d)) (key (get_or xs j d)) ≡ Less

  sorted : (xs : List X) → Rise xs → IsSortedBy (λ a b. is_lt (c (key a) (key b))) xs
  sorted xs rise k d low high = ap is_lt (o.antisymm (key (get_or xs (k + 1) d)) (key (get_or xs k d)) ∙ ap ordering_reverse (rise k (k + 1) d (omega arith) high))

  parted : (xs : List X) → Rise xs → (k : K) (at : ℕ) → IsBinarySearchResult (λ x. c (key x) k) xs (Err at) → IsPartitionPoint (λ x. c (key x) k ≡ Less) (λ x. c (key x) k ≡ Greater) xs at
  parted xs rise k at found = found (searchable_from_sorted o key xs k (sorted xs rise))

  -- what comes before the place of a key
  less_before : (xs : List X) → Rise xs → (k : K) (at : ℕ) (d : X) → at < length xs → c (key (get_or xs at d)) k ≡ Equal → (j : ℕ) → j < at → c (key (get_or xs j d)) k ≡ Less
  less_before xs rise k at d lt is j before = sym (alike_right o (key (get_or xs at d)) k (key (get_or xs j d)) is) ∙ rise j at d before lt

  module _ (test : K → X → Bool) (tests : (k : K) (x : X) → test k x ≡ is_eq (c (key x) k)) where
    fails : (q k : K) (x v : X) → c (key v) k ≡ Equal → test q v ≡ true → c (key x) k ≡ Less → test q x ≡ false
    fails q k x v is passes less =
        let same : c k q ≡ Equal = sym (o.congr (key v) k q is) ∙ equal (c (key v) q) (sym (tests q v) ∙ passes) in
        tests q x ∙ ap is_eq (sym (alike_right o k q (key x) same) ∙ less)

    pub found_at : (xs : List X) → Rise xs → (k : K) (at : ℕ) (d : X) → at < length xs → HoldsAt (λ x. c (key x) k ≡ Equal) xs at → find (test k) xs ≡ Some (get_or xs at d)
    found_at xs rise k at d lt is =
        find_here (test k) xs at d lt (λ j e before. tests k (get_or xs j e) ∙ ap is_eq (less_before xs rise k at e lt (is e) j before)) (tests k (get_or xs at d) ∙ ap is_eq (is d))

    pub not_found : (xs : List X) → Rise xs → (k : K) (at : ℕ) → IsBinarySearchResult (λ x. c (key x) k) xs (Err at) → find (test k) xs ≡ None
    not_found xs rise k at found = find_none (test k) xs (λ j d lt. tests k (get_or xs j d) ∙ beside j d lt (cases_lt j at))
      where
        parts : IsPartitionPoint (λ x. c (key x) k ≡ Less) (λ x. c (key x) k ≡ Greater) xs at
        parts = parted xs rise k at found

        beside : (j : ℕ) (d : X) → j < length xs → (j < at) ⊎ (at ≤ j) → is_eq (c (key (get_or xs j d)) k) ≡ false
        beside j d lt (inl before) = ap is_eq (parts.0 j d (omega arith) before)
        beside j d lt (inr from) = ap is_eq (parts.1 j d from lt)

    -- AN ENTRY IN THE PLACE OF ITS KEY'S, and one that is put where a search ends
    pub found_set : (xs : List X) → Rise xs → (at : ℕ) (v : X) → at < length xs → HoldsAt (λ x. c (key x) (key v) ≡ Equal) xs at → (q : K) → find (test q) (set xs at v) ≡ (if test q v then Some v else find (test q) xs)
    found_set xs rise at v lt is q =
        find_set (test q) xs at v v lt
        (λ passes j d before. fails q (key v) (get_or xs j d) v (tied_itself o (key v)) passes (less_before xs rise (key v) at d lt (is d) j before))
        (tests q (get_or xs at v) ∙ ap is_eq (o.congr (key (get_or xs at v)) (key v) q (is v)) ∙ sym (tests q v))

    pub found_insert : (xs : List X) → Rise xs → (at : ℕ) (v : X) → at ≤ length xs → IsBinarySearchResult (λ x. c (key x) (key v)) xs (Err at) → (q : K) → find (test q) (insert xs at v) ≡ (if test q v then Some v else find (test q) xs)
    found_insert xs rise at v le found q =
        let parts = parted xs rise (key v) at found in
        find_insert (test q) xs at v le (λ passes j d before. fails q (key v) (get_or xs j d) v (tied_itself o (key v)) passes (parts.0 j d (omega arith) before))

  pub rise_set : (xs : List X) → Rise xs → (at : ℕ) (v : X) → at < length xs → HoldsAt (λ x. c (key x) (key v) ≡ Equal) xs at → Rise (set xs at v)
  rise_set xs rise at v lt is i j d before within = by (cases_eq i at) (cases_eq j at)
    where
      long : j < length xs
      long = omega (arith, within, length-set xs at v)

      by : (i ≡ at) ⊎ (i ≡ at → ⊥) → (j ≡ at) ⊎ (j ≡ at → ⊥) → c (key (get_or (set xs at v) i d)) (key (get_or (set xs at v) j d)) ≡ Less
      by (inl e) (inl f) = absurd (omega (arith, e, f, before))
      by (inl e) (inr f) =
          let here : get_or (set xs at v) i d ≡ v = ap (λ (n : ℕ). get_or (set xs at v) n d) e ∙ get_or-set_same xs at v d lt in
          let there : get_or (set xs at v) j d ≡ get_or xs j d = get_or-set_other xs at j v d f in
          let old : c (key (get_or xs at d)) (key (get_or xs j d)) ≡ Less = rise at j d (omega (arith, e, before)) long in
          ap₂ (λ (x y : X). c (key x) (key y)) here there ∙ sym (o.congr (key (get_or xs at d)) (key v) (key (get_or xs j d)) (is d)) ∙ old
      by (inr e) (inl f) =
          let here : get_or (set xs at v) i d ≡ get_or xs i d = get_or-set_other xs at i v d e in
          let there : get_or (set xs at v) j d ≡ v = ap (λ (n : ℕ). get_or (set xs at v) n d) f ∙ get_or-set_same xs at v d lt in
          ap₂ (λ (x y : X). c (key x) (key y)) here there ∙ less_before xs rise (key v) at d lt (is d) i (omega (arith, f, before))
      by (inr e) (inr f) = ap₂ (λ (x y : X). c (key x) (key y)) (get_or-set_other xs at i v d e) (get_or-set_other xs at j v d f) ∙ rise i j d before long

  pub rise_insert : (xs : List X) → Rise xs → (at : ℕ) (v : X) → at ≤ length xs → IsBinarySearchResult (λ x. c (key x) (key v)) xs (Err at) → Rise (insert xs at v)
  rise_insert xs rise at v le found i j d before within = by (cases_lt i at) (cases_lt j at) (cases_eq i at) (cases_eq j at)
    where
      new : List X
      new = insert xs at v

      parts : IsPartitionPoint (λ x. c (key x) (key v) ≡ Less) (λ x. c (key x) (key v) ≡ Greater) xs at
      parts = parted xs rise (key v) at found

      long : j < length xs + 1
      long = omega (arith, within, length-insert xs at v le)

      below : (k : ℕ) → k < at → get_or new k d ≡ get_or xs k d
      below k lt = get_or-insert_below xs at v d k lt le

      here : (k : ℕ) → k ≡ at → get_or new k d ≡ v
      here k e = ap (λ (n : ℕ). get_or new n d) e ∙ get_or-insert_at xs at v d le

      above : (k : ℕ) → at < k → get_or new k d ≡ get_or xs (k - 1) d
      above k lt = let next : k ≡ (k - 1) + 1 = omega (arith, lt) in ap (λ (n : ℕ). get_or new n d) next ∙ get_or-insert_above xs at v d (k - 1) (omega (arith, lt)) le

      greater : (k : ℕ) → at < k → k < length xs + 1 → c (key v) (key (get_or xs (k - 1) d)) ≡ Less
      greater k lt end = o.antisymm (key v) (key (get_or xs (k - 1) d)) ∙ ap ordering_reverse (parts.1 (k - 1) d (omega (arith, lt)) (omega (arith, lt, end)))

      other : (k : ℕ) → at ≤ k → (k ≡ at → ⊥) → at < k
      other k le ne = elim (cases_lt at k) [
        | inl lt ↦ lt
        | inr ge ↦ absurd (ne (omega (arith, le, ge)))
      ]

      by : (i < at) ⊎ (at ≤ i) → (j < at) ⊎ (at ≤ j) → (i ≡ at) ⊎ (i ≡ at → ⊥) → (j ≡ at) ⊎ (j ≡ at → ⊥) → c (key (get_or new i d)) (key (get_or new j d)) ≡ Less
      by (inl a) (inl b) e f = ap₂ (λ (x y : X). c (key x) (key y)) (below i a) (below j b) ∙ rise i j d before (omega (arith, b, le))
      by (inl a) (inr b) e (inl f) = ap₂ (λ (x y : X). c (key x) (key y)) (below i a) (here j f) ∙ parts.0 i d (omega arith) a
      by (inl a) (inr b) e (inr f) = let over = other j b f in ap₂ (λ (x y : X). c (key x) (key y)) (below i a) (above j over) ∙ rise i (j - 1) d (omega (arith, a, over)) (omega (arith, over, long))
      by (inr a) (inl b) e f = absurd (omega (arith, a, b, before))
      by (inr a) (inr b) (inl e) f = let over : at < j = omega (arith, e, before) in ap₂ (λ (x y : X). c (key x) (key y)) (here i e) (above j over) ∙ greater j over long
      by (inr a) (inr b) (inr e) f =
          let over : at < i = other i a e in
          let further : at < j = omega (arith, over, before) in
          ap₂ (λ (x y : X). c (key x) (key y)) (above i over) (above j further) ∙ rise (i - 1) (j - 1) d (omega (arith, over, before)) (omega (arith, further, long))
