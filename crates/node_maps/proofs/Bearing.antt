-- The loads noted on an interface, and those that it may still bear.
use Rattle.std.proofs.Common.{◌≡◌, ◌≢◌, ◌≤◌, ◌<◌, ◌+◌, ◌-◌, ◌∷◌, [], ◌∙◌, inl, inr, ℕ, suc, List, Bool, true, false, cond, eqb, not, nat_le, ◌&&◌, ◌||◌, All, refl, ap, sym, arith}
use Rattle.std.specs.Prelude.{max, sum_by}
use Rattle.std.specs.List.{list_all}
use Rattle.std.proofs.lemmas.Bool.{cases_Bool, and_parts, eqb-true, ne_eqb, eq-eqb, leb-true, leb-false}
use Rattle.std.proofs.lemmas.Bool.Decides.{nat_tests}
use Rattle.std.proofs.lemmas.List.Sums.{sum_by-cons}
use Rattle.std.proofs.Math.Bool.{and-false}
use Rattle.virt_topo.specs.declared.loads.Load.{Load}
use Rattle.lab_model.specs.Rules.{may_join, may_bear}
use Rattle.node_maps.specs.Indexed.{noted, newest, serves}

abbrev pub sum_of : List Load → ℕ
sum_of xs = sum_by (λ x. x.kbps) xs

abbrev pub all_multiplexed : List Load → Bool
all_multiplexed xs = list_all (λ x. x.multiplexed) xs

-- a load that isn't multiplexed comes to no other
pub plain_joins : (ys : List Load) (x : Load) → x.multiplexed ≡ false → (y : Load) → list_all (λ z. may_join z x) (y ∷ ys) ≡ false
plain_joins ys x plain y =
    ap (λ (b : Bool). (not (eqb y.segment x.segment) && (y.multiplexed && b)) && list_all (λ z. may_join z x) ys) plain
    ∙ by (not (eqb y.segment x.segment)) y.multiplexed
  where
    by : (a b : Bool) → ((a && (b && false)) && list_all (λ z. may_join z x) ys) ≡ false
    by true true = refl
    by true false = refl
    by false b = refl

-- none comes to one that isn't
joins_plain : (ys : List Load) (x : Load) → all_multiplexed ys ≡ false → list_all (λ z. may_join z x) ys ≡ false
joins_plain [] x some = cc some
joins_plain (y ∷ ys) x some = by y.multiplexed refl (λ later. joins_plain ys x later)
  where
    by : (b : Bool) → y.multiplexed ≡ b → (all_multiplexed ys ≡ false → list_all (λ z. may_join z x) ys ≡ false) → list_all (λ z. may_join z x) (y ∷ ys) ≡ false
    by false is rest =
        ap (λ (b : Bool). (not (eqb y.segment x.segment) && (b && x.multiplexed)) && list_all (λ z. may_join z x) ys) is
        ∙ ap (λ (b : Bool). b && list_all (λ z. may_join z x) ys) (and-false (not (eqb y.segment x.segment)))
    by true is rest =
        let later : all_multiplexed ys ≡ false = sym (ap (λ (b : Bool). b && all_multiplexed ys) is) ∙ some in
        ap (λ (b : Bool). may_join y x && b) (rest later) ∙ and-false (may_join y x)

not_same : (p q : ℕ) → eqb p q ≡ false → p ≢ q
not_same p q h same = let both : true ≡ false = sym (eq-eqb p q same) ∙ h in cc both

other_max : (a b m : ℕ) → a ≤ b → m ≤ b + 1 → a ≢ b → eqb m (b + 1) ≡ eqb (max (a + 1) m) (b + 1)
other_max a b m le few apart = elim (cases_Bool (eqb m (b + 1))) [
  | inl at ↦
      let same : m ≡ b + 1 = eqb-true m (b + 1) at in
      let top : max (a + 1) m ≡ b + 1 = omega (arith, same, le) in
      at ∙ sym (eq-eqb (max (a + 1) m) (b + 1) top)
  | inr off ↦
      let not_m = not_same m (b + 1) off in
      off ∙ sym (ne_eqb (max (a + 1) m) (b + 1) (λ h. absurd (omega (arith, h, apart, not_m, le, few))))
]

max_step : (a b m : ℕ) → a ≤ b → m ≤ b + 1 → ((not (eqb a b) && (true && true)) && not (eqb m (b + 1))) ≡ not (eqb (max (a + 1) m) (b + 1))
max_step a b m le few = elim (cases_Bool (eqb a b)) [
  | inl is ↦
      let same : a ≡ b = eqb-true a b is in
      let top : max (a + 1) m ≡ b + 1 = omega (arith, same, few) in
      ap (λ (t : Bool). (not t && (true && true)) && not (eqb m (b + 1))) is ∙ sym (ap (λ (t : Bool). not t) (eq-eqb (max (a + 1) m) (b + 1) top))
  | inr is ↦
      ap (λ (t : Bool). (not t && (true && true)) && not (eqb m (b + 1))) is ∙ ap (λ (t : Bool). not t) (other_max a b m le few (not_same a b is))
]

newest_le : (zs : List Load) (n : ℕ) → All (λ (z : Load). z.segment ≤ n) zs → newest zs ≤ n + 1
newest_le [] n all = omega arith
newest_le (z ∷ zs) n all =
    let here : z.segment ≤ n = all 0 z (omega arith) in
    let later = newest_le zs n (λ k d lt. all (suc k) d (omega (arith, lt))) in
    omega (arith, here, later)

-- a multiplexed one comes to multiplexed ones of other segments
joins_all : (ys : List Load) (x : Load) → x.multiplexed ≡ true → all_multiplexed ys ≡ true → All (λ (y : Load). y.segment ≤ x.segment) ys
    → list_all (λ z. may_join z x) ys ≡ not (eqb (newest ys) (x.segment + 1))
joins_all [] x shares all rising = by (x.segment)
  where
    by : (n : ℕ) → true ≡ not (eqb 0 (n + 1))
    by n = grind (arith, nat_tests)
joins_all (y ∷ ys) x shares all rising =
    let parts = and_parts y.multiplexed (all_multiplexed ys) all in
    let rest = joins_all ys x shares parts.1 (λ k d lt. rising (suc k) d (omega (arith, lt))) in
    let below : y.segment ≤ x.segment = rising 0 y (omega arith) in
    (λ j. (not (eqb y.segment x.segment) && (parts.0 j && shares j)) && rest j)
    ∙ max_step y.segment x.segment (newest ys) below (newest_le ys x.segment (λ k d lt. rising (suc k) d (omega (arith, lt))))

-- loads have kbps
some_sum : (y : Load) (ys : List Load) → 1 ≤ y.kbps → 1 ≤ sum_of (y ∷ ys)
some_sum y ys some = let sum = sum_by-cons (λ (z : Load). z.kbps) y ys in omega (arith, some, sum)

le_inside : (a s k : ℕ) → a ≤ k → nat_le s (k - a) ≡ nat_le (a + s) k
le_inside a s k le = grind (arith, nat_tests)

le_outside : (a s k : ℕ) → k < a → false ≡ nat_le (a + s) k
le_outside a s k gt = grind (arith, nat_tests)

le_both : (a s k : ℕ) → (nat_le a k && nat_le s (k - a)) ≡ nat_le (a + s) k
le_both a s k = elim (cases_Bool (nat_le a k)) [
  | inl le ↦ ap (λ (b : Bool). b && nat_le s (k - a)) le ∙ le_inside a s k (leb-true a k le)
  | inr gt ↦ ap (λ (b : Bool). b && nat_le s (k - a)) gt ∙ le_outside a s k (leb-false a k gt)
]

-- where some load is on the interface
pub some_on : (used last kbps : ℕ) (y : Load) (ys : List Load) (x : Load) → kbps < 18446744073709551615 → used ≡ noted (y ∷ ys) → (all_multiplexed (y ∷ ys) ≡ true → last ≡ newest (y ∷ ys))
    → All (λ (z : Load). 1 ≤ z.kbps) (y ∷ ys) → 1 ≤ x.kbps → All (λ (z : Load). z.segment ≤ x.segment) (y ∷ ys) → serves used last kbps x ≡ may_bear kbps (y ∷ ys) x
some_on used last kbps y ys x slow is at some next rising = by (all_multiplexed (y ∷ ys)) refl x.multiplexed refl
  where
    sum : ℕ
    sum = sum_of (y ∷ ys)

    full : (a k n : ℕ) → k < 18446744073709551615 → nat_le 18446744073709551615 (k - a) ≡ false
    full a k n lt = grind (arith, nat_tests)

    move : (a b c d : Bool) → (a && (false || (true && (b && c)))) ≡ (c && (a && b))
    move true true true d = refl
    move true true false d = refl
    move true false true d = refl
    move true false false d = refl
    move false b true d = refl
    move false b false d = refl

    by : (b : Bool) → all_multiplexed (y ∷ ys) ≡ b → (s : Bool) → x.multiplexed ≡ s → serves used last kbps x ≡ may_bear kbps (y ∷ ys) x
    by false mixed s shares =
        let top : used ≡ 18446744073709551615 = is ∙ ap (λ (t : Bool). cond t sum 18446744073709551615) mixed in
        let nonzero : eqb used 0 ≡ false = ne_eqb used 0 (λ h. absurd (omega (arith, h, top))) in
        let over : nat_le used (kbps - x.kbps) ≡ false = ap (λ (n : ℕ). nat_le n (kbps - x.kbps)) top ∙ full x.kbps kbps 0 slow in
        (λ j. nat_le x.kbps kbps && (nonzero j || (x.multiplexed && (over j && not (eqb last (x.segment + 1))))))
        ∙ ap (λ (t : Bool). nat_le x.kbps kbps && t) (and-false x.multiplexed) ∙ and-false (nat_le x.kbps kbps)
        ∙ sym (ap (λ (t : Bool). t && nat_le (x.kbps + sum) kbps) (joins_plain (y ∷ ys) x mixed))
    by true all false plain =
        let summed : used ≡ sum = is ∙ ap (λ (t : Bool). cond t sum 18446744073709551615) all in
        let positive = some_sum y ys (some 0 y (omega arith)) in
        let nonzero : eqb used 0 ≡ false = ne_eqb used 0 (λ h. absurd (omega (arith, h, summed, positive))) in
        (λ j. nat_le x.kbps kbps && (nonzero j || (plain j && (nat_le used (kbps - x.kbps) && not (eqb last (x.segment + 1))))))
        ∙ and-false (nat_le x.kbps kbps)
        ∙ sym (ap (λ (t : Bool). t && nat_le (x.kbps + sum) kbps) (plain_joins ys x plain y))
    by true all true shares =
        let summed : used ≡ sum = is ∙ ap (λ (t : Bool). cond t sum 18446744073709551615) all in
        let positive = some_sum y ys (some 0 y (omega arith)) in
        let nonzero : eqb used 0 ≡ false = ne_eqb used 0 (λ h. absurd (omega (arith, h, summed, positive))) in
        let fresh : not (eqb last (x.segment + 1)) ≡ list_all (λ z. may_join z x) (y ∷ ys) = ap (λ (n : ℕ). not (eqb n (x.segment + 1))) (at all) ∙ sym (joins_all (y ∷ ys) x shares all rising) in
        (λ j. nat_le x.kbps kbps && (nonzero j || (shares j && (nat_le (summed j) (kbps - x.kbps) && fresh j))))
        ∙ move (nat_le x.kbps kbps) (nat_le sum (kbps - x.kbps)) (list_all (λ z. may_join z x) (y ∷ ys)) true
        ∙ ap (λ (t : Bool). list_all (λ z. may_join z x) (y ∷ ys) && t) (le_both x.kbps sum kbps)

-- what comes to others beside it is multiplexed with all of them
pub joined_all : (ys : List Load) (x : Load) → list_all (λ z. may_join z x) ys ≡ true → all_multiplexed ys ≡ true
joined_all [] x h = refl
joined_all (y ∷ ys) x h =
    let parts = and_parts (may_join y x) (list_all (λ z. may_join z x) ys) h in
    let one = and_parts (not (eqb y.segment x.segment)) (y.multiplexed && x.multiplexed) parts.0 in
    let flags = and_parts y.multiplexed x.multiplexed one.1 in
    (λ j. flags.0 j && joined_all ys x parts.1 j)
