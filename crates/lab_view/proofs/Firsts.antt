-- The first machines of experiments, counted.
use Rattle.std.proofs.Common.{◌≡◌, inl, inr, ◌+◌, ◌-◌, ◌<◌, ◌≤◌, ℕ, zero, suc, Bool, true, false, cond, min, nat_lt, List, [], ◌∷◌, length, get_or, slice_get, Option, Some, None, ap, sym, ◌∙◌, refl, subst, arith}
use Rattle.std.specs.List.{position}
use Rattle.std.proofs.lemmas.Bool.{cases_Bool, eqb-true, eq-eqb, leb-true, ltb-true, ltb-false}
use Rattle.std.proofs.lemmas.Option.{slice_get-get_or}
use Rattle.std.proofs.lemmas.List.FromFn.{length-map-range_with_len, get_or-map-range_with_len}
use Rattle.std.proofs.lemmas.List.Quantifiers.{position-Some}
use Rattle.lab_view.specs.declared.view.View.{View}
use Rattle.lab_view.specs.declared.view.Machine.{Machine}
use Rattle.lab_view.specs.declared.view.Seat.{Seat}
use Rattle.lab_view.specs.declared.flags.Flag.{Flag}
use Rattle.lab_view.specs.Views.{is_number, is_seat_of, is_held_by}
use Rattle.lab_view.specs.Flags.{tint_of, bar_of, form_of, first_in, seat_in, is_first, firsts_before, are_few, tint_in, tints_of, flag_in, flag_of_exp}
use Rattle.lab_view.proofs.Holders.{one_holder, within, same_machine, many_flags}

-- one machine more
pub firsts_more : (v : View) (n : ℕ) → firsts_before v (n + 1) ≡ firsts_before v n + cond (is_first v n) 1 0
firsts_more v n = let next : n + 1 ≡ suc n = omega arith in ap (firsts_before v) next

pub firsts_some : (v : View) (n : ℕ) → is_first v n ≡ true → firsts_before v (n + 1) ≡ firsts_before v n + 1
firsts_some v n is = firsts_more v n ∙ ap (λ (b : Bool). firsts_before v n + cond b 1 0) is

pub firsts_none : (v : View) (n : ℕ) → is_first v n ≡ false → firsts_before v (n + 1) ≡ firsts_before v n
firsts_none v n is = let same : firsts_before v n + 0 ≡ firsts_before v n = omega arith in firsts_more v n ∙ ap (λ (b : Bool). firsts_before v n + cond b 1 0) is ∙ same

-- before a later one there are as many at least
firsts_on : (v : View) (n k : ℕ) → firsts_before v n ≤ firsts_before v (n + k)
firsts_on v n zero = let same : n ≡ n + 0 = omega arith in omega (arith, ap (firsts_before v) same)
firsts_on v n (suc k) =
    let same : n + suc k ≡ n + k + 1 = omega arith in
    omega (arith, firsts_on v n k, ap (firsts_before v) same, firsts_more v (n + k))

pub firsts_less : (v : View) (n m : ℕ) → n ≤ m → firsts_before v n ≤ firsts_before v m
firsts_less v n m less = let same : n + (m - n) ≡ m = omega (arith, less) in omega (arith, firsts_on v n (m - n), ap (firsts_before v) same)

-- the first machine of an experiment is a first one
holds : (v : View) (e n : ℕ) (s : Option Seat) → position (is_held_by e) v.machines ≡ Some n → is_seat_of e s ≡ true → is_number n (first_in v s) ≡ true
holds v e n None at is = absurd (cc is)
holds v e n (Some s) at is =
    let same : s.exp ≡ e = eqb-true s.exp e is in
    ap (λ (x : ℕ). is_number n (position (is_held_by x) v.machines)) same ∙ ap (is_number n) at ∙ eq-eqb n n refl

seat_at : (xs : List Machine) (e n : ℕ) → position (is_held_by e) xs ≡ Some n → is_seat_of e (seat_in (slice_get xs n)) ≡ true
seat_at [] e n at = cc
seat_at (x ∷ xs) e n at =
    let here = position-Some (is_held_by e) (x ∷ xs) n x at in
    ap (λ (m : Option Machine). is_seat_of e (seat_in m)) (slice_get-get_or (x ∷ xs) n x here.0) ∙ here.1

is_its_first : (v : View) (e n : ℕ) → position (is_held_by e) v.machines ≡ Some n → is_first v n ≡ true
is_its_first v e n at = holds v e n (seat_in (slice_get v.machines n)) at (seat_at v.machines e n at)

-- so an earlier one has a smaller number
less_before : (v : View) (e m n : ℕ) → position (is_held_by e) v.machines ≡ Some m → m < n → firsts_before v m + 1 ≤ firsts_before v n
less_before v e m n at less = omega (arith, firsts_some v m (is_its_first v e m at), firsts_less v (m + 1) n (omega (arith, less)))

few_in_all : (v : View) → are_few v ≡ true → firsts_before v (length v.machines) ≤ 8
few_in_all v few = let most = leb-true (min (firsts_before v (length v.machines)) 9) 8 few in omega (arith, most)

few_tint : (v : View) (n : ℕ) → are_few v ≡ true → tint_in v n ≡ min (firsts_before v n) 9
few_tint v n few = ap (λ (b : Bool). cond b (min (firsts_before v n) 9) (tint_of n)) few

tint_is : (v : View) (n : ℕ) (x : Flag) → flag_in v (Some n) ≡ Some x → tint_in v n ≡ x.tint
tint_is v n x is =
    let same : ◌≡◌ {A = Flag} (record { tint = tint_in v n; bar = bar_of n; form = form_of n }) x = cc in
    ap (λ (f : Flag). f.tint) same

tints_less : (v : View) (e f m n : ℕ) → are_few v ≡ true → position (is_held_by e) v.machines ≡ Some m → position (is_held_by f) v.machines ≡ Some n → m < n
    → tint_in v m < tint_in v n
tints_less v e f m n few at_e at_f less =
    omega (
      arith,
      few_tint v m few,
      few_tint v n few,
      few_in_all v few,
      less_before v e m n at_e less,
      less_before v f n (length v.machines) at_f (within v.machines f n at_f),
    )

-- while they are few no two have one tint
pub tints_apart : (v : View) (e f : ℕ) (x y : Flag) → are_few v ≡ true → flag_of_exp v e ≡ Some x → flag_of_exp v f ≡ Some y → x.tint ≡ y.tint → e ≡ f
tints_apart v e f x y few p q same = by (position (is_held_by e) v.machines) (position (is_held_by f) v.machines) refl refl p q
  where
    by : (a b : Option ℕ) → position (is_held_by e) v.machines ≡ a → position (is_held_by f) v.machines ≡ b → flag_in v a ≡ Some x → flag_in v b ≡ Some y → e ≡ f
    by None b at_e at_f p q = cc
    by (Some m) None at_e at_f p q = cc
    by (Some m) (Some n) at_e at_f p q =
        let tints : tint_in v m ≡ tint_in v n = tint_is v m x p ∙ same ∙ sym (tint_is v n y q) in
        elim (cases_Bool (nat_lt m n)) [
          | inl less ↦ absurd (omega (arith, tints, tints_less v e f m n few at_e at_f (ltb-true m n less)))
          | inr more ↦ elim (cases_Bool (nat_lt n m)) [
            | inl less ↦ absurd (omega (arith, tints, tints_less v f e n m few at_f at_e (ltb-true n m less)))
            | inr neither ↦
                let here : m ≡ n = omega (arith, ltb-false m n more, ltb-false n m neither) in
                one_holder v.machines e f m at_e (subst (λ (i : ℕ). position (is_held_by f) v.machines ≡ Some i) (sym here) at_f)
          ]
        ]

-- of few machines no two experiments have one flag
pub flags_apart : (v : View) (e f : ℕ) (flag : Flag) → length v.machines ≤ 1024 → flag_of_exp v e ≡ Some flag → flag_of_exp v f ≡ Some flag → e ≡ f
flags_apart v e f flag small p q = elim (cases_Bool (are_few v)) [
  | inl few ↦ tints_apart v e f flag flag few p q refl
  | inr many ↦ by many (position (is_held_by e) v.machines) (position (is_held_by f) v.machines) refl refl p q
]
  where
    by : are_few v ≡ false → (a b : Option ℕ) → position (is_held_by e) v.machines ≡ a → position (is_held_by f) v.machines ≡ b → flag_in v a ≡ Some flag → flag_in v b ≡ Some flag → e ≡ f
    by many None b at_e at_f p q = cc
    by many (Some m) None at_e at_f p q = cc
    by many (Some m) (Some n) at_e at_f p q =
        let same : m ≡ n = same_machine m n flag (omega (arith, small, within v.machines e m at_e)) (omega (arith, small, within v.machines f n at_f))
        (sym (many_flags v (Some m) many) ∙ p) (sym (many_flags v (Some n) many) ∙ q) in
        one_holder v.machines e f m at_e (subst (λ (i : ℕ). position (is_held_by f) v.machines ≡ Some i) (sym same) at_f)

-- an experiment's tint stands at its first machine
pub tint_within : (v : View) (e n : ℕ) → position (is_held_by e) v.machines ≡ Some n → n < length (tints_of v)
tint_within v e n at = omega (arith, within v.machines e n at, length-map-range_with_len (tint_in v) 0 (length v.machines))

pub tint_at : (v : View) (e n d : ℕ) → position (is_held_by e) v.machines ≡ Some n → get_or (tints_of v) n d ≡ tint_in v n
tint_at v e n d at = get_or-map-range_with_len (tint_in v) 0 (length v.machines) n n d (within v.machines e n at) (omega arith)
