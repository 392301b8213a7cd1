-- The first machine that an experiment holds, and its flag.
use Rattle.std.specs.List.{position, prefix_len}
use Rattle.std.proofs.Common.{◌≡◌, ℕ, suc, ◌+◌, ◌<◌, min, Bool, true, false, not, cond, List, [], ◌∷◌, length, map, get_or, Option, Some, None, ap, sym, ◌∙◌, refl, arith}
use Rattle.std.proofs.lemmas.Bool.{eqb-true}
use Rattle.std.proofs.lemmas.List.Quantifiers.{position-Some}
use Rattle.lab_view.specs.declared.view.View.{View}
use Rattle.lab_view.specs.declared.view.Machine.{Machine}
use Rattle.lab_view.specs.declared.view.Seat.{Seat}
use Rattle.lab_view.specs.declared.flags.Flag.{Flag}
use Rattle.lab_view.specs.Views.{is_seat_of, is_held_by}
use Rattle.lab_view.specs.Flags.{tint_of, bar_of, form_of, flag_of, firsts_before, are_few, flag_in, flag_of_exp, bar_in, bar_of_exp}

-- a machine has one holder
same_seat : (s : Option Seat) (e f : ℕ) → is_seat_of e s ≡ true → is_seat_of f s ≡ true → e ≡ f
same_seat None e f a b = cc
same_seat (Some s) e f a b = sym (eqb-true s.exp e a) ∙ eqb-true s.exp f b

pub one_holder : (xs : List Machine) (e f i : ℕ) → position (is_held_by e) xs ≡ Some i → position (is_held_by f) xs ≡ Some i → e ≡ f
one_holder [] e f i p q = cc
one_holder (x ∷ xs) e f i p q =
    same_seat (get_or (x ∷ xs) i x).seat e f (position-Some (is_held_by e) (x ∷ xs) i x p).1 (position-Some (is_held_by f) (x ∷ xs) i x q).1

pub within : (xs : List Machine) (e i : ℕ) → position (is_held_by e) xs ≡ Some i → i < length xs
within [] e i p = cc
within (x ∷ xs) e i p = (position-Some (is_held_by e) (x ∷ xs) i x p).0

differ : (m n : ℕ) → m < 1024 → n < 1024 → tint_of m ≡ tint_of n → bar_of m ≡ bar_of n → form_of m ≡ form_of n → m ≡ n
differ m n a b tint bar form = omega arith

pub same_machine : (m n : ℕ) (flag : Flag) → m < 1024 → n < 1024 → Some (flag_of m) ≡ Some flag → Some (flag_of n) ≡ Some flag → m ≡ n
same_machine m n flag a b p q =
    let same : flag_of m ≡ flag_of n = cc in
    differ m n a b (ap (λ (x : Flag). x.tint) same) (ap (λ (x : Flag). x.bar) same) (ap (λ (x : Flag). x.form) same)

-- where they are many the flag is that of the first machine
abbrev pub flag_at : Option ℕ → Option Flag
flag_at None = None
flag_at (Some n) = Some (flag_of n)

pub many_flags : (v : View) (o : Option ℕ) → are_few v ≡ false → flag_in v o ≡ flag_at o
many_flags v None many = refl
many_flags v (Some n) many =
    ap (λ (b : Bool). Some (record { tint = cond b (min (firsts_before v n) 9) (tint_of n); bar = bar_of n; form = form_of n })) many

-- the first place that passes is known from the tests of all
same_front : (p q : Machine → Bool) (xs ys : List Machine) → map p xs ≡ map q ys → prefix_len (λ x. not (p x)) xs ≡ prefix_len (λ y. not (q y)) ys
same_front p q [] [] same = refl
same_front p q [] (y ∷ ys) same = cc
same_front p q (x ∷ xs) [] same = cc
same_front p q (x ∷ xs) (y ∷ ys) same =
    let here : p x ≡ q y = cc in
    let there : map p xs ≡ map q ys = cc in
    λ i. cond (not (here i)) (1 + same_front p q xs ys there i) 0

same_length : (p q : Machine → Bool) (xs ys : List Machine) → map p xs ≡ map q ys → length xs ≡ length ys
same_length p q [] [] same = refl
same_length p q [] (y ∷ ys) same = cc
same_length p q (x ∷ xs) [] same = cc
same_length p q (x ∷ xs) (y ∷ ys) same = let there : map p xs ≡ map q ys = cc in ap suc (same_length p q xs ys there)

same_place : (p q : Machine → Bool) (xs ys : List Machine) → map p xs ≡ map q ys → position p xs ≡ position q ys
same_place p q xs ys same = rw (same_front p q xs ys same, same_length p q xs ys same) refl

-- the bar is by the machines that the experiment holds, and so is the flag where they are many
pub bar_stays : (v w : View) (e f : ℕ) → map (is_held_by e) v.machines ≡ map (is_held_by f) w.machines → bar_of_exp v e ≡ bar_of_exp w f
bar_stays v w e f same = ap bar_in (same_place (is_held_by e) (is_held_by f) v.machines w.machines same)

pub flag_stays : (v w : View) (e f : ℕ) → map (is_held_by e) v.machines ≡ map (is_held_by f) w.machines → are_few v ≡ false → are_few w ≡ false
    → flag_of_exp v e ≡ flag_of_exp w f
flag_stays v w e f same many also =
    many_flags v (position (is_held_by e) v.machines) many ∙ ap flag_at (same_place (is_held_by e) (is_held_by f) v.machines w.machines same)
    ∙ sym (many_flags w (position (is_held_by f) w.machines) also)
