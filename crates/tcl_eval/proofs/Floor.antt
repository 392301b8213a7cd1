-- Division that rounds towards minus infinity, from division that cuts.
use Rattle.std.proofs.Common.{◌≡◌, ◌≢◌, ℕ, ◌-◌, ◌/◌, ◌<◌, inl, inr, neg_ℤ, FitsSigned, Result, Ok, subst, w64, ℤ, pos, negsuc, ◌+ℤ◌, ◌-ℤ◌, ◌*ℤ◌, ◌<ℤ◌, ◌≤ℤ◌, arith, sym, ◌∙◌, ap, refl, zero, suc, int_div, int_rem, unsigned_abs}
use Rattle.std.proofs.lemmas.Int.{quot-rem, rem_below, ints}
use Rattle.std.proofs.Math.IntN.{pred_ℤ, pred_ℤ-*ℤ, *ℤ-negsuc, *ℤ-one}
use native.Mathlib.Nat.{div-le_self, div-lt_self}
use lib.Signed.{mag}
use mir.Syntax.{Width}
use Rattle.lab_base.specs.declared.fault.Kind.{Kind}
use Rattle.tcl_eval.specs.declared.operators.Operator.TheVariants.{Over, Modulo}
use Rattle.tcl_eval.specs.Numbers.{IsFloor, IsAlong, IsAgainst, IsValue, Applies}

one_less : (q : ℤ) → q -ℤ pos 1 ≡ pred_ℤ q
one_less (pos zero) = refl
one_less (pos (suc n)) = grind (arith, ints)
one_less (negsuc n) = grind (arith, ints)

less_by_one : (q b : ℤ) → (q -ℤ pos 1) *ℤ b ≡ (q *ℤ b) -ℤ b
less_by_one q b = ap (λ (x : ℤ). x *ℤ b) (one_less q) ∙ pred_ℤ-*ℤ q b

-- one divisor moved over
moved_over : (a b q r : ℤ) → (q *ℤ b) +ℤ r ≡ a → a ≡ ((q -ℤ pos 1) *ℤ b) +ℤ (r +ℤ b)
moved_over a b q r e =
    let less : (q -ℤ pos 1) *ℤ b ≡ (q *ℤ b) -ℤ b = less_by_one q b in
    omega (arith, ints, e, less)

below_up : (b r : ℤ) → unsigned_abs r < unsigned_abs b → pos 0 ≤ℤ r → pos 0 <ℤ b → r <ℤ b
below_up b r small p q = grind (arith, ints)

below_down : (b r : ℤ) → unsigned_abs r < unsigned_abs b → r ≤ℤ pos 0 → b <ℤ pos 0 → b <ℤ r
below_down b r small p q = grind (arith, ints)

some_up : (b : ℤ) → pos 0 <ℤ b → 0 < unsigned_abs b
some_up b p = grind (arith, ints)

some_down : (b : ℤ) → b <ℤ pos 0 → 0 < unsigned_abs b
some_down b p = grind (arith, ints)

-- where what is left has the divisor's sign, or is 0
pub along_is_floor : (a b : ℤ) → IsAlong (int_rem a b) b → IsFloor a b (int_div a b) (int_rem a b)
along_is_floor a b (inl s) = (sym (quot-rem a b), inl (s.0, below_up b (int_rem a b) (rem_below a b (some_up b s.1)) s.0 s.1))
along_is_floor a b (inr s) = (sym (quot-rem a b), inr (below_down b (int_rem a b) (rem_below a b (some_down b s.1)) s.0 s.1, s.0))

up_again : (b r : ℤ) → unsigned_abs r < unsigned_abs b → r <ℤ pos 0 → pos 0 <ℤ b → (pos 0 ≤ℤ (r +ℤ b)) × ((r +ℤ b) <ℤ b)
up_again b r small p q = (grind (arith, ints), omega (arith, ints))

down_again : (b r : ℤ) → unsigned_abs r < unsigned_abs b → pos 0 <ℤ r → b <ℤ pos 0 → (b <ℤ (r +ℤ b)) × ((r +ℤ b) ≤ℤ pos 0)
down_again b r small p q = (omega (arith, ints), grind (arith, ints))

-- where it hasn't
pub against_is_floor : (a b : ℤ) → IsAgainst (int_rem a b) b → IsFloor a b (int_div a b -ℤ pos 1) (int_rem a b +ℤ b)
against_is_floor a b (inl s) = (moved_over a b (int_div a b) (int_rem a b) (quot-rem a b), inl (up_again b (int_rem a b) (rem_below a b (some_up b s.1)) s.0 s.1))
against_is_floor a b (inr s) = (moved_over a b (int_div a b) (int_rem a b) (quot-rem a b), inr (down_again b (int_rem a b) (rem_below a b (some_down b s.1)) s.0 s.1))

-- the divisor -1 only turns the sign
turned : (a : ℤ) → neg_ℤ (neg_ℤ a) ≡ a
turned (pos zero) = refl
turned (pos (suc n)) = refl
turned (negsuc n) = refl

by_minus_one : (a : ℤ) → neg_ℤ a *ℤ negsuc 0 ≡ a
unfolding lib.IntN.one
by_minus_one a = *ℤ-negsuc (neg_ℤ a) 0 ∙ (ap neg_ℤ (*ℤ-one (neg_ℤ a)) ∙ turned a)

pub sign_is_floor : (a : ℤ) → IsFloor a (negsuc 0) (neg_ℤ a) (pos 0)
sign_is_floor a =
    let e : neg_ℤ a *ℤ negsuc 0 ≡ a = by_minus_one a in
    (omega (arith, ints, e), inr (omega (arith, ints), omega (arith, ints)))

mag-neg : (n : ℕ) → mag (neg_ℤ (pos n)) ≡ n - 1
mag-neg zero = refl
mag-neg (suc n) = omega arith

-- a quotient by any other divisor fits
pub quotient_fits : (w : Width) (a b : ℤ) → FitsSigned w a → b ≢ negsuc 0 → FitsSigned w (int_div a b)
quotient_fits w (pos a) (pos b) f ne = record { sfits = omega (arith, div-le_self a b, f.sfits) }
quotient_fits w (pos a) (negsuc b) f ne = record { sfits = omega (arith, mag-neg (a / suc b), div-le_self a (suc b), f.sfits) }
quotient_fits w (negsuc a) (pos b) f ne = record { sfits = omega (arith, mag-neg (suc a / b), div-le_self (suc a) b, f.sfits) }
quotient_fits w (negsuc a) (negsuc zero) f ne = absurd (ne refl)
quotient_fits w (negsuc a) (negsuc (suc b)) f ne =
    record { sfits = omega (arith, f.sfits, div-lt_self {n = suc a} {k = suc (suc b)} (omega arith) (omega arith)) }

-- the code's values, and what they are
pub over_sign : (a b : ℤ) (r : Result ℤ Kind) → b ≢ pos 0 → b ≡ negsuc 0 → IsValue (neg_ℤ a) r → Applies Over a b r
over_sign a b r some is v = inr (some, neg_ℤ a, pos 0, subst (λ (d : ℤ). IsFloor a d (neg_ℤ a) (pos 0)) (sym is) (sign_is_floor a), v)

pub over_against : (a b q rest : ℤ) (r : Result ℤ Kind) → b ≢ pos 0 → rest ≡ int_rem a b → q ≡ int_div a b → IsAgainst rest b → IsValue (q -ℤ pos 1) r → Applies Over a b r
over_against a b q rest r some is quotient against v =
    inr (
      some,
      int_div a b -ℤ pos 1,
      int_rem a b +ℤ b,
      against_is_floor a b (subst (λ (x : ℤ). IsAgainst x b) is against),
      subst (λ (x : ℤ). IsValue (x -ℤ pos 1) r) quotient v,
    )

pub over_along : (a b q rest : ℤ) → b ≢ pos 0 → rest ≡ int_rem a b → q ≡ int_div a b → IsAlong rest b → FitsSigned w64 q → Applies Over a b (Ok q)
over_along a b q rest some is quotient along f =
    inr (some, q, int_rem a b, subst (λ (x : ℤ). IsFloor a b x (int_rem a b)) (sym quotient) (along_is_floor a b (subst (λ (x : ℤ). IsAlong x b) is along)), (refl, f))

pub modulo_against : (a b rest r : ℤ) → b ≢ pos 0 → rest ≡ int_rem a b → IsAgainst rest b → r ≡ rest +ℤ b → Applies Modulo a b (Ok r)
modulo_against a b rest r some is against sum =
    inr (some, int_div a b -ℤ pos 1, int_rem a b +ℤ b, against_is_floor a b (subst (λ (x : ℤ). IsAgainst x b) is against), ap Ok (sum ∙ ap (λ (x : ℤ). x +ℤ b) is))

pub modulo_along : (a b rest : ℤ) → b ≢ pos 0 → rest ≡ int_rem a b → IsAlong rest b → Applies Modulo a b (Ok rest)
modulo_along a b rest some is along = inr (some, int_div a b, int_rem a b, along_is_floor a b (subst (λ (x : ℤ). IsAlong x b) is along), ap Ok is)
