-- Each operation on numbers has one result.
use Rattle.std.proofs.Common.{◌≡◌, ◌≢◌, ℕ, ◌-◌, ◌⊎◌, inl, inr, Bool, true, false, List, Result, Ok, Err, subst, ℤ, pos, negsuc, ◌+ℤ◌, ◌-ℤ◌, ◌*ℤ◌, ◌<ℤ◌, ◌≤ℤ◌, arith, sym, ◌∙◌, ap, refl, zero, suc, unsigned_abs}
use Rattle.std.specs.Prelude.{MatchBool}
use Rattle.std.proofs.lemmas.Int.{ints, by_lt_z}
use Rattle.std.proofs.Math.IntN.{suc_ℤ, suc_ℤ-*ℤ}
use Rattle.lab_base.specs.declared.fault.Kind.{Kind}
use Rattle.lab_base.specs.declared.fault.Kind.TheVariants as kinds
use Rattle.tcl_eval.specs.declared.operators.Operator.{Operator}
use Rattle.tcl_eval.specs.declared.operators.Operator.TheVariants.{Or, And, Equal, Unequal, AtMost, AtLeast, Below, Above, Plus, Minus, Times, Over, Modulo}
use Rattle.tcl_eval.specs.Numbers.{IsValue, IsTruth, IsFloor, Applies, IsNeeded, IsNot, Writes, has_no_zero, number_of}
use Rattle.tcl_eval.specs.Settings.{IsSum}

pub value_once : (z : ℤ) (a b : Result ℤ Kind) → IsValue z a → IsValue z b → a ≡ b
value_once z (Ok v) (Ok w) h g = ap Ok (h.0 ∙ sym g.0)
value_once z (Ok v) (Err k) h g = absurd (g.1 h.1)
value_once z (Err k) (Ok v) h g = absurd (h.1 g.1)
value_once z (Err k) (Err m) h g = ap Err (h.0 ∙ sym g.0)

pub sum_once : (x y a b : Result ℤ Kind) → IsSum x y a → IsSum x y b → a ≡ b
sum_once (Err k) y a b h g = h ∙ sym g
sum_once (Ok x) (Err k) a b h g = h ∙ sym g
sum_once (Ok x) (Ok y) a b h g = value_once (x +ℤ y) a b h g

pub not_once : (v a b : ℤ) → IsNot v a → IsNot v b → a ≡ b
not_once v a b (inl h) (inl g) = h.1 ∙ sym g.1
not_once v a b (inl h) (inr g) = absurd (g.0 h.0)
not_once v a b (inr h) (inl g) = absurd (h.0 g.0)
not_once v a b (inr h) (inr g) = h.1 ∙ sym g.1

pub needed_once : (live : Bool) (op : Operator) (left : ℤ) (a b : Bool) → IsNeeded live op left a → IsNeeded live op left b → a ≡ b
needed_once false op left a b h g = h ∙ sym g
needed_once true op left true true h g = refl
needed_once true op left true false h g = absurd (h g)
needed_once true op left false true h g = absurd (g h)
needed_once true op left false false h g = refl

writes_by : (some live : Bool) (x y z a b : Result ℤ Kind) → MatchBool some (MatchBool live (a ≡ x) (a ≡ y)) (a ≡ z) → MatchBool some (MatchBool live (b ≡ x) (b ≡ y)) (b ≡ z) → a ≡ b
writes_by true true x y z a b h g = h ∙ sym g
writes_by true false x y z a b h g = h ∙ sym g
writes_by false live x y z a b h g = h ∙ sym g

pub writes_once : (live : Bool) (ds : List ℕ) (a b : Result ℤ Kind) → Writes live ds a → Writes live ds b → a ≡ b
writes_once live ds a b h g = writes_by (has_no_zero ds) live (number_of ds) (Ok (pos 0)) (Err kinds.Syntax) a b h g

-- DIVISION
one_more : (q : ℤ) → q +ℤ pos 1 ≡ suc_ℤ q
one_more (pos n) = grind (arith, ints)
one_more (negsuc zero) = grind (arith, ints)
one_more (negsuc (suc n)) = grind (arith, ints)

more_by_one : (q b : ℤ) → (q +ℤ pos 1) *ℤ b ≡ (q *ℤ b) +ℤ b
more_by_one q b = ap (λ (x : ℤ). x *ℤ b) (one_more q) ∙ suc_ℤ-*ℤ q b

next_product : (q b : ℤ) (n : ℕ) → (q +ℤ pos (suc (suc n))) *ℤ b ≡ ((q +ℤ pos (suc n)) *ℤ b) +ℤ b
next_product q b n =
    let e : q +ℤ pos (suc (suc n)) ≡ (q +ℤ pos (suc n)) +ℤ pos 1 = omega (arith, ints) in
    ap (λ (x : ℤ). x *ℤ b) e ∙ more_by_one (q +ℤ pos (suc n)) b

up_by : (q b : ℤ) (n : ℕ) → pos 0 <ℤ b → ((q *ℤ b) +ℤ b) ≤ℤ ((q +ℤ pos (suc n)) *ℤ b)
up_by q b zero some = let e : (q +ℤ pos 1) *ℤ b ≡ (q *ℤ b) +ℤ b = more_by_one q b in omega (arith, ints, e)
up_by q b (suc n) some =
    let e : (q +ℤ pos (suc (suc n))) *ℤ b ≡ ((q +ℤ pos (suc n)) *ℤ b) +ℤ b = next_product q b n in
    let before : ((q *ℤ b) +ℤ b) ≤ℤ ((q +ℤ pos (suc n)) *ℤ b) = up_by q b n some in
    omega (arith, ints, e, before, some)

down_by : (q b : ℤ) (n : ℕ) → b <ℤ pos 0 → ((q +ℤ pos (suc n)) *ℤ b) ≤ℤ ((q *ℤ b) +ℤ b)
down_by q b zero some = let e : (q +ℤ pos 1) *ℤ b ≡ (q *ℤ b) +ℤ b = more_by_one q b in omega (arith, ints, e)
down_by q b (suc n) some =
    let e : (q +ℤ pos (suc (suc n))) *ℤ b ≡ ((q +ℤ pos (suc n)) *ℤ b) +ℤ b = next_product q b n in
    let before : ((q +ℤ pos (suc n)) *ℤ b) ≤ℤ ((q *ℤ b) +ℤ b) = down_by q b n some in
    omega (arith, ints, e, before, some)

farther : (q p : ℤ) → q <ℤ p → p ≡ q +ℤ pos (suc (unsigned_abs (p -ℤ q) - 1))
farther q p less = grind (arith, ints)

-- a quotient that is larger leaves no rest of the divisor's sign
floor_below : (a b q r p s : ℤ) → IsFloor a b q r → IsFloor a b p s → q <ℤ p → ⊥
floor_below a b q r p s (e, inl h) (f, inl g) less =
    let some : pos 0 <ℤ b = omega (arith, ints, h.0, h.1) in
    let up : ((q *ℤ b) +ℤ b) ≤ℤ (p *ℤ b) =
    subst (λ (x : ℤ). ((q *ℤ b) +ℤ b) ≤ℤ (x *ℤ b)) (sym (farther q p less)) (up_by q b (unsigned_abs (p -ℤ q) - 1) some) in
    absurd (omega (arith, ints, e, f, h.1, g.0, up))
floor_below a b q r p s (e, inr h) (f, inr g) less =
    let some : b <ℤ pos 0 = omega (arith, ints, h.0, h.1) in
    let down : (p *ℤ b) ≤ℤ ((q *ℤ b) +ℤ b) =
    subst (λ (x : ℤ). (x *ℤ b) ≤ℤ ((q *ℤ b) +ℤ b)) (sym (farther q p less)) (down_by q b (unsigned_abs (p -ℤ q) - 1) some) in
    absurd (omega (arith, ints, e, f, h.0, g.1, down))
floor_below a b q r p s (e, inl h) (f, inr g) less = absurd (omega (arith, ints, h.0, h.1, g.0, g.1))
floor_below a b q r p s (e, inr h) (f, inl g) less = absurd (omega (arith, ints, h.0, h.1, g.0, g.1))

quotient_once : (a b q r p s : ℤ) → IsFloor a b q r → IsFloor a b p s → q ≡ p
quotient_once a b q r p s h g =
    by_lt_z q p (λ less. absurd (floor_below a b q r p s h g less))
    (λ most. by_lt_z p q (λ less. absurd (floor_below a b p s q r g h less)) (λ least. omega (arith, ints, most, least)))

rest_once : (a b q r p s : ℤ) → IsFloor a b q r → IsFloor a b p s → r ≡ s
rest_once a b q r p s h g =
    let same : (q *ℤ b) ≡ (p *ℤ b) = ap (λ (x : ℤ). x *ℤ b) (quotient_once a b q r p s h g) in
    omega (arith, ints, same, h.0, g.0)

-- OPERATORS
truth_once : (holds fails : Type 0) (a b : Result ℤ Kind) → (holds → fails → ⊥) → IsTruth holds fails a → IsTruth holds fails b → a ≡ b
truth_once holds fails a b not_both (inl h) (inl g) = h.1 ∙ sym g.1
truth_once holds fails a b not_both (inl h) (inr g) = absurd (not_both h.0 g.0)
truth_once holds fails a b not_both (inr h) (inl g) = absurd (not_both g.0 h.0)
truth_once holds fails a b not_both (inr h) (inr g) = h.1 ∙ sym g.1

over_once : (x y : ℤ) (a b : Result ℤ Kind) → Applies Over x y a → Applies Over x y b → a ≡ b
over_once x y a b (inl h) (inl g) = h.1 ∙ sym g.1
over_once x y a b (inl h) (inr g) = absurd (g.0 h.0)
over_once x y a b (inr h) (inl g) = absurd (h.0 g.0)
over_once x y a b (inr h) (inr g) =
    value_once h.1 a b h.4 (subst (λ (q : ℤ). IsValue q b) (sym (quotient_once x y h.1 h.2 g.1 g.2 h.3 g.3)) g.4)

modulo_once : (x y : ℤ) (a b : Result ℤ Kind) → Applies Modulo x y a → Applies Modulo x y b → a ≡ b
modulo_once x y a b (inl h) (inl g) = h.1 ∙ sym g.1
modulo_once x y a b (inl h) (inr g) = absurd (g.0 h.0)
modulo_once x y a b (inr h) (inl g) = absurd (h.0 g.0)
modulo_once x y a b (inr h) (inr g) = h.4 ∙ (ap Ok (rest_once x y h.1 h.2 g.1 g.2 h.3 g.3) ∙ sym g.4)

or_not_both : (x y : ℤ) → (x ≢ pos 0) ⊎ (y ≢ pos 0) → (x ≡ pos 0) × (y ≡ pos 0) → ⊥
or_not_both x y (inl h) g = h g.0
or_not_both x y (inr h) g = h g.1

and_not_both : (x y : ℤ) → (x ≢ pos 0) × (y ≢ pos 0) → (x ≡ pos 0) ⊎ (y ≡ pos 0) → ⊥
and_not_both x y h (inl g) = h.0 g
and_not_both x y h (inr g) = h.1 g

most_not_less : (x y : ℤ) → x ≤ℤ y → y <ℤ x → ⊥
most_not_less x y h g = absurd (omega (arith, ints, h, g))

pub applies_once : (op : Operator) (x y : ℤ) (a b : Result ℤ Kind) → Applies op x y a → Applies op x y b → a ≡ b
applies_once Or x y a b h g = truth_once ((x ≢ pos 0) ⊎ (y ≢ pos 0)) ((x ≡ pos 0) × (y ≡ pos 0)) a b (or_not_both x y) h g
applies_once And x y a b h g = truth_once ((x ≢ pos 0) × (y ≢ pos 0)) ((x ≡ pos 0) ⊎ (y ≡ pos 0)) a b (and_not_both x y) h g
applies_once Equal x y a b h g = truth_once (x ≡ y) (x ≢ y) a b (λ is not. not is) h g
applies_once Unequal x y a b h g = truth_once (x ≢ y) (x ≡ y) a b (λ not is. not is) h g
applies_once AtMost x y a b h g = truth_once (x ≤ℤ y) (y <ℤ x) a b (most_not_less x y) h g
applies_once AtLeast x y a b h g = truth_once (y ≤ℤ x) (x <ℤ y) a b (most_not_less y x) h g
applies_once Below x y a b h g = truth_once (x <ℤ y) (y ≤ℤ x) a b (λ less most. most_not_less y x most less) h g
applies_once Above x y a b h g = truth_once (y <ℤ x) (x ≤ℤ y) a b (λ less most. most_not_less x y most less) h g
applies_once Plus x y a b h g = value_once (x +ℤ y) a b h g
applies_once Minus x y a b h g = value_once (x -ℤ y) a b h g
applies_once Times x y a b h g = value_once (x *ℤ y) a b h g
applies_once Over x y a b h g = over_once x y a b h g
applies_once Modulo x y a b h g = modulo_once x y a b h g
