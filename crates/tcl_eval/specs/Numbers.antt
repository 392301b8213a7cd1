-- Numbers of 64 bits with sign, and the operators on them.
use Rattle.std.specs.Prelude.{◌≡◌, ◌≢◌, ℕ, ◌+◌, ◌-◌, ◌*◌, ◌^◌, ◌==◌, ◌⊎◌, ℤ, pos, ◌+ℤ◌, ◌-ℤ◌, ◌*ℤ◌, ◌<ℤ◌, ◌≤ℤ◌, neg_ℤ, FitsSigned, Bool, true, false, ◌&&◌, not, MatchBool, List, [], ◌∷◌, Result, Ok, Err, nat_lt, nat_le, if◌then◌else◌}
use Rattle.std.specs.Char.{is_ascii_digit}
use Rattle.std.specs.Int.{w64}
use Rattle.std.specs.List.{list_all}
use Rattle.lab_base.specs.declared.fault.Kind.{Kind}
use Rattle.lab_base.specs.declared.fault.Kind.TheVariants as kinds
use Rattle.tcl_eval.specs.declared.operators.Operator.{Operator}
use Rattle.tcl_eval.specs.declared.operators.Operator.TheVariants.{Or, And, Equal, Unequal, AtMost, AtLeast, Below, Above, Plus, Minus, Times, Over, Modulo}

-- the number of digits after those of n
abbrev pub value_from : ℕ → List ℕ → ℕ
value_from n [] = n
value_from n (d ∷ ds) = value_from (n * 10 + (d - 48)) ds

-- some digits, and more than one only without a leading zero
abbrev pub has_no_zero : List ℕ → Bool
has_no_zero [] = false
has_no_zero (d ∷ []) = true
has_no_zero (d ∷ e ∷ ds) = not (d == 48)

abbrev pub is_digits : List ℕ → Bool
is_digits ds = has_no_zero ds && list_all is_ascii_digit ds

-- digits with a sign before them or not
abbrev pub signed_of : Bool → List ℕ → Result ℤ Kind
signed_of negative ds =
    if is_digits ds then
    (if negative then (if nat_le (value_from 0 ds) (2 ^ 63) then Ok (neg_ℤ (pos (value_from 0 ds))) else Err kinds.Overflow)
    else (if nat_lt (value_from 0 ds) (2 ^ 63) then Ok (pos (value_from 0 ds)) else Err kinds.Overflow))
    else Err kinds.Number

-- `-` perhaps, then digits
abbrev pub number_of : List ℕ → Result ℤ Kind
number_of [] = Err kinds.Number
number_of (b ∷ ds) = if b == 45 then signed_of true ds else signed_of false (b ∷ ds)

-- a value, where it has 64 bits
abbrev pub IsValue : ℤ → Result ℤ Kind → Type 0
IsValue z (Ok v) = (v ≡ z) × FitsSigned w64 z
IsValue z (Err k) = (k ≡ kinds.Overflow) × (FitsSigned w64 z → ⊥)

-- 1 for what holds, else 0
abbrev pub IsTruth : Type 0 → Type 0 → Result ℤ Kind → Type 0
IsTruth holds fails r = (holds × (r ≡ Ok (pos 1))) ⊎ (fails × (r ≡ Ok (pos 0)))

-- the quotient that is rounded towards minus infinity, and what it leaves, which has the divisor's sign
abbrev pub IsFloor : ℤ → ℤ → ℤ → ℤ → Type 0
IsFloor a b q r = (a ≡ (q *ℤ b) +ℤ r) × (((pos 0 ≤ℤ r) × (r <ℤ b)) ⊎ ((b <ℤ r) × (r ≤ℤ pos 0)))

-- what is left has the sign of the divisor, or is 0
abbrev pub IsAlong : ℤ → ℤ → Type 0
IsAlong r b = ((pos 0 ≤ℤ r) × (pos 0 <ℤ b)) ⊎ ((r ≤ℤ pos 0) × (b <ℤ pos 0))

-- it has the other sign
abbrev pub IsAgainst : ℤ → ℤ → Type 0
IsAgainst r b = ((r <ℤ pos 0) × (pos 0 <ℤ b)) ⊎ ((pos 0 <ℤ r) × (b <ℤ pos 0))

-- the value of an operator on both sides
abbrev pub Applies : Operator → ℤ → ℤ → Result ℤ Kind → Type 0
Applies Or a b r = IsTruth ((a ≢ pos 0) ⊎ (b ≢ pos 0)) ((a ≡ pos 0) × (b ≡ pos 0)) r
Applies And a b r = IsTruth ((a ≢ pos 0) × (b ≢ pos 0)) ((a ≡ pos 0) ⊎ (b ≡ pos 0)) r
Applies Equal a b r = IsTruth (a ≡ b) (a ≢ b) r
Applies Unequal a b r = IsTruth (a ≢ b) (a ≡ b) r
Applies AtMost a b r = IsTruth (a ≤ℤ b) (b <ℤ a) r
Applies AtLeast a b r = IsTruth (b ≤ℤ a) (a <ℤ b) r
Applies Below a b r = IsTruth (a <ℤ b) (b ≤ℤ a) r
Applies Above a b r = IsTruth (b <ℤ a) (a ≤ℤ b) r
Applies Plus a b r = IsValue (a +ℤ b) r
Applies Minus a b r = IsValue (a -ℤ b) r
Applies Times a b r = IsValue (a *ℤ b) r
Applies Over a b r = ((b ≡ pos 0) × (r ≡ Err kinds.Zero)) ⊎ ((b ≢ pos 0) × (q : ℤ) × (rest : ℤ) × IsFloor a b q rest × IsValue q r)
Applies Modulo a b r = ((b ≡ pos 0) × (r ≡ Err kinds.Zero)) ⊎ ((b ≢ pos 0) × (q : ℤ) × (rest : ℤ) × IsFloor a b q rest × (r ≡ Ok rest))

-- the left side decides
abbrev pub IsDecided : Operator → ℤ → Type 0
IsDecided Or a = a ≢ pos 0
IsDecided And a = a ≡ pos 0
IsDecided Equal a = ⊥
IsDecided Unequal a = ⊥
IsDecided AtMost a = ⊥
IsDecided AtLeast a = ⊥
IsDecided Below a = ⊥
IsDecided Above a = ⊥
IsDecided Plus a = ⊥
IsDecided Minus a = ⊥
IsDecided Times a = ⊥
IsDecided Over a = ⊥
IsDecided Modulo a = ⊥

-- the right side is evaluated where the left is and doesn't decide
abbrev pub IsNeeded : Bool → Operator → ℤ → Bool → Type 0
IsNeeded false op left needed = needed ≡ false
IsNeeded true op left true = IsDecided op left → ⊥
IsNeeded true op left false = IsDecided op left

-- 1 for 0, else 0
abbrev pub IsNot : ℤ → ℤ → Type 0
IsNot v r = ((v ≡ pos 0) × (r ≡ pos 1)) ⊎ ((v ≢ pos 0) × (r ≡ pos 0))

-- a number, 0 where it isn't live
abbrev pub alive : Bool → ℤ → ℤ
alive live z = if live then z else pos 0

-- what digits in an expression stand for
abbrev pub Writes : Bool → List ℕ → Result ℤ Kind → Type 0
Writes live ds r = MatchBool (has_no_zero ds) (MatchBool live (r ≡ number_of ds) (r ≡ Ok (pos 0))) (r ≡ Err kinds.Syntax)
