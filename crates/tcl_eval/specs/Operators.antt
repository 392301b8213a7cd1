-- Operators and operands in the text of an expression.
use Rattle.std.specs.Prelude.{◌≡◌, ℕ, ◌+◌, ◌==◌, ◌⊎◌, ◌&&◌, not, List, [], ◌∷◌, Option, Some, None, drop, if◌then◌else◌}
use Rattle.std.specs.List.{prefix_len}
use Rattle.std.specs.Char.{is_ascii_digit}
use Rattle.tcl_words.specs.Tokens.{in_blank, begins_with}
use Rattle.tcl_eval.specs.declared.operators.Operator.{Operator}
use Rattle.tcl_eval.specs.declared.operators.Operator.TheVariants.{Or, And, Equal, Unequal, AtMost, AtLeast, Below, Above, Plus, Minus, Times, Over, Modulo}
use Rattle.tcl_eval.specs.declared.openings.Opening.{Opening}
use Rattle.tcl_eval.specs.declared.openings.Opening.TheVariants as openings

-- the place after the blanks at a place
abbrev pub place : List ℕ → ℕ → ℕ
place t at = at + prefix_len in_blank (drop at t)

-- how tight an operator binds
abbrev pub tier_of : Operator → ℕ
tier_of Or = 0
tier_of And = 1
tier_of Equal = 2
tier_of Unequal = 2
tier_of AtMost = 3
tier_of AtLeast = 3
tier_of Below = 3
tier_of Above = 3
tier_of Plus = 4
tier_of Minus = 4
tier_of Times = 5
tier_of Over = 5
tier_of Modulo = 5

-- the operator at the front, the longest one, and how many bytes it has
abbrev pub front_of : List ℕ → Option (Operator × ℕ)
front_of [] = None
front_of (b ∷ rest) =
    if (b == 124) && begins_with 124 rest then Some (Or, 2) else (if (b == 38) && begins_with 38 rest then Some (And, 2)
    else (if (b == 61) && begins_with 61 rest then Some (Equal, 2) else (if (b == 33) && begins_with 61 rest then Some (Unequal, 2)
    else (if (b == 60) && begins_with 61 rest then Some (AtMost, 2) else (if (b == 62) && begins_with 61 rest then Some (AtLeast, 2)
    else (if b == 60 then Some (Below, 1) else (if b == 62 then Some (Above, 1) else (if b == 43 then Some (Plus, 1)
    else (if b == 45 then Some (Minus, 1) else (if b == 42 then Some (Times, 1) else (if b == 47 then Some (Over, 1)
    else (if b == 37 then Some (Modulo, 1) else None))))))))))))

-- an operator of this tier, and the place after it
abbrev pub of_tier : ℕ → ℕ → Option (Operator × ℕ) → Option (Operator × ℕ)
of_tier tier start None = None
of_tier tier start (Some x) = if tier_of x.0 == tier then Some (x.0, start + x.1) else None

-- the operator of this tier after the blanks at a place, and the place after it
abbrev pub operator_from : List ℕ → ℕ → ℕ → Option (Operator × ℕ)
operator_from t at tier = of_tier tier (place t at) (front_of (drop (place t at) t))

-- what an operand begins with; a `!` before `=` is none
abbrev pub opening_of : List ℕ → Opening
opening_of [] = openings.Nothing
opening_of (b ∷ rest) =
    if (b == 33) && not (begins_with 61 rest) then openings.Not else (if b == 45 then openings.Minus
    else (if b == 40 then openings.Parenthesis else (if is_ascii_digit b then openings.Digits
    else (if b == 36 then openings.Dollar else (if b == 91 then openings.Bracket else openings.Nothing)))))

-- it opens a level
abbrev pub IsPrefix : Opening → Type 0
IsPrefix opening = (opening ≡ openings.Not) ⊎ (opening ≡ openings.Minus) ⊎ (opening ≡ openings.Parenthesis)

-- how many digits stand at the front
abbrev pub digits_of : List ℕ → ℕ
digits_of rest = prefix_len is_ascii_digit rest
