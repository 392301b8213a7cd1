-- Words of commands, by their number.
use Rattle.std.proofs.Common.{◌≢◌, ◌⊎◌, inl, inr, ◌≡◌, ℕ, ◌<◌, ◌≤◌, ◌∷◌, [], List, length, get_or, drop, Some, subst, arith}
use Rattle.tcl_eval.specs.declared.commands.Own.{Own}
use Rattle.tcl_eval.specs.Forms.{own}

pub two_words : (P : List (List ℕ) → Type 0) (o : Own) (n : List ℕ) (ws : List (List ℕ)) → n ≡ get_or ws 1 n → 2 ≤ length ws → length ws < 3
    → own ws ≡ Some o → ((cmd : List ℕ) → own (cmd ∷ n ∷ []) ≡ Some o → P (cmd ∷ n ∷ [])) → P ws
two_words P o n [] is low high mine f = absurd (omega arith)
two_words P o n (a ∷ []) is low high mine f = absurd (omega arith)
two_words P o n (a ∷ b ∷ []) is low high mine f = subst (λ (x : List ℕ). P (a ∷ x ∷ [])) is (f a mine)
two_words P o n (a ∷ b ∷ c ∷ ws) is low high mine f = absurd (omega arith)

pub three_words : (P : List (List ℕ) → Type 0) (o : Own) (n v : List ℕ) (ws : List (List ℕ)) → n ≡ get_or ws 1 n → v ≡ get_or ws 2 v
    → 3 ≤ length ws → length ws < 4 → own ws ≡ Some o → ((cmd : List ℕ) → own (cmd ∷ n ∷ v ∷ []) ≡ Some o → P (cmd ∷ n ∷ v ∷ [])) → P ws
three_words P o n v [] is too low high mine f = absurd (omega arith)
three_words P o n v (a ∷ []) is too low high mine f = absurd (omega arith)
three_words P o n v (a ∷ b ∷ []) is too low high mine f = absurd (omega arith)
three_words P o n v (a ∷ b ∷ c ∷ []) is too low high mine f =
    subst (λ (x : List ℕ). P (a ∷ x ∷ c ∷ [])) is (subst (λ (x : List ℕ). P (a ∷ n ∷ x ∷ [])) too (f a mine))
three_words P o n v (a ∷ b ∷ c ∷ d ∷ ws) is too low high mine f = absurd (omega arith)

pub four_words : (P : List (List ℕ) → Type 0) (o : Own) (n v x : List ℕ) (ws : List (List ℕ)) → n ≡ get_or ws 1 n → v ≡ get_or ws 2 v → x ≡ get_or ws 3 x
    → 4 ≤ length ws → length ws < 5 → own ws ≡ Some o → ((cmd : List ℕ) → own (cmd ∷ n ∷ v ∷ x ∷ []) ≡ Some o → P (cmd ∷ n ∷ v ∷ x ∷ [])) → P ws
four_words P o n v x [] i1 i2 i3 low high mine f = absurd (omega arith)
four_words P o n v x (a ∷ []) i1 i2 i3 low high mine f = absurd (omega arith)
four_words P o n v x (a ∷ b ∷ []) i1 i2 i3 low high mine f = absurd (omega arith)
four_words P o n v x (a ∷ b ∷ c ∷ []) i1 i2 i3 low high mine f = absurd (omega arith)
four_words P o n v x (a ∷ b ∷ c ∷ d ∷ []) i1 i2 i3 low high mine f =
    subst (λ (y : List ℕ). P (a ∷ y ∷ c ∷ d ∷ [])) i1 (subst (λ (y : List ℕ). P (a ∷ n ∷ y ∷ d ∷ [])) i2 (subst (λ (y : List ℕ). P (a ∷ n ∷ v ∷ y ∷ [])) i3 (f a mine)))
four_words P o n v x (a ∷ b ∷ c ∷ d ∷ e ∷ ws) i1 i2 i3 low high mine f = absurd (omega arith)

pub five_words : (P : List (List ℕ) → Type 0) (o : Own) (n v x y : List ℕ) (ws : List (List ℕ)) → n ≡ get_or ws 1 n → v ≡ get_or ws 2 v → x ≡ get_or ws 3 x → y ≡ get_or ws 4 y
    → 5 ≤ length ws → length ws < 6 → own ws ≡ Some o → ((cmd : List ℕ) → own (cmd ∷ n ∷ v ∷ x ∷ y ∷ []) ≡ Some o → P (cmd ∷ n ∷ v ∷ x ∷ y ∷ [])) → P ws
five_words P o n v x y [] i1 i2 i3 i4 low high mine f = absurd (omega arith)
five_words P o n v x y (a ∷ []) i1 i2 i3 i4 low high mine f = absurd (omega arith)
five_words P o n v x y (a ∷ b ∷ []) i1 i2 i3 i4 low high mine f = absurd (omega arith)
five_words P o n v x y (a ∷ b ∷ c ∷ []) i1 i2 i3 i4 low high mine f = absurd (omega arith)
five_words P o n v x y (a ∷ b ∷ c ∷ d ∷ []) i1 i2 i3 i4 low high mine f = absurd (omega arith)
five_words P o n v x y (a ∷ b ∷ c ∷ d ∷ e ∷ []) i1 i2 i3 i4 low high mine f =
    subst (λ (z : List ℕ). P (a ∷ z ∷ c ∷ d ∷ e ∷ [])) i1 (subst (λ (z : List ℕ). P (a ∷ n ∷ z ∷ d ∷ e ∷ [])) i2
    (subst (λ (z : List ℕ). P (a ∷ n ∷ v ∷ z ∷ e ∷ [])) i3 (subst (λ (z : List ℕ). P (a ∷ n ∷ v ∷ x ∷ z ∷ [])) i4 (f a mine))))
five_words P o n v x y (a ∷ b ∷ c ∷ d ∷ e ∷ g ∷ ws) i1 i2 i3 i4 low high mine f = absurd (omega arith)

-- a command, its first word, and those after it
pub first_word : (P : List (List ℕ) → Type 0) (o : Own) (n : List ℕ) (ws : List (List ℕ)) → n ≡ get_or ws 1 n → 3 ≤ length ws
    → own ws ≡ Some o → ((cmd : List ℕ) → own (cmd ∷ n ∷ drop 2 ws) ≡ Some o → 0 < length (drop 2 ws) → P (cmd ∷ n ∷ drop 2 ws)) → P ws
first_word P o n [] is low mine f = absurd (omega arith)
first_word P o n (a ∷ []) is low mine f = absurd (omega arith)
first_word P o n (a ∷ b ∷ ws) is low mine f = subst (λ (x : List ℕ). P (a ∷ x ∷ ws)) is (f a mine (omega arith))

-- a command and those after it
pub after_command : (P : List (List ℕ) → Type 0) (o : Own) (ws : List (List ℕ)) → 2 ≤ length ws
    → own ws ≡ Some o → ((cmd : List ℕ) → own (cmd ∷ drop 1 ws) ≡ Some o → 0 < length (drop 1 ws) → P (cmd ∷ drop 1 ws)) → P ws
after_command P o [] low mine f = absurd (omega arith)
after_command P o (a ∷ ws) low mine f = f a mine (omega arith)

-- neither two nor three
pub neither : (n : ℕ) → (n < 2) ⊎ (4 ≤ n) → (n ≢ 2) × (n ≢ 3)
neither n (inl h) = (λ (e : n ≡ 2). absurd (omega arith), λ (e : n ≡ 3). absurd (omega arith))
neither n (inr h) = (λ (e : n ≡ 2). absurd (omega arith), λ (e : n ≡ 3). absurd (omega arith))
