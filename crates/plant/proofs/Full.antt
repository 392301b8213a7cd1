-- Lists that rise and are as long as can be.
use Rattle.std.proofs.Common.{◌≡◌, ◌⊎◌, inl, inr, ℕ, suc, ◌+◌, ◌*◌, ◌≤◌, ◌<◌, List, [], ◌∷◌, length, map, refl, ap, ◌∙◌, subst, arith}
use Rattle.lab_base.specs.Lists.{Has, Apart}
use Rattle.lab_base.proofs.Members.{Has-map}
use Rattle.plant.specs.Readings.{IsBefore}

-- numbers that rise from lo and stay below n are no more than that
few : (lo n : ℕ) (xs : List ℕ) → lo ≤ n → Apart ◌<◌ xs → ((x : ℕ) → Has xs x → (lo ≤ x) × (x < n)) → lo + length xs ≤ n
few lo n [] le rises within = omega (arith, le)
few lo n (x ∷ xs) le rises within =
    let first : (lo ≤ x) × (x < n) = within x (inl refl) in
    let later : suc x + length xs ≤ n = few (suc x) n xs (omega (arith, first.1)) rises.1 (λ y h. (omega (arith, rises.0 y h), (within y (inr h)).1)) in
    omega (arith, first.0, later)

-- as many of them as can be are all
all_from : (lo n : ℕ) (xs : List ℕ) → Apart ◌<◌ xs → ((x : ℕ) → Has xs x → (lo ≤ x) × (x < n)) → n ≤ lo + length xs → (k : ℕ) → lo ≤ k → k < n → Has xs k
all_from lo n [] rises within many k above below = absurd (omega (arith, many, above, below))
all_from lo n (x ∷ xs) rises within many k above below =
    let first : (lo ≤ x) × (x < n) = within x (inl refl) in
    let later : suc x + length xs ≤ n = few (suc x) n xs (omega (arith, first.1)) rises.1 (λ y h. (omega (arith, rises.0 y h), (within y (inr h)).1)) in
    let here : x ≡ lo = omega (arith, first.0, later, many) in
    elim (one_or_more lo k above) [
      | inl e ↦ inl (here ∙ e)
      | inr more ↦ inr (all_from (suc lo) n xs rises.1 (λ y h. (omega (arith, rises.0 y h, here), (within y (inr h)).1)) (omega (arith, many)) k more below)
    ]
  where
    one_or_more : (a b : ℕ) → a ≤ b → (a ≡ b) ⊎ (suc a ≤ b)
    one_or_more a b le = grind arith

pub all_numbers : (n : ℕ) (xs : List ℕ) → Apart ◌<◌ xs → ((x : ℕ) → Has xs x → x < n) → n ≤ length xs → (k : ℕ) → k < n → Has xs k
all_numbers n xs rises within many k below = all_from 0 n xs rises (λ x h. (omega arith, within x h)) (omega (arith, many)) k (omega arith) below

-- pairs below a power of two, as numbers
code : ℕ × ℕ → ℕ
code e = e.0 * 65536 + e.1

Fits : ℕ × ℕ → Type 0
Fits e = (e.0 < 65536) × (e.1 < 65536)

code_rises : (a b : ℕ × ℕ) → Fits a → Fits b → IsBefore a b → code a < code b
unfolding code Fits
code_rises a b f g (inl h) = omega (arith, f.1, h)
code_rises a b f g (inr h) = omega (arith, h.0, h.1)

code_small : (a : ℕ × ℕ) → Fits a → code a < 4294967296
unfolding code Fits
code_small a f = omega (arith, f.0, f.1)

code_one : (a b : ℕ × ℕ) → Fits a → Fits b → code a ≡ code b → a ≡ b
unfolding code Fits
code_one a b f g e =
    let high : a.0 ≡ b.0 = omega (arith, f.1, g.1, e) in
    let low : a.1 ≡ b.1 = omega (arith, high, e) in
    λ i. (high i, low i)

codes_rise : (xs : List (ℕ × ℕ)) → Apart IsBefore xs → ((e : ℕ × ℕ) → Has xs e → Fits e) → Apart ◌<◌ (map code xs)
codes_rise [] rises fits = tt
codes_rise (x ∷ xs) rises fits = (
  (λ k h. let f = Has-map code xs k h in subst (λ v. code x < v) f.2 (code_rises x f.0 (fits x (inl refl)) (fits f.0 (inr f.1)) (rises.0 f.0 f.1))),
  codes_rise xs rises.1 (λ e h. fits e (inr h)),
)

size : (xs : List (ℕ × ℕ)) → length (map code xs) ≡ length xs
size [] = refl
size (x ∷ xs) = ap suc (size xs)

-- as many pairs that rise as there can be are all
pub all_entries : (xs : List (ℕ × ℕ)) → Apart IsBefore xs → ((e : ℕ × ℕ) → Has xs e → (e.0 < 65536) × (e.1 < 65536)) → 4294967296 ≤ length xs → (e : ℕ × ℕ) → (e.0 < 65536) × (e.1 < 65536) → Has xs e
unfolding Fits
all_entries xs rises fits many e fit =
    let has : Has (map code xs) (code e) =
    all_numbers 4294967296 (map code xs) (codes_rise xs rises fits)
    (λ k h. let f = Has-map code xs k h in subst (λ v. v < 4294967296) f.2 (code_small f.0 (fits f.0 f.1)))
    (omega (arith, size xs, many)) (code e) (code_small e fit) in
    let f = Has-map code xs (code e) has in
    subst (λ v. Has xs v) (code_one f.0 e (fits f.0 f.1) fit f.2) f.1
