-- Orders of entries and of numbers.
use Rattle.std.proofs.Common.{◌≡◌, ◌⊎◌, inl, inr, ◌<◌, ℕ, arith, sym}
use Rattle.plant.specs.Readings.{IsBefore}

-- of two one comes first, or they are one; nothing comes before itself, nor before what comes before it
pub record IsOrder {X : Type 0} (before : X → X → Type 0) : Type 0 where
  pub total : (x y : X) → before x y ⊎ ((x ≡ y) ⊎ before y x)
  pub never : (x : X) → before x x → ⊥
  pub on : (x y z : X) → before x y → before y z → before x z

less_total : (x y : ℕ) → (x < y) ⊎ ((x ≡ y) ⊎ (y < x))
less_total x y = grind arith

pub numbers : IsOrder ◌<◌
numbers = record {
  total = less_total;
  never = λ x h. omega (arith, h);
  on = λ x y z h g. omega (arith, h, g);
}

pair_total : (x y : ℕ × ℕ) → IsBefore x y ⊎ ((x ≡ y) ⊎ IsBefore y x)
pair_total x y = elim (less_total x.0 y.0) [
  | inl h ↦ inl (inl h)
  | inr h ↦ elim h [
    | inr g ↦ inr (inr (inl g))
    | inl e ↦ elim (less_total x.1 y.1) [
      | inl g ↦ inl (inr (e, g))
      | inr g ↦ elim g [ inl d ↦ inr (inl (λ i. (e i, d i))) | inr k ↦ inr (inr (inr (sym e, k))) ]
    ]
  ]
]

pair_never : (x : ℕ × ℕ) → IsBefore x x → ⊥
pair_never x (inl h) = omega (arith, h)
pair_never x (inr h) = omega (arith, h.1)

pair_on : (x y z : ℕ × ℕ) → IsBefore x y → IsBefore y z → IsBefore x z
pair_on x y z (inl h) (inl g) = inl (omega (arith, h, g))
pair_on x y z (inl h) (inr g) = inl (omega (arith, h, g.0))
pair_on x y z (inr h) (inl g) = inl (omega (arith, h.0, g))
pair_on x y z (inr h) (inr g) = inr (omega (arith, h.0, g.0), omega (arith, h.1, g.1))

pub entries : IsOrder IsBefore
entries = record { total = pair_total; never = pair_never; on = pair_on }
