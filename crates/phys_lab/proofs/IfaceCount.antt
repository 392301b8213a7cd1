-- A lab has at most 16 interfaces for each of at most 1,024 nodes.
use Rattle.std.proofs.Common.{◌≡◌, ℕ, zero, suc, ◌+◌, ◌*◌, ◌<◌, ◌≤◌, inl, inr, Bool, cond, eqb, List, [], ◌∷◌, length, All, refl, ap, arith}
use Rattle.std.specs.Prelude.{count_by}
use Rattle.std.proofs.lemmas.Bool.{cases_lt, eq-eqb}
use Rattle.std.proofs.lemmas.List.Sums.{sum_by-cons}
use Rattle.phys_lab.specs.declared.parts.Iface.{Iface}
use Rattle.phys_lab.specs.Labs.{Lab}
use Rattle.phys_lab.specs.Kept.{IsLab}

-- the sum of f over the numbers below n
abbrev total : ℕ → (ℕ → ℕ) → ℕ
total zero f = 0
total (suc n) f = total n f + f n

total_same : (n : ℕ) (f g : ℕ → ℕ) → ((k : ℕ) → f k ≡ g k) → total n f ≡ total n g
total_same zero f g same = refl
total_same (suc n) f g same = let rest = total_same n f g same in let last = same n in omega (arith, rest, last)

total_both : (n : ℕ) (f g : ℕ → ℕ) → total n (λ k. f k + g k) ≡ total n f + total n g
total_both zero f g = refl
total_both (suc n) f g = omega (arith, total_both n f g)

total_le : (n : ℕ) (f : ℕ → ℕ) → ((k : ℕ) → f k ≤ 16) → total n f ≤ n * 16
total_le zero f few = omega arith
total_le (suc n) f few = omega (arith, total_le n f few, few n)

abbrev one : ℕ → ℕ → ℕ
one v k = cond (eqb v k) 1 0

hit : (n v : ℕ) → v < n → 1 ≤ total n (one v)
hit zero v lt = absurd (omega arith)
hit (suc n) v lt = elim (cases_lt v n) [
  | inl below ↦ omega (arith, hit n v below)
  | inr above ↦ (
      let same : v ≡ n = omega arith in
      let here : ◌≡◌ {A = ℕ} (one v n) 1 = ap (λ (b : Bool). cond b 1 0) (eq-eqb v n same) in
      omega (arith, here))
]

counted : (n : ℕ) (xs : List Iface) → All (λ x. x.node.0 < n) xs → length xs ≤ total n (λ k. count_by (λ (x : Iface). eqb x.node.0 k) xs)
counted n [] within = omega arith
counted n (x ∷ xs) within =
    let rest = counted n xs (λ k d lt. within (suc k) d (omega arith)) in
    let here = hit n x.node.0 (within 0 x (omega arith)) in
    let split = total_same n (λ k. count_by (λ (y : Iface). eqb y.node.0 k) (x ∷ xs)) (λ k. one x.node.0 k + count_by (λ (y : Iface). eqb y.node.0 k) xs) (λ k. sum_by-cons (λ (y : Iface). cond (eqb y.node.0 k) 1 0) x xs) in
    let both = total_both n (one x.node.0) (λ k. count_by (λ (y : Iface). eqb y.node.0 k) xs) in
    omega (arith, rest, here, split, both)

pub few_ifaces : (lab : Lab) → IsLab lab → length lab.ifaces ≤ 16384
few_ifaces lab is =
    let n = length lab.nodes in
    omega (arith, counted n lab.ifaces is.linked.nodes, total_le n (λ k. count_by (λ (x : Iface). eqb x.node.0 k) lab.ifaces) is.few_ifaces, is.few_nodes)
