-- (b) Uses add up segment by segment, so a try adds the same to the uses of two mappings that agree on its segments.
use Rattle.std.proofs.Common.{◌≡◌, ◌<◌, ◌≤◌, ◌+◌, ◌∙◌, ◌∷◌, [], inl, inr, ℕ, zero, suc, List, length, get_or, refl, ap, arith}
use Rattle.std.specs.List.{sum_by}
use Rattle.std.proofs.lemmas.List.Sums.{sum_by-cons}
use Rattle.phys_lab.specs.Labs.{Lab}
use Rattle.virt_topo.specs.declared.wiring.Wiring.{Wiring}
use Rattle.virt_topo.specs.declared.mapping.Mapping.{Mapping}
use Rattle.virt_topo.proofs.CableLaws.{length-cables}
use Rattle.lab_model.specs.Uses.{use_of, cables_of}
use Rattle.lab_model.specs.Rules.{no_cable}
use Rattle.cost_rule.specs.Cost.{sum_below, trunk_uses}
use Rattle.map_anneal.proofs.Shares.{cable_share, share_at, OneTry}
use Rattle.map_anneal.proofs.SwitchLaws.{share_at_alike}

-- the sum below n, the first one taken out
sum_first : (n : ℕ) (f : ℕ → ℕ) → sum_below (suc n) f ≡ f 0 + sum_below n (λ k. f (suc k))
sum_first zero f = omega arith
sum_first (suc n) f = let rest = sum_first n f in omega (arith, rest)

-- a sum over a list is one over its numbers
pub list_sum : {X : Type 0} (f : X → ℕ) (xs : List X) (d : X) → sum_by f xs ≡ sum_below (length xs) (λ s. f (get_or xs s d))
list_sum f [] d = refl
list_sum f (x ∷ xs) d =
    let first = sum_by-cons f x xs in
    let rest = list_sum f xs d in
    let out = sum_first (length xs) (λ s. f (get_or (x ∷ xs) s d)) in
    omega (arith, first, rest, out)

-- THE USE OF A TRUNK IS THE SUM OF WHAT THE SEGMENTS USE OF IT
pub use_is_sum : (lab : Lab) (w : Wiring) (m : Mapping) (t : ℕ) → use_of lab w m t ≡ sum_below (length w.segments) (share_at lab w m t)
use_is_sum lab w m t =
    list_sum (cable_share lab t) (cables_of w m) no_cable
    ∙ ap (λ (n : ℕ). sum_below n (share_at lab w m t)) (length-cables w.segments m.plugs)

-- four sums whose numbers add up alike
pub sums_add : (n : ℕ) (f g h k : ℕ → ℕ) → ((s : ℕ) → s < n → f s + g s ≡ h s + k s) → sum_below n f + sum_below n g ≡ sum_below n h + sum_below n k
sums_add zero f g h k same = refl
sums_add (suc n) f g h k same = let rest = sums_add n f g h k (λ s lt. same s (omega (arith, lt))) in let last = same n (omega arith) in omega (arith, rest, last)

share_adds : (lab : Lab) (w : Wiring) (m n k l : Mapping) (t s : ℕ) → OneTry lab w m n k l → s < length w.segments
    → share_at lab w n t s + share_at lab w k t s ≡ share_at lab w l t s + share_at lab w m t s
share_adds lab w m n k l t s one lt = elim (one.each s lt) [
  | inl both ↦ (let before = share_at_alike lab w m k t s both.0 in let after = share_at_alike lab w n l t s both.1 in omega (arith, before, after))
  | inr none ↦ (let first = share_at_alike lab w m n t s none.0 in let second = share_at_alike lab w k l t s none.1 in omega (arith, first, second))
]

-- EACH TRUNK'S USE CHANGES BY THE SAME NUMBER
pub use_adds : (lab : Lab) (w : Wiring) (m n k l : Mapping) (t : ℕ) → OneTry lab w m n k l → use_of lab w n t + use_of lab w k t ≡ use_of lab w l t + use_of lab w m t
use_adds lab w m n k l t one =
    let all = sums_add (length w.segments) (share_at lab w n t) (share_at lab w k t) (share_at lab w l t) (share_at lab w m t) (λ s lt. share_adds lab w m n k l t s one lt) in
    let a = use_is_sum lab w m t in
    let b = use_is_sum lab w n t in
    let c = use_is_sum lab w k t in
    let d = use_is_sum lab w l t in
    omega (arith, all, a, b, c, d)

-- and so does the sum of the uses
pub uses_add : (lab : Lab) (w : Wiring) (m n k l : Mapping) → OneTry lab w m n k l → trunk_uses lab w n + trunk_uses lab w k ≡ trunk_uses lab w l + trunk_uses lab w m
uses_add lab w m n k l one = sums_add (length lab.trunks) (use_of lab w n) (use_of lab w k) (use_of lab w l) (use_of lab w m) (λ t lt. use_adds lab w m n k l t one)

-- F6 FAILED BEFORE AND FAILS NOW: where the trunk has lost no use
pub still_over : (lab : Lab) (w : Wiring) (m n k l : Mapping) (t most : ℕ) → OneTry lab w m n k l → most < use_of lab w n t → use_of lab w m t ≤ use_of lab w k t → most < use_of lab w l t
still_over lab w m n k l t most one over kept = let add = use_adds lab w m n k l t one in omega (arith, add, over, kept)
