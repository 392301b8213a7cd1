-- Nodes on which nobody is keep the rule on the virtual nodes of a node.
use Rattle.std.proofs.Common.{◌≡◌, ◌⊎◌, inl, inr, ℕ, zero, suc, ◌+◌, ◌<◌, ◌≤◌, true, cond, eqb, List, [], ◌∷◌, length, get_or, refl, sym, ap, ◌∙◌, arith}
use Rattle.std.proofs.lemmas.Bool.{cases_Bool, eqb-true}
use Rattle.virt_topo.specs.declared.wiring.VirtNode.{VirtNode}
use Rattle.virt_topo.specs.declared.wiring.Wiring.{Wiring}
use Rattle.virt_topo.specs.declared.mapping.Mapping.{Mapping}
use Rattle.phys_lab.specs.Labs.{Lab}
use Rattle.lab_model.specs.Shapes.{Place, node_at}
use Rattle.lab_model.specs.Rules.{HostedNode, agree, hosted, keeps_f2, no_place, place_at}
use Rattle.lab_model.specs.Feasible.{AllPass}

-- a place on the node
abbrev IsPlaced : List Place → ℕ → Type 0
IsPlaced places n = (i : ℕ) × (i < length places) × ((get_or places i no_place).0.0 ≡ n)

-- nobody is on the node, or some place is
nobody_or_one : (vs : List VirtNode) (places : List Place) (n : ℕ) → (hosted vs places n ≡ []) ⊎ IsPlaced places n
nobody_or_one [] places n = inl refl
nobody_or_one (v ∷ vs) [] n = inl refl
nobody_or_one (v ∷ vs) (p ∷ places) n = elim (cases_Bool (eqb p.0.0 n)) [
  | inl here ↦ inr (0, omega arith, eqb-true p.0.0 n here)
  | inr other ↦ elim (nobody_or_one vs places n) [
    | inl none ↦ inl (ap (λ b. cond b ((p.1, v.os) ∷ hosted vs places n) (hosted vs places n)) other ∙ none)
    | inr one ↦ inr (suc one.0, omega (arith, one.1), one.2)
  ]
]

-- where the nodes of all places keep the rule, all nodes do
pub all_keep : (lab : Lab) (w : Wiring) (m : Mapping) (k n : ℕ) → length m.places ≤ k → AllPass k (λ v. keeps_f2 lab w m (place_at m v).0.0) → AllPass n (keeps_f2 lab w m)
all_keep lab w m k n whole placed j lt = elim (nobody_or_one w.nodes m.places j) [
  | inl none ↦ ap (λ (l : List HostedNode). agree (node_at lab (record { 0 = j })).types l) none
  | inr one ↦ ap (keeps_f2 lab w m) (sym one.2) ∙ placed one.0 (omega (arith, whole, one.1))
]
