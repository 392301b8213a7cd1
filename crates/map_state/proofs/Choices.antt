-- Choices of candidates, moved.
use Rattle.std.proofs.Common.{◌≡◌, ◌≢◌, ◌<◌, ◌∙◌, ◌⊎◌, inl, inr, ℕ, List, [], length, get_or, Contains, sym, subst, get_or-set_other, get_or-set_same, arith}
use Rattle.std.proofs.Math.ListN.{set}
use Rattle.std.proofs.lemmas.List.{length-set}
use Rattle.std.proofs.lemmas.Bool.{cases_lt}
use Rattle.lab_model.specs.Shapes.{Place}
use Rattle.lab_model.specs.Rules.{no_place}
use Rattle.node_maps.specs.NodeMaps.{IsChoice}

pub same_or_not : (m n : ℕ) → (m ≡ n) ⊎ (m ≢ n)
same_or_not m n = elim (cases_lt m n) [
  | inl below ↦ inr (λ e. absurd (omega arith))
  | inr above ↦ elim (cases_lt n m) [ inl below ↦ inr (λ e. absurd (omega arith)) | inr same ↦ inl (omega arith) ]
]

pub choice_moved : (cs : List (List Place)) (places : List Place) (v : ℕ) (p : Place) → IsChoice cs places → v < length cs → Contains (get_or cs v []) p
    → IsChoice cs (set places v p)
choice_moved cs places v p h lt among = record {
  one_each = length-set places v p ∙ h.one_each;
  among = λ k d here. elim (same_or_not k v) [
    | inl same ↦ (
        let inside : v < length places = omega (arith, h.one_each) in
        let At : ℕ → Type 0 = λ n. Contains (get_or cs n []) (get_or (set places v p) n d) in
        let In : Place → Type 0 = λ q. Contains (get_or cs v []) q in
        subst At (sym same) (subst In (sym (get_or-set_same places v p d inside)) among))
    | inr other ↦ (
        let In : Place → Type 0 = λ q. Contains (get_or cs k []) q in
        subst In (sym (get_or-set_other places v k p d other)) (h.among k d here))
  ];
}

-- each virtual node has a candidate
pub choice_some : (cs : List (List Place)) (places : List Place) (v : ℕ) → IsChoice cs places → v < length cs → 0 < length (get_or cs v [])
choice_some cs places v h lt = let there = h.among v no_place lt in omega (arith, there.1)

pub choice_exchanged : (cs : List (List Place)) (places : List Place) (v u : ℕ) (p q : Place) → IsChoice cs places → v < length cs → u < length cs
    → Contains (get_or cs v []) p → Contains (get_or cs u []) q → IsChoice cs (set (set places v p) u q)
choice_exchanged cs places v u p q h v_in u_in p_among q_among =
    choice_moved cs (set places v p) u q (choice_moved cs places v p h v_in p_among) u_in q_among
