-- Rules that hold after the try on the first map, and so after the try on the second.
use Rattle.std.proofs.Common.{◌≡◌, ◌⊎◌, ◌∙◌, ◌∷◌, [], inl, inr, ℕ, suc, List, length, cond, eqb, refl, ap, sym, arith}
use Rattle.std.proofs.lemmas.Bool.{cond-false, ne_eqb}
use Rattle.phys_lab.specs.Labs.{Lab}
use Rattle.virt_topo.specs.declared.wiring.VirtNode.{VirtNode}
use Rattle.virt_topo.specs.declared.wiring.Wiring.{Wiring}
use Rattle.virt_topo.specs.declared.mapping.Mapping.{Mapping}
use Rattle.lab_model.specs.Shapes.{Place, node_at}
use Rattle.lab_model.specs.Rules.{agree, hosted, HostedNode, keeps_f7}
use Rattle.lab_model.specs.Feasible.{AllPass}
use Rattle.node_maps.specs.Moved.{may_share}
use Rattle.map_anneal.proofs.Shares.{OneTry}
use Rattle.map_anneal.proofs.Frames.{IsOff, AlikeOn}
use Rattle.map_anneal.proofs.SwitchLaws.{f7_alike}

-- each of the two nodes has the same virtual nodes
pub guests_on : (vs : List VirtNode) (places others : List Place) (a b n : ℕ) → AlikeOn a b places others → (n ≡ a) ⊎ (n ≡ b) → hosted vs places n ≡ hosted vs others n
guests_on [] places others a b n alike here = refl
guests_on (v ∷ vs) [] [] a b n alike here = refl
guests_on (v ∷ vs) [] (q ∷ others) a b n alike here = absurd (let count = alike.count in omega (arith, count))
guests_on (v ∷ vs) (p ∷ places) [] a b n alike here = absurd (let count = alike.count in omega (arith, count))
guests_on (v ∷ vs) (p ∷ places) (q ∷ others) a b n alike here =
    let count = alike.count in
    let rest : hosted vs places n ≡ hosted vs others n = guests_on vs places others a b n (record { count = omega (arith, count); each = λ k d lt. alike.each (suc k) d (omega (arith, lt)) }) here in
    let none : (x : Place) (gs : List HostedNode) → IsOff a b x → cond (eqb x.0.0 n) ((x.1, v.os) ∷ gs) gs ≡ gs = λ x gs off.
    cond-false (eqb x.0.0 n) ((x.1, v.os) ∷ gs) gs (ne_eqb x.0.0 n (λ e. elim here [ inl is ↦ off.0 (e ∙ is) | inr is ↦ off.1 (e ∙ is) ])) in
    elim (alike.each 0 p (omega arith)) [
      | inl same ↦ (λ i. cond (eqb (same i).0.0 n) (((same i).1, v.os) ∷ rest i) (rest i))
      | inr both ↦ none p (hosted vs places n) both.0 ∙ rest ∙ sym (none q (hosted vs others n) both.1)
    ]

-- F2 of the two nodes
pub shares_on : (lab : Lab) (w : Wiring) (places others : List Place) (a b n : ℕ) → AlikeOn a b places others → (n ≡ a) ⊎ (n ≡ b) → may_share lab w places n ≡ may_share lab w others n
shares_on lab w places others a b n alike here = ap (agree (node_at lab (record { 0 = n })).types) (guests_on w.nodes places others a b n alike here)

-- F7 of all segments
pub joined_on : (lab : Lab) (w : Wiring) (m n x y : Mapping) → OneTry lab w m n x y → AllPass (length w.segments) (keeps_f7 lab w m) → AllPass (length w.segments) (keeps_f7 lab w y)
    → AllPass (length w.segments) (keeps_f7 lab w n)
joined_on lab w m n x y one before after s lt = elim (one.each s lt) [
  | inl both ↦ f7_alike lab w n y s both.1 ∙ after s lt
  | inr kept ↦ sym (f7_alike lab w m n s kept.0) ∙ before s lt
]
