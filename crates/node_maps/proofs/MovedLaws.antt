-- The node map of places that differ from those of one at hand on two nodes alone.
use Rattle.std.proofs.Common.{◌≡◌, ◌≢◌, ◌∙◌, ◌∷◌, [], inl, inr, ℕ, suc, List, length, true, cond, eqb, Option, None, ap, sym, subst, refl, arith}
use Rattle.std.proofs.lemmas.Bool.{cases_eq, cond-false, ne_eqb}
use Rattle.std.proofs.lemmas.Option.{none-some}
use Rattle.phys_lab.specs.declared.free.Free.{Free}
use Rattle.phys_lab.specs.Labs.{Lab}
use Rattle.virt_topo.specs.declared.wiring.VirtNode.{VirtNode}
use Rattle.virt_topo.specs.declared.wiring.Wiring.{Wiring}
use Rattle.virt_topo.specs.declared.mapping.Mapping.{Mapping}
use Rattle.lab_model.specs.Shapes.{Place, node_at}
use Rattle.lab_model.specs.Rules.{agree, hosted, HostedNode}
use Rattle.lab_model.specs.Feasible.{AllPass}
use Rattle.node_maps.specs.NodeMaps.{plugs_of, node_map}
use Rattle.node_maps.specs.Moved.{may_share, IsOn, KeepsPlaces, AlikeBut}
use Rattle.node_maps.proofs.Assembled.{no_map}

-- a node that isn't one of the two has the same virtual nodes
pub hosted_alike : (vs : List VirtNode) (places others : List Place) (a b n : ℕ) → AlikeBut a b places others → n ≢ a → n ≢ b → hosted vs places n ≡ hosted vs others n
hosted_alike [] places others a b n alike not_a not_b = refl
hosted_alike (v ∷ vs) [] [] a b n alike not_a not_b = refl
hosted_alike (v ∷ vs) [] (q ∷ others) a b n alike not_a not_b = absurd (let count = alike.count in omega (arith, count))
hosted_alike (v ∷ vs) (p ∷ places) [] a b n alike not_a not_b = absurd (let count = alike.count in omega (arith, count))
hosted_alike (v ∷ vs) (p ∷ places) (q ∷ others) a b n alike not_a not_b =
    let count = alike.count in
    let rest : hosted vs places n ≡ hosted vs others n = hosted_alike vs places others a b n (record { count = omega (arith, count); each = λ k d lt. alike.each (suc k) d (omega (arith, lt)) }) not_a not_b in
    let none : (x : Place) (gs : List HostedNode) → IsOn a b x → cond (eqb x.0.0 n) ((x.1, v.os) ∷ gs) gs ≡ gs = λ x gs on.
    cond-false (eqb x.0.0 n) ((x.1, v.os) ∷ gs) gs (ne_eqb x.0.0 n (λ e. elim on [ inl is ↦ not_a (sym e ∙ is) | inr is ↦ not_b (sym e ∙ is) ])) in
    elim (alike.each 0 p (omega arith)) [
      | inl same ↦ (λ i. cond (eqb (same i).0.0 n) (((same i).1, v.os) ∷ rest i) (rest i))
      | inr both ↦ none p (hosted vs places n) both.0 ∙ rest ∙ sym (none q (hosted vs others n) both.1)
    ]

-- F2 holds on the two nodes, and on each other node as before
pub shared_all : (lab : Lab) (w : Wiring) (places last : List Place) (a b : ℕ) → AlikeBut a b places last → AllPass (length lab.nodes) (may_share lab w last)
    → KeepsPlaces lab w places a b → AllPass (length lab.nodes) (may_share lab w places)
shared_all lab w places last a b alike all kept n lt = elim (cases_eq n a) [
  | inl is ↦ subst (λ (k : ℕ). may_share lab w places k ≡ true) (sym is) kept.first
  | inr not_a ↦ elim (cases_eq n b) [
    | inl is ↦ subst (λ (k : ℕ). may_share lab w places k ≡ true) (sym is) kept.second
    | inr not_b ↦ ap (agree (node_at lab (record { 0 = n })).types) (hosted_alike w.nodes places last a b n alike not_a not_b) ∙ all n lt
  ]
]

-- no node map where the rule gives some end no plug
pub no_plugs : (lab : Lab) (free : Free) (w : Wiring) (places : List Place) → plugs_of lab w places ≡ None → ◌≡◌ {A = Option Mapping} None (node_map lab free w places)
no_plugs lab free w places none = sym (no_map lab free w places (λ plugs all. none-some plugs (sym none ∙ all.given)))
