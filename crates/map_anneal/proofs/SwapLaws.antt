-- The cost of classes where two virtual nodes are exchanged, before and after a step.
use Rattle.std.proofs.Common.{◌≡◌, ◌≢◌, ◌⊎◌, ◌<◌, ◌+◌, ◌∙◌, inl, inr, ℕ, List, length, Bool, true, false, cond, nat_lt, ◌&&◌, not, refl, ap, sym, subst, arith, get_or-set_same, get_or-set_other}
use Rattle.std.specs.List.{list_any}
use Rattle.std.proofs.Math.ListN.{set}
use Rattle.std.proofs.lemmas.Bool.{cases_eq, eq-eqb, ne_eqb, eqb-true}
use Rattle.std.proofs.lemmas.List.{length-set, set_comm}
use Rattle.lab_base.specs.Names.{same_name}
use Rattle.lab_base.proofs.Tests.{same_tests}
use Rattle.virt_topo.specs.declared.wiring.Asks.{Asks}
use Rattle.virt_topo.specs.declared.wiring.Asks.TheVariants.{Plain, Class as InClass}
use Rattle.virt_topo.specs.declared.wiring.Wiring.{Wiring}
use Rattle.virt_topo.specs.declared.mapping.Mapping.{Mapping}
use Rattle.virt_topo.specs.Wirings.{virt_at}
use Rattle.lab_model.specs.Shapes.{Place}
use Rattle.lab_model.specs.Rules.{class_at, is_member, no_place, place_at}
use Rattle.cost_rule.specs.Cost.{types_of}
use Rattle.map_state.specs.Hosted.{asked_soft, placed_at}
use Rattle.map_anneal.specs.Steps.{KeepsTypes}
use Rattle.map_anneal.proofs.TypeLaws.{any_from, any_to, soft_alike, soft_now}
use Rattle.map_anneal.proofs.MoveReads.{gained, spared}

-- no class that one asks for is asked for by the other
abbrev AreApart : (a b : Asks) → Type 0
AreApart a b = (c : ℕ) → is_member c b ≡ true → is_member c a ≡ false

-- both ask for this class
record AreOfClass (a b : Asks) (c : ℕ) : Type 0 where
  first : a ≡ InClass c
  second : b ≡ InClass c

same_or_apart : (a b : Asks) → ((c : ℕ) × AreOfClass a b c) ⊎ AreApart a b
same_or_apart (Plain t) b = inr (λ c is. refl)
same_or_apart (InClass c) (Plain t) = inr (λ k is. absurd (cc is))
same_or_apart (InClass c) (InClass d) = elim (cases_eq c d) [
  | inl same ↦ inl (c, record { first = refl; second = ap InClass (sym same) })
  | inr apart ↦ inr (λ k is. ne_eqb c k (λ e. apart (e ∙ sym (eqb-true d k is))))
]

-- whether a member has the type, where one that is no member goes elsewhere
other_any : (w : Wiring) (m : Mapping) (c v : ℕ) (p : Place) (type : List ℕ) → length m.places ≡ length w.nodes → is_member c (virt_at w v).asks ≡ false
    → list_any (same_name type) (types_of c w.nodes (set m.places v p)) ≡ list_any (same_name type) (types_of c w.nodes m.places)
other_any w m c v p type all out = same_tests (list_any (same_name type) (types_of c w.nodes (set m.places v p))) (list_any (same_name type) (types_of c w.nodes m.places)) to from
  where
    differ : (k : ℕ) → is_member c (virt_at w k).asks ≡ true → k ≢ v
    differ k member same = absurd (let both : true ≡ false = sym member ∙ ap (λ (j : ℕ). is_member c (virt_at w j).asks) same ∙ out in cc both)

    to : list_any (same_name type) (types_of c w.nodes (set m.places v p)) ≡ true → list_any (same_name type) (types_of c w.nodes m.places) ≡ true
    to is =
        let was = any_to c type w.nodes (set m.places v p) is in
        let within = was.within in
        any_from c type w.nodes m.places was.virt within (omega (arith, within, all)) was.member
        (ap (λ (q : Place). q.1) (sym (get_or-set_other m.places v was.virt p no_place (differ was.virt was.member))) ∙ was.typed)

    from : list_any (same_name type) (types_of c w.nodes m.places) ≡ true → list_any (same_name type) (types_of c w.nodes (set m.places v p)) ≡ true
    from is =
        let was = any_to c type w.nodes m.places is in
        let within = was.within in
        any_from c type w.nodes (set m.places v p) was.virt within (omega (arith, within, all, length-set m.places v p)) was.member
        (ap (λ (q : Place). q.1) (get_or-set_other m.places v was.virt p no_place (differ was.virt was.member)) ∙ was.typed)

other_asked : (w : Wiring) (m : Mapping) (v : ℕ) (p : Place) (asks : Asks) (type : List ℕ) → length m.places ≡ length w.nodes → AreApart (virt_at w v).asks asks → asked_soft w (placed_at m v p) asks type ≡ asked_soft w m asks type
other_asked w m v p (Plain t) type all apart = refl
other_asked w m v p (InClass c) type all apart =
    ap (λ (b : Bool). cond (nat_lt c (length w.classes)) (cond (nat_lt (class_at w c).weight 1000 && not b) (class_at w c).weight 0) 0)
    (other_any w m c v p type all (apart c (eq-eqb c c refl)))

-- a type that a member has costs nothing
has_asked : (w : Wiring) (m : Mapping) (c k : ℕ) (asks : Asks) (type : List ℕ) → asks ≡ InClass c → k < length w.nodes → k < length m.places → is_member c (virt_at w k).asks ≡ true → (place_at m k).1 ≡ type → asked_soft w m asks type ≡ 0
has_asked w m c k asks type is lt less member typed =
    ap (λ (a : Asks). asked_soft w m a type) is ∙ none (nat_lt c (length w.classes)) (nat_lt (class_at w c).weight 1000) (class_at w c).weight (list_any (same_name type) (types_of c w.nodes m.places))
    (any_from c type w.nodes m.places k lt less member typed)
  where
    cases : (a b : Bool) (n : ℕ) → cond a (cond (b && not true) n 0) 0 ≡ 0
    cases true true n = refl
    cases true false n = refl
    cases false b n = refl

    none : (a b : Bool) (n : ℕ) (d : Bool) → d ≡ true → cond a (cond (b && not d) n 0) 0 ≡ 0
    none a b n d has = subst (λ (e : Bool). cond a (cond (b && not e) n 0) 0 ≡ 0) (sym has) (cases a b n)

-- an exchange of two members of one class costs the class nothing
swap_same : (w : Wiring) (m : Mapping) (v u c : ℕ) (p q : Place) → AreOfClass (virt_at w v).asks (virt_at w u).asks c → length m.places ≡ length w.nodes → v < length w.nodes → u < length w.nodes → v ≢ u
    → place_at m u ≡ p → gained w m v u p q ≡ spared w m v u p q
swap_same w m v u c p q are all v_in u_in apart at_u =
    let m1 : Mapping = placed_at m v p in
    let m2 : Mapping = placed_at m1 u q in
    let v_is : is_member c (virt_at w v).asks ≡ true = ap (is_member c) are.first ∙ eq-eqb c c refl in
    let u_is : is_member c (virt_at w u).asks ≡ true = ap (is_member c) are.second ∙ eq-eqb c c refl in
    let one = length-set m.places v p in
    let two = length-set m1.places u q in
    let first = has_asked w m c u (virt_at w v).asks p.1 are.first u_in (omega (arith, u_in, all)) u_is (ap (λ (r : Place). r.1) at_u) in
    let there : place_at m2 v ≡ p = get_or-set_other m1.places u v q no_place apart ∙ get_or-set_same m.places v p no_place (omega (arith, v_in, all)) in
    let last = has_asked w m2 c v (virt_at w u).asks p.1 are.second v_in (omega (arith, v_in, all, one, two)) v_is (ap (λ (r : Place). r.1) there) in
    let middle : ◌≡◌ {A = ℕ} (asked_soft w m1 (virt_at w u).asks q.1) (asked_soft w m1 (virt_at w v).asks q.1) = ap (λ (a : Asks). asked_soft w m1 a q.1) (are.second ∙ sym are.first) in
    omega (arith, first, last, middle)

-- a step, and two virtual nodes whose places and classes it leaves
pub record IsSwap (w : Wiring) (x y : Mapping) (v u : ℕ) (p q : Place) : Type 0 where
  pub x_all : length x.places ≡ length w.nodes
  pub y_all : length y.places ≡ length w.nodes
  pub v_in : v < length w.nodes
  pub u_in : u < length w.nodes
  pub apart : v ≢ u
  pub x_v : place_at x v ≡ q
  pub y_v : place_at y v ≡ q
  pub x_u : place_at x u ≡ p
  pub y_u : place_at y u ≡ p
  pub v_class : (c : ℕ) → is_member c (virt_at w v).asks ≡ true → KeepsTypes w x y c
  pub u_class : (c : ℕ) → is_member c (virt_at w u).asks ≡ true → KeepsTypes w x y c

-- WHAT AN EXCHANGE CHANGES OF THE COST OF CLASSES is the same before and after the step
pub swap_classes : (w : Wiring) (x y : Mapping) (v u : ℕ) (p q : Place) → IsSwap w x y v u p q → gained w x v u p q + spared w y v u p q ≡ gained w y v u p q + spared w x v u p q
swap_classes w x y v u p q h = elim (same_or_apart (virt_at w v).asks (virt_at w u).asks) [
  | inl same ↦ (
      let one = swap_same w x v u same.0 p q same.1 h.x_all h.v_in h.u_in h.apart h.x_u in
      let two = swap_same w y v u same.0 p q same.1 h.y_all h.v_in h.u_in h.apart h.y_u in
      omega (arith, one, two))
  | inr out ↦ (
      let taken_v = soft_now w x y v (virt_at w v).asks p.1 h.x_all h.y_all h.v_in (h.x_v ∙ sym h.y_v) h.v_class in
      let left_v = soft_alike w x y v p (virt_at w v).asks q.1 h.x_all h.y_all h.v_in h.v_class in
      let taken_u = other_asked w x v p (virt_at w u).asks q.1 h.x_all out ∙ soft_now w x y u (virt_at w u).asks q.1 h.x_all h.y_all h.u_in (h.x_u ∙ sym h.y_u) h.u_class
      ∙ sym (other_asked w y v p (virt_at w u).asks q.1 h.y_all out) in
      let left_u = turned x h.x_all out ∙ soft_alike w x y u q (virt_at w u).asks p.1 h.x_all h.y_all h.u_in h.u_class ∙ sym (turned y h.y_all out) in
      omega (arith, taken_v, left_v, taken_u, left_u))
]
  where
    turned : (m : Mapping) → length m.places ≡ length w.nodes → AreApart (virt_at w v).asks (virt_at w u).asks
        → asked_soft w (placed_at (placed_at m v p) u q) (virt_at w u).asks p.1 ≡ asked_soft w (placed_at m u q) (virt_at w u).asks p.1
    turned m all out =
        ap (λ (l : List Place). asked_soft w (record { places = l; plugs = m.plugs }) (virt_at w u).asks p.1) (set_comm m.places v u p q h.apart)
        ∙ other_asked w (placed_at m u q) v p (virt_at w u).asks p.1 (length-set m.places u q ∙ all) out
