-- Virtual nodes that stay leave what they left.
use Rattle.std.proofs.Common.{◌≡◌, ◌+◌, ◌<◌, ℕ, zero, suc, List, [], ◌∷◌, length, get_or, Bool, true, false, cond, refl, ap, arith}
use Rattle.std.specs.Prelude.{◌-◌, ◌*◌, nat_lt}
use Rattle.lab_base.specs.Names.{same_name}
use Rattle.phys_lab.specs.Labs.{Lab}
use Rattle.virt_topo.specs.declared.wiring.VirtNode.{VirtNode}
use Rattle.virt_topo.specs.declared.wiring.Wiring.{Wiring}
use Rattle.virt_topo.specs.declared.mapping.Mapping.{Mapping}
use Rattle.virt_topo.specs.Wirings.{virt_at, no_virt}
use Rattle.lab_model.specs.Shapes.{Place, node_at}
use Rattle.lab_model.specs.Rules.{is_member, place_at, class_at, no_place}
use Rattle.cost_rule.specs.Cost.{missed, node_soft, class_soft, different, types_of}

pub node_alike : (lab : Lab) (w : Wiring) (from to : Mapping) (v : ℕ) → place_at from v ≡ place_at to v → node_soft lab w from v ≡ node_soft lab w to v
node_alike lab w from to v same =
    ap (λ (p : Place). missed (virt_at w v).desires (node_at lab p.0).features + missed (node_at lab p.0).features (virt_at w v).desires) same

-- the members are where they were
abbrev Stay : ℕ → List VirtNode → List Place → List Place → Type 0
Stay c vs ps qs = (v : ℕ) → v < length vs → is_member c (get_or vs v no_virt).asks ≡ true → get_or ps v no_place ≡ get_or qs v no_place

types_alike : (c : ℕ) (vs : List VirtNode) (ps qs : List Place) → length ps ≡ length vs → length qs ≡ length vs → Stay c vs ps qs → types_of c vs ps ≡ types_of c vs qs
types_alike c [] ps qs first second stay = refl
types_alike c (v ∷ vs) [] qs first second stay = absurd (omega (arith, first))
types_alike c (v ∷ vs) (p ∷ ps) [] first second stay = absurd (omega (arith, second))
types_alike c (v ∷ vs) (p ∷ ps) (q ∷ qs) first second stay =
    by (is_member c v.asks) refl (types_alike c vs ps qs (omega (arith, first)) (omega (arith, second)) (λ k lt in_class. stay (suc k) (omega (arith, lt)) in_class))
  where
    by : (b : Bool) → is_member c v.asks ≡ b → types_of c vs ps ≡ types_of c vs qs → cond b (p.1 ∷ types_of c vs ps) (types_of c vs ps) ≡ cond b (q.1 ∷ types_of c vs qs) (types_of c vs qs)
    by true is rest = let one : p ≡ q = stay zero (omega arith) is in (λ j. (one j).1 ∷ rest j)
    by false is rest = rest

pub class_alike : (w : Wiring) (from to : Mapping) (c : ℕ) → length from.places ≡ length w.nodes → length to.places ≡ length w.nodes → Stay c w.nodes from.places to.places
    → class_soft w from c ≡ class_soft w to c
class_alike w from to c first second stay =
    ap (λ (l : List (List ℕ)). cond (nat_lt (class_at w c).weight 1000) ((class_at w c).weight * (different same_name l - 1)) 0) (types_alike c w.nodes from.places to.places first second stay)
