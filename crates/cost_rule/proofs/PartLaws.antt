-- A cost is that of the parts, which are small.
use Rattle.std.proofs.Common.{◌≡◌, ℕ, zero, suc, ◌+◌, ◌-◌, ◌*◌, ◌<◌, ◌≤◌, Bool, true, false, cond, List, [], ◌∷◌, length, map, get_or, refl, arith}
use Rattle.std.specs.Prelude.{nat_lt, not, ◌&&◌}
use Rattle.std.specs.List.{list_any}
use Rattle.std.proofs.lemmas.Bool.Decides.{nat_tests}
use Rattle.std.proofs.lemmas.List.Sums.{sum_by-le}
use Rattle.std.proofs.lemmas.Nat.{mul-le}
use Rattle.std.proofs.lemmas.List.{length-map}
use Rattle.lab_base.specs.Names.{same_name}
use Rattle.phys_lab.specs.Labs.{Lab}
use Rattle.phys_lab.specs.Kept.{IsLab}
use Rattle.phys_lab.specs.Forests.{first_side_of}
use Rattle.phys_lab.proofs.TrunkCount.{few_trunks}
use Rattle.virt_topo.proofs.CableLaws.{whole_bound, sound_keeps, sound_limits}
use Rattle.virt_topo.specs.declared.wiring.VirtNode.{VirtNode}
use Rattle.virt_topo.specs.declared.wiring.Wiring.{Wiring}
use Rattle.virt_topo.specs.declared.mapping.Mapping.{Mapping}
use Rattle.virt_topo.specs.Soundness.{IsSound}
use Rattle.virt_topo.specs.Wirings.{virt_at}
use Rattle.lab_model.specs.Shapes.{IsShaped, Place, node_at, has_name}
use Rattle.lab_model.specs.Rules.{place_at, class_at, is_member, no_place}
use Rattle.lab_model.specs.Uses.{use_of}
use Rattle.lab_model.proofs.CutLaws.{cut_is_use}
use Rattle.cost_rule.specs.declared.rule.RuleNumber.{RuleNumber}
use Rattle.cost_rule.specs.declared.rule.RuleNumber.TheVariants as numbers
use Rattle.cost_rule.specs.Cost.{cost, sum_below, different, missed_weight, missed, node_soft, kinds_of, class_soft, types_of, soft, trunk_uses, nodes_in_use, same_node}
use Rattle.cost_rule.specs.Parts.{parts_of, cost_of_parts}
use Rattle.cost_rule.proofs.LimitLaws.{few_desires, few_features}

pub cost_is : (number : RuleNumber) (lab : Lab) (w : Wiring) (m : Mapping) → cost number lab w m ≡ cost_of_parts number (parts_of lab w m)
unfolding cost cost_of_parts
cost_is numbers.Trunk lab w m = refl
cost_is numbers.Pack lab w m = refl

-- a sum of numbers that are at most c
pub sum_below_le : (n c : ℕ) (f : ℕ → ℕ) → ((k : ℕ) → k < n → f k ≤ c) → sum_below n f ≤ n * c
sum_below_le zero c f small = omega arith
sum_below_le (suc n) c f small = let rest = sum_below_le n c f (λ k lt. small k (omega (arith, lt))) in let last = small n (omega arith) in omega (arith, rest, last)

weight_small : (given : List (List ℕ × ℕ)) (p : List ℕ × ℕ) → missed_weight given p ≤ 999
weight_small given p = by (nat_lt p.1 1000) (not (has_name given p.0)) refl
  where
    by : (a b : Bool) → nat_lt p.1 1000 ≡ a → cond (a && b) p.1 0 ≤ 999
    by false b is = omega arith
    by true false is = omega arith
    by true true is = let lt : p.1 < 1000 = grind (arith, nat_tests) in omega (arith, lt)

missed_small : (wanted given : List (List ℕ × ℕ)) → length wanted ≤ 8 → missed wanted given ≤ 8 * 999
missed_small wanted given few = let sum = sum_by-le (missed_weight given) 999 wanted (λ k d lt. weight_small given (get_or wanted k d)) in omega (arith, sum, few)

-- at most as many differ as there are
one_more_le : (b : Bool) (n k : ℕ) → n ≤ k → cond b n (n + 1) ≤ suc k
one_more_le true n k le = omega (arith, le)
one_more_le false n k le = omega (arith, le)

different_le : {X : Type 0} (same : X → X → Bool) (xs : List X) → different same xs ≤ length xs
different_le same [] = omega arith
different_le same (x ∷ xs) = one_more_le (list_any (same x) xs) (different same xs) (length xs) (different_le same xs)

one_type_le : (b : Bool) (t : List ℕ) (ts : List (List ℕ)) (k : ℕ) → length ts ≤ k → length (cond b (t ∷ ts) ts) ≤ suc k
one_type_le true t ts k le = omega (arith, le)
one_type_le false t ts k le = omega (arith, le)

types_le : (c : ℕ) (vs : List VirtNode) (places : List Place) → length (types_of c vs places) ≤ length vs
types_le c [] places = omega arith
types_le c (v ∷ vs) [] = omega arith
types_le c (v ∷ vs) (p ∷ places) = one_type_le (is_member c v.asks) p.1 (types_of c vs places) (length vs) (types_le c vs places)

class_small : (w : Wiring) (m : Mapping) (c : ℕ) → length w.nodes ≤ 256 → class_soft w m c ≤ 999 * 256
class_small w m c few = by (nat_lt (class_at w c).weight 1000) refl
  where
    by : (b : Bool) → nat_lt (class_at w c).weight 1000 ≡ b → cond b ((class_at w c).weight * (kinds_of w m c - 1)) 0 ≤ 999 * 256
    by false is = omega arith
    by true is =
        let light : (class_at w c).weight < 1000 = grind (arith, nat_tests) in
        let kinds : kinds_of w m c - 1 ≤ 256 = omega (arith, different_le same_name (types_of c w.nodes m.places), types_le c w.nodes m.places, few) in
        mul-le (class_at w c).weight (kinds_of w m c - 1) 999 256 (omega (arith, light)) kinds

in_lab : (lab : Lab) (w : Wiring) (m : Mapping) (v : ℕ) → IsShaped lab w m → v < length w.nodes → (place_at m v).0.0 < length lab.nodes
in_lab lab w m v shaped lt = shaped.in_nodes v no_place (omega (arith, lt, shaped.places))

node_small : (lab : Lab) (w : Wiring) (m : Mapping) (v : ℕ) → IsLab lab → IsSound w → IsShaped lab w m → v < length w.nodes → node_soft lab w m v ≤ 16 * 999
node_small lab w m v is sound shaped lt =
    let one = missed_small (virt_at w v).desires (node_at lab (place_at m v).0).features (few_desires w v sound lt) in
    let other = missed_small (node_at lab (place_at m v).0).features (virt_at w v).desires (few_features lab (place_at m v).0 is (in_lab lab w m v shaped lt)) in
    omega (arith, one, other)

-- SOFT IS SMALL
pub soft_small : (lab : Lab) (w : Wiring) (m : Mapping) → IsLab lab → IsSound w → IsShaped lab w m → soft lab w m ≤ 1000000000
soft_small lab w m is sound shaped =
    let limits = sound_limits w sound in
    let nodes = sum_below_le (length w.nodes) (16 * 999) (node_soft lab w m) (λ v lt. node_small lab w m v is sound shaped lt) in
    let classes = sum_below_le (length w.classes) (999 * 256) (class_soft w m) (λ c lt. class_small w m c limits.nodes) in
    let few_nodes = limits.nodes in
    let few_classes = limits.classes in
    omega (arith, nodes, classes, few_nodes, few_classes)

-- THE USES ARE SMALL
pub uses_small : (lab : Lab) (w : Wiring) (m : Mapping) → IsLab lab → IsSound w → IsShaped lab w m → trunk_uses lab w m ≤ 64 * (4096 * 1000000000)
uses_small lab w m is sound shaped =
    let sum = sum_below_le (length lab.trunks) (4096 * 1000000000) (use_of lab w m) (λ t lt.
    let bound = whole_bound (first_side_of lab.ifaces lab.trunks t) w m.plugs (sound_keeps w sound) in
    let same = cut_is_use lab w m t shaped.in_lab in
    omega (arith, bound, same)) in
    omega (arith, sum, few_trunks lab is)

pub nodes_small : (lab : Lab) (w : Wiring) (m : Mapping) → IsSound w → IsShaped lab w m → nodes_in_use m ≤ 256
nodes_small lab w m sound shaped =
    let few = (sound_limits w sound).nodes in
    let count = shaped.places in
    omega (arith, different_le same_node (map (λ (p : Place). p.0.0) m.places), length-map m.places (λ (p : Place). p.0.0), few, count)
