-- Parts without the uses of trunks: those of the same places in a wiring without segments.
use Rattle.std.proofs.Common.{◌≡◌, ◌<◌, ◌≤◌, ◌+◌, ◌*◌, ◌∙◌, ℕ, zero, suc, Bool, true, false, cond, List, [], ◌∷◌, length, Option, Some, None, refl, sym, ap, ap₂, arith}
use Rattle.std.specs.Prelude.{not, ◌&&◌, ◌||◌, nat_le, ◌==◌}
use Rattle.std.specs.List.{list_all, list_any}
use Rattle.lab_base.specs.Names.{same_name}
use Rattle.phys_lab.specs.Labs.{Lab}
use Rattle.virt_topo.specs.declared.fault.WiringFault.{WiringFault}
use Rattle.virt_topo.specs.declared.wiring.Asks.{Asks}
use Rattle.virt_topo.specs.declared.wiring.Asks.TheVariants.{Plain, Class as InClass}
use Rattle.virt_topo.specs.declared.wiring.VirtNode.{VirtNode}
use Rattle.virt_topo.specs.declared.wiring.Wiring.{Wiring}
use Rattle.virt_topo.specs.declared.mapping.Mapping.{Mapping}
use Rattle.virt_topo.specs.declared.fault.WiringFault.TheVariants as faults
use Rattle.virt_topo.specs.declared.wiring.Class.{Class}
use Rattle.virt_topo.specs.declared.wiring.Segment.{Segment}
use Rattle.virt_topo.specs.declared.wiring.VirtEnd.{VirtEnd}
use Rattle.virt_topo.specs.Ends.{end_nodes}
use Rattle.virt_topo.specs.Repeats.{stands_again}
use Rattle.virt_topo.specs.Soundness.{IsSound, keeps_limits, limits_class, limits_node, limits_segment, limits_pipe, knows_all, knows_class, knows_node, knows_pipe, has_twice, same_address, all_ends, asks_class_name, has_same, has_bad_pipe}
use Rattle.lab_model.specs.Uses.{use_of}
use Rattle.cost_rule.specs.declared.parts.Parts.{Parts}
use Rattle.cost_rule.specs.declared.rule.RuleNumber.{RuleNumber}
use Rattle.cost_rule.specs.declared.rule.RuleNumber.TheVariants as numbers
use Rattle.cost_rule.specs.Cost.{sum_below, soft, nodes_in_use, trunk_uses}
use Rattle.cost_rule.specs.Parts.{parts_of, cost_of_parts, without_uses, AreParts, HangsOnNoUses}

-- the wiring without its segments and pipes
abbrev without_segments : Wiring → Wiring
without_segments w = record { classes = w.classes; nodes = w.nodes; segments = []; pipes = [] }

-- IT IS SOUND WHERE THE WIRING IS

no_fault : (b : Bool) (f : WiringFault) (rest : Option WiringFault) → cond b (Some f) rest ≡ None → (b ≡ false) × (rest ≡ None)
no_fault true f rest h = absurd (cc h)
no_fault false f rest h = (refl, h)

not_false : (b : Bool) → not b ≡ false → b ≡ true
not_false true h = refl
not_false false h = absurd (cc h)

fewer_limits : (a b c d e f g h : Bool) → (a && (b && (c && (d && (e && (f && (g && h))))))) ≡ true → (a && (b && (true && (true && (e && (f && (true && true))))))) ≡ true
fewer_limits false b c d e f g h is = absurd (cc is)
fewer_limits true false c d e f g h is = absurd (cc is)
fewer_limits true true false d e f g h is = absurd (cc is)
fewer_limits true true true false e f g h is = absurd (cc is)
fewer_limits true true true true false f g h is = absurd (cc is)
fewer_limits true true true true true false g h is = absurd (cc is)
fewer_limits true true true true true true g h is = refl

knows_alike : (w : Wiring) (a : Asks) → knows_class (without_segments w) a ≡ knows_class w a
knows_alike w (Plain t) = refl
knows_alike w (InClass c) = refl

all_alike : (w : Wiring) (vs : List VirtNode) → list_all (λ (v : VirtNode). knows_class (without_segments w) v.asks) vs ≡ list_all (λ (v : VirtNode). knows_class w v.asks) vs
all_alike w [] = refl
all_alike w (v ∷ vs) = ap₂ (λ (a b : Bool). a && b) (knows_alike w v.asks) (all_alike w vs)

first_of : (a b : Bool) → (a && b) ≡ true → (a && (true && true)) ≡ true
first_of true b is = refl
first_of false b is = absurd (cc is)

fewer_twice : (a b c d e f g : Bool) → (a || (b || (c || (d || (e || (f || g)))))) ≡ false → (a || (b || (false || (d || (e || (false || g)))))) ≡ false
fewer_twice true b c d e f g is = absurd (cc is)
fewer_twice false true c d e f g is = absurd (cc is)
fewer_twice false false true d e f g is = absurd (cc is)
fewer_twice false false false true e f g is = absurd (cc is)
fewer_twice false false false false true f g is = absurd (cc is)
fewer_twice false false false false false true g is = absurd (cc is)
fewer_twice false false false false false false g is = is

-- no fault of six
no_faults : (a b c d e f : Bool) (p q r s t u : WiringFault) → a ≡ true → b ≡ true → c ≡ false → d ≡ false → e ≡ false → f ≡ false
    → cond (not a) (Some p) (cond (not b) (Some q) (cond c (Some r) (cond d (Some s) (cond e (Some t) (cond f (Some u) None))))) ≡ None
no_faults a b c d e f p q r s t u ha hb hc hd he hf = rw (ha, hb, hc, hd, he, hf)

sound_without : (w : Wiring) → IsSound w → IsSound (without_segments w)
sound_without w sound =
    let one = no_fault (not (keeps_limits w)) _ _ sound in
    let two = no_fault (not (knows_all w)) _ _ one.1 in
    let three = no_fault (has_twice w) _ _ two.1 in
    let four = no_fault (has_same w) _ _ three.1 in
    let five = no_fault (has_bad_pipe w) _ _ four.1 in
    let six = no_fault (length w.nodes == 0) _ _ five.1 in
    let limits : keeps_limits (without_segments w) ≡ true = fewer_limits (nat_le (length w.classes) 64) (nat_le (length w.nodes) 256) (nat_le (length w.segments) 512) (nat_le (length (end_nodes w.segments)) 4096)
    (list_all limits_class w.classes) (list_all limits_node w.nodes) (list_all limits_segment w.segments) (list_all limits_pipe w.pipes) (not_false (keeps_limits w) one.0) in
    let known : knows_all (without_segments w) ≡ true =
    ap (λ (b : Bool). b && (true && true)) (all_alike w w.nodes) ∙ first_of (list_all (λ (v : VirtNode). knows_class w v.asks) w.nodes)
    (list_all (λ (s : Segment). list_all (λ (e : VirtEnd). knows_node w e.node) s.ends) w.segments && list_all (knows_pipe w) w.pipes) (not_false (knows_all w) two.0) in
    let twice : has_twice (without_segments w) ≡ false = fewer_twice (stands_again (λ (a b : Class). same_name a.name b.name) w.classes) (stands_again (λ (a b : VirtNode). same_name a.name b.name) w.nodes)
    (stands_again (λ (a b : Segment). same_name a.name b.name) w.segments) (list_any (λ (c : Class). stands_again same_name c.types) w.classes)
    (list_any (λ (v : VirtNode). stands_again (λ (a b : List ℕ × ℕ). same_name a.0 b.0) v.desires) w.nodes) (stands_again same_address (all_ends w.segments))
    (list_any (λ (v : VirtNode). asks_class_name w.classes v.asks) w.nodes) three.0 in
    no_faults (keeps_limits (without_segments w)) (knows_all (without_segments w)) (has_twice (without_segments w)) (has_same (without_segments w)) (has_bad_pipe (without_segments w)) (length w.nodes == 0)
    faults.Limit faults.Unknown faults.Twice faults.Same faults.Pipe faults.Empty limits known twice refl refl six.0

-- NOTHING IS USED OF TRUNKS

no_sum : (n : ℕ) (f : ℕ → ℕ) → ((k : ℕ) → f k ≡ 0) → sum_below n f ≡ 0
no_sum zero f none = refl
no_sum (suc n) f none = let rest = no_sum n f none in let last = none n in omega (arith, rest, last)

abbrev without_plugs : Mapping → Mapping
without_plugs m = record { places = m.places; plugs = [] }

none_used : (lab : Lab) (w : Wiring) (m : Mapping) → trunk_uses lab (without_segments w) m ≡ 0
none_used lab w m = no_sum (length lab.trunks) (use_of lab (without_segments w) m) (λ k. refl)

same_parts : (lab : Lab) (w : Wiring) (m : Mapping) → without_uses (parts_of lab w m) ≡ parts_of lab (without_segments w) (without_plugs m)
same_parts lab w m =
    ap (λ (u : ℕ). record { uses = u; nodes = nodes_in_use m; soft = soft lab w m }) (sym (none_used lab w (without_plugs m)))

pub parts_without_uses : (p : Parts) → AreParts p → AreParts (without_uses p)
parts_without_uses p are = record {
  lab = are.lab;
  wiring = without_segments are.wiring;
  mapping = without_plugs are.mapping;
  kept = are.kept;
  sound = sound_without are.wiring are.sound;
  shaped = record { places = are.shaped.places; plugs = refl; in_nodes = are.shaped.in_nodes; in_lab = λ k d lt. absurd (omega (arith, lt)); of_node = are.shaped.of_node };
  are = ap without_uses are.are ∙ same_parts are.lab are.wiring are.mapping;
}

pub costs_less : (number : RuleNumber) (p : Parts) → cost_of_parts number (without_uses p) ≤ cost_of_parts number p
unfolding cost_of_parts
costs_less numbers.Trunk p = omega arith
costs_less numbers.Pack p = omega arith

-- what costs the same with uses and without hangs on none
pub hangs_on_none : (number : RuleNumber) (p : Parts) → 0 < p.uses → cost_of_parts number p ≡ cost_of_parts number (without_uses p) → HangsOnNoUses number
unfolding cost_of_parts
hangs_on_none numbers.Trunk p some same = absurd (omega (arith, some, same))
hangs_on_none numbers.Pack p some same = λ q r nodes soft. (λ j. 1000000 * nodes j + soft j)
