-- The facts that follow from a sound wiring and a shaped mapping.
use Rattle.std.specs.List.{list_all}
use Rattle.std.proofs.Common.{◌≡◌, ℕ, ◌<◌, Bool, true, false, not, Option, Some, None, List, map, length, if◌then◌else◌, refl, subst, All}
use Rattle.std.proofs.lemmas.Bool.{and_parts, or_parts, not-false, ltb-true, eqb-false}
use Rattle.std.proofs.lemmas.Slice.Eq.{bytes_eq-Decides}
use Rattle.lab_base.specs.Lists.{Has}
use Rattle.lab_base.proofs.Members.{Has-map, Has-flat_map, Has-place, all_has, none_has, Has-get_or}
use Rattle.virt_topo.specs.declared.wiring.Segment.{Segment}
use Rattle.virt_topo.specs.declared.wiring.Pipe.{Pipe}
use Rattle.virt_topo.specs.declared.wiring.Wiring.{Wiring}
use Rattle.virt_topo.specs.Ends.{end_nodes, IsSoundPipe}
use Rattle.virt_topo.specs.Soundness.{IsSound, keeps_limits, knows_all, knows_pipe, knows_node, has_twice, has_same, has_bad_pipe, is_bad_pipe}
use Rattle.lab_model.specs.Rules.{end_node}

-- what holds of all elements holds of each
pub All-has : {X : Type 0} (P : X → Type 0) (xs : List X) (x : X) → All P xs → Has xs x → P x
All-has P xs x all h = let at = Has-place xs x x h in subst P at.2 (all at.0 x at.1)

-- a fault that isn't there
past : {X : Type 0} (faulty : Bool) (fault : X) (later : Option X) → (if faulty then Some fault else later) ≡ None → (faulty ≡ false) × (later ≡ None)
past true fault later e = absurd (cc e)
past false fault later e = (refl, e)

-- what is sound of a wiring: it keeps its limits, its numbers name things, and its pipes join what they may
pub record Known (w : Wiring) : Type 0 where
  pub limits : keeps_limits w ≡ true
  pub knows : knows_all w ≡ true
  pub pipes : has_bad_pipe w ≡ false

pub known : (w : Wiring) → IsSound w → Known w
known w sound =
    let r1 = past (not (keeps_limits w)) _ _ sound in
    let r2 = past (not (knows_all w)) _ _ r1.1 in
    let r3 = past (has_twice w) _ _ r2.1 in
    let r4 = past (has_same w) _ _ r3.1 in
    let r5 = past (has_bad_pipe w) _ _ r4.1 in
    record { limits = not-false _ r1.0; knows = not-false _ r2.0; pipes = r5.0 }

-- each end is of a virtual node of the wiring
pub sound_ends : (w : Wiring) → IsSound w → (e : ℕ) → e < length (end_nodes w.segments) → end_node w e < length w.nodes
sound_ends w sound e h =
    let of = Has-flat_map (λ (s : Segment). map (λ x. x.node) s.ends) w.segments (end_node w e) (Has-get_or (end_nodes w.segments) e 0 h) in
    let here = Has-map (λ x. x.node) of.0.ends (end_node w e) of.2 in
    let each = (and_parts _ _ (and_parts _ _ (known w sound).knows).1).0 in
    let node = all_has (λ x. knows_node w x.node) of.0.ends here.0 (all_has (λ (s : Segment). list_all (λ x. knows_node w x.node) s.ends) w.segments of.0 each of.1) here.1 in
    subst (λ n. n < length w.nodes) here.2 (ltb-true _ _ node)

-- each pipe joins two ends, whose segments have one owner and are not multiplexed
pub sound_pipes : (w : Wiring) → IsSound w → (p : Pipe) → Has w.pipes p → IsSoundPipe w p
sound_pipes w sound p h =
    let names = all_has (knows_pipe w) w.pipes p (and_parts _ _ (and_parts _ _ (known w sound).knows).1).1 h in
    let ends = and_parts _ _ (and_parts _ _ names).1 in
    let good = or_parts _ _ (none_has (is_bad_pipe w) w.pipes p (or_parts _ _ (known w sound).pipes).0 h) in
    let others = or_parts _ _ good.1 in
    let alone = or_parts _ _ others.1 in
    record {
      from_end = ltb-true _ _ ends.0;
      to_end = ltb-true _ _ ends.1;
      differ = eqb-false _ _ good.0;
      one_owner = (bytes_eq-Decides _ _).0 (not-false _ others.0);
      from_alone = alone.0;
      to_alone = alone.1;
    }
