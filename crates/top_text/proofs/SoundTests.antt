-- The tests that a sound wiring passes.
use Rattle.std.proofs.Common.{◌≡◌, Bool, true, false, not, cond, eqb, length, Option, Some, None, refl}
use Rattle.std.specs.List.{list_any}
use Rattle.std.proofs.lemmas.Bool.{not-false, or_parts}
use Rattle.lab_base.specs.Names.{same_name}
use Rattle.virt_topo.specs.declared.fault.WiringFault.{WiringFault}
use Rattle.virt_topo.specs.declared.wiring.Wiring.{Wiring}
use Rattle.virt_topo.specs.Repeats.{stands_again}
use Rattle.virt_topo.specs.Soundness.{IsSound, keeps_limits, knows_all, same_address, all_ends, asks_class_name, has_twice, has_same, has_bad_pipe}
use Rattle.top_text.proofs.KeptLaws.{IsKept}

past : (faulty : Bool) (fault : WiringFault) (later : Option WiringFault) → cond faulty (Some fault) later ≡ None → (faulty ≡ false) × (later ≡ None)
past true fault later e = absurd (cc e)
past false fault later e = (refl, e)

pub sound_tests : (w : Wiring) → IsSound w → IsKept w
sound_tests w sound =
    let r1 = past (not (keeps_limits w)) _ _ sound in
    let r2 = past (not (knows_all w)) _ _ r1.1 in
    let r3 = past (has_twice w) _ _ r2.1 in
    let r4 = past (has_same w) _ _ r3.1 in
    let r5 = past (has_bad_pipe w) _ _ r4.1 in
    record { twice = r3.0; known = not-false _ r2.0; same = r4.0; pipes = r5.0; limits = not-false _ r1.0 }

-- no virtual node has another one's name
pub nodes_once : (w : Wiring) → IsSound w → stands_again (λ a b. same_name a.name b.name) w.nodes ≡ false
nodes_once w sound =
    let classes = or_parts (stands_again (λ a b. same_name a.name b.name) w.classes) _ (sound_tests w sound).twice in
    (or_parts (stands_again (λ a b. same_name a.name b.name) w.nodes) _ classes.1).0

pub segments_once : (w : Wiring) → IsSound w → stands_again (λ a b. same_name a.name b.name) w.segments ≡ false
segments_once w sound =
    let classes = or_parts (stands_again (λ a b. same_name a.name b.name) w.classes) _ (sound_tests w sound).twice in
    let nodes = or_parts (stands_again (λ a b. same_name a.name b.name) w.nodes) _ classes.1 in
    (or_parts (stands_again (λ a b. same_name a.name b.name) w.segments) _ nodes.1).0

pub classes_once : (w : Wiring) → IsSound w → stands_again (λ a b. same_name a.name b.name) w.classes ≡ false
classes_once w sound = (or_parts (stands_again (λ a b. same_name a.name b.name) w.classes) _ (sound_tests w sound).twice).0

pub some_nodes : (w : Wiring) → IsSound w → eqb (length w.nodes) 0 ≡ false
some_nodes w sound =
    let r1 = past (not (keeps_limits w)) _ _ sound in
    let r2 = past (not (knows_all w)) _ _ r1.1 in
    let r3 = past (has_twice w) _ _ r2.1 in
    let r4 = past (has_same w) _ _ r3.1 in
    let r5 = past (has_bad_pipe w) _ _ r4.1 in
    (past (eqb (length w.nodes) 0) _ _ r5.1).0

-- no virtual node asks for a type that has the name of a class
pub types_apart : (w : Wiring) → IsSound w → list_any (λ v. asks_class_name w.classes v.asks) w.nodes ≡ false
types_apart w sound =
    let a = or_parts (stands_again (λ a b. same_name a.name b.name) w.classes) _ (sound_tests w sound).twice in
    let b = or_parts (stands_again (λ a b. same_name a.name b.name) w.nodes) _ a.1 in
    let c = or_parts (stands_again (λ a b. same_name a.name b.name) w.segments) _ b.1 in
    let d = or_parts (list_any (λ c. stands_again same_name c.types) w.classes) _ c.1 in
    let e = or_parts (list_any (λ v. stands_again (λ a b. same_name a.0 b.0) v.desires) w.nodes) _ d.1 in
    (or_parts (stands_again same_address (all_ends w.segments)) (list_any (λ v. asks_class_name w.classes v.asks) w.nodes) e.1).1
