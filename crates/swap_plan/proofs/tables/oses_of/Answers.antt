use Rattle.std.proofs.Common.{◌≡◌, ◌∙◌, ℕ, None, length, map, replicate, drop, ap, sym, arith, rules}
use Rattle.std.proofs.lemmas.List.{length-map}
use Rattle.lab_model.specs.Courses.{node_names}
use Rattle.lab_model.specs.Wants.{os_on}
use Rattle.swap_plan.proofs.TableLaws.{os_set, place_within, no_os}
use Rattle.swap_plan.proofs.tables.oses_of.Goals as goal

pub set_os-requires-clause-node : goal.set_os-requires-clause-node
set_os-requires-clause-node c =
    let lab = c.args.lab.now in
    let w = c.args.wiring.now in
    let m = c.args.mapping.now in
    let n = c.loop-virt.virt in
    place_within lab w m _ c.loop-virt.oses.items (os_on lab (drop n w.nodes) (drop n m.places)) c.requires (omega (arith, c.requires.places, ap length c.as_slice-virts.ensures)) c.loop-virt.invariant

pub loop-virt-preserved : goal.loop-virt-preserved
loop-virt-preserved c =
    os_set c.args.lab.now c.args.wiring.now c.args.mapping.now c.loop-virt.virt _ c.loop-virt.oses.items _ c.range-kept.ensures.lab c.requires (omega arith) (omega (arith, ap length c.as_slice-virts.ensures)) c.loop-virt.invariant c.set_os.ensures

pub loop-virt-init : goal.loop-virt-init
loop-virt-init c =
    let lab = c.args.lab.now in
    let w = c.args.wiring.now in
    let m = c.args.mapping.now in
    let made : c.in_ok-oses.oses.items ≡ replicate (length c.nodes.result.now) None = search rules in
    let count : length c.nodes.result.now ≡ length (node_names lab) = ap length c.nodes.ensures ∙ sym (length-map lab.nodes (λ node. node.name)) in
    made ∙ ap (λ (n : ℕ). replicate n None) count ∙ no_os lab w.nodes m.places _ (node_names lab) (omega (arith, ap length c.as_slice-virts.ensures))

pub returns : goal.returns
returns c =
    let lab = c.args.lab.now in
    let w = c.args.wiring.now in
    let m = c.args.mapping.now in
    let none : c.loop-virt.virt ≡ 0 = omega arith in
    c.loop-virt.invariant ∙ ap (λ (n : ℕ). map (os_on lab (drop n w.nodes) (drop n m.places)) (node_names lab)) none
