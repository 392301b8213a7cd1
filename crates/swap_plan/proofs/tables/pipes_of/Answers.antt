use Rattle.std.specs.Str.{bytes_eq}
use Rattle.std.proofs.Common.{◌≡◌, ℕ, replicate, filter, map, take, ap, sym, length, arith, ◌∙◌}
use Rattle.std.proofs.lemmas.List.{length-map, take_all}
use Rattle.lab_model.specs.Courses.{node_names}
use Rattle.lab_model.specs.Wants.{place_of}
use Rattle.swap_plan.specs.Plans.{untagged}
use Rattle.swap_plan.proofs.PipeLaws.{placed, pipe_there}
use Rattle.swap_plan.proofs.TableLaws.{pipe_added, place_within, no_pipes, no_pipe}
use Rattle.swap_plan.proofs.tables.pipes_of.Goals as goal

pub add_pipe-requires-clause-place : goal.add_pipe-requires-clause-place
add_pipe-requires-clause-place c =
    placed c.args.lab.now c.args.wiring.now c.args.mapping.now _ c.requires.sound c.requires.shaped (pipe_there c.args.wiring.now c.as_slice-pipe-items.result.now c.loop-pipe.pipe-index _ c.as_slice-pipe-items.ensures c.loop-pipe-test.true)

pub add_pipe-requires-clause-node : goal.add_pipe-requires-clause-node
add_pipe-requires-clause-node c =
    let lab = c.args.lab.now in
    let w = c.args.wiring.now in
    let m = c.args.mapping.now in
    place_within lab w m _ c.loop-pipe.lists.items (λ name. filter (λ p. bytes_eq (place_of lab (untagged w m) p.node) name) (take c.loop-pipe.pipe-index w.pipes)) c.requires.shaped
    (placed lab w m _ c.requires.sound c.requires.shaped (pipe_there w c.as_slice-pipe-items.result.now c.loop-pipe.pipe-index _ c.as_slice-pipe-items.ensures c.loop-pipe-test.true)) c.loop-pipe.invariant

pub loop-pipe-preserved : goal.loop-pipe-preserved
loop-pipe-preserved c =
    pipe_added c.args.lab.now c.args.wiring.now c.args.mapping.now c.as_slice-pipe-items.result.now c.loop-pipe.pipe-index _ c.loop-pipe.lists.items _ c.range-kept.ensures.lab c.requires.sound c.requires.shaped
    c.as_slice-pipe-items.ensures c.loop-pipe-test.true c.loop-pipe.invariant c.in_ok-add_pipe.ensures

pub returns : goal.returns
returns c =
    let lab = c.args.lab.now in
    let w = c.args.wiring.now in
    let m = c.args.mapping.now in
    c.loop-pipe.invariant ∙ ap (λ ps. map (λ name. filter (λ p. bytes_eq (place_of lab (untagged w m) p.node) name) ps) (node_names lab)) (take_all c.loop-pipe.pipe-index w.pipes (omega (arith, c.loop-pipe-test.false, ap length c.as_slice-pipe-items.ensures)))

pub loop-pipe-init : goal.loop-pipe-init
loop-pipe-init c =
    let lab = c.args.lab.now in
    let count : length c.nodes.result.now ≡ length (node_names lab) = ap length c.nodes.ensures ∙ sym (length-map lab.nodes (λ node. node.name)) in
    c.in_ok-lists.ensures ∙ ap (λ (n : ℕ). replicate n no_pipes) count ∙ no_pipe (node_names lab)
