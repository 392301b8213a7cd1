use Rattle.std.proofs.Common.{◌≡◌, ◌∙◌, ◌+◌, ◌-◌, ◌%◌, ◌++◌, ℕ, add-one, arith, sym, ap, refl}
use Rattle.rand_pcg.specs.Lcg.{Lcg}
use Rattle.rand_pcg.specs.Pcg.{pcg32}
use Rattle.lab_gen.specs.Script.{drawn_lines, experiment_lines, generator_after, text_of, virtual_nodes}
use Rattle.lab_gen.proofs.Texts.{texts_more, texts_none}
use Rattle.lab_gen.proofs.script.push_experiments.Goals as goal

-- the virtual nodes of the next experiment, and the generator after them
drawn : (seed place nodes : ℕ) (words : Lcg) → words ≡ generator_after seed place → nodes ≡ 2 + (pcg32 words).0 % 5 → nodes ≡ virtual_nodes seed (1 + place)
drawn seed place nodes words is made =
    let before : 1 + place - 1 ≡ place = omega arith in
    made ∙ ap (λ (g : Lcg). 2 + (pcg32 g).0 % 5) (is ∙ sym (ap (generator_after seed) before))

next : (seed place : ℕ) (words new : Lcg) → words ≡ generator_after seed place → new ≡ (pcg32 words).1 → new ≡ generator_after seed (place + 1)
unfolding generator_after
next seed place words new is after = rw add-one (after ∙ ap (λ (g : Lcg). (pcg32 g).1) is)

pub loop-place-init : goal.loop-place-init
unfolding generator_after
loop-place-init c = record { text = texts_none (drawn_lines c.args.seed) 1 c.args.text.now; words = c.seed_from_u64-words.ensures }

pub loop-place-preserved : goal.loop-place-preserved
loop-place-preserved c =
    let seed = c.args.seed in
    let place = c.loop-place.place in
    let inv = c.loop-place.invariant in
    let nodes = drawn seed place c.draw_nodes-nodes.result c.loop-place.words inv.words c.draw_nodes-nodes.ensures.nodes in record {
      text = texts_more (drawn_lines seed) 1 place (1 + place) c.args.text.now c.loop-place.text c.push_experiment.new.text refl inv.text
          (c.in_ok-push_experiment.ensures ∙ ap (λ (n : ℕ). c.loop-place.text ++ text_of (experiment_lines (1 + place) n)) nodes);
      words = next seed place c.loop-place.words c.draw_nodes-nodes.new.words inv.words c.draw_nodes-nodes.ensures.after;
    }
