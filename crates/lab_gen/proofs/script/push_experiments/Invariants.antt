use Rattle.std.proofs.Common.{◌≡◌, ◌++◌}
use Rattle.std.specs.List.{flat_map}
use Rattle.lab_gen.specs.Script.{numbers, drawn_lines, generator_after, text_of}
use Rattle.lab_gen.proofs.script.push_experiments.Given as goal

abbrev pub invariant-loop-place : goal.invariant-loop-place
invariant-loop-place l = record {
  text : l.text ≡ l.fn.text ++ text_of (flat_map (drawn_lines l.seed) (numbers 1 l.place));
  words : l.words ≡ generator_after l.seed l.place;
}
