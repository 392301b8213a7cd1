use Rattle.std.proofs.Common.{◌≡◌, ◌++◌, take}
use Rattle.std.specs.List.{flat_map}
use Rattle.lab_view.specs.Lines.{exp_lines}
use Rattle.lab_view.proofs.lines.push_exps.Given as goal

abbrev pub invariant-loop-exp : goal.invariant-loop-exp
invariant-loop-exp l = l.text ≡ l.initial.text ++ flat_map exp_lines (take l.exp-index l.view.experiments)
