use Rattle.std.proofs.Common.{◌≡◌, length, map, take}
use Rattle.records_model.specs.Labs.{lab_in}
use Rattle.lab_judge.specs.Judge.{status_line}
use Rattle.lab_judge.proofs.views.status_lines.Given as goal

abbrev pub invariant-loop-number : goal.invariant-loop-number
invariant-loop-number l = record {
  lines : l.lines ≡ map (status_line (lab_in l.lab.state.lab)) (take l.number l.lab.state.experiments);
  last : l.number-end ≡ length l.lab.state.experiments;
}
