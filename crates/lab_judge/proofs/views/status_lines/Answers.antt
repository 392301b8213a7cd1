use Rattle.std.proofs.Common.{◌≡◌, ◌<◌, length, Some, None, ◌∷◌, [], ◌++◌, sym, ◌∙◌, arith, slice_get}
use Rattle.lab_base.proofs.Members.{Has-slice_get}
use Rattle.records_model.specs.Labs.{lab_in}
use Rattle.lab_judge.specs.Judge.{status_line}
use Rattle.lab_judge.proofs.Shown.{next_line, none_missing}
use Rattle.lab_judge.proofs.views.status_lines.Goals as goal
use Rattle.lab_judge.proofs.views.status_lines.Goals.{in-Some+in_ok-push, in_default}

pub loop-number-preserved : goal.loop-number-preserved
loop-number-preserved c =
    let s = c.args.lab.now.state in
    let lab = lab_in s.lab in
    let n = c.loop-number.number in
    elim c.match-nth.branch [
      | in-Some+in_ok-push w ↦
          let e = w.in-Some.experiment.now in
          let is : slice_get s.experiments n ≡ Some e = sym w.in-Some.ensures in
          let line = w.status_line.ensures lab s.experiments c.requires.sane.is_lab c.requires.claims c.requires.sane.holding (Has-slice_get s.experiments n e is) in
          let more = w.lines-is ∙ w.in_ok-push.ensures.ok
          ∙ (λ i. c.loop-number.invariant.lines i ++ line i ∷ []) ∙ sym (next_line (status_line lab) s.experiments n e is) in
          record { lines = more; last = c.loop-number.invariant.last }
      | in_default w ↦
          let within : n < length s.experiments = omega (arith, c.loop-number-test.true, c.loop-number.invariant.last) in
          let gone : slice_get s.experiments n ≡ None = sym w.in_default.ensures in
          none_missing s.experiments n within gone
    ]
