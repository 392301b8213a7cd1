use Rattle.records_model.proofs.Swaps.{found_in}
use Rattle.lab_tasks.proofs.JudgeSwap.{is_there}
use Rattle.lab_tasks.proofs.needs.need_idle_out.Goals as goal

pub returns-clause-out : goal.returns-clause-out
returns-clause-out c =
    let s = c.args.present.now.state.now.state in
    let e = c.in_ok-experiment.experiment.now in
    let found = c.in_ok-experiment.ensures.found in
    record {
      there = is_there s c.args.exp c.in_ok-lab.lab.now e c.in_ok-lab.ensures.lab found c.need_lab.ensures.sane;
      out = c.in_ok-need_out.ensures.out;
      printable = c.need_lab.ensures.printable e (found_in c.args.exp s.experiments e found);
    }
