use Rattle.lab_core.specs.Controller.{Control}
use Rattle.lab_core.proofs.EndOne.{ended}
use Rattle.lab_core.proofs.controller.Controller.finish.Goals as goal

pub finish_swap-progress-requires-clause-managed : goal.finish_swap-progress-requires-clause-managed
finish_swap-progress-requires-clause-managed g c = let works = c.requires.works.1 in record { opens = works.pairs; working = works.working; holds = works.holds }

pub finish_swap-progress-requires-clause-is_open : goal.finish_swap-progress-requires-clause-is_open
finish_swap-progress-requires-clause-is_open g c = c.requires.ready

pub returns : goal.returns
returns g c = λ opens devices within works.
    let old : Control = c.args.self.now in
    let new : Control = c.finish_swap-progress.new.self in
    let e = c.finish_swap-progress.ensures in
    rw c.reply_of_progress.ensures (ended _ _ old new opens c.args.exp works c.finish_swap-progress.result (e.ended works.pairs works.working works.holds) devices e.limit e.stopped)
