use Rattle.lab_core.specs.Controller.{Control}
use Rattle.lab_core.proofs.TurnOne.{turned}
use Rattle.lab_core.proofs.controller.Controller.turn.Goals as goal

pub turn_swap-progress-requires-clause-managed : goal.turn_swap-progress-requires-clause-managed
turn_swap-progress-requires-clause-managed g c = let works = c.requires.works.1 in record { opens = works.pairs; working = works.working; holds = works.holds }

pub turn_swap-progress-requires-clause-is_open : goal.turn_swap-progress-requires-clause-is_open
turn_swap-progress-requires-clause-is_open g c = c.requires.ready

pub returns : goal.returns
returns g c = λ opens devices within works.
    let old : Control = c.args.self.now in
    let new : Control = c.turn_swap-progress.new.self in
    let e = c.turn_swap-progress.ensures in
    rw c.reply_of_progress.ensures (turned devices _ _ old new opens c.args.exp works c.turn_swap-progress.result (e.turned works.pairs works.working works.holds) e.limit e.stopped)
