use Rattle.std.proofs.Common.{inl, false, [], ◌∷◌, ◌++◌, refl, arith}
use Rattle.std.proofs.lemmas.Result.{err_from_is_err_and}
use Rattle.lab_base.proofs.Members.{Has-right}
use Rattle.lab_core.specs.Controller.{Control}
use Rattle.lab_core.specs.LabSteps.{begun_at}
use Rattle.lab_core.proofs.RunSwap.{has_open, whole_swap}
use Rattle.lab_core.proofs.SwapReplies.{over_told}
use Rattle.lab_core.proofs.controller.Controller.swap.Goals as goal

pub returns-in_err-begin-clause-obeyed : goal.returns-in_err-begin-clause-obeyed
returns-in_err-begin-clause-obeyed g c =
    let p = err_from_is_err_and c.from_residual.result c.from_residual.ensures.1 in
    rw (p.1, p.2) (λ opens devices within works. c.in_err-begin.ensures.begun opens devices within works false)

pub finish_swap-progress-requires-clause-managed : goal.finish_swap-progress-requires-clause-managed
finish_swap-progress-requires-clause-managed g c =
    let h = (rw c.in-None.is at c.in_ok-begin.ensures.begun) c.requires.works.0 (g.P.Plant.seen c.args.plant.now).faults.devices (omega arith) c.requires.works.1 in
    record { opens = h.works.pairs; working = h.works.working; holds = h.works.holds }

pub finish_swap-progress-requires-clause-is_open : goal.finish_swap-progress-requires-clause-is_open
finish_swap-progress-requires-clause-is_open g c =
    let opens = c.requires.works.0 in
    let h = (rw c.in-None.is at c.in_ok-begin.ensures.begun) opens (g.P.Plant.seen c.args.plant.now).faults.devices (omega arith) c.requires.works.1 in
    let last = begun_at h.swap (g.P.Plant.seen c.args.plant.now).faults.devices in
    has_open (g.P.Plant.seen c.begin.new.plant) c.begin.new.self (opens ++ last ∷ []) c.args.swap.exp h.works last (Has-right opens (last ∷ []) last (inl refl)) h.name

pub returns-in-None-clause-obeyed : goal.returns-in-None-clause-obeyed
returns-in-None-clause-obeyed g c = λ opens devices within works.
    let old : Control = c.args.self.now in
    let between : Control = c.begin.new.self in
    let new : Control = c.finish_swap-progress.new.self in
    let h = (rw c.in-None.is at c.in_ok-begin.ensures.begun) opens devices within works in
    let e = c.finish_swap-progress.ensures in
    rw c.reply_of_progress.ensures
    (whole_swap devices _ _ _ old between new opens c.args.swap.exp c.args.swap.way works c.requires.ready.0 h c.finish_swap-progress.result (e.ended h.works.pairs h.works.working h.works.holds) e.limit e.stopped)

pub returns-in-Some-clause-obeyed : goal.returns-in-Some-clause-obeyed
returns-in-Some-clause-obeyed g c = λ opens devices within works. (rw c.in-Some.is at c.in_ok-begin.ensures.begun) opens devices within works false

pub returns-in-None-clause-told : goal.returns-in-None-clause-told
returns-in-None-clause-told g c =
    let h = (rw c.in-None.is at c.in_ok-begin.ensures.begun) c.requires.works.0 (g.P.Plant.seen c.args.plant.now).faults.devices (omega arith) c.requires.works.1 in
    let e = c.finish_swap-progress.ensures.ended h.works.pairs h.works.working h.works.holds in
    rw c.reply_of_progress.ensures (over_told c.args.swap.exp e.end.finished.at c.finish_swap-progress.result e.end.finished.outcome e.end.finished.over e.end.finished.is_told)

pub returns-in-Some-clause-told : goal.returns-in-Some-clause-told
returns-in-Some-clause-told g c = rw c.in-Some.is at c.in_ok-begin.ensures.told
