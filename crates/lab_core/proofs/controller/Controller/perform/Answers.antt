use Rattle.std.proofs.Common.{Ok, refl}
use Rattle.lab_tasks.specs.Tasks.{Tell}
use Rattle.lab_judge.specs.Judge.{Is}
use Rattle.lab_core.specs.LabSteps.{does}
use Rattle.lab_core.proofs.Obey.{replied}
use Rattle.lab_core.proofs.controller.Controller.perform.Goals as goal

pub returns-in-Tell-clause-obeyed : goal.returns-in-Tell-clause-obeyed
returns-in-Tell-clause-obeyed g c =
    let mild = rw c.in-Tell.is at c.requires.can in
    rw c.in-Tell.is
    (λ opens devices exp within works. replied devices _ (Is (Ok (Tell c.in-Tell.reply))) c.args.self.now opens exp c.in-Tell.reply works mild (does (Ok (Tell c.in-Tell.reply)) refl (record { nothing = refl; after_is = refl })))

pub append-requires-clause-can : goal.append-requires-clause-can
append-requires-clause-can g c = rw c.in-Append.is at c.requires.can

pub returns-in-Append-clause-obeyed : goal.returns-in-Append-clause-obeyed
returns-in-Append-clause-obeyed g c = rw c.in-Append.is c.append.ensures

pub swap-requires-clause-can : goal.swap-requires-clause-can
swap-requires-clause-can g c = rw c.in-Swap.is at c.requires.can

pub swap-requires-clause-ready : goal.swap-requires-clause-ready
swap-requires-clause-ready g c = rw c.in-Swap.is at c.requires.ready

pub returns-in-Swap-clause-obeyed : goal.returns-in-Swap-clause-obeyed
returns-in-Swap-clause-obeyed g c = rw c.in-Swap.is (λ opens devices exp within works. c.swap.ensures.obeyed opens devices within works)

pub begin_only-requires-clause-can : goal.begin_only-requires-clause-can
begin_only-requires-clause-can g c = rw c.in-BeginOnly.is at c.requires.can

pub begin_only-requires-clause-ready : goal.begin_only-requires-clause-ready
begin_only-requires-clause-ready g c = rw c.in-BeginOnly.is at c.requires.ready

pub returns-in-BeginOnly-clause-obeyed : goal.returns-in-BeginOnly-clause-obeyed
returns-in-BeginOnly-clause-obeyed g c = rw c.in-BeginOnly.is (λ opens devices exp within works. c.begin_only.ensures opens devices within works)

pub turn-requires-clause-ready : goal.turn-requires-clause-ready
turn-requires-clause-ready g c = rw c.in-Turn.is at c.requires.ready

pub returns-in-Turn-clause-obeyed : goal.returns-in-Turn-clause-obeyed
returns-in-Turn-clause-obeyed g c = rw c.in-Turn.is (λ opens devices exp within works. c.turn.ensures opens devices within works)

pub finish-requires-clause-ready : goal.finish-requires-clause-ready
finish-requires-clause-ready g c = rw c.in-Finish.is at c.requires.ready

pub returns-in-Finish-clause-obeyed : goal.returns-in-Finish-clause-obeyed
returns-in-Finish-clause-obeyed g c = rw c.in-Finish.is (λ opens devices exp within works. c.finish.ensures opens devices within works)

pub returns-in-Recover-clause-obeyed : goal.returns-in-Recover-clause-obeyed
returns-in-Recover-clause-obeyed g c = rw c.in-Recover.is c.recover.ensures

pub returns-in-Swap-clause-told : goal.returns-in-Swap-clause-told
returns-in-Swap-clause-told g c = rw c.in-Swap.is c.swap.ensures.told
