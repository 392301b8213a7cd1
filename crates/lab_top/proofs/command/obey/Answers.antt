use Rattle.std.proofs.Common.{arith, [], None, sym, ◌∙◌, ◌≡◌, Some, Err}
use Rattle.lab_base.proofs.Numbers.{Rose_since}
use Rattle.lab_top.proofs.HandedOn.{closed_from, ends_open, ends_opened, ends_unopened, may_open}
use Rattle.lab_top.proofs.Obeyed.{goes_closed, halts_if, later_same, rose_same, runs_if}
use Rattle.lab_top.proofs.command.obey.Goals as goal

pub obey_open-requires-clause-open : goal.obey_open-requires-clause-open
obey_open-requires-clause-open g c =
    let is : c.args.controller.now ≡ Some c.in-Some.opened = sym c.take.ensures.value ∙ c.in-Some.is in
    may_open _ c.args.controller.now c.in-Some.opened is c.requires.goes_on

pub obey_open-requires-in-Ok-clause-open : goal.obey_open-requires-in-Ok-clause-open
obey_open-requires-in-Ok-clause-open g c = let e = c.in-Ok.ensures in ([], record { works = e.works; limit = e.limit })

pub returns-in-Some : goal.returns-in-Some
returns-in-Some g c = λ from goes.
    let is : c.args.controller.now ≡ Some c.in-Some.opened = sym c.take.ensures.value ∙ c.in-Some.is in
    let o = c.obey_open.ensures in
    ends_open _ c.args.command.now c.requires.no_drill _ _ c.in-Some.opened c.obey_open.result from is goes o.makes o.later o.disk (λ some was. runs_if _ _ o.runs some) o.memory

pub returns-in-Ok : goal.returns-in-Ok
returns-in-Ok g c = λ from goes.
    let is : c.args.controller.now ≡ None = sym c.take.ensures.value ∙ c.in-None.is in
    let e = c.in-Ok.ensures in
    let o = c.obey_open-in-Ok.ensures in
    ends_opened _ c.args.command.now c.requires.no_drill _ _ (g.P.Plant.seen c.open.new.plant) c.in-Ok.opened c.obey_open-in-Ok.result from is goes e.steps (g.met.P.Plant.reads_possible c.args.plant.now) e.works e.limit e.later o.makes
    (record { disk = omega (arith, e.later.disk, o.later.disk); devices = omega (arith, e.later.devices, o.later.devices) })
    (λ shut. Rose_since _ _ _ e.later.disk (o.disk shut)) (λ some was. runs_if _ _ o.runs some) o.memory

pub returns-in-Err : goal.returns-in-Err
returns-in-Err g c = λ from goes.
    let is : c.args.controller.now ≡ None = sym c.take.ensures.value ∙ c.in-None.is in
    let e = c.in-Err.ensures in
    let u = c.unopened.ensures in
    closed_from _ c.args.command.now _ _ from _ is goes
    (rw (is, c.take.ensures.after) (ends_unopened _ c.args.command.now c.requires.no_drill (g.P.Plant.seen c.args.plant.now) _ (g.P.Plant.seen c.open.new.plant).told c.in-Err.fault e.steps (g.met.P.Plant.reads_possible c.args.plant.now)
    (g.met.P.Plant.reads_possible c.open.new.plant) (later_same _ _ _ e.later.disk e.later.devices u.faults) (goes_closed _) c.unopened.result u.unopened (λ it. rose_same _ _ _ (e.plant (λ i. Err (it i))) u.faults) (runs_if _ _ u.runs) u.bad (λ is. halts_if c.unopened.result _ (u.halts is))))
