use Rattle.std.proofs.Common.{◌≡◌, ◌≤◌, ◌+◌, ℕ, List, [], drop, length, Err, Ok, refl, sym, ap, ◌∙◌, subst, arith}
use Rattle.std.proofs.lemmas.Result.{err_from_is_err_and}
use Rattle.lab_base.proofs.Lists.{item_at}
use Rattle.lab_base.proofs.Members.{Has-at}
use Rattle.lab_ahead.specs.declared.batch.Run.{Run}
use Rattle.lab_ahead.specs.declared.ends.End.{End}
use Rattle.script_text.specs.declared.reply.Reply.TheVariants as replies
use Rattle.script_text.specs.declared.reply.Served.{Served}
use Rattle.lab_core.specs.declared.fault.CoreFault.TheVariants as faults
use Rattle.lab_judge.specs.declared.run.Queue.{Queue}
use Rattle.lab_core.specs.Controller.{WorksWith}
use Rattle.lab_core.specs.Queues.{ObeysRuns, ends_if, first_place}
use Rattle.lab_core.specs.Sessions.{OpenSwap}
use Rattle.lab_tasks.proofs.Drops.{drop_all}
use Rattle.lab_core.proofs.RunsInTurn.{all_done, ends_there, fails_there, goes_further, place_at, starts, wants_after, works_further}
use Rattle.lab_core.proofs.HowFar.{ComesToRun}
use Rattle.lab_core.proofs.controller.Controller.serve_runs.Goals as goal

pub loop-run-init : goal.loop-run-init
loop-run-init g c =
    let runs = c.args.runs.now in
    let start = first_place c.args.promises runs in
    let before = g.P.Plant.seen c.args.plant.now in
    record {
      within = omega arith;
      moment = refl;
      promises = refl;
      open' = ap (λ (s : Served). s.closes) c.none-told.ensures;
      can = c.requires.works;
      comes = (
        [],
        c.none-told.ensures,
        subst (λ (l : List End). ComesToRun c.args.rule.now.number c.args.moment start before before c.args.self.now c.args.self.now (place_at (record { moment = c.args.moment; promises = c.args.promises; ends = l }) runs [])) (sym c.new.ensures)
            (starts c.args.rule.now.number c.args.moment c.args.promises runs before c.args.self.now),
      );
    }

pub serve_next-requires-clause-serves : goal.serve_next-requires-clause-serves
serve_next-requires-clause-serves g c = record {
  few = omega (arith, ap length c.loop-run.invariant.promises, c.requires.few);
  moment = omega (arith, c.loop-run.invariant.moment, c.requires.moment);
  short = (c.requires.runs c.run-item.result (Has-at c.args.runs.now c.loop-run.run-index c.run-item.result c.loop-run-test.true c.run-item.is)).short;
}

pub returns-in_err-next : goal.returns-in_err-next
returns-in_err-next g c =
    let i = c.loop-run.run-index in
    let runs = c.args.runs.now in
    let x = c.run-item.result in
    let queue = c.loop-run.queue in
    let start = first_place c.args.promises runs in
    let before = g.P.Plant.seen c.args.plant.now in
    let mid = g.P.Plant.seen c.loop-run.plant in
    let told = c.loop-run.invariant.comes.0 in
    let comes = subst (λ (l : List Run). ComesToRun c.args.rule.now.number queue.moment start before mid c.args.self.now c.loop-run.self (place_at queue l told)) (item_at runs i x c.loop-run-test.true c.run-item.is) c.loop-run.invariant.comes.2 in
    let p = err_from_is_err_and c.from_residual.result c.from_residual.ensures.1 in
    rw (p.1, p.2)
    (subst (λ (m : ℕ). (opens : List OpenSwap) (devices : ℕ) → devices ≤ before.faults.devices → WorksWith before c.args.self.now opens → ObeysRuns c.args.rule.now.number m start devices before (g.P.Plant.seen c.serve_next.new.plant) c.args.self.now c.serve_next.new.self opens (Err c.in_err-next.field-0.0)) c.loop-run.invariant.moment
    (fails_there c.args.rule.now.number start before mid (g.P.Plant.seen c.serve_next.new.plant) c.args.self.now c.loop-run.self c.serve_next.new.self queue x (drop (i + 1) runs) told comes c.loop-run.told c.loop-run.invariant.comes.1 c.loop-run.invariant.open' c.in_err-next.field-0.0 c.in_err-next.ensures))

pub returns-then-told : goal.returns-then-told
returns-then-told g c =
    let i = c.loop-run.run-index in
    let runs = c.args.runs.now in
    let x = c.run-item.result in
    let queue = c.loop-run.queue in
    let start = first_place c.args.promises runs in
    let before = g.P.Plant.seen c.args.plant.now in
    let mid = g.P.Plant.seen c.loop-run.plant in
    let told = c.loop-run.invariant.comes.0 in
    let comes = subst (λ (l : List Run). ComesToRun c.args.rule.now.number queue.moment start before mid c.args.self.now c.loop-run.self (place_at queue l told)) (item_at runs i x c.loop-run-test.true c.run-item.is) c.loop-run.invariant.comes.2 in
    subst (λ (m : ℕ). (opens : List OpenSwap) (devices : ℕ) → devices ≤ before.faults.devices → WorksWith before c.args.self.now opens → ObeysRuns c.args.rule.now.number m start devices before (g.P.Plant.seen c.serve_next.new.plant) c.args.self.now c.serve_next.new.self opens (Ok (replies.Served c.in_ok-next.next))) c.loop-run.invariant.moment
    (ends_there c.args.rule.now.number start before mid (g.P.Plant.seen c.serve_next.new.plant) c.args.self.now c.loop-run.self c.serve_next.new.self queue x (drop (i + 1) runs) told comes c.loop-run.told c.loop-run.invariant.comes.1 c.loop-run.invariant.open' c.in_ok-next.next c.in_ok-next.inside c.in_ok-next.ensures c.if-told.true)

pub note_end-requires : goal.note_end-requires
note_end-requires g c = record {
  few = omega (arith, ap length c.loop-run.invariant.promises, c.requires.few);
  moment = omega (arith, c.loop-run.invariant.moment, c.requires.moment);
  short = (c.requires.runs c.run-item.result (Has-at c.args.runs.now c.loop-run.run-index c.run-item.result c.loop-run-test.true c.run-item.is)).short;
}

pub returns-in_err-note_end : goal.returns-in_err-note_end
returns-in_err-note_end g c =
    let i = c.loop-run.run-index in
    let runs = c.args.runs.now in
    let x = c.run-item.result in
    let queue = c.loop-run.queue in
    let start = first_place c.args.promises runs in
    let before = g.P.Plant.seen c.args.plant.now in
    let mid = g.P.Plant.seen c.loop-run.plant in
    let told = c.loop-run.invariant.comes.0 in
    let comes = subst (λ (l : List Run). ComesToRun c.args.rule.now.number queue.moment start before mid c.args.self.now c.loop-run.self (place_at queue l told)) (item_at runs i x c.loop-run-test.true c.run-item.is) c.loop-run.invariant.comes.2 in
    let p = err_from_is_err_and c.from_residual-in_err-note_end.result c.from_residual-in_err-note_end.ensures.1 in
    rw (p.1, p.2)
    (subst (λ (m : ℕ). (opens : List OpenSwap) (devices : ℕ) → devices ≤ before.faults.devices → WorksWith before c.args.self.now opens → ObeysRuns c.args.rule.now.number m start devices before (g.P.Plant.seen c.serve_next.new.plant) c.args.self.now c.serve_next.new.self opens (Err faults.Memory)) c.loop-run.invariant.moment
    (wants_after c.args.rule.now.number start before mid (g.P.Plant.seen c.serve_next.new.plant) c.args.self.now c.loop-run.self c.serve_next.new.self queue x (drop (i + 1) runs) told comes c.loop-run.told c.loop-run.invariant.comes.1 c.loop-run.invariant.open' c.in_ok-next.next c.in_ok-next.inside c.in_ok-next.ensures c.if-told.false))

pub loop-run-preserved : goal.loop-run-preserved
loop-run-preserved g c =
    let i = c.loop-run.run-index in
    let runs = c.args.runs.now in
    let x = c.run-item.result in
    let queue = c.loop-run.queue in
    let start = first_place c.args.promises runs in
    let before = g.P.Plant.seen c.args.plant.now in
    let mid = g.P.Plant.seen c.loop-run.plant in
    let told = c.loop-run.invariant.comes.0 in
    let comes = subst (λ (l : List Run). ComesToRun c.args.rule.now.number queue.moment start before mid c.args.self.now c.loop-run.self (place_at queue l told)) (item_at runs i x c.loop-run-test.true c.run-item.is) c.loop-run.invariant.comes.2 in
    let further = goes_further c.args.rule.now.number start before mid (g.P.Plant.seen c.serve_next.new.plant) c.args.self.now c.loop-run.self c.serve_next.new.self queue x (drop (i + 1) runs) told comes c.loop-run.told c.loop-run.invariant.comes.1 c.loop-run.invariant.open' c.in_ok-next.next c.in_ok-next.inside c.in_ok-next.ensures c.if-told.false in
    let new : record queue { ends = ends_if c.in_ok-next.inside queue x } ≡ c.note_end.new.queue =
    λ j. record { moment = sym c.note_end.ensures.moment j; promises = sym c.note_end.ensures.promises j; ends = sym c.in_ok-note_end.ensures.ends j } in
    record {
      within = omega (arith, c.loop-run-test.true);
      moment = c.note_end.ensures.moment ∙ c.loop-run.invariant.moment;
      promises = c.note_end.ensures.promises ∙ c.loop-run.invariant.promises;
      open' = c.if-told.false;
      can = works_further c.args.rule.now.number start before mid (g.P.Plant.seen c.serve_next.new.plant) c.args.self.now c.loop-run.self c.serve_next.new.self queue x (drop (i + 1) runs) told comes c.loop-run.told c.loop-run.invariant.comes.1 c.loop-run.invariant.open' c.in_ok-next.next c.in_ok-next.inside c.loop-run.invariant.can c.in_ok-next.ensures c.if-told.false;
      comes = (
        further.0,
        further.1,
        subst (λ (q : Queue). ComesToRun c.args.rule.now.number q.moment start before (g.P.Plant.seen c.serve_next.new.plant) c.args.self.now c.serve_next.new.self (place_at q (drop (i + 1) runs) further.0)) new further.2,
      );
    }

pub returns : goal.returns
returns g c = λ opens devices within works.
    let runs = c.args.runs.now in
    let queue = c.loop-run.queue in
    let start = first_place c.args.promises runs in
    let before = g.P.Plant.seen c.args.plant.now in
    let told = c.loop-run.invariant.comes.0 in
    let comes = subst (λ (l : List Run). ComesToRun c.args.rule.now.number queue.moment start before (g.P.Plant.seen c.loop-run.plant) c.args.self.now c.loop-run.self (place_at queue l told)) (drop_all runs c.loop-run.run-index (omega (arith, c.loop-run-test.false))) c.loop-run.invariant.comes.2 in
    subst (λ (m : ℕ). ObeysRuns c.args.rule.now.number m start devices before (g.P.Plant.seen c.loop-run.plant) c.args.self.now c.loop-run.self opens (Ok (replies.Served c.loop-run.told))) c.loop-run.invariant.moment
    (all_done c.args.rule.now.number queue.moment start before (g.P.Plant.seen c.loop-run.plant) c.args.self.now c.loop-run.self queue.promises queue.ends told c.loop-run.told c.loop-run.invariant.comes.1 c.loop-run.invariant.open' comes opens devices within works)
