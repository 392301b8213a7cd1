use Rattle.std.proofs.Common.{Ok, Err, refl, sym, ap, ◌∙◌, subst}
use Rattle.swap_txn.specs.States.{View}
use Rattle.plant.specs.Seen.{Seen}
use Rattle.swap_turns.specs.Beginning.{IsAfterBegin}
use Rattle.swap_turns.proofs.Beginning.{begin_after}
use Rattle.swap_mgr.specs.declared.progress.NotOpened.TheVariants as unopened
use Rattle.swap_mgr.specs.Managing.{IsToldBy}
use Rattle.swap_mgr.specs.Open.{HasOpen, IsWith}
use Rattle.swap_mgr.proofs.Holding.{IsBegunAs, begun_as, stuck_as, opened_one}
use Rattle.swap_mgr.proofs.manager.Manager.open.Goals as goal

pub returns-in-Next-clause-begun : goal.returns-in-Next-clause-begun
returns-in-Next-clause-begun g c = λ t s u opens p begin move working holds body may of_it moves plan.
    let was : Seen = (g.P.Plant.seen c.args.plant.now) in
    let now : Seen = (g.P.Plant.seen c.turn.new.plant) in
    let begun = subst (λ x. IsAfterBegin t p s u begin move was now c.args.journal.now c.turn.new.journal x) c.in-Next.is
    (begin_after t p s u begin move was now c.args.journal.now c.turn.new.journal c.args.planned c.turn.result working.work may of_it moves plan (c.turn.ensures.begins begin body)) in
    let exp_is = c.exp-exp.ensures.exp ∙ ap (λ (f : View). f.exp) plan in
    opened_one t opens p s u begin move was now c.args.journal.now c.turn.new.journal c.args.self.now c.put.new.self c.in-Next.live working holds
    (λ h. absurd (cc (sym c.if-is_open.false ∙ c.is_open.ensures.1 (subst (λ n. HasOpen c.args.self.now n) (sym exp_is) h)))) begun c.put.ensures

pub returns-in-Stuck-clause-begun : goal.returns-in-Stuck-clause-begun
returns-in-Stuck-clause-begun g c = λ t s u opens p begin move working holds body may of_it moves plan.
    let was : Seen = (g.P.Plant.seen c.args.plant.now) in
    let now : Seen = (g.P.Plant.seen c.turn.new.plant) in
    let begun = begin_after t p s u begin move was now c.args.journal.now c.turn.new.journal c.args.planned c.turn.result working.work may of_it moves plan (c.turn.ensures.begins begin body) in (
      subst (λ x. IsBegunAs c.args.planned x) c.in-Stuck.is (begun_as c.args.planned begin was now c.args.journal.now c.turn.new.journal c.turn.result (c.turn.ensures.begins begin body)),
      subst (λ x. IsAfterBegin t p s u begin move was now c.args.journal.now c.turn.new.journal x) c.in-Stuck.is begun,
    )

pub returns-in-Stopped-clause-begun : goal.returns-in-Stopped-clause-begun
returns-in-Stopped-clause-begun g c = λ t s u opens p begin move working holds body may of_it moves plan.
    let was : Seen = (g.P.Plant.seen c.args.plant.now) in
    let now : Seen = (g.P.Plant.seen c.turn.new.plant) in
    subst (λ x. IsAfterBegin t p s u begin move was now c.args.journal.now c.turn.new.journal x) c.in-Stopped.is
    (begin_after t p s u begin move was now c.args.journal.now c.turn.new.journal c.args.planned c.turn.result working.work may of_it moves plan (c.turn.ensures.begins begin body))

pub returns-in-Next-clause-begins : goal.returns-in-Next-clause-begins
returns-in-Next-clause-begins g c = λ begin body. (c.turn.result, c.turn.ensures.begins begin body, subst (λ x. IsToldBy x (Ok tt)) (sym c.in-Next.is) tt)

pub returns-in-Stuck-clause-begins : goal.returns-in-Stuck-clause-begins
returns-in-Stuck-clause-begins g c = λ begin body. (c.turn.result, c.turn.ensures.begins begin body, subst (λ x. IsToldBy x (Err (unopened.Stuck c.in-Stuck.what))) (sym c.in-Stuck.is) refl)

pub returns-in-Stopped-clause-begins : goal.returns-in-Stopped-clause-begins
returns-in-Stopped-clause-begins g c = λ begin body. (c.turn.result, c.turn.ensures.begins begin body, subst (λ x. IsToldBy x (Err unopened.Stopped)) (sym c.in-Stopped.is) tt)

pub returns-in-Next-clause-held : goal.returns-in-Next-clause-held
returns-in-Next-clause-held g c =
    let entry = c.exp-exp.ensures.begin in
    let state = subst (λ x. IsBegunAs c.args.planned x) c.in-Next.is (begun_as c.args.planned entry.0 (g.P.Plant.seen c.args.plant.now) (g.P.Plant.seen c.turn.new.plant) c.args.journal.now c.turn.new.journal c.turn.result (c.turn.ensures.begins entry.0 entry.1)) in
    subst (λ x. IsWith c.args.self.now x c.put.new.self) state c.put.ensures

pub returns-in-Stuck-clause-stuck : goal.returns-in-Stuck-clause-stuck
returns-in-Stuck-clause-stuck g c = λ what is.
    let entry = c.exp-exp.ensures.begin in
    let begins = c.turn.ensures.begins entry.0 entry.1 in
    let was : Seen = (g.P.Plant.seen c.args.plant.now) in
    let now : Seen = (g.P.Plant.seen c.turn.new.plant) in
    let of_journal = subst (λ x. IsBegunAs c.args.planned x) c.in-Stuck.is (begun_as c.args.planned entry.0 was now c.args.journal.now c.turn.new.journal c.turn.result begins) in
    (cc (is, of_journal), stuck_as c.args.planned entry.0 was now c.args.journal.now c.turn.new.journal c.turn.result _ _ begins c.in-Stuck.is)
