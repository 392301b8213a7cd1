use Rattle.std.proofs.Common.{◌≡◌, subst, Ok}
use Rattle.lab_model.specs.Courses.{answered}
use Rattle.swap_txn.specs.States.{View}
use Rattle.swap_txn.specs.Troubles.{LeadsBy}
use Rattle.swap_txn.specs.Ways.{view_in}
use Rattle.swap_txn.specs.Going.{CutBack}
use Rattle.swap_txn.proofs.Turning.{goes_at, sent_back}
use Rattle.swap_txn.proofs.work.Work.go_on.Goals as goal

pub returns-in-Err-clause-goes : goal.returns-in-Err-clause-goes
returns-in-Err-clause-goes c =
    let old = view_in c.self.inside in
    let new = c.go_on.new.self.left in
    let what = c.in-Err.what in
    let course = answered old.left.todo old.left.watch old.left.boot (Ok c.args.answer) in
    let same : record old { plan = c.go_on.new.self.plan; left = new } ≡ record old { left = new } = λ i. record old { plan = c.go_on.ensures.plan i; left = new } in
    let back = subst (λ (v : View). CutBack v what old.undo c.turn_back.result) same c.turn_back.ensures in
    let by = subst (λ r. LeadsBy old.left course r new) c.in-Err.is c.go_on.ensures.goes in
    goes_at old c.args.self (Ok c.args.answer) c.turn_back.result c.self.view_is (sent_back old course new what c.turn_back.result by back)
