use Rattle.std.proofs.Common.{◌≡◌, ◌∙◌, sym, ap, drop}
use Rattle.lab_model.specs.Courses.{Left}
use Rattle.swap_txn.specs.States.{Progress}
use Rattle.swap_txn.specs.Views.{rest, left_of}
use Rattle.swap_txn.proofs.Positions.{listed_left, is_listed}
use Rattle.swap_txn.proofs.sending.Sending.pass_listed.Goals as goal

pub returns-clause-left : goal.returns-clause-left
returns-clause-left c =
    let i = c.self.inside in
    let old = c.args.self.now.left in
    let is : left_of i.commands i.stage i.at i.watched ≡ old = ap (λ (v : Progress). v.left) c.self.view_is in
    let at = listed_left i.commands i.stage i.at i.watched (is_listed i.commands i.stage i.at i.watched c.self.invariant (rw (ap (λ (l : Left). l.todo) is) c.requires)) c.self.invariant in
    let todo = drop 1 (rest i.commands i.stage i.at) in
    let same : todo ≡ drop 1 old.todo = ap (λ (l : Left). drop 1 l.todo) is in
    ap (λ w. left_of i.commands c.after-stage.result.0 c.after-stage.result.1 w) at.0 ∙ c.after-stage.ensures.left
    ∙ ap (λ (l : Left). record { todo = todo; boot = l.boot; watch = l.watch }) (sym at.1 ∙ is) ∙ ap (λ l. record { todo = l; boot = old.boot; watch = old.watch }) same
