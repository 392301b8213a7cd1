use Rattle.std.proofs.Common.{◌≡◌, ◌∙◌, ◌∷◌, sym, ap, drop, [], None}
use Rattle.lab_model.specs.Courses.{Left}
use Rattle.swap_txn.specs.States.{Progress, stage_of}
use Rattle.swap_txn.specs.Views.{watch_of}
use Rattle.swap_txn.proofs.Positions.{boot_left}
use Rattle.swap_txn.proofs.Stepping.{boot_goes}
use Rattle.swap_txn.proofs.sending.Sending.watch_next.Goals as goal

pub returns-clause-goes : goal.returns-clause-goes
returns-clause-goes c = λ answer.
    let i = c.self.inside in
    let old = c.args.self.now.left in
    let at = boot_left i.commands i.stage i.at i.watched old c.self.invariant (ap (λ (v : Progress). v.left) c.self.view_is) (ap (λ (v : Progress). stage_of v.plan old) c.self.view_is ∙ c.requires.boots) in
    let none : watch_of i.watched ≡ None = sym (ap (λ (l : Left). l.watch) at.1) ∙ c.requires.unwatched in
    let is : old ≡ record { todo = []; boot = c.node_at-node.result.0 ∷ drop c.node_at-node.result.1 i.commands.boot; watch = None } = at.1 ∙ (λ k. record { todo = []; boot = c.node_at-node.ensures k; watch = none k }) in
    rw at.0 (rw (c.new.ensures.last, c.new.ensures.polls) (boot_goes old c.node_at-node.result.0 (drop c.node_at-node.result.1 i.commands.boot) answer is))
