use Rattle.std.proofs.Common.{◌≡◌, ◌∙◌, ap, sym, subst, rules}
use Rattle.plant.specs.Calls.{Fits}
use Rattle.lab_model.specs.Courses.{Left}
use Rattle.swap_txn.specs.States.{Progress, stage_of}
use Rattle.swap_txn.specs.declared.stage.Stage.TheVariants.{Boot}
use Rattle.swap_txn.proofs.Positions.{boot_left, stage_is}
use Rattle.swap_txn.proofs.Stepping.{watched_by, unwatched_by}
use Rattle.swap_txn.proofs.sending.Sending.go_on.Goals as goal

pub see-requires-clause-watched : goal.see-requires-clause-watched
see-requires-clause-watched c =
    let i = c.self.inside in
    let old = c.args.self.now.left in
    let here : i.stage ≡ Boot = search rules in
    let is = ap (λ (v : Progress). v.left) c.self.view_is in
    let boots : stage_of i.commands old ≡ Boot = sym (ap (λ l. stage_of i.commands l) is) ∙ stage_is i.commands i.stage i.at i.watched c.self.invariant ∙ here in
    let at = boot_left i.commands i.stage i.at i.watched old c.self.invariant is boots in
    watched_by i.commands old c.in-State.state (ap (λ (l : Left). l.todo) at.1) boots (λ op comes. subst (λ a. Fits op a) c.in-State.is (c.requires.fits op comes))

pub watch_next-requires-clause-unwatched : goal.watch_next-requires-clause-unwatched
watch_next-requires-clause-unwatched c =
    let i = c.self.inside in
    let old = c.args.self.now.left in
    let here : i.stage ≡ Boot = search rules in
    let is = ap (λ (v : Progress). v.left) c.self.view_is in
    let boots : stage_of i.commands old ≡ Boot = sym (ap (λ l. stage_of i.commands l) is) ∙ stage_is i.commands i.stage i.at i.watched c.self.invariant ∙ here in
    let at = boot_left i.commands i.stage i.at i.watched old c.self.invariant is boots in
    unwatched_by old (ap (λ (l : Left). l.todo) at.1) (λ op comes. subst (λ a. Fits op a) c.in-Done.is (c.requires.fits op comes))
