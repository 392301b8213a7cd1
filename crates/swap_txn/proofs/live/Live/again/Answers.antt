use Rattle.std.proofs.Common.{◌≡◌, ◌∙◌, sym, ap, subst}
use Rattle.lab_model.specs.Courses.{whole}
use Rattle.swap_txn.specs.Facts.{StartsAt}
use Rattle.swap_txn.specs.States.{View}
use Rattle.swap_txn.proofs.Knowing.{state_starts}
use Rattle.swap_txn.proofs.live.Live.again.Goals as goal
use Rattle.swap_txn.proofs.live.Live.again.Goals.{then-out, else-out}

pub returns-clause-facts : goal.returns-clause-facts
returns-clause-facts c =
    let v = c.if-out.work in
    let all : v.left ≡ whole v.plan = elim c.if-out.branch [
      | then-out w ↦ ap (λ (x : View). x.left) w.work-is ∙ w.new.ensures.left ∙ sym (ap whole (ap (λ (x : View). x.plan) w.work-is ∙ w.new.ensures.plan))
      | else-out w ↦ ap (λ (x : View). x.left) w.work-is ∙ w.new-else-out.ensures.left ∙ sym (ap whole (ap (λ (x : View). x.plan) w.work-is ∙ w.new-else-out.ensures.plan))
    ] in
    λ trace. subst (λ live. StartsAt trace live) (sym c.live.ensures) (state_starts v all trace)
