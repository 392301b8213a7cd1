use Rattle.std.proofs.Common.{ℕ, List, refl, sym, subst}
use Rattle.std.proofs.lemmas.Result.{err_from_is_err_and}
use Rattle.swap_mgr.specs.Open.{AreNames}
use Rattle.lab_core.specs.Controller.{Control, control}
use Rattle.lab_core.proofs.Obey.{wanted}
use Rattle.lab_core.proofs.Recovering.{recovered}
use Rattle.lab_core.proofs.controller.Controller.recover.Goals as goal

pub returns-in_err-busy : goal.returns-in_err-busy
returns-in_err-busy g c =
    let p = err_from_is_err_and c.from_residual.result c.from_residual.ensures.1 in
    rw (p.1, p.2, ← c.self.view_is) (λ opens devices exp within works. wanted devices _ _ (control c.self.inside.lab.state c.self.inside.journal c.self.inside.swaps) opens exp works)

pub settle-settled-requires : goal.settle-settled-requires
settle-settled-requires g c = rw (← c.self.view_is) at c.requires.works.1.working.work

pub returns : goal.returns
returns g c = rw (← c.self.view_is) (λ opens devices exp within works.
    let old : Control = control c.self.inside.lab.state c.self.inside.journal c.self.inside.swaps in
    let new : Control = control c.settle-settled.new.state.state c.settle-settled.new.journal c.self.inside.swaps in
    rw c.reply_of_settling.ensures (recovered devices exp _ _ old new opens works refl c.deref.result.now (subst (λ (l : List (List ℕ)). AreNames old.swaps l) (sym c.deref.ensures.value) c.in_ok-busy.ensures) c.settle-settled.ensures.limit c.settle-settled.result c.settle-settled.ensures.stopped c.settle-settled.ensures.after))
