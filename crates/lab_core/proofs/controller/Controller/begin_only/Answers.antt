use Rattle.std.proofs.Common.{true}
use Rattle.std.proofs.lemmas.Result.{err_from_is_err_and}
use Rattle.lab_core.proofs.RunSwap.{only_begun}
use Rattle.lab_core.proofs.controller.Controller.begin_only.Goals as goal

pub returns-in_err-begin : goal.returns-in_err-begin
returns-in_err-begin g c =
    let p = err_from_is_err_and c.from_residual.result c.from_residual.ensures.1 in
    rw (p.1, p.2) (λ opens devices within works. c.in_err-begin.ensures.begun opens devices within works true)

pub returns-in-None : goal.returns-in-None
returns-in-None g c = λ opens devices within works.
    only_begun devices _ _ c.args.self.now c.begin.new.self opens c.args.swap.exp c.args.swap.way ((rw c.in-None.is at c.in_ok-begin.ensures.begun) opens devices within works)

pub returns-in-Some : goal.returns-in-Some
returns-in-Some g c = λ opens devices within works. (rw c.in-Some.is at c.in_ok-begin.ensures.begun) opens devices within works true
