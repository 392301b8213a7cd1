use Rattle.std.proofs.lemmas.Result.{err_from_is_err_and}
use Rattle.ns_text.proofs.Reading.{unprinted}
use Rattle.ns_text.proofs.read.read_and_print.Goals as goal

pub returns-in_err-top-clause-wiring : goal.returns-in_err-top-clause-wiring
returns-in_err-top-clause-wiring c =
    let p = err_from_is_err_and c.from_residual-in_err-top.result c.from_residual-in_err-top.ensures.1 in
    unprinted c.args.text.now c.from_residual-in_err-top.result p.0 p.1 p.2
