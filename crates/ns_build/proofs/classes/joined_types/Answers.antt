use Rattle.std.proofs.Common.{arith, []}
use Rattle.std.proofs.lemmas.Result.{err_from_is_err_and}
use Rattle.lab_base.specs.Texts.{views}
use Rattle.ns_build.specs.Checks.{each}
use Rattle.ns_build.specs.Settings.{with_type}
use Rattle.ns_build.proofs.EachWord.{goes_on, breaks_off, ends}
use Rattle.ns_build.proofs.classes.joined_types.Goals as goal

pub returns-in_err-types : goal.returns-in_err-types
returns-in_err-types c =
    let p = err_from_is_err_and c.from_residual.result c.from_residual.ensures.1 in
    rw (p.1, p.2) (breaks_off with_type c.args.elements.now (each with_type [] (views c.args.elements.now)) _ c.loop-element.types c.loop-element.element-index _ c.loop-element-test.true c.in_err-types.ensures c.loop-element.invariant)

pub loop-element-preserved : goal.loop-element-preserved
loop-element-preserved c =
    goes_on with_type c.args.elements.now (each with_type [] (views c.args.elements.now)) c.loop-element.types c.in_ok-types.types c.loop-element.element-index _ c.loop-element-test.true c.in_ok-types.ensures c.loop-element.invariant

pub returns : goal.returns
returns c = ends with_type c.args.elements.now (each with_type [] (views c.args.elements.now)) c.loop-element.types c.loop-element.element-index (omega arith) c.loop-element.invariant
