use Rattle.std.proofs.Common.{sym}
use Rattle.lab_tasks.proofs.JudgeSwap.{is_none_not, left_is}
use Rattle.lab_judge.proofs.Searched.{found_if, keeps_if}
use Rattle.lab_judge.proofs.search.search.Goals as goal

pub unreachable-requires : goal.unreachable-requires
unreachable-requires g c = is_none_not c.args.case.now.state.now.state.lab c.args.case.now.lab.now (sym c.in_default.ensures.some) c.requires.there.is_lab

pub solve-requires-clause-free : goal.solve-requires-clause-free
solve-requires-clause-free g c = (left_is c.args.case.now.state.now.state c.args.case.now.lab.now c.args.case.now.experiment.now c.in-Some.claims.now c.requires.there c.in-Some.ensures.claims c.in_ok-free.free c.in_ok-free.ensures).sizes

pub returns-clause-found : goal.returns-clause-found
returns-clause-found g c =
    found_if c.args.case.now.state.now.state c.args.case.now.lab.now c.args.case.now.experiment.now c.in-Some.claims.now c.requires.there c.in-Some.ensures.claims c.args.wiring.now c.in_ok-free.free c.in_ok-free.ensures c.args.rule.now.number c.args.seed c.solve.result
    c.solve.ensures.allowed

pub returns-clause-keeps : goal.returns-clause-keeps
returns-clause-keeps g c =
    keeps_if c.args.case.now.state.now.state c.args.case.now.lab.now c.args.case.now.experiment.now c.in-Some.claims.now c.requires.there c.in-Some.ensures.claims c.args.wiring.now c.in_ok-free.free c.in_ok-free.ensures c.solve.result c.solve.ensures.shaped c.solve.ensures.feasible
