use Rattle.std.proofs.Common.{IfOk, subst}
use Rattle.lab_model.specs.Shapes.{IsShaped}
use Rattle.lab_model.specs.Feasible.{IsFeasible}
use Rattle.map_anneal.specs.Sought.{Sought}
use Rattle.map_anneal.proofs.PreparedLaws.{same_sought}
use Rattle.assign_core.specs.Exact.{IfFound, IsAllowed}
use Rattle.assign_core.proofs.whole.solve.Goals as goal

pub returns-clause-allowed : goal.returns-clause-allowed
returns-clause-allowed g c =
    let same = same_sought c.search-search.result c.args.lab.now c.args.free.now c.args.wiring.now c.args.rule.now.number c.search-search.ensures.lab c.search-search.ensures.left c.search-search.ensures.wiring in
    subst (λ (s : Sought). IfOk c.solve_by-solved.result (IsAllowed s c.args.seed)) same c.solve_by-solved.ensures.allowed

pub returns-clause-shaped : goal.returns-clause-shaped
returns-clause-shaped g c =
    let same = same_sought c.search-search.result c.args.lab.now c.args.free.now c.args.wiring.now c.args.rule.now.number c.search-search.ensures.lab c.search-search.ensures.left c.search-search.ensures.wiring in
    subst (λ (s : Sought). IfOk c.solve_by-solved.result (λ solved. IfFound solved (IsShaped s.lab s.wiring))) same c.solve_by-solved.ensures.shaped

pub returns-clause-feasible : goal.returns-clause-feasible
returns-clause-feasible g c =
    let same = same_sought c.search-search.result c.args.lab.now c.args.free.now c.args.wiring.now c.args.rule.now.number c.search-search.ensures.lab c.search-search.ensures.left c.search-search.ensures.wiring in
    subst (λ (s : Sought). IfOk c.solve_by-solved.result (λ solved. IfFound solved (IsFeasible s.lab s.free s.wiring))) same c.solve_by-solved.ensures.feasible
