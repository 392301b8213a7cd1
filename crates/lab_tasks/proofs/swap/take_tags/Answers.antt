use Rattle.std.proofs.Common.{◌≤◌, ℕ, IfOk, Ok, length, sym, subst}
use Rattle.claims.specs.Answered.{AreTaken}
use Rattle.claims.specs.Held.{free_ids}
use Rattle.lab_tasks.proofs.JudgeSwap.{enough, is_none_not, takes_if}
use Rattle.lab_tasks.proofs.swap.take_tags.Goals as goal

pub unreachable-requires : goal.unreachable-requires
unreachable-requires c = is_none_not c.args.case.now.state.now.state.lab c.args.case.now.lab.now (sym c.in_default.ensures.some) c.requires.there.is_lab

pub least_tags-requires : goal.least_tags-requires
least_tags-requires c =
    subst (λ (n : ℕ). n ≤ length (free_ids c.in-Some.claims.now)) (sym c.len.ensures)
    (enough c.args.case.now.state.now.state c.args.case.now.lab.now c.args.case.now.experiment.now c.in-Some.claims.now c.requires.there c.in-Some.ensures.claims c.args.wiring.now c.requires.keeps.0 c.requires.keeps.1)

pub returns : goal.returns
returns c = λ m keeps.
    takes_if c.args.case.now.state.now.state c.args.case.now.lab.now c.args.case.now.experiment.now c.in-Some.claims.now c.requires.there c.in-Some.ensures.claims c.args.wiring.now m keeps c.least_tags.result
    (subst (λ (n : ℕ). IfOk c.least_tags.result (λ tags. AreTaken (free_ids c.in-Some.claims.now) n (Ok tags))) c.len.ensures c.least_tags.ensures)
