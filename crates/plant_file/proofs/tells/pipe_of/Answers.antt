use Rattle.std.proofs.Common.{ℕ, List, sym, ap, ◌∙◌}
use Rattle.std.specs.Prelude.{slice_get}
use Rattle.plant_file.proofs.PipesTold.{pipe_told, no_pipe_told}
use Rattle.plant_file.proofs.tells.pipe_of.Goals as goal

pub returns-in-Some-clause-pipe : goal.returns-in-Some-clause-pipe
returns-in-Some-clause-pipe c =
    pipe_told c.args.node.now c.args.tables.now c.in_ok-numbers.numbers.items c.args.nth c.in-Some.number c.pipe_at.result c.in_ok-numbers.ensures.numbers
    (ap (λ (l : List ℕ). slice_get l c.args.nth) (sym c.deref.ensures.value) ∙ sym c.in-Some.ensures) c.pipe_at.ensures

pub returns-clause-pipe : goal.returns-clause-pipe
returns-clause-pipe c =
    no_pipe_told c.args.node.now c.args.tables.now c.in_ok-numbers.numbers.items c.args.nth c.in_ok-numbers.ensures.numbers
    (ap (λ (l : List ℕ). slice_get l c.args.nth) (sym c.deref.ensures.value) ∙ sym c.in-None.ensures)
