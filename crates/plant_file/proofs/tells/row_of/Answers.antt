use Rattle.std.proofs.Common.{List, ap, ◌∙◌}
use Rattle.std.specs.Prelude.{slice_get}
use Rattle.plant_file.proofs.RowsTold.{row_told}
use Rattle.plant_file.proofs.tells.row_of.Goals as goal

pub returns-clause-row : goal.returns-clause-row
returns-clause-row c =
    row_told c.args.switch.now c.args.tables.now c.in_ok-rows.rows.items c.args.nth c.row_at.result c.in_ok-rows.ensures.rows
    (c.row_at.ensures ∙ ap (λ (l : List _). slice_get l c.args.nth) c.deref.ensures.value)
