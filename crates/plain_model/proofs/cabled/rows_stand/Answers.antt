use Rattle.std.specs.List.{list_all}
use Rattle.std.proofs.Common.{sym, ap, ◌∙◌}
use Rattle.virt_topo.specs.Wirings.{mapped}
use Rattle.lab_model.specs.Wants.{rows_of}
use Rattle.plain_model.specs.Rows.{has_row}
use Rattle.plain_model.specs.Cabling.{rows_stand}
use Rattle.plain_model.proofs.cabled.rows_stand.Goals as goal

pub returns-in_ok-rows-in-In : goal.returns-in_ok-rows-in-In
returns-in_ok-rows-in-In c =
    let commands = c.args.commands.now in
    let lab = c.args.lab.now in
    let wiring = c.args.experiment.now.wiring in
    c.all_stand.ensures ∙ ap (λ rows. list_all (λ o. has_row commands o.row) rows) (c.deref.ensures.value ∙ c.in_ok-rows-in-In.ensures)
    ∙ ap (λ tags. list_all (λ o. has_row commands o.row) (rows_of lab (mapped wiring c.in-In.mapping tags))) c.as_slice.ensures
    ∙ ap (λ phase. rows_stand commands lab wiring phase) (sym c.in-In.is)
