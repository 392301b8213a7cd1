use Rattle.std.proofs.Common.{List, ap, ◌∙◌}
use Rattle.std.specs.List.{filter_map}
use Rattle.plant_file.specs.declared.entry.Entry.{Entry}
use Rattle.plant_file.specs.OnDevices.{pair_on}
use Rattle.plant_file.proofs.RowsTold.{rows_are, rows_fit}
use Rattle.plant_file.proofs.tells.rows_of.Goals as goal

pub returns-clause-rows : goal.returns-clause-rows
returns-clause-rows c =
    rows_are c.args.switch.now c.args.tables.now c.in_ok-rows.rows.items c.sort.new.self.items c.dedup.new.self.items
    (c.in_ok-rows.ensures ∙ ap (λ (l : List Entry). filter_map (pair_on c.args.switch.now) l) c.lines.ensures.entries)
    c.in_ok-sort.ensures.permutation c.in_ok-sort.ensures.sorted c.dedup.ensures.filtered

pub returns-clause-fits : goal.returns-clause-fits
returns-clause-fits c = rows_fit c.args.switch.now c.args.tables.now c.lines.ensures.printable
