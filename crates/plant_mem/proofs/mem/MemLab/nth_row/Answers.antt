use Rattle.std.proofs.Common.{List, ap, ◌∙◌}
use Rattle.std.specs.Prelude.{slice_get}
use Rattle.plant_mem.specs.declared.rows.Row.{Row}
use Rattle.plant.specs.Worlds.{world_of}
use Rattle.plant_mem.specs.MemLab.{told_of}
use Rattle.plant_mem.specs.RowTables.{entries_on}
use Rattle.plant_mem.proofs.RowTables.{fitting, nth_told}
use Rattle.plant_mem.proofs.mem.MemLab.nth_row.Goals as goal

pub returns-clause-tells : goal.returns-clause-tells
returns-clause-tells c =
    let self = c.args.self.now in
    nth_told (world_of (told_of self).trace) c.args.switch self.past.rows.items self.past.rows_are c.args.nth c.nth_on.result (c.nth_on.ensures ∙ ap (λ (l : List Row). slice_get (entries_on c.args.switch l) c.args.nth) c.deref.ensures.value)

pub returns-clause-fits : goal.returns-clause-fits
returns-clause-fits c =
    let self = c.args.self.now in
    fitting (world_of (told_of self).trace) c.args.switch self.past.rows.items self.past.rows_are
