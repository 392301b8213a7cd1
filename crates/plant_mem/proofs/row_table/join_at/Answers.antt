use Rattle.std.proofs.Common.{◌<◌, List, sym, subst, arith}
use Rattle.plant.specs.Worlds.{after_op}
use Rattle.plant.specs.declared.device.DeviceOp.TheVariants.{Join}
use Rattle.plant_mem.specs.declared.rows.Row.{Row}
use Rattle.plant_mem.specs.RowTables.{AreRows}
use Rattle.plant_mem.proofs.RowTables.{rows_joined}
use Rattle.plant_mem.proofs.row_table.join_at.Goals as goal

pub returns-clause-rows : goal.returns-clause-rows
returns-clause-rows c =
    let port : c.args.port < 65536 = omega arith in
    let id : c.args.id < 65536 = omega arith in
    λ w a. subst (λ (l : List Row). AreRows (after_op w (Join c.args.switch c.args.port (record { 0 = c.args.id }))) l) (sym c.join.ensures.items)
    (rows_joined w c.args.rows.now.items c.args.switch c.args.port (record { 0 = c.args.id }) port id a)
