use Rattle.std.proofs.Common.{List, sym, subst}
use Rattle.plant.specs.Worlds.{after_op}
use Rattle.plant.specs.declared.device.DeviceOp.{DeviceOp}
use Rattle.plant.specs.declared.device.DeviceOp.TheVariants.{Leave}
use Rattle.plant_mem.specs.declared.rows.Row.{Row}
use Rattle.plant_mem.specs.RowTables.{AreRows}
use Rattle.plant_mem.proofs.RowTables.{rows_left}
use Rattle.plant_mem.proofs.row_table.apply.Goals as goal

pub returns-in-Join-clause-rows : goal.returns-in-Join-clause-rows
returns-in-Join-clause-rows c = λ w a. subst (λ (op : DeviceOp). AreRows (after_op w op) c.join_at.new.rows.items) (sym c.in-Join.is) (c.join_at.ensures.rows w a)

pub returns-in-Leave-clause-rows : goal.returns-in-Leave-clause-rows
returns-in-Leave-clause-rows c = λ w a.
    subst (λ (op : DeviceOp). AreRows (after_op w op) c.leave.new.rows.items) (sym c.in-Leave.is)
    (subst (λ (l : List Row). AreRows (after_op w (Leave c.in-Leave.switch c.in-Leave.port c.in-Leave.vlan)) l) (sym c.leave.ensures.items)
    (rows_left w c.args.rows.now.items c.in-Leave.switch c.in-Leave.port c.in-Leave.vlan a))
