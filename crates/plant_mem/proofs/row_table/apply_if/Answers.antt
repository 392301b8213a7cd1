use Rattle.std.proofs.Common.{Bool, sym, subst, if◌then◌else◌}
use Rattle.plant.specs.Worlds.{after_op}
use Rattle.plant_mem.specs.RowTables.{AreRows}
use Rattle.plant_mem.proofs.row_table.apply_if.Goals as goal

pub returns-then-applied-clause-rows : goal.returns-then-applied-clause-rows
returns-then-applied-clause-rows c = λ w a. subst (λ (b : Bool). AreRows (if b then after_op w c.args.op.now else w) c.apply.new.rows.items) (sym c.if-applied.true) (c.apply.ensures.rows w a)
