-- A change, with the tables of its two mappings.
use Rattle.std.specs.Prelude.{◌≡◌, map}
use Rattle.lab_model.specs.Courses.{node_names}
use Rattle.swap_plan.specs.Plans.{IsFit, fresh_os, wiped_os}
use Rattle.swap_plan.specs.Tables.{IsTable}
use Rattle.swap_plan.specs.declared.changes.Change.{Change}
use Rattle.swap_plan.specs.declared.changes.Fresh.{Fresh}

pub record IsChange (c : Change) : Type 0 where
  pub old_fit : IsFit c.lab.now c.old.now
  pub new_fit : IsFit c.lab.now c.new.now
  pub before : IsTable c.lab.now c.old.now.wiring c.old.now.mapping c.before.now
  pub after : IsTable c.lab.now c.new.now.wiring c.new.now.mapping c.after.now

-- by node of the lab what the change sends for it
pub record IsFresh (c : Change) (f : Fresh) : Type 0 where
  pub leaving : f.leaving.items ≡ map (fresh_os c.lab.now c.old.now c.new.now c.old.now) (node_names c.lab.now)
  pub coming : f.coming.items ≡ map (fresh_os c.lab.now c.old.now c.new.now c.new.now) (node_names c.lab.now)
  pub wiped : f.wiped.items ≡ map (wiped_os c.lab.now c.old.now c.new.now) (node_names c.lab.now)
