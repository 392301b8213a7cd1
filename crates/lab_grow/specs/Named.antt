-- Rows that stay as they are over another lab.
use Rattle.std.specs.Prelude.{List, [], ◌∷◌, map}
use Rattle.lab_base.specs.Lists.{Has}
use Rattle.phys_lab.specs.Labs.{Lab}
use Rattle.virt_topo.specs.Wirings.{mapped}
use Rattle.virt_topo.specs.declared.wiring.Wiring.{Wiring}
use Rattle.virt_topo.specs.declared.mapping.Mapped.{Mapped}
use Rattle.virt_topo.specs.declared.experiment.Experiment.{Experiment}
use Rattle.virt_topo.specs.declared.experiment.Phase.{Phase}
use Rattle.virt_topo.specs.declared.experiment.Phase.TheVariants.{Out, In}
use Rattle.plant.specs.Worlds.{Row}
use Rattle.lab_model.specs.Wants.{rows_of}

-- the rows that a mapping wants, each a port of a switch in the VLAN of a link
abbrev pub wanted_rows : Lab → Mapped → List Row
wanted_rows lab m = map (λ o. o.row) (rows_of lab m)

-- the rows of an experiment that doesn't move
abbrev pub rows_in : Lab → Wiring → Phase → List Row
rows_in lab w (In m tags) = wanted_rows lab (mapped w m tags)
rows_in lab w phase = []

-- THE SAME ROWS: what stands on switches for the one mapping is what stands there for the other
pub record HasSameRows (old new : Lab) (m n : Mapped) : Type 0 where
  pub there : (row : Row) → Has (wanted_rows old m) row → Has (wanted_rows new n) row
  pub here : (row : Row) → Has (wanted_rows new n) row → Has (wanted_rows old m) row

abbrev pub StaysIn : Lab → Lab → Wiring → Wiring → Phase → Phase → Type 0
StaysIn old new w v Out Out = Unit {0}
StaysIn old new w v (In m tags) (In n ids) = HasSameRows old new (mapped w m tags) (mapped v n ids)
StaysIn old new w v p q = ⊥

-- each experiment has the rows that it had
abbrev pub AreStaying : Lab → Lab → List Experiment → List Experiment → Type 0
AreStaying old new [] [] = Unit {0}
AreStaying old new (e ∷ es) (f ∷ fs) = StaysIn old new e.wiring f.wiring e.phase f.phase × AreStaying old new es fs
AreStaying old new es fs = ⊥
