-- The world by the words of a lab.
use Rattle.plant.specs.Worlds.{World}
use Rattle.lab_model.specs.Cabled.{Cabled}
use Rattle.lab_model.specs.Holding.{Holding}
use Rattle.lab_model.specs.Isolated.{Isolated}
use Rattle.records_model.specs.Labs.{LabState, lab_in}

-- THE WORLD IS AS THE LAB SAYS: what is claimed holds, points that reach each other have one owner, and each experiment has what its phase says
pub record IsAsSaid (w : World) (s : LabState) : Type 0 where
  pub holding : Holding (lab_in s.lab) s.experiments
  pub isolated : Isolated (lab_in s.lab) s.experiments w
  pub cabled : Cabled (lab_in s.lab) s.experiments w
