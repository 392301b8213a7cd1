-- Labs and their experiments, as contracts see them.
use Rattle.std.specs.Prelude.{ℕ, List}
use Rattle.virt_topo.specs.declared.experiment.Experiment.{Experiment}
use Rattle.records_model.specs.Labs.{LabState}

-- experiments in order of creation, and for how many more there is room
pub record Listed : Type 0 where
  pub list : List Experiment
  pub room : ℕ

-- the lab with its experiments, and for how many more there is room
pub record Seen : Type 0 where
  pub state : LabState
  pub room : ℕ
