-- The beginning of a move.
use Rattle.std.specs.Prelude.{Option, Some, None}
use Rattle.virt_topo.specs.declared.wiring.Wiring.{Wiring}
use Rattle.virt_topo.specs.declared.experiment.Experiment.{Experiment}
use Rattle.virt_topo.specs.declared.experiment.Phase.{Phase}
use Rattle.virt_topo.specs.declared.experiment.Phase.TheVariants.{Out, In, Moving}
use Rattle.virt_topo.specs.declared.mapping.Mapped.{Mapped}
use Rattle.virt_topo.specs.Wirings.{mapped}
use Rattle.records_model.specs.Labs.{in_phase}

-- the mapping of an experiment that stands in the lab
abbrev pub standing_in : Wiring → Phase → Option Mapped
standing_in wiring Out = None
standing_in wiring (In mapping tags) = Some (mapped wiring mapping tags)
standing_in wiring (Moving old new) = None

-- the experiment as it moves from there to a new one, or out
abbrev pub moving : Experiment → Option Mapped → Experiment
moving e new = in_phase e (Moving (standing_in e.wiring e.phase) new)
