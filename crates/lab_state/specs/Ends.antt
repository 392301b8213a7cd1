-- How a move ends.
use Rattle.std.specs.Prelude.{Bool, true, false, ◌||◌, ◌&&◌, if◌then◌else◌, Option, Some, None, is_some}
use Rattle.virt_topo.specs.declared.experiment.Experiment.{Experiment}
use Rattle.virt_topo.specs.declared.experiment.Phase.{Phase}
use Rattle.virt_topo.specs.declared.experiment.Phase.TheVariants.{Out, In, Moving}
use Rattle.virt_topo.specs.declared.mapping.Mapped.{Mapped}
use Rattle.records_model.specs.Labs.{inside, in_phase}

-- the new mapping where the move is done, else the old one
abbrev pub kept_of : Bool → Phase → Option Mapped
kept_of commit (Moving old new) = if commit then new else old
kept_of commit phase = None

-- the experiment stands with that mapping, or is out
abbrev pub standing : Experiment → Option Mapped → Experiment
standing e None = in_phase e Out
standing e (Some m) = inside e m

abbrev pub ended : Bool → Experiment → Experiment
ended commit e = standing e (kept_of commit e.phase)

-- a move can be done, and undone where it is to a new mapping
abbrev pub may_end : Bool → Phase → Bool
may_end commit (Moving old new) = is_some new || (commit && is_some old)
may_end commit phase = false

-- the experiment stands in the lab
abbrev pub is_in : Phase → Bool
is_in (In mapping tags) = true
is_in phase = false
