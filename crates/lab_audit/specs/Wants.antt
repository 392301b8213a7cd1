-- All rows that experiments want.
use Rattle.std.specs.Prelude.{List, [], ◌++◌, map, Bool, true, false, Option, Some, None, flat_map}
use Rattle.phys_lab.specs.Labs.{Lab}
use Rattle.virt_topo.specs.declared.experiment.Experiment.{Experiment}
use Rattle.virt_topo.specs.declared.experiment.Phase.{Phase}
use Rattle.virt_topo.specs.declared.experiment.Phase.TheVariants.{Out, In, Moving}
use Rattle.virt_topo.specs.declared.mapping.Mapped.{Mapped}
use Rattle.virt_topo.specs.declared.wiring.Wiring.{Wiring}
use Rattle.lab_model.specs.Wants.{rows_of}
use Rattle.lab_audit.specs.declared.wanted.Wanted.{Wanted}

-- the rows of a mapping, and of one if there is one
abbrev pub rows_as : Lab → Bool → Mapped → List Wanted
rows_as lab stands m = map (λ row. record { row = row; stands = stands }) (map (λ o. o.row) (rows_of lab m))

abbrev pub rows_if : Lab → Option Mapped → List Wanted
rows_if lab None = []
rows_if lab (Some m) = rows_as lab false m

-- those of an experiment in its phase, and of all experiments
abbrev pub wanted_in : Lab → Wiring → Phase → List Wanted
wanted_in lab wiring Out = []
wanted_in lab wiring (In mapping tags) = rows_as lab true (record { wiring = wiring; mapping = mapping; tags = tags })
wanted_in lab wiring (Moving old new) = rows_if lab old ++ rows_if lab new

abbrev pub wanted_by : Lab → Experiment → List Wanted
wanted_by lab e = wanted_in lab e.wiring e.phase

abbrev pub all_wanted : Lab → List Experiment → List Wanted
all_wanted lab es = flat_map (wanted_by lab) es
