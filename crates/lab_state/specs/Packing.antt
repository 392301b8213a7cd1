-- The records of a lab in one piece.
use Rattle.std.specs.Prelude.{List, [], ◌∷◌, ◌++◌, Option, Some, None, ℕ}
use Rattle.std.specs.List.{flat_map}
use Rattle.phys_lab.specs.Labs.{Lab}
use Rattle.virt_topo.specs.declared.wiring.Wiring.{Wiring}
use Rattle.virt_topo.specs.declared.mapping.Mapped.{Mapped}
use Rattle.virt_topo.specs.declared.experiment.Experiment.{Experiment}
use Rattle.virt_topo.specs.declared.experiment.Phase.{Phase}
use Rattle.virt_topo.specs.declared.experiment.Phase.TheVariants.{Out, In, Moving}
use Rattle.virt_topo.specs.Sharing.{has_multiplexed}
use Rattle.virt_topo.specs.Wirings.{mapped}
use Rattle.journal_rec.specs.declared.record.Way.TheVariants.{In as WayIn, Out as WayOut}
use Rattle.journal_rec.specs.declared.record.Record.{Record}
use Rattle.journal_rec.specs.declared.record.Record.TheVariants.{Lab as LabRecord, Begin, Commit}
use Rattle.records_model.specs.Labs.{LabState, Texts, create_in, change_in}
use Rattle.journal_rec.specs.Packing.{ArePacked}

-- a new experiment with that wiring; its way into the lab, and to another mapping
abbrev pub creation : Texts → List ℕ → Wiring → Record
creation t name wiring = create_in (has_multiplexed wiring) name (t.top wiring)

abbrev pub entry : Texts → Lab → List ℕ → Mapped → Record
entry t lab name m = Begin name (WayIn (t.solution lab m.wiring m.mapping) m.tags)

abbrev pub turn : Texts → Lab → List ℕ → Mapped → Record
turn t lab name m = Begin name (change_in (has_multiplexed m.wiring) (t.top m.wiring) (t.solution lab m.wiring m.mapping) m.tags)

-- the records of an experiment that stands with a mapping
abbrev pub stand : Texts → Lab → List ℕ → Mapped → List Record
stand t lab name m = creation t name m.wiring ∷ entry t lab name m ∷ Commit name ∷ []

-- the records of an experiment in its phase
abbrev pub packed_phase : Texts → Lab → List ℕ → Wiring → Phase → List Record
packed_phase t lab name wiring Out = creation t name wiring ∷ []
packed_phase t lab name wiring (In mapping tags) = stand t lab name (mapped wiring mapping tags)
packed_phase t lab name wiring (Moving None None) = creation t name wiring ∷ []
packed_phase t lab name wiring (Moving None (Some new)) = creation t name new.wiring ∷ entry t lab name new ∷ []
packed_phase t lab name wiring (Moving (Some old) None) = stand t lab name old ++ Begin name WayOut ∷ []
packed_phase t lab name wiring (Moving (Some old) (Some new)) = stand t lab name old ++ turn t lab name new ∷ []

abbrev pub packed_one : Texts → Lab → Experiment → List Record
packed_one t lab e = packed_phase t lab e.name e.wiring e.phase

-- PACKED: nothing without a lab; else the lab, and the experiments in order of creation
abbrev pub packed_in : Texts → Option Lab → List Experiment → List Record
packed_in t None es = []
packed_in t (Some lab) es = LabRecord (t.ptop lab) ∷ flat_map (packed_one t lab) es

abbrev pub packed_of : Texts → LabState → List Record
packed_of t s = packed_in t s.lab s.experiments

-- these records are packed after the others
abbrev pub PacksMore : List ℕ → List ℕ → List Record → Type 0
PacksMore old new rs = (before : List Record) → ArePacked old before → ArePacked new (before ++ rs)
