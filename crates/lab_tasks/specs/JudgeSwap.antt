-- A swap to a mapping, checked and planned.
use Rattle.std.specs.Prelude.{◌≡◌, true, ℕ, List, length, Some, None}
use Rattle.lab_base.specs.declared.ids.VlanId.{VlanId}
use Rattle.phys_lab.specs.Labs.{Lab}
use Rattle.virt_topo.specs.declared.experiment.Experiment.{Experiment}
use Rattle.virt_topo.specs.declared.experiment.Phase.TheVariants.{Out, In}
use Rattle.virt_topo.specs.declared.mapping.Mapped.{Mapped}
use Rattle.virt_topo.specs.declared.mapping.Mapping.{Mapping}
use Rattle.virt_topo.specs.declared.wiring.Wiring.{Wiring}
use Rattle.virt_topo.specs.Sharing.{has_multiplexed}
use Rattle.journal_rec.specs.Payloads.{IsRecord}
use Rattle.journal_rec.specs.declared.record.Record.TheVariants.{Begin}
use Rattle.journal_rec.specs.declared.record.Way.{Way}
use Rattle.lab_model.specs.Beside.{violation_beside, are_free_tags}
use Rattle.lab_model.specs.Courses.{Plan, commands, undo}
use Rattle.lab_model.specs.Shapes.{IsShaped}
use Rattle.records_model.specs.Labs.{LabState, Sane, change_in, find, others}
use Rattle.solution_text.specs.CanonicalSolution.{canonical_solution}
use Rattle.swap_turns.specs.Swaps.{Swap as SwapOf}
use Rattle.top_text.specs.Canonical.{canonical_top}
use Rattle.top_text.specs.Printable.{is_printable}
use Rattle.lab_tasks.specs.declared.task.Task.{Task}
use Rattle.lab_tasks.specs.declared.task.Task.TheVariants.{Swap}
use Rattle.lab_tasks.specs.Counts.{least_tags}

-- the experiment is there in the lab
pub record IsThere (s : LabState) (lab : Lab) (e : Experiment) : Type 0 where
  pub is_lab : s.lab ≡ Some lab
  pub found : find e.name s.experiments ≡ Some e
  pub sane : Sane s

-- and it is out, and its wiring can be printed; or it is in, in that place
pub record IsOutIn (s : LabState) (lab : Lab) (e : Experiment) : Type 0 where
  pub there : IsThere s lab e
  pub out : e.phase ≡ Out
  pub printable : is_printable e.wiring ≡ true

pub record IsInIn (s : LabState) (lab : Lab) (e : Experiment) (mapping : Mapping) (tags : List VlanId) : Type 0 where
  pub there : IsThere s lab e
  pub inside : e.phase ≡ In mapping tags

-- the mapping of that wiring is shaped, and keeps all rules beside the other experiments
pub record Keeps (s : LabState) (lab : Lab) (e : Experiment) (w : Wiring) (mapping : Mapping) : Type 0 where
  pub shaped : IsShaped lab w mapping
  pub keeps : violation_beside lab (others e.name s.experiments) e w mapping ≡ None

-- the mapping of that wiring keeps all rules beside the other experiments, and the VLAN ids are the least of the free ones
pub record CanTake (s : LabState) (lab : Lab) (e : Experiment) (w : Wiring) (mapping : Mapping) (tags : List VlanId) : Type 0 where
  pub keeps : violation_beside lab (others e.name s.experiments) e w mapping ≡ None
  pub least : tags ≡ least_tags lab s.experiments (length w.segments)
  pub free : are_free_tags lab s.experiments w tags ≡ true

-- the swap of that name from one mapping to another, and the way of its record
abbrev pub change_of : List ℕ → Mapped → Mapped → SwapOf
change_of exp old new = record { name = exp; old = Some old; new = Some new }

abbrev pub way_over : Lab → Mapped → Way
way_over lab new = change_in (has_multiplexed new.wiring) (canonical_top new.wiring) (canonical_solution lab new.wiring new.mapping) new.tags

-- THE TASK IS THAT SWAP: its record can be written, and its commands are those of the swap
pub record IsWayOf (lab : Lab) (p : SwapOf) (said way : Way) (course back : Plan) : Type 0 where
  pub way_is : way ≡ said
  pub is_record : IsRecord (Begin p.name way)
  pub course_is : course ≡ commands lab p.old p.new
  pub back_is : back ≡ undo lab p.old p.new

abbrev pub IsTaskOf : Lab → SwapOf → Way → Task → Type 0
IsTaskOf lab p said (Swap swap) = (swap.exp ≡ p.name) × IsWayOf lab p said swap.way swap.ops.commands swap.ops.undo
IsTaskOf lab p said task = ⊥
