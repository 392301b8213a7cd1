-- The judgement of a mapping that is given: a swap to it, or the first refusal.
use Rattle.std.specs.Prelude.{◌+◌, ℕ, Bool, true, List, length, Result, Ok}
use Rattle.lab_base.specs.declared.fault.TextFault.{TextFault}
use Rattle.phys_lab.specs.Labs.{Lab}
use Rattle.virt_topo.specs.declared.mapping.Mapping.{Mapping}
use Rattle.virt_topo.specs.Sharing.{has_multiplexed}
use Rattle.virt_topo.specs.declared.wiring.Wiring.{Wiring}
use Rattle.virt_topo.specs.declared.experiment.Experiment.{Experiment}
use Rattle.journal_rec.specs.declared.record.Way.TheVariants.{In as WayIn}
use Rattle.records_model.specs.Labs.{LabState, change_in}
use Rattle.top_text.specs.Adding.{wiring_of_text}
use Rattle.top_text.specs.Canonical.{canonical_top}
use Rattle.solution_text.specs.CanonicalSolution.{canonical_solution}
use Rattle.solution_text.specs.Solutions.{mapping_of_text}
use Rattle.script_text.specs.declared.reply.Reply.{Reply}
use Rattle.script_text.specs.declared.reply.Reply.TheVariants.{Bad}
use Rattle.lab_tasks.specs.Counts.{least_tags}
use Rattle.lab_tasks.specs.Needs.{need_meaning, need_slot, need_feasible, need_idle_out, need_idle_in, ◌>>=◌}
use Rattle.lab_tasks.specs.Tasks.{Task, Swap, BeginOnly}

-- an experiment goes in there; the segments get the least VLAN ids that no claim has
abbrev pub task_in : LabState → Lab → Experiment → Mapping → Task
task_in s lab e mapping = Swap e.name (WayIn (canonical_solution lab e.wiring mapping) (least_tags lab s.experiments (length e.wiring.segments)))

abbrev pub judged_mapping : LabState → Lab → Experiment → Mapping → Result Task Reply
judged_mapping s lab e mapping = do
  feasible ← need_feasible lab s.experiments e e.wiring mapping
  Ok (task_in s lab e mapping)

abbrev pub judged_swapin_with : LabState → Bool → List ℕ → List ℕ → Result Task Reply
judged_swapin_with s busy exp text = do
  p ← need_idle_out s busy exp
  mapping ← need_meaning (Bad exp) (mapping_of_text p.0 p.1.wiring text)
  judged_mapping s p.0 p.1 mapping

-- the fault of a second block, whose lines are counted after those of the first
abbrev pub after_lines : ℕ → TextFault → TextFault
after_lines lines fault = record { line = lines + fault.line; kind = fault.kind }

-- an experiment changes to that wiring, and goes there; the record is of the second format where the wiring has a multiplexed segment
abbrev pub task_over : LabState → Lab → Experiment → Wiring → Mapping → Task
task_over s lab e w mapping =
    Swap e.name (change_in (has_multiplexed w) (canonical_top w) (canonical_solution lab w mapping) (least_tags lab s.experiments (length w.segments)))

abbrev pub judged_change : LabState → Lab → Experiment → Wiring → Mapping → Result Task Reply
judged_change s lab e w mapping = do
  feasible ← need_feasible lab s.experiments e w mapping
  Ok (task_over s lab e w mapping)

abbrev pub judged_modify_with : LabState → Bool → List ℕ → ℕ → List ℕ → List ℕ → Result Task Reply
judged_modify_with s busy exp lines top map = do
  p ← need_idle_in s busy exp
  w ← need_meaning (Bad exp) (wiring_of_text top)
  mapping ← need_meaning (λ fault. Bad exp (after_lines lines fault)) (mapping_of_text p.0 w map)
  judged_change s p.0 p.1 w mapping

-- a swap that nothing else refuses needs room among the open swaps, and is only begun where `open` stands before it
abbrev pub begun_as : Bool → Task → Task
begun_as true (Swap exp way) = BeginOnly exp way
begun_as only task = task

abbrev pub in_slot : ℕ → Bool → Result Task Reply → Result Task Reply
in_slot count only judgement = do
  task ← judgement
  slot ← need_slot count
  Ok (begun_as only task)
