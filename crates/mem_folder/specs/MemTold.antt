-- A folder in memory as it tells itself.
use Rattle.std.specs.Prelude.{[], length, map, Option, Some}
use Rattle.http_server.specs.declared.log.Log.{Log}
use Rattle.plant.specs.declared.moment.Faults.{Faults}
use Rattle.plant.specs.declared.moment.Moment.{Moment}
use Rattle.plant.specs.declared.step.Step.{Step}
use Rattle.folder.specs.Files.{Filed}
use Rattle.folder.specs.Files as folders
use Rattle.folder.specs.Folders.{Held, Old}
use Rattle.mem_folder.specs.MemFolders.{trace_of}
use Rattle.mem_folder.specs.declared.mem_folder.MemFolder.{MemFolder}
use Rattle.mem_folder.specs.declared.mem_folder.OldText.{OldText}
use Rattle.mem_folder.specs.declared.sides.Sides.{Sides}

-- a moment that was marked, with the history then
abbrev pub moment_of : Faults × Log Step Sides → Moment
moment_of mark = record { at = length (trace_of mark.1.items); faults = mark.0 }

-- a text that was there, with the history then
abbrev pub old_of : OldText → Old
old_of old = record { text = old.text.items; at = length (trace_of old.steps.items) }

abbrev pub filed_of : MemFolder → Filed
filed_of m = record {
  past = record { trace = trace_of m.steps.items; marks = map moment_of m.marks.items; drills = [] };
  files = m.texts;
  older = map old_of m.olds.items;
}

abbrev pub told_of : MemFolder → Option Filed
told_of m = Some (filed_of m)

abbrev pub held_of : MemFolder → Held
held_of m = folders.held_of (filed_of m)
