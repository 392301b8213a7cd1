-- AUDITS IN A RUN: what their replies tell, and that they change nothing.
use Rattle.std.specs.Prelude.{◌≡◌, List, [], ◌++◌}
use Rattle.plant.specs.Disks.{disk}
use Rattle.plant.specs.Events.{Event}
use Rattle.plant.specs.Worlds.{world_of}
use Rattle.plant.specs.declared.step.Side.{Side}
use Rattle.phys_lab.specs.Labs.{Lab}
use Rattle.virt_topo.specs.declared.experiment.Experiment.{Experiment}
use Rattle.lab_model.specs.OnCourse.{own_events}
use Rattle.records_model.specs.Labs.{LabState}
use Rattle.script_text.specs.declared.reply.AuditLine.{AuditLine}
use Rattle.lab_core.specs.Auditing.{IsReport}
use Rattle.lab_core.specs.Moments.{IsLabAt}
use Rattle.lab_top.specs.Pieces.{Piece, steps_of}

-- LINES TELL THE DIFFERENCE at a moment: they are a report of its world, beside the lab that the sides stand for
pub record TellsDifference (trace : List Event) (lines : List AuditLine) : Type 0 where
  pub lab : LabState
  pub at : IsLabAt trace lab
  pub is : IsReport (world_of trace) lab lines

-- A COMMAND CHANGES NOTHING by its own steps: no side and no table, and none of them is a step of an experiment's course
pub record ChangesNothing (trace : List Event) (piece : Piece) : Type 0 where
  pub sides : (side : Side) → disk side (trace ++ steps_of piece) ≡ disk side (trace ++ piece.opening)
  pub world : world_of (trace ++ steps_of piece) ≡ world_of (trace ++ piece.opening)
  pub courses : (lab : Lab) (e : Experiment) → own_events lab e piece.own ≡ []
