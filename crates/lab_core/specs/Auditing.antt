-- `audit`: in what the devices differ from what the experiments of the lab want.
use Rattle.std.specs.Prelude.{◌≡◌, ℕ, List, [], ◌∷◌, Option, None, IfSome, Result, Ok, Err}
use Rattle.plant.specs.Events.{Event, Unread}
use Rattle.plant.specs.Worlds.{World, world_of}
use Rattle.records_model.specs.Labs.{LabState, lab_in}
use Rattle.lab_audit.specs.Diff.{IsDiff, IsKnown, TellsSwitches}
use Rattle.lab_audit.specs.declared.fault.AuditFault.{AuditFault}
use Rattle.lab_audit.specs.declared.fault.AuditFault.TheVariants as broken
use Rattle.script_text.specs.declared.reply.AuditLine.{AuditLine}
use Rattle.script_text.specs.declared.reply.Reply.{Reply}
use Rattle.script_text.specs.declared.reply.Reply.TheVariants as replies
use Rattle.lab_core.specs.declared.fault.CoreFault.{CoreFault}
use Rattle.lab_core.specs.declared.fault.CoreFault.TheVariants as faults
use Rattle.lab_core.specs.LabSteps.{Replies, WantsMemory}
use Rattle.lab_core.specs.Sessions.{OpenSwap, After, open_by}

-- the reply where it was broken off
abbrev pub broken_by : AuditFault → Result Reply CoreFault
broken_by (broken.Unread name) = Ok (replies.Unread name)
broken_by broken.Memory = Err faults.Memory

-- A REPORT of a world beside a lab: its lines of switches are exactly those of the difference, and where the world leaves open no state that is compared,
-- it is the difference
pub record IsReport (w : World) (s : LabState) (report : List AuditLine) : Type 0 where
  pub switches : TellsSwitches (lab_in s.lab) s.experiments w report
  pub exact : IsKnown (lab_in s.lab) s.experiments w → IsDiff (lab_in s.lab) s.experiments w report

-- AN AUDIT, over the trace before it, where that is told: there is no lab; or by readings that were all answered it told in what the devices differ; or
-- one that was not answered broke it off; or memory was wanting. It changes nothing.
pub data Audits (trace : Option (List Event)) (s : LabState) (opens : List OpenSwap) (own : List Event) (after : After) : Type 0 where
  no_lab : s.lab ≡ None → Replies s opens replies.NoLab own after → Audits trace s opens own after
  told : (report : List AuditLine) → own ≡ [] → IfSome trace (λ t. IsReport (world_of t) s report)
      → after ≡ open_by (replies.Audit report) s opens → Audits trace s opens own after
  unread : (name : List ℕ) → own ≡ Unread name ∷ [] → after ≡ open_by (replies.Unread name) s opens → Audits trace s opens own after
  no_memory : WantsMemory s own after → Audits trace s opens own after
