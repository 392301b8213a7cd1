-- A reading that was not answered, over a controller at work: it changes nothing but what is told.
use Rattle.std.proofs.Common.{◌≡◌, ℕ, ◌≤◌, ◌+◌, List, [], ◌∷◌, ◌++◌, length, true, false, Option, Some, None, Ok, Err, refl, sym, ◌∙◌, subst, arith, inl, inr, length-append}
use Rattle.std.specs.Prelude.{IfSome}
use Rattle.std.proofs.lemmas.Bool.{cases_lt}
use Rattle.std.proofs.lemmas.List.{append-nil, take-append-le, take_all}
use Rattle.lab_base.specs.Counts.{Rose}
use Rattle.lab_base.proofs.Tests.{never_both}
use Rattle.plant.specs.Disks.{Disk, ArePossible}
use Rattle.plant.specs.Events.{Event, Unread}
use Rattle.plant.specs.Seen.{Seen}
use Rattle.plant.specs.Told.{Told, with_steps}
use Rattle.plant.specs.Worlds.{World, world_of}
use Rattle.plant.specs.declared.step.Side.{Side}
use Rattle.plant.specs.declared.step.Side.TheVariants.{A, B}
use Rattle.plant.proofs.Traces.{disk_push, unread_disk, with_steps-nil}
use Rattle.journal_rec.specs.declared.record.Record.{Record}
use Rattle.journal_model.specs.Appends.{Opened, Rests, other_side}
use Rattle.journal_model.specs.Journals.{Headed, gate_after, head}
use Rattle.journal_disk.specs.Epochs.{HasEpoch}
use Rattle.journal_disk.specs.Standing.{side_of}
use Rattle.journal_disk.specs.declared.journal.Journal.{Journal}
use Rattle.lab_model.specs.Parts.{Part}
use Rattle.lab_model.specs.Sound.{Keeps, SoundAt}
use Rattle.lab_model.proofs.Alone.{course_journal}
use Rattle.lab_model.proofs.TraceLaws.{world_push}
use Rattle.records_model.specs.Appends.{StandFor, standing}
use Rattle.records_model.specs.Labs.{LabState, Texts, lab_in}
use Rattle.records_model.specs.Works.{IsSound}
use Rattle.swap_txn.specs.declared.live.Live.{Live}
use Rattle.swap_turns.specs.Lengths.{IsLonger}
use Rattle.swap_turns.specs.Running.{IsOpen, OpenSwap, RunsIn, Stands, Working}
use Rattle.lab_state.specs.Texts.{the_texts}
use Rattle.lab_audit.specs.Diff.{IsDiff, IsKnown, TellsSwitches}
use Rattle.lab_audit.specs.Reads.{Reads, steps_of, unread_in}
use Rattle.lab_audit.specs.declared.fault.AuditFault.{AuditFault}
use Rattle.lab_audit.specs.declared.fault.AuditFault.TheVariants as broken
use Rattle.lab_core.specs.Controller.{Control, WorksWith}
use Rattle.cost_rule.specs.declared.rule.RuleNumber.{RuleNumber}
use Rattle.script_text.specs.Replies.{blames_device, closes}
use Rattle.script_text.specs.declared.command.Command.TheVariants as commands
use Rattle.script_text.specs.declared.reply.AuditLine.{AuditLine}
use Rattle.script_text.specs.declared.reply.Reply.{Reply}
use Rattle.script_text.specs.declared.reply.Reply.TheVariants as replies
use Rattle.swap_turns.proofs.Lengths.{longer_none}
use Rattle.swap_turns.proofs.Pushing.{rose_later}
use Rattle.swap_turns.proofs.Telling.{if_both, sound_front}
use Rattle.lab_core.specs.Auditing.{Audits, IsReport, broken_by, no_lab as lab_missing, told as all_told, unread as one_unread}
use Rattle.lab_core.specs.declared.fault.CoreFault.TheVariants as faults
use Rattle.lab_core.specs.Moments.{trace_in}
use Rattle.lab_core.specs.Obey.{AnswersBy, Doing, ObeysCommand, Wanting, does_command, wants_of_command}
use Rattle.lab_core.specs.Sessions as sessions
use Rattle.lab_core.specs.Sessions.{blames_now, name_in, open_by}
use Rattle.lab_tasks.specs.Tasks.{tells_end}
use Rattle.lab_core.proofs.Obey.{as_open, calm_ends, false_true, in_trace, same_open}
use Rattle.lab_core.proofs.OpenSwaps.{risen_later}

-- a sound trace stays sound
pub unread_sound : (t : Texts) (trace : List Event) (device : List ℕ) → IsSound t trace → IsSound t (trace ++ Unread device ∷ [])
unread_sound t trace device sound n within =
    let was : SoundAt (λ a b s. StandFor t a b s) trace = subst (λ l. SoundAt (λ a b s. StandFor t a b s) l) (take_all (length trace) trace (omega arith)) (sound (length trace) (omega arith)) in
    let now : SoundAt (λ a b s. StandFor t a b s) (trace ++ Unread device ∷ []) = λ x y possible.
    let before : ArePossible trace x y = rw (disk_push A trace (Unread device), disk_push B trace (Unread device)) at possible in
    let at = was x y before in
    (at.0, at.1, subst (λ w. Keeps w at.0) (sym (world_push trace (Unread device))) at.2) in
    elim (cases_lt (length trace) n) [
      | inl above ↦ subst (λ l. SoundAt (λ a b s. StandFor t a b s) l) (sym (take_all n (trace ++ Unread device ∷ []) (omega (arith, above, length-append trace (Unread device ∷ []))))) now
      | inr below ↦ subst (λ l. SoundAt (λ a b s. StandFor t a b s) l) (sym (take-append-le n trace (Unread device ∷ []) below)) (sound n below)
    ]

opened_unread : (trace : List Event) (side : Side) (rs : List Record) (device : List ℕ) → Opened trace side rs → Opened (trace ++ Unread device ∷ []) side rs
opened_unread trace side rs device opened = record {
  epoch = opened.epoch;
  known = record {
    eight = opened.known.eight;
    written = opened.known.written;
    other = opened.known.other;
    there = unread_disk (other_side side) trace device ∙ opened.known.there;
    older = opened.known.older;
  };
  rests = subst (λ d. Rests d opened.epoch rs) (sym (unread_disk side trace device)) opened.rests;
}

unread_epoch : (trace : List Event) (j : Journal) (device : List ℕ) → HasEpoch trace j → HasEpoch (trace ++ Unread device ∷ []) j
unread_epoch trace j device h = record {
  epoch = h.epoch;
  headed = subst (λ (d : Disk). head d.reads ≡ Headed h.epoch) (sym (unread_disk (side_of j) trace device)) h.headed;
  number_is = h.number_is;
}

module _ (t : Texts) (trace : List Event) (device : List ℕ) where
  stands_unread : (j : Journal) (s : LabState) → Stands t trace j s → Stands t (trace ++ Unread device ∷ []) j s
  stands_unread j s x = record {
    records = x.records;
    at = record { opened = opened_unread trace (side_of j) x.records device x.at.opened; gate = x.at.gate };
    epoch = unread_epoch trace j device x.epoch;
    lab_of = x.lab_of;
    works = λ sound.
        let was = x.works (sound_front t trace (Unread device ∷ []) sound) in
        record {
          work = record {
            opened = opened_unread trace (side_of j) x.records device was.work.opened;
            lab_of = was.work.lab_of;
            keeps = subst (λ (w : World). Keeps w (standing s (gate_after x.records + 1))) (sym (world_push trace (Unread device))) was.work.keeps;
            sound = sound;
          };
          gate = was.gate;
        };
  }

  runs_unread : (s : LabState) (o : OpenSwap) (live : Live) → IsOpen s o live → (IsSound t trace → RunsIn s o trace) → IsSound t (trace ++ Unread device ∷ []) → RunsIn s o (trace ++ Unread device ∷ [])
  runs_unread s o live open_so runs sound e found =
      let sent = open_so.sent in
      let was = runs (sound_front t trace (Unread device ∷ []) sound) e found in
      let on = course_journal (lab_in s.lab) e sent.sent was.start trace (Unread device ∷ []) refl (world_push trace (Unread device)) (record { within = was.within; sent = was.own ∙ sent.steps_are; alone = was.alone }) in
      record {
        start = was.start;
        within = on.within;
        own = on.sent ∙ sym sent.steps_are;
        alone = on.alone;
        part = subst (λ l. Part (lab_in s.lab) (world_of l) e) (sym (take-append-le was.start trace (Unread device ∷ []) was.within)) was.part;
      }

unread_told : (o : Option Told) (device : List ℕ) (P : List Event → Type 0) → ((trace : List Event) → P trace → P (trace ++ Unread device ∷ [])) → IfSome o (λ w. P w.trace) → IfSome (with_steps o (Unread device ∷ [])) (λ w. P w.trace)
unread_told None device P f p = tt
unread_told (Some w) device P f p = f w.trace p

working_unread : (t : Texts) (told : Option Told) (device : List ℕ) (j : Journal) (s : LabState) (pairs : List (OpenSwap × Live)) → Working t told j s pairs → Working t (with_steps told (Unread device ∷ [])) j s pairs
working_unread t told device j s pairs h = record {
  work = record { sane = h.work.sane; swaps = h.work.swaps; room = h.work.room; stands = unread_told told device (λ l. Stands t l j s) (λ l. stands_unread t l device j s) h.work.stands };
  differ = h.differ;
  each = h.each;
  running = λ o has. unread_told told device (λ l. IsSound t l → RunsIn s o.0 l) (λ l r sound. runs_unread t l device s o.0 o.1 (h.each o has) r sound) (h.running o has);
}

working_by : (t : Texts) (told now : Option Told) (unread : Option (List ℕ)) (j : Journal) (s : LabState) (pairs : List (OpenSwap × Live)) → now ≡ with_steps told (steps_of unread) → Working t told j s pairs → Working t now j s pairs
working_by t told now (Some device) j s pairs is h = subst (λ (o : Option Told). Working t o j s pairs) (sym is) (working_unread t told device j s pairs h)
working_by t told now None j s pairs is h = subst (λ (o : Option Told). Working t o j s pairs) (with_steps-nil told ∙ sym is) h

-- IT WORKS ON, with the same open swaps
pub reads_work : (before now : Seen) (unread : Option (List ℕ)) (c : Control) (opens : List sessions.OpenSwap) → Reads before now unread → WorksWith before c opens → WorksWith now c opens
reads_work before now unread c opens r w = record {
  pairs = w.pairs;
  are = w.are;
  working = working_by the_texts before.told now.told unread c.journal c.lab w.pairs r.told w.working;
  holds = w.holds;
  since = λ o has. let i = w.since o has in record { later = omega (arith, i.later, r.later); caused = risen_later o.running.leg o.devices before.faults.devices now.faults.devices r.later i.caused };
}

-- a sound trace stays sound
pub reads_sound : (told : Option Told) (unread : Option (List ℕ)) → IfSome told (λ w. IsSound the_texts w.trace → IsSound the_texts (w.trace ++ steps_of unread))
reads_sound None unread = tt
reads_sound (Some w) None = λ sound. subst (λ l. IsSound the_texts l) (sym (append-nil w.trace)) sound
reads_sound (Some w) (Some device) = λ sound. unread_sound the_texts w.trace device sound

-- no record is appended
reads_longer : (j : Journal) (unread : Option (List ℕ)) → IsLonger j j (steps_of unread)
reads_longer j None = longer_none j
reads_longer j (Some device) = omega arith

-- AN AUDIT IS OBEYED: by its reply, which doesn't close, and blames a device only where the devices' count rose; and where memory was wanting
module _ (rule : RuleNumber) (devices : ℕ) (before now : Seen) (unread : Option (List ℕ)) (c : Control) (opens : List sessions.OpenSwap) (works : WorksWith before c opens) where
  abbrev Done : Doing
  Done = does_command rule commands.Audit devices c opens

  abbrev Wants : Wanting
  Wants = wants_of_command rule commands.Audit devices c opens

  runs_on_still : (of : Option (List ℕ)) → Reads before now of → before.stopped ≡ false → now.stopped ≡ true → ⊥
  runs_on_still of r ran halt = never_both now.stopped halt (r.stopped ∙ ran)

  pub audit_answered : (reply : Reply) → closes reply ≡ false → tells_end reply ≡ false → (blames_device reply ≡ true → Rose devices now.faults.devices)
      → (blames_now reply ≡ true → Rose before.faults.devices now.faults.devices) → Reads before now unread
      → Audits (trace_in before.told) c.lab opens (steps_of unread) (open_by reply c.lab opens) → ObeysCommand rule commands.Audit devices before now c c opens (Ok reply)
  audit_answered reply open_still no_end blamed here r done = record {
    to = opens;
    obeys = (
      steps_of unread,
      r.told,
      record { ends = subst (λ b. AnswersBy Done (trace_in before.told) (steps_of unread) reply c.lab opens b) (sym open_still) done; sound = in_trace before.told (λ t. IsSound the_texts t → IsSound the_texts (t ++ steps_of unread)) (reads_sound before.told unread) },
    );
    works = λ _. reads_work before now unread c opens r works;
    limit = refl;
    longer = λ _. reads_longer c.journal unread;
    opened = as_open None (Some reply) opens opens devices (λ o has. calm_ends reply (name_in o) no_end) (same_open opens);
    down = λ closing. never_both (closes reply) closing open_still;
    device = blamed;
    here = here;
    later = omega (arith, r.disk);
    still = r.later;
    stopped = λ ran. (λ h. cc h, λ h. absurd (runs_on_still unread r ran h));
  }

  audit_wanted : Reads before now None → ObeysCommand rule commands.Audit devices before now c c opens (Err faults.Memory)
  audit_wanted r = record {
    to = opens;
    obeys = ([], r.told, record { ends = (refl, refl, refl); sound = in_trace before.told (λ t. IsSound the_texts t → IsSound the_texts (t ++ [])) (reads_sound before.told None) });
    works = λ _. reads_work before now None c opens r works;
    limit = refl;
    longer = λ _. longer_none c.journal;
    opened = as_open None None opens opens devices (λ o has. refl) (same_open opens);
    down = tt;
    device = tt;
    here = tt;
    later = omega (arith, r.disk);
    still = r.later;
    stopped = λ ran. (λ h. cc h, λ h. absurd (runs_on_still None r ran h));
  }

module _ (rule : RuleNumber) (devices : ℕ) (before now : Seen) (c : Control) (opens : List sessions.OpenSwap) (works : WorksWith before c opens) where
  -- THERE IS NO LAB
  pub audit_no_lab : c.lab.lab ≡ None → ObeysCommand rule commands.Audit devices before before c c opens (Ok replies.NoLab)
  audit_no_lab none = audit_answered rule devices before before None c opens works replies.NoLab refl refl (λ h. false_true h) (λ h. false_true h)
      (record { told = with_steps-nil before.told; disk = refl; later = omega arith; failed = tt; stopped = refl })
      (lab_missing none (record { nothing = refl; after_is = refl }))

  -- all readings were answered
  pub audit_tells : (report : List AuditLine) → Reads before now None
      → IfSome before.told (λ w. IsKnown (lab_in c.lab.lab) c.lab.experiments (world_of w.trace) → IsDiff (lab_in c.lab.lab) c.lab.experiments (world_of w.trace) report)
      → IfSome before.told (λ w. TellsSwitches (lab_in c.lab.lab) c.lab.experiments (world_of w.trace) report)
      → ObeysCommand rule commands.Audit devices before now c c opens (Ok (replies.Audit report))
  audit_tells report r exact switches = audit_answered rule devices before now None c opens works (replies.Audit report) refl refl (λ h. false_true h) (λ h. false_true h) r
      (all_told report refl
      (in_trace before.told (λ t. IsReport (world_of t) c.lab report)
      (if_both before.told (λ w. IsKnown (lab_in c.lab.lab) c.lab.experiments (world_of w.trace) → IsDiff (lab_in c.lab.lab) c.lab.experiments (world_of w.trace) report)
      (λ w. TellsSwitches (lab_in c.lab.lab) c.lab.experiments (world_of w.trace) report) (λ w. IsReport (world_of w.trace) c.lab report) (λ w e s. record { switches = s; exact = e }) exact switches))
      refl)

  -- one was not, or memory was wanting
  pub audit_broken : devices ≤ before.faults.devices → (fault : AuditFault) → Reads before now (unread_in fault) → ObeysCommand rule commands.Audit devices before now c c opens (broken_by fault)
  audit_broken within (broken.Unread name) r = audit_answered rule devices before now (Some name) c opens works (replies.Unread name) refl refl
      (λ h. rose_later devices before.faults.devices now.faults.devices now.faults.devices within r.failed (omega arith)) (λ h. r.failed) r
      (one_unread name refl refl)
  audit_broken within broken.Memory r = audit_wanted rule devices before now None c opens works r
