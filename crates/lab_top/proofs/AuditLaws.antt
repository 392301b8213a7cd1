-- Audits in a run: the reports that they tell, and that they change nothing.
use Rattle.std.proofs.Common.{◌≡◌, ◌⊎◌, inl, inr, ⊎_elim, ℕ, ◌^◌, Bool, true, false, List, [], ◌∷◌, ◌++◌, append_assoc, Option, Some, refl, sym, ◌∙◌, ap, subst}
use Rattle.std.proofs.lemmas.List.{append-nil}
use Rattle.lab_base.specs.Counts.{Rose}
use Rattle.plant.specs.Disks.{ArePossible, disk}
use Rattle.plant.specs.Events.{Event, Unread}
use Rattle.plant.specs.Told.{Told}
use Rattle.plant.specs.Worlds.{world_of}
use Rattle.plant.specs.declared.step.Side.TheVariants.{A, B}
use Rattle.plant.proofs.Traces.{unread_disk}
use Rattle.plant.proofs.Images.{durable_image}
use Rattle.lab_model.specs.OnCourse.{own_events}
use Rattle.lab_model.proofs.TraceLaws.{world_push}
use Rattle.records_model.specs.Labs.{LabState, lab_in}
use Rattle.records_model.specs.Works.{IsSound}
use Rattle.lab_state.specs.Texts.{the_texts}
use Rattle.lab_audit.proofs.Nothing as nothings
use Rattle.script_text.specs.Drills.{drill_of}
use Rattle.script_text.specs.declared.command.Command.{Command}
use Rattle.script_text.specs.declared.command.Command.TheVariants as commands
use Rattle.script_text.specs.declared.reply.AuditLine.{AuditLine}
use Rattle.script_text.specs.declared.reply.Reply.{Reply}
use Rattle.script_text.specs.declared.reply.Reply.TheVariants as replies
use Rattle.lab_core.specs.Auditing.{Audits, no_lab, told, unread, no_memory, IsReport}
use Rattle.lab_core.specs.Breaks.{Breaks, stopped, failed, unanswered}
use Rattle.lab_core.specs.Commands.{LabStep}
use Rattle.lab_core.specs.LabSteps.{opened, not_opened}
use Rattle.lab_core.specs.Moments.{AllStandFor}
use Rattle.lab_core.specs.Recovery.{BreaksOpening}
use Rattle.lab_core.specs.Sessions.{OpenSwap, Session, Closed, Open, Setting, After, Terms}
use Rattle.lab_core.specs.Tells.{opens_of}
use Rattle.lab_core.proofs.Audited.{kept}
use Rattle.lab_core.proofs.Said.{as_said}
use Rattle.lab_words.specs.Words.{Choices}
use Rattle.lab_top.specs.Reports.{ChangesNothing, TellsDifference}
use Rattle.lab_top.specs.Pieces.{Begun, ImagesAfter, IsDone, IsPiece, Leads, Piece, StepsFrom, blames_now_if, is_closed, leaves_one, may_shut, steps_of, trace_after}
use Rattle.lab_top.specs.Ran.{Outside, Ran}
use Rattle.lab_top.specs.declared.status.Status.{Status}
use Rattle.lab_top.proofs.Pieces.{trace-push}
use Rattle.lab_top.proofs.RunLaws.{Was, behind, caused_at, left_open, piece_at, pieces_of, told_of, was_of}

-- where a part breaks off, the reply is `stopped` or `down`
broke_so : (events : List Event) (o : Option Reply) (reply : Reply) → Breaks events o → o ≡ Some reply → (reply ≡ replies.Stopped) ⊎ (reply ≡ replies.Down)
broke_so events o reply (stopped ends is) told_it = inl (let same : Some reply ≡ Some replies.Stopped = sym told_it ∙ is in cc same)
broke_so events o reply (failed once missed is) told_it = inr (let same : Some reply ≡ Some replies.Down = sym told_it ∙ is in cc same)
broke_so events o reply (unanswered is) told_it = absurd (cc (is, told_it))

-- ONE AUDIT
module _ (trace : List Event) (s : LabState) (opens : List OpenSwap) (own : List Event) (after : After) where
  -- the lines that it told are a report
  tells : (lines : List AuditLine) → after.reply ≡ Some (replies.Audit lines) → Audits (Some trace) s opens own after → IsReport (world_of trace) s lines × (own ≡ [])
  tells lines is (no_lab none d) = absurd (cc (is, ap (λ (a : After). a.reply) d.after_is))
  tells lines is (told report nothing report_is after_is) =
      let both : Some (replies.Audit lines) ≡ Some (replies.Audit report) = sym is ∙ ap (λ (a : After). a.reply) after_is in
      let same : lines ≡ report = cc both in
      (subst (λ (l : List AuditLine). IsReport (world_of trace) s l) (sym same) report_is, nothing)
  tells lines is (unread name own_is after_is) = absurd (cc (is, ap (λ (a : After). a.reply) after_is))
  tells lines is (no_memory wants) = absurd (cc (is, ap (λ (a : After). a.reply) wants.after_is))

  -- it has no step but of such a reading
  quiet : Audits (Some trace) s opens own after → (own ≡ []) ⊎ ((name : List ℕ) × (own ≡ Unread name ∷ []))
  quiet (no_lab none d) = inl d.nothing
  quiet (told report nothing report_is after_is) = inl nothing
  quiet (unread name own_is after_is) = inr (name, own_is)
  quiet (no_memory wants) = inl wants.nothing

-- the lab step of one
module _ (terms : Terms) (trace : List Event) (set : Setting) (s : LabState) (opening own : List Event) (after : After) where
  went_by : (session : Session) → LabStep terms (Some trace) set s session commands.Audit opening own after
      → BreaksOpening s opening own after ⊎ ((mid : LabState) × Audits (Some (trace ++ opening)) mid (opens_of session) own after)
  went_by Closed (opened mid opens d) = inr (mid, d)
  went_by Closed (not_opened b) = inl b
  went_by (Open opens) step = inr (s, step.1)

-- THE PIECE OF ONE that was answered, by its steps from a lab to another
module _ (terms : Terms) (trace : List Event) (piece : Piece) (s last : LabState) (steps : StepsFrom terms trace piece s last) (asks : piece.command ≡ commands.Audit) (reply : Reply) (replied : piece.reply ≡ Some reply) where
  abbrev all : List Event
  all = piece.own ++ steps.behind

  abbrev ends : After
  ends = record { reply = steps.told; lab = last; session = steps.session }

  abbrev set : Setting
  set = record { length = steps.length; limit = 2 ^ 32; devices = piece.faults.devices }

  told_so : (steps.told ≡ Some reply) × (steps.session ≡ piece.to) × (steps.behind ≡ [])
  told_so = told_of terms trace piece s last steps reply replied

  all_own : all ≡ piece.own
  all_own = ap (λ l. piece.own ++ l) told_so.2 ∙ append-nil piece.own

  went : BreaksOpening s piece.opening all ends ⊎ ((mid : LabState) × Audits (Some (trace ++ piece.opening)) mid (opens_of piece.from) all ends)
  went = went_by terms trace set s piece.opening all ends piece.from (subst (λ (c : Command). LabStep terms (Some trace) set s piece.from c piece.opening all ends) asks steps.step)

  quiet_by : (piece.own ≡ []) ⊎ ((name : List ℕ) × (piece.own ≡ Unread name ∷ []))
  quiet_by = ⊎_elim (λ broke. inl (sym all_own ∙ broke.nothing))
      (λ x. ⊎_elim (λ none. inl (sym all_own ∙ none)) (λ one. inr (one.0, sym all_own ∙ one.1)) (quiet (trace ++ piece.opening) x.0 (opens_of piece.from) all ends x.1)) went

  -- the report is of the lab and of the world after it, which are those before it
  tells_by : (lines : List AuditLine) → reply ≡ replies.Audit lines → IsReport (world_of (trace ++ steps_of piece)) last lines × (piece.own ≡ [])
  tells_by lines is = ⊎_elim (λ broke. absurd (⊎_elim (λ a. cc (a, is)) (λ a. cc (a, is)) (broke_so piece.opening steps.told reply broke.breaks told_so.0)))
      (λ x.
      let w = world_of (trace ++ piece.opening) in
      let t = tells (trace ++ piece.opening) x.0 (opens_of piece.from) all ends lines (told_so.0 ∙ ap (λ r. Some r) is) x.1 in
      let none : piece.own ≡ [] = sym all_own ∙ t.1 in
      let steps_are : trace ++ piece.opening ≡ trace ++ steps_of piece = ap (λ l. trace ++ l) (sym (ap (λ l. piece.opening ++ l) none ∙ append-nil piece.opening)) in (
        subst (λ l. IsReport (world_of l) last lines) steps_are (subst (λ (u : LabState). IsReport w u lines) (sym (kept (Some (trace ++ piece.opening)) x.0 (opens_of piece.from) all ends x.1)) t.0),
        none,
      ))
      went

-- WHAT ITS STEPS CHANGE: nothing

changes_nothing : (trace : List Event) (piece : Piece) → (piece.own ≡ []) ⊎ ((name : List ℕ) × (piece.own ≡ Unread name ∷ [])) → ChangesNothing trace piece
changes_nothing trace piece (inl none) =
    let are : trace ++ steps_of piece ≡ trace ++ piece.opening = ap (λ l. trace ++ l) (ap (λ l. piece.opening ++ l) none ∙ append-nil piece.opening) in
    record { sides = λ side. ap (disk side) are; world = ap world_of are; courses = λ lab e. ap (λ l. own_events lab e l) none }
changes_nothing trace piece (inr one) =
    let are : trace ++ steps_of piece ≡ (trace ++ piece.opening) ++ Unread one.0 ∷ [] = ap (λ l. trace ++ (piece.opening ++ l)) one.1 ∙ sym (append_assoc trace piece.opening (Unread one.0 ∷ [])) in
    record {
      sides = λ side. ap (disk side) are ∙ unread_disk side (trace ++ piece.opening) one.0;
      world = ap world_of are ∙ world_push (trace ++ piece.opening) (Unread one.0);
      courses = λ lab e. ap (λ l. own_events lab e l) one.1;
    }

-- ONE AUDIT OF A RUN
module _ (terms : Terms) (choices : Option Choices) (old new : Outside) (status : Status) (before after : List Begun) (b : Begun) (t : Told) (r : Ran terms choices old new status (before ++ b ∷ after)) (is_told : old.plant.told ≡ Some t) (asks : b.piece.command ≡ commands.Audit) where
  abbrev trace : List Event
  trace = trace_after t.trace before

  one_piece : IsPiece terms trace b.piece
  one_piece = piece_at terms t.trace before after b (pieces_of terms choices old new status (before ++ b ∷ after) t r is_told)

  module _ (reply : Reply) (replied : b.piece.reply ≡ Some reply) where
    was : Was terms trace b.piece one_piece (ap drill_of asks) reply replied
    was = was_of terms choices old new status before after b t r is_told reply replied (ap drill_of asks)

    pub audit_still : ChangesNothing trace b.piece
    audit_still = changes_nothing trace b.piece (⊎_elim (λ broke. inl broke.1) (λ x. quiet_by terms trace b.piece x.0 x.1 x.2 asks reply replied) was)

  module _ (lines : List AuditLine) (replied : b.piece.reply ≡ Some (replies.Audit lines)) where
    not_shut : (closed : Bool) → is_closed b.piece.to ≡ closed → is_closed b.piece.to ≡ false
    not_shut false h = h
    not_shut true h = let shut : false ≡ true = ap may_shut (sym replied) ∙ one_piece.shuts (ap drill_of asks) h in absurd (cc shut)

    pub audit_told : TellsDifference (trace_after t.trace (before ++ b ∷ [])) lines × (b.piece.own ≡ [])
    audit_told =
        let l : Leads terms trace b.piece = one_piece.leads (ap drill_of asks) (not_shut (is_closed b.piece.to) refl) in
        let x = tells_by terms trace b.piece l.first l.last l.steps asks (replies.Audit lines) replied lines refl in
        (subst (λ l. TellsDifference l lines) (sym (trace-push t.trace before b)) (record { lab = l.last; at = l.behind; is = x.0 }), x.1)

    -- OVER A SOUND TRACE nothing differs
    pub audit_nothing : IsSound the_texts t.trace → lines ≡ []
    audit_nothing sound =
        let done : IsDone terms trace b.piece = one_piece.done (behind terms t.trace before (b ∷ after) (pieces_of terms choices old new status (before ++ b ∷ after) t r is_told) sound).1 in
        let l : Leads terms trace b.piece = done.leads in
        let x = tells_by terms trace b.piece l.first l.last l.steps asks (replies.Audit lines) replied lines refl in
        let end = trace ++ steps_of b.piece in
        let one : leaves_one b.piece.to b.piece.reply ≡ true =
        ap (leaves_one b.piece.to) replied ∙ left_open b.piece.to (replies.Audit lines) refl (λ shut. ap may_shut (sym replied) ∙ one_piece.shuts (ap drill_of asks) shut) in
        let images : AllStandFor end l.last = subst (λ y. ImagesAfter terms y trace b.piece l.last) one done.images in
        let possible : ArePossible end (disk A end).durable (disk B end).durable = (durable_image (disk A end), durable_image (disk B end)) in
        let said = as_said end (disk A end).durable (disk B end).durable l.last done.sound possible (images (disk A end).durable (disk B end).durable possible) in
        nothings.nothing (lab_in l.last.lab) l.last.experiments (world_of end) said.cabled lines (x.0.exact (nothings.known (lab_in l.last.lab) l.last.experiments (world_of end) said.cabled))

-- THE DEVICES' COUNT ROSE where one did not tell what it holds, over every plant
pub audit_risen : (terms : Terms) (choices : Option Choices) (old new : Outside) (status : Status) (before after : List Begun) (b : Begun) (name : List ℕ) → Ran terms choices old new status (before ++ b ∷ after)
    → b.piece.reply ≡ Some (replies.Unread name) → Rose b.piece.faults.devices b.later.devices
audit_risen terms choices old new status before after b name r replied = (caused_at terms _ _ before after b r.counts).here (ap blames_now_if replied)
