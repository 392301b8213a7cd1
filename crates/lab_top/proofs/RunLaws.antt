-- Laws of a run: over sides that are no journal; an experiment is kept by the commands that are about others; a supplied solution; an untroubled
-- recovery; and what a reply tells.
use Rattle.std.specs.Prelude.{IfSome, is_some, count_by}
use Rattle.std.proofs.Common.{◌≡◌, Bool, true, false, List, [], ◌∷◌, ◌++◌, Option, Some, None, Result, refl, sym, ◌∙◌, ap, subst, ◌⊎◌, inl, inr, ℕ, ◌^◌, ⊎_elim}
use Rattle.std.proofs.lemmas.List.{append-nil}
use Rattle.std.proofs.lemmas.Option.{same_Some}
use Rattle.lab_base.specs.Lists.{Has}
use Rattle.lab_base.proofs.Tests.{and_first, and_rest}
use Rattle.plant.specs.Disks.{disk, ArePossible}
use Rattle.plant.specs.Events.{Event}
use Rattle.plant.specs.Told.{Told}
use Rattle.plant.specs.declared.drill.Drill.{Drill}
use Rattle.plant.specs.declared.moment.Faults.{Faults}
use Rattle.plant.specs.declared.step.Side.{Side}
use Rattle.plant.specs.declared.step.Side.TheVariants.{A, B}
use Rattle.phys_lab.specs.Labs.{Lab}
use Rattle.virt_topo.specs.declared.experiment.Experiment.{Experiment}
use Rattle.lab_model.specs.Sound.{is_moving}
use Rattle.records_model.specs.Labs.{LabState, Sane, find}
use Rattle.records_model.specs.Works.{IsSound}
use Rattle.records_model.proofs.LabLaws.{lab_sane}
use Rattle.swap_turns.specs.Pieces.{has_miss, has_outer, has_restart}
use Rattle.swap_turns.proofs.Stood.{stood_once}
use Rattle.lab_state.specs.Texts.{the_texts}
use Rattle.lab_state.proofs.Canonical.{texts_once}
use Rattle.recovery.specs.Due.{is_busy, swaps_of}
use Rattle.recovery.specs.Settle.{is_stuck}
use Rattle.script_text.specs.Drills.{drill_of}
use Rattle.script_text.specs.declared.command.Command.{Command}
use Rattle.script_text.specs.declared.command.Command.TheVariants.{SwapinWith, Recover}
use Rattle.script_text.specs.declared.reply.Reply.{Reply}
use Rattle.script_text.specs.declared.reply.Reply.TheVariants as replies
use Rattle.script_text.specs.declared.reply.Reply.TheVariants.{Recovered}
use Rattle.lab_tasks.specs.Tasks.{Task}
use Rattle.lab_core.specs.Breaks.{Breaks}
use Rattle.lab_core.specs.Commands.{is_about, LabStep}
use Rattle.lab_core.specs.Moments.{IsLabAt, IsNoJournal, StandForLab, IsLabOfImage, AllStandFor}
use Rattle.lab_core.specs.Recovery.{EndedIn, HasRecovered}
use Rattle.lab_core.specs.Sessions.{Session, Closed, Open, Setting, After, Terms}
use Rattle.lab_core.specs.Tells.{AllMove, BeginsAt, IsFeasibleFor, Hinders, IsAtRest, TellsBroken, busy_of, is_of_drill, opens_of, settles, taken_reply}
use Rattle.lab_core.proofs.ListSteps.{all_no_drill, all_stay, all_stop}
use Rattle.lab_core.proofs.OuterSteps.{CommandTells, Tells, broken_tells, plain, still, tells_step}
use Rattle.lab_core.proofs.OneJournal.{not_both, one_place}
use Rattle.lab_core.proofs.Beside.{beside_rests}
use Rattle.lab_core.proofs.Rested.{opened_rest, recovered_rest, recovered_so}
use Rattle.lab_core.proofs.Said.{as_said}
use Rattle.lab_core.proofs.SolutionLaws.{in_both}
use Rattle.lab_core.proofs.StepLaws.{Was as WasStep, by_one, was}
use Rattle.lab_top.specs.Pieces.{Piece, Begun, AreHandedOn, ArePieces, ButForReply, Counts, Finds, FirstLab, IsCaused, IsPiece, StepsFrom, is_closed, stays_open, steps_of, trace_after, IsOpening, broken_off, opened, AllHave, AreOthers, ImagesAfter, IsDone, is_early, leaves_one, AllRestBut, HasOpened, Leads, OpensTo, may_shut, IsPlannedAs, IsPlannedBy}
use Rattle.lab_top.specs.Ran.{Outside, Ran, AreAnswered, Answered, EndsSo, LastFindsNone}
use Rattle.lab_words.specs.Words.{Choices}
use Rattle.lab_top.specs.declared.status.Status.{Status}
use Rattle.lab_top.specs.declared.status.Status.TheVariants.{Memory, JournalBad}
use Rattle.lab_top.proofs.BrokenOpenings.{breaks_as, breaks_not}
use Rattle.lab_top.proofs.Pieces.{trace-push}
use Rattle.lab_top.proofs.Stepping.{first_image}
use Rattle.lab_core.proofs.OuterReplies.{of_drill_if}

-- ONE OF THE PIECES
pub piece_at : (terms : Terms) (trace : List Event) (before after : List Begun) (b : Begun) → ArePieces terms trace (before ++ b ∷ after) → IsPiece terms (trace_after trace before) b.piece
piece_at terms trace [] after b are = are.0
piece_at terms trace (x ∷ before) after b are = piece_at terms (trace ++ steps_of x.piece) before after b are.1

pub caused_at : (terms : Terms) (entry exit : Faults) (before after : List Begun) (b : Begun) → Counts terms entry (before ++ b ∷ after) exit → IsCaused terms b
caused_at terms entry exit [] after b counts = counts.1
caused_at terms entry exit (x ∷ before) after b counts = caused_at terms x.later exit before after b counts.2

-- the pieces after the first of them
pub behind : (terms : Terms) (trace : List Event) (before rest : List Begun) → ArePieces terms trace (before ++ rest) → IsSound the_texts trace → ArePieces terms (trace_after trace before) rest × IsSound the_texts (trace_after trace before)
behind terms trace [] rest are sound = (are, sound)
behind terms trace (b ∷ before) rest are sound = behind terms (trace ++ steps_of b.piece) before rest are.1 (are.0.done sound).sound

pub pieces_of : (terms : Terms) (choices : Option Choices) (old new : Outside) (status : Status) (made : List Begun) (t : Told) → Ran terms choices old new status made → old.plant.told ≡ Some t → ArePieces terms t.trace made
pieces_of terms choices old new status made t r is = subst (λ (o : Option Told). IfSome o (λ u. ArePieces terms u.trace made)) is r.pieces

-- THE LAB BEFORE A PIECE from an open session, over any trace
lab_behind : (terms : Terms) (trace : List Event) (piece : Piece) → IsPiece terms trace piece → (is_closed piece.from ≡ false → (s : LabState) × IsLabAt trace s) → is_closed piece.to ≡ false → (s : LabState) × IsLabAt (trace ++ steps_of piece) s
lab_behind terms trace piece is here open_now = by (drill_of piece.command) refl is.finds
  where
    by_drill : (reply : Option Reply) → piece.reply ≡ reply → piece.opening ≡ [] → piece.own ≡ [] → (is_some piece.reply ≡ true → piece.to ≡ piece.from) → (s : LabState) × IsLabAt (trace ++ steps_of piece) s
    by_drill None none opening own same = absurd (cc (ap is_closed (is.leaves (ap (λ (r : Option Reply). stays_open r) none)), open_now))
    by_drill (Some reply) some opening own same =
        let lab = here (sym (ap is_closed (same (ap is_some some))) ∙ open_now) in
        (lab.0, subst (λ l. IsLabAt l lab.0) (sym (append-nil trace) ∙ (λ i. trace ++ (sym opening i ++ sym own i))) lab.1)

    by : (drill : Option Drill) → drill_of piece.command ≡ drill → Finds drill piece.from trace piece → (s : LabState) × IsLabAt (trace ++ steps_of piece) s
    by None none finds = let l = is.leads none open_now in (l.last, l.behind)
    by (Some drill) some finds = by_drill piece.reply refl finds.0 finds.1 finds.2

pub lab_before : (terms : Terms) (trace : List Event) (session : Session) (before after : List Begun) (b : Begun) → ArePieces terms trace (before ++ b ∷ after) → AreHandedOn session (before ++ b ∷ after)
    → (is_closed session ≡ false → (s : LabState) × IsLabAt trace s) → is_closed b.piece.from ≡ false → (s : LabState) × IsLabAt (trace_after trace before) s
lab_before terms trace session [] after b are handed here open_now = here (ap is_closed (sym handed.0) ∙ open_now)
lab_before terms trace session (x ∷ before) after b are handed here open_now =
    lab_before terms (trace ++ steps_of x.piece) x.piece.to before after b are.1 handed.1 (λ goes. lab_behind terms trace x.piece are.0 (λ from. here (ap is_closed (sym handed.0) ∙ from)) goes) open_now

-- A FIRST LAB is sane
pub first_sane : (early : Bool) (trace : List Event) (s : LabState) → FirstLab early trace s → Sane s
first_sane true trace s image = lab_sane the_texts image.stand.records s image.stand.lab_of
first_sane false trace s at = lab_sane the_texts at.records s at.lab_of

-- what is told of a piece that is answered
pub told_of : (terms : Terms) (trace : List Event) (piece : Piece) (s after : LabState) (steps : StepsFrom terms trace piece s after) (reply : Reply) → piece.reply ≡ Some reply → (steps.told ≡ Some reply) × (steps.session ≡ piece.to) × (steps.behind ≡ [])
told_of terms trace piece s after steps reply is = subst (λ (o : Option Reply). ButForReply o piece.to steps.told steps.session steps.behind) is steps.is_told

opening_of : (drill : Option Drill) (from : Session) (trace : List Event) (piece : Piece) → drill ≡ None → from ≡ Closed → Finds drill from trace piece → IsOpening trace piece
opening_of (Some drill) from trace piece no_drill closed finds = absurd (cc no_drill)
opening_of None (Open opens) trace piece no_drill closed finds = absurd (cc closed)
opening_of None Closed trace piece no_drill closed finds = finds.1

abbrev NoJournal : List Event → Side → ℕ → Type 0
NoJournal trace side at = IsNoJournal (disk A trace).reads (disk B trace).reads (2 ^ 32) side at

no_reply : (trace : List Event) (piece : Piece) (side : Side) (at : ℕ) → IsOpening trace piece → has_miss piece.opening ≡ false → has_restart piece.opening ≡ false → NoJournal trace side at → piece.reply ≡ None
no_reply trace piece side at (opened no_miss no_restart journal led) miss restart missing = absurd (not_both _ _ _ side at journal missing)
no_reply trace piece side at (broken_off breaks nothing shut part) miss restart missing = by piece.reply breaks
  where
    by : (reply : Option Reply) → Breaks piece.opening reply → reply ≡ None
    by None breaks = refl
    by (Some reply) breaks = breaks_not piece.opening (Some reply) breaks miss restart refl

-- WHICH IS NOT ANSWERED
not_answered : (before after : List Begun) (b : Begun) → b.piece.reply ≡ None → AreAnswered (before ++ b ∷ after) → ⊥
not_answered [] after b none all = absurd (cc (ap is_some none, and_first (is_some b.piece.reply) _ all))
not_answered (x ∷ before) after b none all = not_answered before after b none (and_rest (is_some x.piece.reply) _ all)

no_end : (before after : List Begun) (b : Begun) → before ++ b ∷ after ≡ [] → ⊥
no_end [] after b is = cc is
no_end (x ∷ before) after b is = cc is

at_last : (before after pre : List Begun) (b last : Begun) → before ++ b ∷ after ≡ pre ++ last ∷ [] → AreAnswered pre → b.piece.reply ≡ None → (before ≡ pre) × (b ≡ last)
at_last [] after [] b last is all none = (refl, cc is)
at_last [] after (p ∷ pre) b last is all none =
    let same : b ≡ p = cc is in
    absurd (cc (ap is_some none, ap (λ (x : Begun). is_some x.piece.reply) same ∙ and_first (is_some p.piece.reply) _ all))
at_last (x ∷ before) after [] b last is all none =
    let rest : before ++ b ∷ after ≡ [] = cc is in
    absurd (no_end before after b rest)
at_last (x ∷ before) after (p ∷ pre) b last is all none =
    let first : x ≡ p = cc is in
    let rest : before ++ b ∷ after ≡ pre ++ last ∷ [] = cc is in
    let more = at_last before after pre b last rest (and_rest (is_some p.piece.reply) _ all) none in
    ((λ i. first i ∷ more.0 i), more.1)

module _ (trace : List Event) (before after : List Begun) (b : Begun) (side : Side) (at : ℕ) (missing : NoJournal (trace_after trace before) side at) (none : b.piece.reply ≡ None) where
  abbrev made : List Begun
  made = before ++ b ∷ after

  found : (s : Side) (n : ℕ) → LastFindsNone trace made s n → JournalBad s n ≡ JournalBad side at
  found s n l =
      let last = at_last before after l.before b l.last l.made_are l.answered none in
      let same = one_place _ _ (2 ^ 32) s side n at (subst (λ x. NoJournal (trace_after trace x) s n) (sym last.0) l.finds.no_journal) missing in
      (λ i. JournalBad (same.0 i) (same.1 i))

  by : (terms : Terms) (stopped : Bool) (status : Status) → Answered status made → EndsSo terms trace made status stopped → (status ≡ Memory) ⊎ (status ≡ JournalBad side at)
  by terms halts Memory all ends = inl refl
  by terms halts (JournalBad s n) all ends = inr (found s n ends)
  by terms halts status all ends = absurd (not_answered before after b none all)

pub ends_bad : (terms : Terms) (choices : Option Choices) (old new : Outside) (status : Status) (before after : List Begun) (b : Begun) (t : Told) (side : Side) (at : ℕ) → Ran terms choices old new status (before ++ b ∷ after) → old.plant.told ≡ Some t
    → drill_of b.piece.command ≡ None → b.piece.from ≡ Closed → has_miss b.piece.opening ≡ false → has_restart b.piece.opening ≡ false
    → IsNoJournal (disk A (trace_after t.trace before)).reads (disk B (trace_after t.trace before)).reads (2 ^ 32) side at → (status ≡ Memory) ⊎ (status ≡ JournalBad side at)
ends_bad terms choices old new status before after b t side at r is no_drill closed miss restart missing =
    let ends = subst (λ (o : Option Told). IfSome o (λ u. EndsSo terms u.trace (before ++ b ∷ after) status new.plant.stopped)) is r.ends in
    let piece = piece_at terms t.trace before after b (pieces_of terms choices old new status (before ++ b ∷ after) t r is) in
    let none = no_reply (trace_after t.trace before) b.piece side at (opening_of _ _ _ b.piece no_drill closed piece.finds) miss restart missing in
    by t.trace before after b side at missing none terms new.plant.stopped status r.answered ends

-- a lab with an experiment is set
pub set_with : (name : List ℕ) (s : LabState) (e : Experiment) → Sane s → (lab : Option Lab) → s.lab ≡ lab → find name s.experiments ≡ Some e → is_some lab ≡ true
set_with name s e sane (Some lab) is found = refl
set_with name s e sane None is found =
    let empty : find name s.experiments ≡ None = ap (find name) (sane.none is) in
    absurd (cc (empty, found))

is_set : (a b : List ℕ) (s : LabState) (name : List ℕ) (e : Experiment) → StandForLab a b s → find name s.experiments ≡ Some e → is_some s.lab ≡ true
is_set a b s name e stand found = set_with name s e (lab_sane the_texts stand.records s stand.lab_of) s.lab refl found

stays : (terms : Terms) (trace : List Event) (set : Setting) (s : LabState) (session : Session) (command : Command) (opening own : List Event) (after : After) (e : Experiment) → is_some s.lab ≡ true → find e.name s.experiments ≡ Some e
    → (settles session command e.name ≡ true → is_moving e ≡ false) → is_about command e.name ≡ false → LabStep terms (Some trace) set s session command opening own after → find e.name after.lab.experiments ≡ Some e
stays terms trace set s session command opening own after e there found rests other step =
    (all_stay terms (Some trace) set s session opening own after command e.name there other (λ settled x is. subst (λ (y : Experiment). is_moving y ≡ false) (same_Some _ _ (sym found ∙ is)) (rests settled)) step).same
    ∙ found

-- ONE PIECE
module _ (terms : Terms) (trace : List Event) (piece : Piece) (e : Experiment) (rests : settles piece.from piece.command e.name ≡ true → is_moving e ≡ false) (have : AllHave trace e) (other : is_about piece.command e.name ≡ false) where
  from_image : (s after : LabState) → IsLabOfImage trace s → StepsFrom terms trace piece s after → find e.name after.experiments ≡ Some e
  from_image s after image steps =
      let had = have image.a image.b image.possible in
      let same = stood_once the_texts image.a image.b had.0 s texts_once had.1 image.stand in
      let found : find e.name s.experiments ≡ Some e = ap (λ (u : LabState). find e.name u.experiments) (sym same) ∙ had.2 in
      stays terms trace _ s piece.from piece.command piece.opening (piece.own ++ steps.behind) _ e (is_set image.a image.b s e.name e image.stand found) found rests other steps.step

  after_images : (one : Bool) (last : LabState) → find e.name last.experiments ≡ Some e → ImagesAfter terms one trace piece last → AllHave (trace ++ steps_of piece) e
  after_images true last found all a b possible = (last, all a b possible, found)
  after_images false last found images a b possible = let x = images a b possible in (x.1, x.3, from_image x.0 x.1 x.2 x.4)

  pub piece_keeps : ArePossible trace (disk A trace).reads (disk B trace).reads → IsDone terms trace piece → AllHave (trace ++ steps_of piece) e
  piece_keeps readable done =
      let l = done.leads in
      after_images (leaves_one piece.to piece.reply) l.last (from_image l.first l.last (first_image trace readable (is_early piece) l.first l.before) l.steps) done.images

-- AND ALL, where none of them settles it while it moves
abbrev pub AreSparing : Experiment → List Begun → Type 0
AreSparing e [] = Unit {0}
AreSparing e (b ∷ begun) = (settles b.piece.from b.piece.command e.name ≡ true → is_moving e ≡ false) × AreSparing e begun

pub at_rest : (e : Experiment) (begun : List Begun) → is_moving e ≡ false → AreSparing e begun
at_rest e [] rests = tt
at_rest e (b ∷ begun) rests = ((λ settled. rests), at_rest e begun rests)

pub pieces_keep : (terms : Terms) (trace : List Event) (middle after : List Begun) (e : Experiment) → ArePieces terms trace (middle ++ after) → IsSound the_texts trace → AreSparing e middle → AllHave trace e → AreOthers e.name middle
    → AllHave (trace_after trace middle) e
pieces_keep terms trace [] after e are sound rests have others = have
pieces_keep terms trace (b ∷ middle) after e are sound rests have others =
    let done = are.0.done sound in
    pieces_keep terms (trace ++ steps_of b.piece) middle after e are.1 done.sound rests.1
    (piece_keeps terms trace b.piece e rests.0 have others.0 are.0.readable done) others.1

pub traces_join : (trace : List Event) (before middle : List Begun) → trace_after trace (before ++ middle) ≡ trace_after (trace_after trace before) middle
traces_join trace [] middle = refl
traces_join trace (b ∷ before) middle = traces_join (trace ++ steps_of b.piece) before middle

-- in one run
module _ (terms : Terms) (choices : Option Choices) (old new : Outside) (status : Status) (before middle after : List Begun) (t : Told) (e : Experiment) (r : Ran terms choices old new status (before ++ (middle ++ after))) (is : old.plant.told ≡ Some t) where
  pub kept_along : IsSound the_texts t.trace → AreSparing e middle → AllHave (trace_after t.trace before) e → AreOthers e.name middle → AllHave (trace_after t.trace (before ++ middle)) e
  kept_along sound rests have others =
      let here = behind terms t.trace before (middle ++ after) (pieces_of terms choices old new status (before ++ (middle ++ after)) t r is) sound in
      subst (λ l. AllHave l e) (sym (traces_join t.trace before middle)) (pieces_keep terms (trace_after t.trace before) middle after e here.0 here.1 rests have others)

  pub are_kept : IsSound the_texts t.trace → is_moving e ≡ false → AllHave (trace_after t.trace before) e → AreOthers e.name middle → AllHave (trace_after t.trace (before ++ middle)) e
  are_kept sound rests = kept_along sound (at_rest e middle rests)

-- A PIECE OF NO DRILL THAT IS ANSWERED: its opening broke off, and nothing else was done; or it is a lab step
module _ (terms : Terms) (trace : List Event) (piece : Piece) (is : IsPiece terms trace piece) (no_drill : drill_of piece.command ≡ None) (reply : Reply) (replied : piece.reply ≡ Some reply) where
  abbrev pub Was : Type 0
  Was = (Breaks piece.opening (Some reply) × (piece.own ≡ [])) ⊎ ((s : LabState) × (after : LabState) × StepsFrom terms trace piece s after)

  from_lab : has_miss piece.opening ≡ false → has_restart piece.opening ≡ false → (s : LabState) → IsLabAt trace s → Was
  from_lab miss restart s at = let x = is.steps no_drill (ap is_some replied) miss restart s at in inr (s, x.0, x.1)

  by_opening : IsOpening trace piece → Was
  by_opening (opened miss restart journal led) = from_lab miss restart journal.lab (record { records = journal.records; read = journal.read; lab_of = journal.lab_of })
  by_opening (broken_off breaks nothing shut part) = inl (subst (λ (o : Option Reply). Breaks piece.opening o) replied breaks, nothing)

  was_so : (is_closed piece.from ≡ false → (s : LabState) × IsLabAt trace s) → Was
  was_so here = by piece.from refl (subst (λ (d : Option Drill). Finds d piece.from trace piece) no_drill is.finds)
    where
      by : (from : Session) → piece.from ≡ from → Finds None from trace piece → Was
      by Closed same finds = by_opening finds.1
      by (Open opens) same finds = let lab = here (ap is_closed same) in from_lab (ap has_miss finds) (ap has_restart finds) lab.0 lab.1

-- the reply to a drill
drill_replied : (takes planned : Bool) (reply : Reply) → IsPlannedAs takes planned (Some reply) → tells_step reply ≡ false
drill_replied takes planned replies.Planned by = refl
drill_replied takes planned replies.NoDrill by = refl
drill_replied takes planned reply by = absurd by

-- a session that stays open
pub left_open : (to : Session) (reply : Reply) → may_shut (Some reply) ≡ false → (is_closed to ≡ true → may_shut (Some reply) ≡ true) → leaves_one to (Some reply) ≡ true
left_open Closed reply never shuts = absurd (cc (never, shuts refl))
left_open (Open opens) reply never shuts = refl

-- ONE PIECE OF A RUN
module _ (terms : Terms) (choices : Option Choices) (old new : Outside) (status : Status) (before after : List Begun) (b : Begun) (t : Told) (r : Ran terms choices old new status (before ++ b ∷ after)) (told : old.plant.told ≡ Some t) where
  abbrev trace : List Event
  trace = trace_after t.trace before

  are : ArePieces terms t.trace (before ++ b ∷ after)
  are = pieces_of terms choices old new status (before ++ b ∷ after) t r told

  pub piece : IsPiece terms trace b.piece
  piece = piece_at terms t.trace before after b are

  -- OVER A SOUND TRACE
  module _ (sound : IsSound the_texts t.trace) where
    pub done : IsDone terms trace b.piece
    done = piece.done (behind terms t.trace before (b ∷ after) are sound).1

    abbrev l : Leads terms trace b.piece
    l = done.leads

    abbrev set : Setting
    set = record { length = l.steps.length; limit = 2 ^ 32; devices = b.piece.faults.devices }

    abbrev own : List Event
    own = b.piece.own ++ l.steps.behind

    abbrev ends : After
    ends = record { reply = l.steps.told; lab = l.last; session = l.steps.session }

    step_by : (command : Command) → b.piece.command ≡ command → LabStep terms (Some trace) set l.first b.piece.from command b.piece.opening own ends
    step_by command asks = subst (λ (c : Command). LabStep terms (Some trace) set l.first b.piece.from c b.piece.opening own ends) asks l.steps.step

    -- a supplied solution
    pub swapped_in : AllMove (opens_of b.piece.from) l.first → (only : Bool) (exp text : List ℕ) (lines : ℕ) (reply : Reply) → b.piece.command ≡ SwapinWith only exp lines text → b.piece.reply ≡ Some reply
        → TellsBroken reply ⊎ ((s : LabState) × FirstLab (is_early b.piece) trace s × (mid : LabState) × BeginsAt b.piece.from s b.piece.opening mid
        × (reply ≡ taken_reply only exp → IsFeasibleFor mid exp text) × (IsFeasibleFor mid exp text → (reply ≡ taken_reply only exp) ⊎ Hinders reply))
    swapped_in all only exp text lines reply asks replied =
        ⊎_elim (λ broken. inl broken) (λ both. inr (l.first, l.before, both.0, both.1, both.2, both.3 all))
        (in_both terms set l.first b.piece.from only exp text lines b.piece.opening own ends reply (step_by (SwapinWith only exp lines text) asks) (told_of terms trace b.piece l.first l.last l.steps reply replied).0)

    -- an untroubled recovery
    sane : Sane l.first
    sane = first_sane (is_early b.piece) trace l.first l.before

    pub opened_rests : HasOpened b.piece → (s : LabState) × (mid : LabState) × (to : OpensTo trace b.piece s mid) × (count_by is_stuck to.opens.outcomes ≡ 0 → AllRestBut [] (trace ++ b.piece.opening))
    opened_rests opens =
        let to = done.opened opens in (
          l.first,
          to.0,
          to.1,
          λ none x y possible. (
            to.0,
            to.1.images x y possible,
            record {
              rest = λ e there moving. absurd (cc (opened_rest l.first to.0 b.piece.opening sane to.1.opens none e there, moving));
              as_said = as_said (trace ++ b.piece.opening) x y to.0 to.1.sound possible (to.1.images x y possible);
            },
          ),
        )

    module _ (number stuck : ℕ) (asks : b.piece.command ≡ Recover) (replied : b.piece.reply ≡ Some (Recovered number stuck)) where
      one : leaves_one b.piece.to b.piece.reply ≡ true
      one = ap (leaves_one b.piece.to) replied ∙ left_open b.piece.to (Recovered number stuck) refl (λ shut. ap may_shut (sym replied) ∙ piece.shuts (ap drill_of asks) shut)

      all : AllStandFor (trace ++ steps_of b.piece) l.last
      all = subst (λ x. ImagesAfter terms x trace b.piece l.last) one done.images

      step : (j : Result Task Reply) × WasStep None j terms set l.first b.piece.from Recover b.piece.opening own ends
      step =
          let by = by_one None terms set l.first b.piece.from Recover b.piece.opening own ends (step_by Recover asks) in
          (by.0, was by.0 terms set l.first Recover b.piece.opening own ends None b.piece.from by.1)

      -- those whose own settling met no trouble are at rest, whatever became of the others
      pub recovered_beside : (s : LabState) × FirstLab (is_early b.piece) trace s × (mid : LabState) × BeginsAt b.piece.from s b.piece.opening mid
          × (last : LabState) × AllStandFor (trace_after t.trace (before ++ b ∷ [])) last × (settled : HasRecovered mid (busy_of b.piece.from) number stuck b.piece.own last)
          × ((name : List ℕ) → EndedIn (swaps_of (busy_of b.piece.from) mid.experiments) settled.outcomes name → IsAtRest last name)
      recovered_beside =
          let replies_so = told_of terms trace b.piece l.first l.last l.steps (Recovered number stuck) replied in
          let so = recovered_so own ends number stuck replies_so.0 step.0 terms set l.first b.piece.from b.piece.opening step.1 in
          let alone : own ≡ b.piece.own = ap (λ e. b.piece.own ++ e) replies_so.2 ∙ append-nil b.piece.own in
          let has = subst (λ e. HasRecovered so.0 (busy_of b.piece.from) number stuck e l.last) alone so.2 in (
            l.first,
            l.before,
            so.0,
            so.1,
            l.last,
            subst (λ e. AllStandFor e l.last) (sym (trace-push t.trace before b)) all,
            has,
            λ name ended. beside_rests (swaps_of (busy_of b.piece.from) so.0.experiments) has.outcomes so.0 l.last b.piece.own name has.settles ended,
          )

    module _ (number : ℕ) (asks : b.piece.command ≡ Recover) (replied : b.piece.reply ≡ Some (Recovered number 0)) where
      rest : (e : Experiment) → Has l.last.experiments e → is_moving e ≡ true → is_busy (busy_of b.piece.from) e.name ≡ true
      rest =
          recovered_rest own ends number (told_of terms trace b.piece l.first l.last l.steps (Recovered number 0) replied).0 (step number 0 asks replied).0 terms set l.first b.piece.from b.piece.opening sane
          (step number 0 asks replied).1

      pub recovered_rests : AllRestBut (busy_of b.piece.from) (trace_after t.trace (before ++ b ∷ []))
      recovered_rests =
          subst (AllRestBut (busy_of b.piece.from)) (sym (trace-push t.trace before b))
          (λ x y possible. (l.last, all number 0 asks replied x y possible, record { rest = rest; as_said = as_said (trace ++ steps_of b.piece) x y l.last done.sound possible (all number 0 asks replied x y possible) }))

  -- OVER ANY TRACE: a start or a failed reading exactly where the reply tells of it, and no reply of a drill to a command that is none
  module _ (reply : Reply) (replied : b.piece.reply ≡ Some reply) where
    pub was_of : (no_drill : drill_of b.piece.command ≡ None) → Was terms trace b.piece piece no_drill reply replied
    was_of no_drill = was_so terms trace b.piece piece no_drill reply replied (lab_before terms t.trace Closed before after b are r.sessions (λ open_now. absurd (cc open_now)))

    pub steps_told : CommandTells b.piece.command b.piece.opening b.piece.own reply
    steps_told = by (drill_of b.piece.command) refl
      where
        by : (drill : Option Drill) → drill_of b.piece.command ≡ drill → CommandTells b.piece.command b.piece.opening b.piece.own reply
        by (Some drill) is =
            let finds = subst (λ (d : Option Drill). Finds d b.piece.from trace b.piece) is piece.finds in
            let planned = subst (λ (d : Option Drill). IsPlannedBy terms d b.planned b.piece.reply) is (caused_at terms _ _ before after b r.counts).planned in
            plain (still (λ i. has_outer (finds.0 i ++ finds.1 i)) (drill_replied terms.takes b.planned reply (subst (λ (o : Option Reply). IsPlannedAs terms.takes b.planned o) replied planned)))
        by None is = ⊎_elim (λ broke. plain (subst (λ l. Tells l reply) (sym (ap (λ l. b.piece.opening ++ l) broke.1 ∙ append-nil b.piece.opening)) (broken_tells b.piece.opening (Some reply) reply broke.0 refl)))
            (λ x.
            let steps = x.2 in
            let so = told_of terms trace b.piece x.0 x.1 steps reply replied in
            subst (λ l. CommandTells b.piece.command b.piece.opening l reply) (ap (λ l. b.piece.own ++ l) so.2 ∙ append-nil b.piece.own)
            (all_stop terms (Some trace) _ x.0 b.piece.from b.piece.opening (b.piece.own ++ steps.behind) _ b.piece.command reply so.0 steps.step))
            (was_of is)

    pub undrilled_told : drill_of b.piece.command ≡ None → is_of_drill reply ≡ false
    undrilled_told is = ⊎_elim (λ broke. breaks_as of_drill_if false refl refl refl b.piece.opening (Some reply) broke.0)
        (λ x.
        let steps = x.2 in
        let now : Setting = record { length = steps.length; limit = 2 ^ 32; devices = b.piece.faults.devices } in
        let last : After = record { reply = steps.told; lab = x.1; session = steps.session } in
        ap of_drill_if (sym (told_of terms trace b.piece x.0 x.1 steps reply replied).0)
        ∙ all_no_drill terms (Some trace) now x.0 b.piece.from b.piece.command b.piece.opening (b.piece.own ++ steps.behind) last is steps.step)
        (was_of is)
