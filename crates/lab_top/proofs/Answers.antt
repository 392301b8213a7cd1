-- Answered experiments stay so; and the state after an opening without trouble.
use Rattle.std.specs.Prelude.{count_by}
use Rattle.std.proofs.Common.{◌≡◌, ℕ, ◌^◌, Bool, true, false, List, [], ◌∷◌, ◌++◌, Option, Some, None, refl, sym, ◌∙◌, ap, subst}
use Rattle.plant.specs.Events.{Event}
use Rattle.plant.specs.Told.{Told}
use Rattle.virt_topo.specs.declared.experiment.Experiment.{Experiment}
use Rattle.virt_topo.specs.declared.experiment.Phase.{Phase}
use Rattle.virt_topo.specs.declared.experiment.Phase.TheVariants as phases
use Rattle.lab_model.specs.Sound.{is_moving}
use Rattle.records_model.specs.Labs.{LabState, find, in_phase, is_out}
use Rattle.records_model.specs.Works.{IsSound}
use Rattle.records_model.proofs.Finding.{found_from}
use Rattle.records_model.proofs.LabLaws.{lab_sane}
use Rattle.lab_state.specs.Texts.{the_texts}
use Rattle.recovery.specs.Settle.{is_stuck}
use Rattle.script_text.specs.declared.reply.FailedEnd.TheVariants as ends
use Rattle.script_text.specs.declared.reply.Reply.{Reply}
use Rattle.script_text.specs.declared.reply.Reply.TheVariants as replies
use Rattle.plant.specs.Disks.{ArePossible}
use Rattle.recovery.specs.Due.{swaps_of}
use Rattle.lab_core.specs.Recovery.{EndedIn}
use Rattle.lab_core.proofs.Beside.{beside_rests}
use Rattle.lab_core.specs.Moments.{IsLabAt, AllStandFor, StandForLab}
use Rattle.plant.specs.declared.drill.Drill.{Drill}
use Rattle.script_text.specs.Drills.{drill_of}
use Rattle.script_text.specs.Replies.{closes}
use Rattle.script_text.specs.declared.reply.Served.{Served}
use Rattle.lab_core.specs.Tells.{BeginsAt, IsAtRest, IsInBy, IsThere, is_in, is_of_drill}
use Rattle.lab_core.proofs.ListSteps.{all_place}
use Rattle.lab_core.proofs.Rested.{opened_rest}
use Rattle.lab_core.proofs.Said.{as_said}
use Rattle.lab_top.specs.Pieces.{Piece, Begun, AllHave, AllRestBut, AreAll, AreAllAs, AreOthers, FirstLab, ImagesAfter, IsPlannedAs, IsPlannedBy, OpensTo, TellsAll, is_early, leaves_one, may_shut, steps_of, trace_after}
use Rattle.lab_top.specs.Ran.{Outside, Ran}
use Rattle.lab_words.specs.Words.{Choices}
use Rattle.lab_core.specs.Commands.{LabStep}
use Rattle.lab_core.specs.Sessions.{After, Setting, Terms}
use Rattle.script_text.specs.declared.command.Command.{Command}
use Rattle.script_text.specs.declared.command.Command.TheVariants.{Batch, Play, SwapinWith}
use Rattle.lab_core.specs.BatchLines.{BatchTells, there_in}
use Rattle.lab_core.specs.PlayTells.{PlayTells}
use Rattle.lab_core.specs.PlayWirings.{PlayWires, found_there}
use Rattle.lab_core.proofs.BatchLines.{batch_so, batch_tells}
use Rattle.lab_core.proofs.PlayTells.{play_so, play_tells}
use Rattle.lab_core.proofs.PlayWirings.{play_wires, wires_so}
use Rattle.lab_core.proofs.BySolution.{in_by}
use Rattle.lab_top.proofs.Pieces.{trace-push}
use Rattle.lab_top.specs.declared.status.Status.{Status}
use Rattle.lab_top.proofs.RunLaws.{at_rest, behind, caused_at, done, left_open, piece, pieces_keep, pieces_of, told_of, traces_join}
use Rattle.lab_core.proofs.Places.{TellsPlace}

-- what is in doesn't move, and what is out doesn't
abbrev pub Rests : (Phase → Bool) → Type 0
Rests is = (e : Experiment) → is e.phase ≡ true → is_moving e ≡ false

pub in_rests : Rests is_in
in_rests e so = by e.phase refl so
  where
    by : (phase : Phase) → e.phase ≡ phase → is_in phase ≡ true → is_moving e ≡ false
    by phases.Out same so = absurd (cc so)
    by (phases.In mapping tags) same so = ap (λ p. is_moving (in_phase e p)) same
    by (phases.Moving old new) same so = absurd (cc so)

pub out_rests : Rests is_out
out_rests e so = by e.phase refl so
  where
    by : (phase : Phase) → e.phase ≡ phase → is_out phase ≡ true → is_moving e ≡ false
    by phases.Out same so = ap (λ p. is_moving (in_phase e p)) same
    by (phases.In mapping tags) same so = absurd (cc so)
    by (phases.Moving old new) same so = absurd (cc so)

drill_only : (takes planned : Bool) (reply : Reply) → IsPlannedAs takes planned (Some reply) → is_of_drill reply ≡ true
drill_only takes planned replies.Planned by = refl
drill_only takes planned replies.NoDrill by = refl
drill_only takes planned reply by = absurd by

-- ONE PIECE OF A RUN, and later ones that are about others
module _ (terms : Terms) (choices : Option Choices) (old new : Outside) (status : Status) (before middle after : List Begun) (b : Begun) (t : Told) (r : Ran terms choices old new status (before ++ b ∷ (middle ++ after))) (told : old.plant.told ≡ Some t)
    (sound : IsSound the_texts t.trace) (reply : Reply) (replied : b.piece.reply ≡ Some reply) where
  abbrev trace : List Event
  trace = trace_after t.trace before

  abbrev last : LabState
  last = (done terms choices old new status before (middle ++ after) b t r told sound).leads.last

  place : TellsPlace reply last
  place =
      let l = (done terms choices old new status before (middle ++ after) b t r told sound).leads in
      all_place terms (Some trace) _ l.first b.piece.from b.piece.opening (b.piece.own ++ l.steps.behind) _ b.piece.command reply (told_of terms trace b.piece l.first l.last l.steps reply replied).0 l.steps.step

  -- it is no reply to a drill
  no_drill : is_of_drill reply ≡ false → drill_of b.piece.command ≡ None
  no_drill inner = by (drill_of b.piece.command) refl
    where
      by : (drill : Option Drill) → drill_of b.piece.command ≡ drill → drill_of b.piece.command ≡ None
      by None is = is
      by (Some drill) is =
          let planned = subst (λ (d : Option Drill). IsPlannedBy terms d b.planned b.piece.reply) is (caused_at terms _ _ before (middle ++ after) b r.counts).planned in
          absurd (cc (inner, drill_only terms.takes b.planned reply (subst (λ (o : Option Reply). IsPlannedAs terms.takes b.planned o) replied planned)))

  pub all_stand : is_of_drill reply ≡ false → may_shut (Some reply) ≡ false → AllStandFor (trace ++ steps_of b.piece) last
  all_stand inner never =
      let one : leaves_one b.piece.to b.piece.reply ≡ true =
      ap (leaves_one b.piece.to) replied ∙ left_open b.piece.to reply never (λ shut. ap may_shut (sym replied) ∙ (piece terms choices old new status before (middle ++ after) b t r told).shuts (no_drill inner) shut) in
      subst (λ x. ImagesAfter terms x trace b.piece last) one (done terms choices old new status before (middle ++ after) b t r told sound).images

  later : (is : Phase → Bool) → Rests is → (exp : List ℕ) → is_of_drill reply ≡ false → may_shut (Some reply) ≡ false → IsThere is last exp → AreOthers exp middle → AreAll is (trace_after t.trace (before ++ b ∷ middle)) exp
  later is rests exp inner never there others =
      let e = there.experiment in
      let named : e.name ≡ exp = (found_from exp last.experiments e there.found).name_is in
      let have : AllHave (trace ++ steps_of b.piece) e = (λ x y possible. (last, all_stand inner never x y possible, ap (λ n. find n last.experiments) named ∙ there.found)) in
      let here = behind terms t.trace before (b ∷ (middle ++ after)) (pieces_of terms choices old new status (before ++ b ∷ (middle ++ after)) t r told) sound in
      record {
        experiment = e;
        named = named;
        is_so = there.is_so;
        all = subst (λ l. AllHave l e) (sym (traces_join t.trace before (b ∷ middle)))
            (pieces_keep terms (trace ++ steps_of b.piece) middle after e here.0.1 (here.0.0.done here.1).sound (at_rest e middle (rests e there.is_so)) have (subst (λ n. AreOthers n middle) (sym named) others));
      }

  pub stays_told : TellsAll reply middle (trace_after t.trace (before ++ b ∷ middle))
  stays_told = by reply refl place
    where
      by : (told : Reply) → reply ≡ told → TellsPlace told last → TellsAll told middle (trace_after t.trace (before ++ b ∷ middle))
      by (replies.In exp) is there = later is_in in_rests exp (ap is_of_drill is) (ap (λ x. may_shut (Some x)) is) there
      by (replies.Out exp) is there = later is_out out_rests exp (ap is_of_drill is) (ap (λ x. may_shut (Some x)) is) there
      by (replies.Failed exp ends.In what) is there = later is_in in_rests exp (ap is_of_drill is) (ap (λ x. may_shut (Some x)) is) there
      by (replies.Failed exp ends.Out what) is there = later is_out out_rests exp (ap is_of_drill is) (ap (λ x. may_shut (Some x)) is) there
      by other is there = tt

  -- THE LINES OF A BATCH that doesn't close the controller
  pub lines_told : (moment lines : ℕ) (text : List ℕ) (served : Served) → b.piece.command ≡ Batch moment lines text → reply ≡ replies.Served served → closes reply ≡ false
      → BatchTells (λ is exp. AreOthers exp middle → AreAll is (trace_after t.trace (before ++ b ∷ middle)) exp) text served
  lines_told moment lines text served asks is mild =
      let l = (done terms choices old new status before (middle ++ after) b t r told sound).leads in
      let own = b.piece.own ++ l.steps.behind in
      let set : Setting = record { length = l.steps.length; limit = 2 ^ 32; devices = b.piece.faults.devices } in
      let end : After = record { reply = l.steps.told; lab = l.last; session = l.steps.session } in
      let step : LabStep terms (Some trace) set l.first b.piece.from (Batch moment lines text) b.piece.opening own end
      = subst (λ (c : Command). LabStep terms (Some trace) set l.first b.piece.from c b.piece.opening own end) asks l.steps.step in
      let tells = batch_tells terms (Some trace) set l.first b.piece.from moment lines text b.piece.opening own end served ((told_of terms trace b.piece l.first l.last l.steps reply replied).0 ∙ ap (λ x. Some x) is) step in
      let inner : is_of_drill reply ≡ false = ap is_of_drill is in
      let never : may_shut (Some reply) ≡ false = ap (λ x. may_shut (Some x)) is ∙ sym (ap closes is) ∙ mild in
      batch_so (there_in last) (λ is exp. AreOthers exp middle → AreAll is (trace_after t.trace (before ++ b ∷ middle)) exp)
      (λ exp there. later is_in in_rests exp inner never there) (λ exp there. later is_out out_rests exp inner never there) text served tells

  -- THE REPLY TO A PLAY that doesn't close it
  pub played_told : (exp name text ended : List ℕ) (from until lines count : ℕ) (closing blaming : Bool) → b.piece.command ≡ Play exp from until lines text → reply ≡ replies.Played name count ended closing blaming → closing ≡ false
      → PlayTells (λ is exp. AreOthers exp middle → AreAll is (trace_after t.trace (before ++ b ∷ middle)) exp) exp (replies.Played name count ended closing blaming)
  played_told exp name text ended from until lines count closing blaming asks is mild =
      let l = (done terms choices old new status before (middle ++ after) b t r told sound).leads in
      let own = b.piece.own ++ l.steps.behind in
      let set : Setting = record { length = l.steps.length; limit = 2 ^ 32; devices = b.piece.faults.devices } in
      let end : After = record { reply = l.steps.told; lab = l.last; session = l.steps.session } in
      let step : LabStep terms (Some trace) set l.first b.piece.from (Play exp from until lines text) b.piece.opening own end
      = subst (λ (c : Command). LabStep terms (Some trace) set l.first b.piece.from c b.piece.opening own end) asks l.steps.step in
      let tells = play_tells terms (Some trace) set l.first b.piece.from exp name from until lines count text ended closing blaming b.piece.opening own end ((told_of terms trace b.piece l.first l.last l.steps reply replied).0 ∙ ap (λ x. Some x) is) step in
      let inner : is_of_drill reply ≡ false = ap is_of_drill is in
      let never : may_shut (Some reply) ≡ false = ap (λ x. may_shut (Some x)) is ∙ mild in
      play_so (there_in last) (λ is exp. AreOthers exp middle → AreAll is (trace_after t.trace (before ++ b ∷ middle)) exp)
      (λ exp there. later is_in in_rests exp inner never there) (λ exp there. later is_out out_rests exp inner never there) exp (replies.Played name count ended closing blaming) tells

  -- THE WIRING after such a play
  pub wired_told : (exp name text ended : List ℕ) (from until lines count : ℕ) (closing blaming : Bool) → b.piece.command ≡ Play exp from until lines text → reply ≡ replies.Played name count ended closing blaming → closing ≡ false
      → (s : LabState) × FirstLab (is_early b.piece) trace s × (mid : LabState) × BeginsAt b.piece.from s b.piece.opening mid
      × PlayWires (AreAllAs exp (trace_after t.trace (before ++ b ∷ [])) middle) mid exp from until text (replies.Played name count ended closing blaming)
  wired_told exp name text ended from until lines count closing blaming asks is mild =
      let l = (done terms choices old new status before (middle ++ after) b t r told sound).leads in
      let own = b.piece.own ++ l.steps.behind in
      let set : Setting = record { length = l.steps.length; limit = 2 ^ 32; devices = b.piece.faults.devices } in
      let end : After = record { reply = l.steps.told; lab = l.last; session = l.steps.session } in
      let step : LabStep terms (Some trace) set l.first b.piece.from (Play exp from until lines text) b.piece.opening own end
      = subst (λ (c : Command). LabStep terms (Some trace) set l.first b.piece.from c b.piece.opening own end) asks l.steps.step in
      let wires = play_wires terms (Some trace) set l.first b.piece.from exp name from until lines count text ended closing blaming b.piece.opening own end
      ((told_of terms trace b.piece l.first l.last l.steps reply replied).0 ∙ ap (λ x. Some x) is) mild step in
      let inner : is_of_drill reply ≡ false = ap is_of_drill is in
      let never : may_shut (Some reply) ≡ false = ap (λ x. may_shut (Some x)) is ∙ mild in (
        l.first,
        l.before,
        wires.0,
        wires.1,
        wires_so (found_there last exp) (AreAllAs exp (trace_after t.trace (before ++ b ∷ [])) middle) (λ e found. all_as exp inner never e found) wires.0 exp from until text (replies.Played name count ended closing blaming) wires.2,
      )
    where
      all_as : (exp : List ℕ) → is_of_drill reply ≡ false → may_shut (Some reply) ≡ false → (e : Experiment) → find exp last.experiments ≡ Some e → AreAllAs exp (trace_after t.trace (before ++ b ∷ [])) middle e
      all_as exp inner never e found =
          let named : e.name ≡ exp = (found_from exp last.experiments e found).name_is in
          let have : AllHave (trace ++ steps_of b.piece) e = (λ x y possible. (last, all_stand inner never x y possible, ap (λ n. find n last.experiments) named ∙ found)) in
          let here = behind terms t.trace before (b ∷ (middle ++ after)) (pieces_of terms choices old new status (before ++ b ∷ (middle ++ after)) t r told) sound in
          subst (λ (x : List Event). AreAllAs exp x middle e) (sym (trace-push t.trace before b)) (record {
            named = named;
            at_once = have;
            on = λ rests others. pieces_keep terms (trace ++ steps_of b.piece) middle after e here.0.1 (here.0.0.done here.1).sound (at_rest e middle rests) have (subst (λ n. AreOthers n middle) (sym named) others);
          })

-- ONE THAT IS ANSWERED AS IN by a supplied solution is in by it, in the lab that all images stand for
pub inside_told : (terms : Terms) (choices : Option Choices) (old new : Outside) (status : Status) (before after : List Begun) (b : Begun) (t : Told) (r : Ran terms choices old new status (before ++ b ∷ after)) (told : old.plant.told ≡ Some t)
    (sound : IsSound the_texts t.trace) (exp text : List ℕ) (lines : ℕ) → b.piece.command ≡ SwapinWith false exp lines text → (replied : b.piece.reply ≡ Some (replies.In exp))
    → (s : LabState) × AllStandFor (trace_after t.trace (before ++ b ∷ [])) s × IsInBy s exp text
inside_told terms choices old new status before after b t r told sound exp text lines asks replied =
    let l = (done terms choices old new status before after b t r told sound).leads in
    let own = b.piece.own ++ l.steps.behind in
    let set : Setting = record { length = l.steps.length; limit = 2 ^ 32; devices = b.piece.faults.devices } in
    let ends : After = record { reply = l.steps.told; lab = l.last; session = l.steps.session } in
    let step : LabStep terms (Some (trace_after t.trace before)) set l.first b.piece.from (SwapinWith false exp lines text) b.piece.opening own ends
    = subst (λ (c : Command). LabStep terms (Some (trace_after t.trace before)) set l.first b.piece.from c b.piece.opening own ends) asks l.steps.step in (
      l.last,
      subst (λ x. AllStandFor x l.last) (sym (trace-push t.trace before b)) (all_stand terms choices old new status before [] after b t r told sound (replies.In exp) replied refl refl),
      in_by terms set l.first b.piece.from exp text lines b.piece.opening own ends step (told_of terms (trace_after t.trace before) b.piece l.first l.last l.steps (replies.In exp) replied).0,
    )

-- AN OPENING IN WHICH NONE GOT STUCK, from whatever lab the sides stood for
pub opening_rests : (trace : List Event) (piece : Piece) (s mid : LabState) → IsLabAt trace s → (to : OpensTo trace piece s mid) → count_by is_stuck to.opens.outcomes ≡ 0 → AllRestBut [] (trace ++ piece.opening)
opening_rests trace piece s mid at to none x y possible = (
  mid,
  to.images x y possible,
  record {
    rest = λ e there moving. absurd (cc (opened_rest s mid piece.opening (lab_sane the_texts at.records s at.lab_of) to.opens none e there, moving));
    as_said = as_said (trace ++ piece.opening) x y mid to.sound possible (to.images x y possible);
  },
)

-- AN EXPERIMENT WHOSE OWN SETTLING met no trouble is at rest in each image after it, whatever became of the others
pub opening_rests_one : (trace : List Event) (piece : Piece) (s mid : LabState) (name : List ℕ) (to : OpensTo trace piece s mid) → EndedIn (swaps_of [] s.experiments) to.opens.outcomes name
    → (a b : List ℕ) → ArePossible (trace ++ piece.opening) a b → (u : LabState) × StandForLab a b u × IsAtRest u name
opening_rests_one trace piece s mid name to ended a b possible = (mid, to.images a b possible, beside_rests (swaps_of [] s.experiments) to.opens.outcomes s mid to.opens.moving name to.opens.settles ended)
