-- The runs of a batch are a listing about their experiments.
use Rattle.std.specs.Prelude.{nat_le}
use Rattle.std.proofs.Common.{◌≡◌, inl, inr, if◌then◌else◌, drop, ℕ, Bool, true, false, List, [], ◌∷◌, length, Option, Some, None, Result, Ok, Err, refl, sym, ap, ◌∙◌, subst, arith}
use Rattle.lab_base.specs.Lists.{Has}
use Rattle.lab_base.specs.declared.fault.TextFault.{TextFault}
use Rattle.phys_lab.specs.Labs.{Lab}
use Rattle.virt_topo.specs.declared.experiment.Experiment.{Experiment}
use Rattle.journal_rec.specs.declared.record.Record.{Record}
use Rattle.journal_rec.specs.declared.record.Way.{Way}
use Rattle.records_model.specs.Labs.{LabState}
use Rattle.recovery.specs.Due.{is_busy}
use Rattle.cost_rule.specs.declared.rule.RuleNumber.{RuleNumber}
use Rattle.assign_core.specs.declared.whole.Solved.{Solved}
use Rattle.lab_state.proofs.Named.{name_is}
use Rattle.lab_ahead.specs.declared.batch.Batch.{Batch}
use Rattle.lab_ahead.specs.declared.batch.Promise.{Promise}
use Rattle.lab_ahead.specs.declared.batch.Run.{Run}
use Rattle.lab_ahead.specs.declared.ends.End.{End}
use Rattle.lab_ahead.specs.declared.times.Left.{Left}
use Rattle.lab_ahead.specs.declared.waits.Span.{Span}
use Rattle.lab_ahead.specs.Batches.{batch_of_text}
use Rattle.lab_ahead.specs.Ends.{left_for}
use Rattle.script_text.specs.declared.command.Command.{Command}
use Rattle.script_text.specs.declared.command.Command.TheVariants as commands
use Rattle.script_text.specs.declared.reply.Reply.{Reply}
use Rattle.script_text.specs.declared.reply.Reply.TheVariants as replies
use Rattle.lab_tasks.specs.Needs.{◌>>=◌, OrRefused, asked, need_idle_out, need_lab, need_meaning, refused}
use Rattle.lab_tasks.specs.Mappings.{begun_as, in_slot, task_in}
use Rattle.lab_tasks.specs.Tasks.{Task, Swap, Tell, IsMild}
use Rattle.lab_judge.specs.Searches.{need_mapping}
use Rattle.lab_judge.specs.Serving.{IsTested, IsTestedAs, JudgedBatch, JudgedPlace, JudgedRunAt, Serving, claimers_of, first_run, fits, full, span_of, waits}
use Rattle.lab_core.specs.BatchList.{JudgedNextRun, runs_in_turn}
use Rattle.lab_core.specs.Sessions.{OpenSwap, Setting, names_of}
use Rattle.lab_core.specs.LabSteps.{has_space}
use Rattle.lab_judge.proofs.Fits.{IsFit, is_outer}
use Rattle.lab_core.proofs.Listings.{IsAboutThese, IsFitFor, IsPlain}
use Rattle.lab_core.proofs.Parts.{is_more}

-- what stands for a run
abbrev pub stand_in : List ℕ → Command
stand_in exp = commands.Swapin false exp 0

-- it tells of no swap that has begun
abbrev pub TellsNoMore : Result Task Reply → Type 0
TellsNoMore (Err reply) = is_more reply ≡ false
TellsNoMore (Ok (Tell reply)) = (is_more reply ≡ false) × IsMild reply
TellsNoMore (Ok (Swap own way)) = Unit {0}
TellsNoMore judgement = ⊥

module _ (s : LabState) (busy : Bool) (count : ℕ) (exp : List ℕ) where
  abbrev pub FitsRun : Result Task Reply → Type 0
  FitsRun j = IsFit s (stand_in exp) busy count j × IsPlain j × TellsNoMore j

  -- before its room among the open swaps is asked for
  abbrev IsOf : Result Task Reply → Type 0
  IsOf (Err reply) = (is_outer reply ≡ false) × (is_more reply ≡ false)
  IsOf (Ok (Tell reply)) = (is_outer reply ≡ false) × (is_more reply ≡ false) × IsMild reply
  IsOf (Ok (Swap own way)) = (own ≡ exp) × (busy ≡ false)
  IsOf judgement = ⊥

  abbrev slot_if : Bool → Result (Unit {0}) Reply
  slot_if b = if b then Err replies.FullSwaps else Ok tt

  abbrev in_room : Bool → Task → Result Task Reply
  in_room b task = slot_if b >>= (λ slot. Ok (begun_as false task))

  room_fits : (b : Bool) → nat_le 16 count ≡ b → (task : Task) → IsOf (Ok task) → FitsRun (in_room b task)
  room_fits true is task of = (refl, tt, refl)
  room_fits false is (Tell reply) of = (of.0, tt, (of.1, of.2))
  room_fits false is (Swap own way) of = ((ap (λ (n : List ℕ). Some n) (sym of.0), of.1, is), tt, tt)
  room_fits false is task of = absurd of

  slot_fits : (j : Result Task Reply) → IsOf j → FitsRun (in_slot count false j)
  slot_fits (Err reply) of = (of.0, tt, of.1)
  slot_fits (Ok task) of = room_fits (nat_le 16 count) refl task of

  idle_refuses : (reply : Reply) → need_idle_out s busy exp ≡ Err reply → IsOf (Err reply)
  idle_refuses reply is = grind arith

  idle_gives : (lab : Lab) (e : Experiment) → need_idle_out s busy exp ≡ Ok (lab, e) → (e.name ≡ exp) × (busy ≡ false)
  idle_gives lab e is = grind (arith, name_is)

  mapping_refuses : (found : Solved) (reply : Reply) (name : List ℕ) → need_mapping name found ≡ Err reply → IsOf (Err reply)
  mapping_refuses found reply name is = grind arith

  tested_fits : (space : Bool) (lab : Lab) (left : List Left) (promises : List Promise) (span : Span) (own : List ℕ) (way : Way) (j : Result Task Reply) → (own ≡ exp) × (busy ≡ false) → IsTested space lab left promises span own way j → IsOf j
  tested_fits space lab left promises span own way j of (full no' is) = subst IsOf (sym is) of
  tested_fits space lab left promises span own way j of (fits room all is) = subst IsOf (sym is) of
  tested_fits space lab left promises span own way j of (waits room wait short is) = subst IsOf (sym is) (refl, refl, (refl, refl, refl))

  module _ (rule : RuleNumber) (moment : ℕ) (promises : List Promise) (ends : List End) (run : Run) (named : run.exp ≡ exp) (space : Record → Bool) where
    place_fits : (lab : Lab) (e : Experiment) (j : Result Task Reply) → (e.name ≡ exp) × (busy ≡ false) → JudgedPlace rule moment promises ends run space s lab e j → IsOf j
    place_fits lab e j of placed = by placed.tested
      where
        by : OrRefused (need_mapping e.name placed.found) (λ m. IsTestedAs space lab (left_for (claimers_of (length lab.nodes) s.experiments) ends m.places) promises (span_of moment run) (task_in s lab e m)) j → IsOf j
        by (refused reply needed is) = subst IsOf (sym is) (mapping_refuses placed.found reply e.name needed)
        by (asked m some tested) = tested_fits _ lab _ promises (span_of moment run) e.name _ j of tested

    test_is : (j : Result Task Reply) → OrRefused (need_idle_out s busy exp) (λ p. JudgedPlace rule moment promises ends run space s p.0 p.1) j → IsOf j
    test_is j (refused reply needed is) = subst IsOf (sym is) (idle_refuses reply needed)
    test_is j (asked p needed placed) = place_fits p.0 p.1 j (idle_gives p.0 p.1 needed) placed

-- WHAT IS JUDGED OF A RUN fits it, and tells of no swap that has begun
module _ (s : LabState) (busy : Bool) (count : ℕ) (rule : RuleNumber) (moment : ℕ) (promises : List Promise) (ends : List End) (run : Run) (space : Record → Bool) where
  pub run_here : (j : Result Task Reply) → JudgedRunAt rule moment promises ends run space s busy count j → FitsRun s busy count run.exp j
  run_here j judged =
      subst (FitsRun s busy count run.exp) (sym judged.is) (slot_fits s busy count run.exp judged.before (test_is s busy count run.exp rule moment promises ends run refl space judged.before judged.judged))

-- each of these runs is of one of the experiments
abbrev pub AreOf : (List ℕ → Bool) → List Run → Type 0
AreOf about runs = (run : Run) → Has runs run → about run.exp ≡ true

drop_of : (about : List ℕ → Bool) (runs : List Run) → AreOf about runs → AreOf about (drop 1 runs)
drop_of about [] of run has = absurd has
drop_of about (first ∷ runs) of run has = of run (inr has)

pub runs_are : (rule : RuleNumber) (moment : ℕ) (about : List ℕ → Bool) → IsAboutThese (runs_in_turn rule moment) (λ at. AreOf about at.left) about
runs_are rule moment about = record { on = λ at reply of. drop_of about at.left of; each = each }
  where
    next_fits : (promises : List Promise) (ends : List End) (left : List Run) → AreOf about left → (space : Record → Bool) (s : LabState) (opens : List OpenSwap) (j : Result Task Reply) → JudgedNextRun rule moment promises ends left space s opens j → IsFitFor about s opens j
    next_fits promises ends [] of space s opens j judged = absurd judged
    next_fits promises ends (run ∷ left) of space s opens j judged =
        let f = run_here s (is_busy (names_of opens) run.exp) (length opens) rule moment promises ends run space j judged in
        record { command = stand_in run.exp; fit = f.0; named = λ n is. subst (λ (x : List ℕ). about x ≡ true) (let same : run.exp ≡ n = cc is in same) (of run (inl refl)); other = λ is. cc is; plain = f.1 }

    each : (at : Serving) → AreOf about at.left → (set : Setting) (s : LabState) (opens : List OpenSwap) (j : Result Task Reply) → (runs_in_turn rule moment).Judges at set s opens j → IsFitFor about s opens j
    each at of set s opens j judged = next_fits at.promises at.ends at.left of (λ entry. has_space set entry) s opens j judged

-- WHAT REFUSES THE WHOLE: a test that is false of `no lab` and of a fault of a text is false of that; and what nothing refuses begins at the first run
module _ (f : Reply → Bool) (of_lab : f replies.NoLab ≡ false) (of_bad : (fault : TextFault) → f (replies.BadBatch fault) ≡ false) (s : LabState) (text : List ℕ) where
  lab_refuses : (lab : Option Lab) (reply : Reply) → need_lab lab ≡ Err reply → f reply ≡ false
  lab_refuses None reply is = let same : replies.NoLab ≡ reply = cc is in ap f (sym same) ∙ of_lab
  lab_refuses (Some lab) reply is = absurd (cc is)

  text_refuses : (meaning : Result Batch TextFault) (reply : Reply) → need_meaning replies.BadBatch meaning ≡ Err reply → f reply ≡ false
  text_refuses (Ok batch) reply is = absurd (cc is)
  text_refuses (Err fault) reply is = let same : replies.BadBatch fault ≡ reply = cc is in ap f (sym same) ∙ of_bad fault

  err_same : (a b : Reply) → ◌≡◌ {A = Result Serving Reply} (Err a) (Err b) → f b ≡ false → f a ≡ false
  err_same a b is calm = let same : a ≡ b = cc is in ap f same ∙ calm

  pub batch_refuses : (reply : Reply) → JudgedBatch s text (Err reply) → f reply ≡ false
  batch_refuses reply (refused r needed is) = err_same reply r is (lab_refuses s.lab r needed)
  batch_refuses reply (asked lab needed judged) = by judged
    where
      by : OrRefused (need_meaning replies.BadBatch (batch_of_text text)) (λ batch judgement. judgement ≡ Ok (first_run batch)) (Err reply) → f reply ≡ false
      by (refused r faulty is) = err_same reply r is (text_refuses (batch_of_text text) r faulty)
      by (asked batch means is) = let none : ◌≡◌ {A = Result Serving Reply} (Err reply) (Ok (first_run batch)) = is in absurd (cc none)

meaning_is : (meaning : Result Batch TextFault) (batch : Batch) → need_meaning replies.BadBatch meaning ≡ Ok batch → meaning ≡ Ok batch
meaning_is (Ok one) batch is = let same : one ≡ batch = cc is in ap (λ (b : Batch). Ok b) same
meaning_is (Err fault) batch is = absurd (cc is)

pub batch_first : (s : LabState) (text : List ℕ) (start : Serving) → JudgedBatch s text (Ok start) → (batch : Batch) × (batch_of_text text ≡ Ok batch) × (start ≡ first_run batch)
batch_first s text start (refused r needed is) = let none : ◌≡◌ {A = Result Serving Reply} (Ok start) (Err r) = is in absurd (cc none)
batch_first s text start (asked lab needed judged) = by judged
  where
    by : OrRefused (need_meaning replies.BadBatch (batch_of_text text)) (λ batch judgement. judgement ≡ Ok (first_run batch)) (Ok start) → (batch : Batch) × (batch_of_text text ≡ Ok batch) × (start ≡ first_run batch)
    by (refused r faulty is) = let none : ◌≡◌ {A = Result Serving Reply} (Ok start) (Err r) = is in absurd (cc none)
    by (asked batch means is) = (batch, meaning_is (batch_of_text text) batch means, let same : start ≡ first_run batch = cc is in same)
