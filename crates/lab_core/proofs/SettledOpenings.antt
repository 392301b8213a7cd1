-- The state after `open`: after reading, the settling of all that moves, and the move of the journal.
use Rattle.std.proofs.Common.{◌≡◌, inl, inr, ℕ, true, false, List, [], ◌++◌, Option, Some, None, Result, Ok, Err, IfOk, IfSome, refl, sym, ap, subst, ◌∙◌, append_assoc}
use Rattle.std.proofs.lemmas.List.{append-nil}
use Rattle.lab_base.proofs.Tests.{some_weaker}
use Rattle.plant.specs.Events.{Event}
use Rattle.plant.specs.Seen.{Seen}
use Rattle.plant.specs.Told.{Told, with_steps}
use Rattle.plant.specs.declared.step.Side.{Side}
use Rattle.plant.proofs.Traces.{with_steps-append}
use Rattle.records_model.specs.Labs.{LabState}
use Rattle.records_model.specs.Works.{IsSound}
use Rattle.journal_disk.specs.Epochs.{epoch_of}
use Rattle.journal_disk.specs.Standing.{side_of, length_of}
use Rattle.journal_disk.specs.declared.journal.Journal.{Journal}
use Rattle.journal_disk.specs.declared.fault.OpenFault.{OpenFault}
use Rattle.journal_disk.specs.declared.fault.OpenFault.TheVariants as faults
use Rattle.swap_turns.specs.Pieces.{has_outer, is_miss, is_outer}
use Rattle.swap_turns.proofs.Quiet.{shows}
use Rattle.lab_state.specs.Texts.{the_texts}
use Rattle.swap_txn.specs.Steps.{live_of}
use Rattle.swap_turns.specs.Running.{Stands}
use Rattle.swap_turns.specs.Settling.{BreaksOff, HasBrokenOff, Settles}
use Rattle.swap_turns.specs.Showing.{Shows}
use Rattle.swap_turns.specs.Turning.{Outcome, Unwritten, Stopped}
use Rattle.swap_turns.proofs.Closing.{Images, closes_after}
use Rattle.swap_turns.proofs.Showing.{settles_show, broken_shows}
use Rattle.swap_turns.proofs.Telling.{if_back}
use Rattle.recovery.specs.Due.{swaps_of}
use Rattle.lab_core.specs.Controller.{Control, Works}
use Rattle.lab_core.specs.Moments.{AllStandFor, IsLabAt}
use Rattle.lab_core.specs.Compaction.{AfterCompaction, IsCompacted, IsPlaced, IsToMove, MoveEnds, MoveSteps}
use Rattle.lab_core.specs.Opening.{ReadSteps, HasRead, HasSettledAll, ReadEnds, ReadTold, SettlesInPart, ShiftsInPart, OpenEnds, OpenSteps, OpenTold, AfterOpening}
use Rattle.lab_core.proofs.Compacting.{length_at, live_at, live_once}
use Rattle.lab_core.proofs.Openings.{all_at, lab_at}

-- NOTHING WAS SETTLED, since reading failed
pub not_read : (limit : ℕ) (before now : Option Told) (fault : OpenFault) → ReadTold before now limit (Err fault) → OpenTold before now limit (Err fault)
not_read limit before now fault read = (
  read.0,
  [],
  read.1 ∙ ap (λ l. with_steps before l) (sym (append-nil read.0)),
  some_weaker before (λ t. ReadSteps t.trace read.0 × ReadEnds t.trace read.0 limit (Err fault)) (λ t. OpenSteps t.trace read.0 [] limit (Err fault))
      (λ t r. record { reads = r.0; no_outer = refl; ends = inl (refl, r.1); sound = λ before. subst (λ l. IsSound the_texts (t.trace ++ l)) (sym (append-nil read.0)) (r.0.sound before) }) read.2,
)

module _ (limit : ℕ) (before mid now : Seen) (c : Control) (read : ReadTold before.told mid.told limit (Ok c)) where
  abbrev Left : Result Control OpenFault → Type 0
  Left result = OpenTold before.told now.told limit result

  -- what is said of the steps of the settling, after those of reading
  put : (moving : List Event) (result : Result Control OpenFault) → now.told ≡ with_steps mid.told moving → has_outer moving ≡ false → IfSome mid.told (λ t. IsSound the_texts t.trace → IsSound the_texts (t.trace ++ moving))
      → IfSome before.told (λ t. HasRead t.trace read.0 limit c.lab → OpenEnds t.trace read.0 moving limit result) → Left result
  put moving result told quiet sound ends = (
    read.0,
    moving,
    told ∙ ap (λ o. with_steps o moving) read.1 ∙ with_steps-append before.told read.0 moving,
    by before.told read.2 (if_back before.told mid.told read.0 (λ l. IsSound the_texts l → IsSound the_texts (l ++ moving)) read.1 sound) ends,
  )
    where
      by : (o : Option Told) → IfSome o (λ t. ReadSteps t.trace read.0 × HasRead t.trace read.0 limit c.lab) → IfSome o (λ t. IsSound the_texts (t.trace ++ read.0) → IsSound the_texts ((t.trace ++ read.0) ++ moving))
          → IfSome o (λ t. HasRead t.trace read.0 limit c.lab → OpenEnds t.trace read.0 moving limit result) → IfSome o (λ t. OpenSteps t.trace read.0 moving limit result)
      by None r s e = tt
      by (Some t) r s e = record { reads = r.0; no_outer = quiet; ends = e r.1; sound = λ first. subst (λ l. IsSound the_texts l) (append_assoc t.trace read.0 moving) (s (r.0.sound first)) }

  -- it broke off
  abbrev Broken : Outcome → List Event → LabState → Type 0
  Broken outcome steps lab = BreaksOff c.lab (swaps_of [] c.lab.experiments) steps outcome lab

  in_part : (outcome : Outcome) → (h : HasBrokenOff the_texts c.lab (swaps_of [] c.lab.experiments) mid now outcome) → IfSome before.told (λ t. HasRead t.trace read.0 limit c.lab → SettlesInPart t.trace read.0 h.steps limit outcome)
  in_part outcome h =
      let closed = closes_after the_texts before.told mid.told read.0 h.steps (Broken outcome) (λ steps lab. Broken outcome h.steps lab) read.1
      (some_weaker before.told (λ t. ReadSteps t.trace read.0 × HasRead t.trace read.0 limit c.lab) (λ t. IsSound the_texts t.trace → IsSound the_texts (t.trace ++ read.0)) (λ t r. r.0.sound) read.2) (λ lab broken. broken) h.leaves in
      some_weaker before.told (λ t. Images the_texts t.trace (read.0 ++ h.steps) (λ lab. Broken outcome h.steps lab)) (λ t. HasRead t.trace read.0 limit c.lab → SettlesInPart t.trace read.0 h.steps limit outcome)
      (λ t images has_read. record { start = c.lab; read = has_read; lab = closed.after; breaks = closed.is; images = images }) closed.images

  -- THE SETTLING BROKE OFF, by its answer
  pub then_broken : (fault : OpenFault) → AfterOpening c mid now (Err fault) → Left (Err fault)
  then_broken faults.Memory (journal, lab, first) =
      let h = first.has in
      put h.steps (Err faults.Memory) h.told (settles_show _ _ _ h.steps lab h.settled).outer h.sound
      (some_weaker before.told (λ t. Stands the_texts (t.trace ++ (read.0 ++ h.steps)) journal lab) (λ t. HasRead t.trace read.0 limit c.lab → OpenEnds t.trace read.0 h.steps limit (Err faults.Memory))
      (λ t stands has_read. inr (inl (record { start = c.lab; read = has_read; lab = lab; some = record { past = first.past; rest = first.rest; all = first.all; outcomes = first.outcomes; settles = h.settled }; at = lab_at _ journal stands.records lab stands.at stands.lab_of; images = all_at _ journal stands.records lab stands.at stands.lab_of })))
      (if_back before.told now.told (read.0 ++ h.steps) (λ l. Stands the_texts l journal lab) (h.told ∙ ap (λ o. with_steps o h.steps) read.1 ∙ with_steps-append before.told read.0 h.steps) h.work.stands))
  then_broken faults.Plant h =
      let shows = broken_shows _ _ h.steps Unwritten h.leaves.after h.leaves.is in
      put h.steps (Err faults.Plant) h.told shows.outer h.sound
      (some_weaker before.told (λ t. HasRead t.trace read.0 limit c.lab → SettlesInPart t.trace read.0 h.steps limit Unwritten) (λ t. HasRead t.trace read.0 limit c.lab → OpenEnds t.trace read.0 h.steps limit (Err faults.Plant))
      (λ t part has_read. inr (inl (shows.miss_is, part has_read))) (in_part Unwritten h))
  then_broken faults.Stopped h =
      put h.steps (Err faults.Stopped) h.told (broken_shows _ _ h.steps Stopped h.leaves.after h.leaves.is).outer h.sound
      (some_weaker before.told (λ t. HasRead t.trace read.0 limit c.lab → SettlesInPart t.trace read.0 h.steps limit Stopped) (λ t. HasRead t.trace read.0 limit c.lab → OpenEnds t.trace read.0 h.steps limit (Err faults.Stopped))
      (λ t part has_read. inr (inl (part has_read))) (in_part Stopped h))
  then_broken (faults.Bad side at) h = absurd h

  -- ALL WERE SETTLED, and then the journal was moved or not
  module _ (settled : Control) (after : AfterOpening c mid now (Ok settled)) (stood : Works mid.told c) (works : Works now.told settled) (same : live_of settled.journal ≡ live_of c.journal)
      (last : Option Told) (result : Result Control OpenFault) (move : AfterCompaction settled now.told last result) (stays : IfOk result (λ new. new.lab ≡ settled.lab)) where
    abbrev moving : List Event
    moving = after.1.has.steps

    abbrev shifting : List Event
    shifting = move.0

    abbrev all : List Event
    all = read.0 ++ (moving ++ shifting)

    abbrev j : Journal
    j = settled.journal

    now_told : now.told ≡ with_steps before.told (read.0 ++ moving)
    now_told = after.1.has.told ∙ ap (λ o. with_steps o moving) read.1 ∙ with_steps-append before.told read.0 moving

    last_told : last ≡ with_steps before.told all
    last_told = move.1 ∙ ap (λ o. with_steps o shifting) now_told ∙ with_steps-append before.told (read.0 ++ moving) shifting ∙ ap (λ l. with_steps before.told l) (append_assoc read.0 moving shifting)

    module _ (t : Told) (r : ReadSteps t.trace read.0 × HasRead t.trace read.0 limit c.lab) (first : Stands the_texts (t.trace ++ read.0) c.journal c.lab)
        (then : Stands the_texts (t.trace ++ (read.0 ++ moving)) j settled.lab) (m : MoveSteps (t.trace ++ (read.0 ++ moving)) shifting settled.lab j result)
        (sound : IsSound the_texts (t.trace ++ read.0) → IsSound the_texts ((t.trace ++ read.0) ++ moving)) where
      placed : IsPlaced t.trace (t.trace ++ (read.0 ++ moving)) (length_of j) (side_of j) (epoch_of j)
      placed = record {
        length_is = length_at _ j then.records then.at;
        live = live_at _ j then.records then.at then.epoch;
        kept = λ was old live.
            let once = live_once _ _ _ _ _ (live_at _ c.journal first.records first.at first.epoch) (r.1.kept was old live) in
            (ap (λ (x : Side × ℕ). x.0) same ∙ once.0, ap (λ (x : Side × ℕ). x.1) same ∙ once.1);
      }

      settled_all : (lab : LabState) → lab ≡ settled.lab → HasSettledAll t.trace read.0 moving limit (length_of j) (side_of j) (epoch_of j) lab
      settled_all lab is =
          let settles = after.1.has.settled in
          subst (λ u. HasSettledAll t.trace read.0 moving limit (length_of j) (side_of j) (epoch_of j) u) (sym is) (record { start = c.lab; read = r.1; outcomes = after.1.outcomes; settles = settles; placed = placed })

      joined : (t.trace ++ (read.0 ++ moving)) ++ shifting ≡ t.trace ++ all
      joined = append_assoc t.trace (read.0 ++ moving) shifting ∙ ap (λ l. t.trace ++ l) (append_assoc read.0 moving shifting)

      -- over a sound trace each possible image stands for the lab
      sound_then : IsSound the_texts t.trace → IsSound the_texts (t.trace ++ (read.0 ++ moving))
      sound_then begins = subst (λ l. IsSound the_texts l) (append_assoc t.trace read.0 moving) (sound (r.0.sound begins))

      in_move : IsToMove (length_of j) (epoch_of j) settled.lab → (IsSound the_texts (t.trace ++ (read.0 ++ moving)) → AllStandFor ((t.trace ++ (read.0 ++ moving)) ++ shifting) settled.lab) → ShiftsInPart t.trace read.0 (moving ++ shifting) limit
      in_move due stand = record {
        moving = moving;
        shifting = shifting;
        parts = refl;
        length = length_of j;
        side = side_of j;
        epoch = epoch_of j;
        lab = settled.lab;
        settled = settled_all settled.lab refl;
        to_move = due;
        shifts = m.shifts;
        aside = m.aside;
        images = λ begins. subst (λ l. AllStandFor l settled.lab) joined (stand (sound_then begins));
      }

      quiet : Shows moving false
      quiet = settles_show _ _ _ moving settled.lab after.1.has.settled

      by_answer : (answer : Result Control OpenFault) → IfOk answer (λ new. new.lab ≡ settled.lab) → MoveEnds (t.trace ++ (read.0 ++ moving)) shifting settled.lab j answer → OpenEnds t.trace read.0 (moving ++ shifting) limit answer
      by_answer (Ok new) kept ends = record {
        moving = moving;
        shifting = shifting;
        parts = refl;
        length = length_of j;
        side = side_of j;
        epoch = epoch_of j;
        settled = settled_all new.lab kept;
        compacts = subst (λ u. IsCompacted (t.trace ++ (read.0 ++ moving)) shifting (length_of j) (side_of j) (epoch_of j) u) (sym kept) ends;
        shifts = m.shifts;
        aside = m.aside;
      }
      by_answer (Err faults.Plant) kept ends = inr (inr (shows is_miss (moving ++ shifting) moving shifting false true refl quiet.miss_is ends.0, in_move ends.1 ends.2))
      by_answer (Err faults.Stopped) kept ends = inr (inr (in_move ends.0 ends.1))
      by_answer (Err faults.Memory) kept ends =
          let none : moving ++ shifting ≡ moving = ap (λ l. moving ++ l) ends ∙ append-nil moving in
          inr (inl (record {
            start = c.lab;
            read = r.1;
            lab = settled.lab;
            some = record {
              past = swaps_of [] c.lab.experiments;
              rest = [];
              all = sym (append-nil (swaps_of [] c.lab.experiments));
              outcomes = after.1.outcomes;
              settles = subst (λ l. Settles c.lab (swaps_of [] c.lab.experiments) after.1.outcomes l settled.lab) (sym none) after.1.has.settled;
            };
            at = subst (λ l. IsLabAt (t.trace ++ (read.0 ++ l)) settled.lab) (sym none) (lab_at _ j then.records settled.lab then.at then.lab_of);
            images = subst (λ l. AllStandFor (t.trace ++ (read.0 ++ l)) settled.lab) (sym none) (all_at _ j then.records settled.lab then.at then.lab_of);
          }))
      by_answer (Err (faults.Bad side at)) kept ends = absurd ends

      open_steps : OpenSteps t.trace read.0 (moving ++ shifting) limit result
      open_steps = record {
        reads = r.0;
        no_outer = shows is_outer (moving ++ shifting) moving shifting false false refl quiet.outer m.no_outer;
        ends = by_answer result stays m.ends;
        sound = λ begins. subst (λ l. IsSound the_texts l) joined (m.sound (sound_then begins));
      }

    pub then_moved : OpenTold before.told last limit result
    then_moved = (
      read.0,
      moving ++ shifting,
      last_told,
      by before.told read.2 (if_back before.told mid.told read.0 (λ l. Stands the_texts l c.journal c.lab) read.1 stood.stands) (if_back before.told now.told (read.0 ++ moving) (λ l. Stands the_texts l j settled.lab) now_told works.stands)
          (if_back before.told now.told (read.0 ++ moving) (λ l. MoveSteps l shifting settled.lab j result) now_told move.2) (if_back before.told mid.told read.0 (λ l. IsSound the_texts l → IsSound the_texts (l ++ moving)) read.1 after.1.has.sound),
    )
      where
        by : (o : Option Told) → IfSome o (λ t. ReadSteps t.trace read.0 × HasRead t.trace read.0 limit c.lab) → IfSome o (λ t. Stands the_texts (t.trace ++ read.0) c.journal c.lab) → IfSome o (λ t. Stands the_texts (t.trace ++ (read.0 ++ moving)) j settled.lab)
            → IfSome o (λ t. MoveSteps (t.trace ++ (read.0 ++ moving)) shifting settled.lab j result) → IfSome o (λ t. IsSound the_texts (t.trace ++ read.0) → IsSound the_texts ((t.trace ++ read.0) ++ moving))
            → IfSome o (λ t. OpenSteps t.trace read.0 (moving ++ shifting) limit result)
        by None r s0 s1 m snd = tt
        by (Some t) r s0 s1 m snd = open_steps t r s0 s1 m snd
