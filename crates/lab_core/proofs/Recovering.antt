-- The state after `recover`, by that after the settling of all that moves and has no open swap.
use Rattle.std.proofs.Common.{◌≡◌, ◌≢◌, ◌↔◌, ◌⊎◌, inl, inr, IsErrOf, IsTrue, Result, ℕ, Bool, true, false, List, [], ◌∷◌, ◌++◌, Option, Some, None, Ok, Err, refl, sym, ap, ◌∙◌, subst}
use Rattle.std.specs.Prelude.{if◌then◌else◌}
use Rattle.std.proofs.lemmas.List.{append-nil}
use Rattle.std.proofs.lemmas.Option.{same_Some}
use Rattle.lab_base.specs.Lists.{Has, listed}
use Rattle.lab_base.proofs.Members.{Has-flat_map, Has-left}
use Rattle.lab_base.proofs.Tests.{same_tests, never_both}
use Rattle.plant.specs.Events.{Event, Restarted}
use Rattle.plant.specs.Seen.{Seen}
use Rattle.virt_topo.specs.declared.experiment.Experiment.{Experiment}
use Rattle.journal_disk.specs.Standing.{limit_of}
use Rattle.swap_turns.specs.Pieces.{has_outer, has_miss}
use Rattle.virt_topo.specs.declared.experiment.Phase.{Phase}
use Rattle.virt_topo.specs.declared.experiment.Phase.TheVariants.{Out, In, Moving}
use Rattle.records_model.specs.Labs.{LabState}
use Rattle.records_model.proofs.Finding.{none_some}
use Rattle.lab_state.specs.Texts.{the_texts}
use Rattle.script_text.specs.declared.reply.Reply.{Reply}
use Rattle.script_text.specs.declared.reply.Reply.TheVariants as replies
use Rattle.swap_mgr.specs.Open.{AreNames}
use Rattle.swap_mgr.proofs.GoingOn.{all_stay}
use Rattle.swap_mgr.proofs.Holding.{named_open}
use Rattle.swap_txn.specs.declared.live.Live.{Live}
use Rattle.swap_turns.specs.Settling.{BreaksOff, HasBrokenOff, HasSettled, Settles}
use Rattle.swap_turns.specs.Swaps.{Swap}
use Rattle.swap_turns.specs.Turning.{Outcome, Unwritten, Stopped}
use Rattle.swap_turns.proofs.Showing.{broken_shows}
use Rattle.recovery.specs.Due.{due, is_busy, swap_if, swaps_of}
use Rattle.recovery.specs.Settle.{AfterAll, SettledAll, SettledSome}
use Rattle.recovery.specs.declared.fault.SettleFault.{SettleFault}
use Rattle.recovery.specs.declared.fault.SettleFault.TheVariants as settling
use Rattle.recovery.specs.declared.all.Settled.{Settled}
use Rattle.lab_core.specs.declared.fault.CoreFault.TheVariants as faults
use Rattle.lab_core.specs.Breaks.{Breaks, StartsAfter, stopped, failed}
use Rattle.lab_core.specs.Controller.{Control, WorksWith}
use Rattle.lab_tasks.specs.Tasks.{Recover}
use Rattle.lab_judge.specs.Judge.{Is}
use Rattle.lab_core.specs.LabSteps.{does}
use Rattle.lab_core.specs.Obey.{start_of, Obeyed, between}
use Rattle.lab_core.specs.Perform.{recover_answer}
use Rattle.lab_core.specs.Recovery.{settled, broken_off, within}
use Rattle.lab_core.specs.Sessions.{OpenSwap, Closed, names_of}
use Rattle.lab_core.proofs.Obey.{RunsOn, as_open, closed_by, false_true, goes_on, halted, same_open, wants, IsDone}
use Rattle.lab_core.proofs.OpenSwaps.{Pair, since_later}
use Rattle.lab_tasks.proofs.Busy.{busy_has, has_busy}
use Rattle.lab_core.proofs.OpenNames.{has_opens, opens_has}

-- ---- busy names
-- the same names are busy
busy_same : (xs ys : List (List ℕ)) → ((name : List ℕ) → Has xs name → Has ys name) → ((name : List ℕ) → Has ys name → Has xs name) → (name : List ℕ) → is_busy xs name ≡ is_busy ys name
busy_same xs ys to from name = same_tests (is_busy xs name) (is_busy ys name) (λ h. has_busy ys name (to name (busy_has xs name h))) (λ h. has_busy xs name (from name (busy_has ys name h)))

swaps_same : (xs ys : List (List ℕ)) → ((name : List ℕ) → is_busy xs name ≡ is_busy ys name) → (es : List Experiment) → swaps_of xs es ≡ swaps_of ys es
swaps_same xs ys same [] = refl
swaps_same xs ys same (e ∷ es) = λ i. listed (if same e.name i then None else swap_if e.name e.phase) ++ swaps_same xs ys same es i

listed_is : {X : Type 0} (o : Option X) (x : X) → Has (listed o) x → o ≡ Some x
listed_is None x h = absurd h
listed_is (Some y) x (inl e) = ap Some e
listed_is (Some y) x (inr h) = absurd h

-- what is to be settled isn't busy
due_if : (b : Bool) (name : List ℕ) (phase : Phase) (p : Swap) → ◌≡◌ {A = Option Swap} (if b then None else swap_if name phase) (Some p) → (b ≡ false) × (p.name ≡ name)
due_if true name phase p h = none_some p h
due_if false name Out p h = none_some p h
due_if false name (In mapping tags) p h = none_some p h
due_if false name (Moving old new) p h = (refl, sym (ap (λ (x : Swap). x.name) (same_Some _ p h)))

due_idle : (busy : List (List ℕ)) (es : List Experiment) (p : Swap) → Has (swaps_of busy es) p → is_busy busy p.name ≡ false
due_idle busy es p h =
    let e = Has-flat_map (λ x. listed (due busy x)) es p h in
    let is = due_if (is_busy busy e.0.name) e.0.name e.0.phase p (listed_is (due busy e.0) p e.2) in
    ap (λ n. is_busy busy n) is.1 ∙ is.0

module _ (devices : ℕ) (exp : Option (List ℕ)) (before now : Seen) (old new : Control) (opens : List OpenSwap) (works : WorksWith before old opens) (same : new.swaps ≡ old.swaps) (busy : List (List ℕ)) (names : AreNames old.swaps busy) where
  -- the manager's names are those of the open swaps
  held_name : (name : List ℕ) → Has (names_of opens) name → Has busy name
  held_name name h = let o = opens_has before old opens works name h in subst (λ (n : List ℕ). Has busy n) o.named (names.each o.state o.stands)

  all_same : swaps_of busy old.lab.experiments ≡ swaps_of (names_of opens) old.lab.experiments
  all_same = swaps_same busy (names_of opens) (busy_same busy (names_of opens) (λ name h. has_opens before old opens works name (names.only name h)) held_name) old.lab.experiments

  abbrev ps : List Swap
  ps = swaps_of (names_of opens) old.lab.experiments

  abbrev Broken : Outcome → List Event → LabState → Type 0
  Broken outcome steps lab = BreaksOff old.lab ps steps outcome lab

  -- each open swap is open still
  apart : (q : Pair) → Has works.pairs q → (p : Swap) → is_busy busy p.name ≡ false → q.0.swap.name ≢ p.name
  apart q has p idle is =
      never_both (is_busy busy p.name)
      (has_busy busy p.name (subst (λ (n : List ℕ). Has busy n) (named_open old.lab q.0 q.1 (works.working.each q has) ∙ is) (names.each q.1 (works.holds.stands q has)))) idle

  works_by : (swaps : List Swap) (outcomes : List Outcome) → ((p : Swap) → Has swaps p → is_busy busy p.name ≡ false) → HasSettled the_texts old.lab swaps before now old.journal new.journal outcomes new.lab → WorksWith now new opens
  works_by swaps outcomes idle h = record {
    pairs = works.pairs;
    are = works.are;
    working = all_stay the_texts old.lab new.lab works.pairs before now old.journal new.journal works.working h.work (λ q x has opened running. h.others q x (λ p in_swaps. apart (q, x) has p (idle p in_swaps)) opened running);
    holds = subst (λ (l : List Live). Rattle.swap_mgr.specs.Managing.Holds l works.pairs) (sym same) works.holds;
    since = λ o has. since_later o before.faults.devices now.faults.devices h.later.devices (works.since o has);
  }

  -- all were settled
  all_recovered : (all : Settled) → SettledAll the_texts old.lab busy before now old.journal new.journal new.lab all → limit_of new.journal ≡ limit_of old.journal → RunsOn before now
      → Obeyed devices before now (Is (Ok Recover)) old new opens exp (Ok (replies.Recovered all.done all.stuck))
  all_recovered all is limit runs =
      let h = is.has in
      goes_on devices before now (Is (Ok Recover)) old new opens opens exp h.steps h.told h.sound h.later limit (replies.Recovered all.done all.stuck) refl (as_open exp (Some (replies.Recovered all.done all.stuck)) opens opens devices (λ o has. refl) (same_open opens))
      (does (Ok Recover) refl (settled is.outcomes (subst (λ (l : List Swap). Settles old.lab l is.outcomes h.steps new.lab) all_same h.settled) (λ i. Some (replies.Recovered (is.counts.done i) (is.counts.stuck i))) refl))
      (works_by (swaps_of busy old.lab.experiments) is.outcomes (λ p has. due_idle busy old.lab.experiments p has) h) h.longer (λ blaming. false_true blaming) (λ blaming. false_true blaming) runs

  -- memory was wanting
  some_recovered : SettledSome the_texts old.lab busy before now old.journal new.journal new.lab → limit_of new.journal ≡ limit_of old.journal → RunsOn before now → Obeyed devices before now (Is (Ok Recover)) old new opens exp (Err faults.Memory)
  some_recovered first limit runs =
      let h = first.has in
      wants devices before now (Is (Ok Recover)) old new opens opens exp h.steps h.told h.sound h.later limit (same_open opens)
      (between refl (record { past = first.past; rest = first.rest; all = sym all_same ∙ first.all; outcomes = first.outcomes; settles = h.settled }) refl)
      (works_by first.past first.outcomes (λ p has. due_idle busy old.lab.experiments p (subst (λ (l : List Swap). Has l p) (sym first.all) (Has-left first.past first.rest p has))) h) h.longer runs

  -- it broke off
  broken_so : (outcome : Outcome) (steps behind : List Event) (reply : Reply) → (behind ≡ []) ⊎ StartsAfter outcome behind → Breaks (steps ++ behind) (Some reply) → (lab : LabState) → Broken outcome steps lab
      → IsDone (Is (Ok Recover)) (start_of devices old opens) (steps ++ behind) (Some reply) lab Closed
  broken_so outcome steps behind reply starts breaks lab broken = does (Ok Recover) refl (broken_off (within outcome steps behind refl broken starts) breaks refl)

  as_due : (outcome : Outcome) → HasBrokenOff the_texts old.lab (swaps_of busy old.lab.experiments) before now outcome → HasBrokenOff the_texts old.lab ps before now outcome
  as_due outcome h = subst (λ (l : List Swap). HasBrokenOff the_texts old.lab l before now outcome) all_same h

  down : HasBrokenOff the_texts old.lab ps before now Unwritten → limit_of new.journal ≡ limit_of old.journal → RunsOn before now → Obeyed devices before now (Is (Ok Recover)) old new opens exp (Ok replies.Down)
  down h limit runs =
      let shows = broken_shows _ _ h.steps Unwritten h.leaves.after h.leaves.is in
      let all : h.steps ++ [] ≡ h.steps = append-nil h.steps in
      closed_by devices before now (Is (Ok Recover)) old new opens opens exp h.steps h.told h.sound h.later limit (same_open opens) replies.Down refl refl (Broken Unwritten) h.leaves
      (broken_so Unwritten h.steps [] replies.Down (inl refl) (failed (ap has_outer all ∙ shows.outer) (ap has_miss all ∙ shows.miss_is) refl)) h.cause runs

  stops : HasBrokenOff the_texts old.lab ps before now Stopped → limit_of new.journal ≡ limit_of old.journal → (before.stopped ≡ false → now.stopped ≡ true) → Obeyed devices before now (Is (Ok Recover)) old new opens exp (Err faults.Stopped)
  stops h limit stop =
      let shows = broken_shows _ _ h.steps Stopped h.leaves.after h.leaves.is in
      halted devices before now (Is (Ok Recover)) old new opens opens exp h.steps h.told h.sound h.later limit (same_open opens) (Broken Stopped) h.leaves
      (λ lab broken a b. broken_so Stopped h.steps (Restarted a b ∷ []) replies.Stopped (inr (a, b, refl)) (stopped (record { front = h.steps; a = a; b = b; is = refl; once = shows.outer }) refl) lab broken) stop

  -- WHATEVER IT ANSWERED
  runs_by : (result : Result Settled SettleFault) → (result ≡ Err settling.Stopped → ⊥) → (before.stopped ≡ false → IsErrOf result settling.Stopped ↔ IsTrue now.stopped) → RunsOn before now
  runs_by result not told = λ ran stop. not ((told ran).1 stop)

  pub recovered : limit_of new.journal ≡ limit_of old.journal → (result : Result Settled SettleFault) → (before.stopped ≡ false → IsErrOf result settling.Stopped ↔ IsTrue now.stopped)
      → AfterAll the_texts old.lab busy before now old.journal new.journal new.lab result → Obeyed devices before now (Is (Ok Recover)) old new opens exp (recover_answer result)
  recovered limit (Ok all) told is = all_recovered all is limit (runs_by (Ok all) (λ h. cc h) told)
  recovered limit (Err settling.Memory) told is = some_recovered is limit (runs_by (Err settling.Memory) (λ h. cc h) told)
  recovered limit (Err settling.Plant) told is = down (as_due Unwritten is) limit (runs_by (Err settling.Plant) (λ h. cc h) told)
  recovered limit (Err settling.Stopped) told is = stops (as_due Stopped is) limit (λ ran. (told ran).0 refl)
