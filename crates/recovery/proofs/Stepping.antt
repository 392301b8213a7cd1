-- One more is settled.
use Rattle.std.specs.Prelude.{IsErrOf, IsTrue, ◌↔◌}
use Rattle.std.proofs.Common.{◌≡◌, ◌⊎◌, inl, inr, Bool, ◌≤◌, ◌+◌, ℕ, suc, List, [], ◌∷◌, ◌++◌, length, map, take, drop, slice_get, Option, Some, None, Result, Ok, Err, refl, sym, ap, ◌∙◌, subst, arith}
use Rattle.std.proofs.lemmas.Grind.{flat_map-append}
use Rattle.std.proofs.lemmas.List.{length-append, append-nil, take_all, take-append-drop}
use Rattle.lab_base.specs.Lists.{AllDiffer, listed}
use Rattle.lab_base.proofs.Members.{Has-slice_get}
use Rattle.lab_base.proofs.Lists.{length_past}
use Rattle.virt_topo.specs.declared.experiment.Experiment.{Experiment}
use Rattle.journal_disk.specs.declared.journal.Journal.{Journal}
use Rattle.lab_model.specs.Courses.{Trouble}
use Rattle.records_model.specs.Labs.{LabState, Texts, find, replace}
use Rattle.plant.specs.Seen.{Seen}
use Rattle.records_model.proofs.Finding.{find_has}
use Rattle.swap_turns.specs.Swaps.{Swap, Moves}
use Rattle.swap_turns.specs.Legs.{Settling, commits}
use Rattle.swap_turns.specs.Moving.{IsSwapPhase, AllSwaps}
use Rattle.swap_turns.specs.Running.{AtWork}
use Rattle.swap_turns.specs.Turning.{Outcome, Ended, Stuck, Unwritten, Stopped}
use Rattle.swap_turns.specs.Causes.{IsLater}
use Rattle.swap_turns.specs.Settling.{IsClosing, IsSettled, HasSettledOne, HasSettled, HasBrokenOff}
use Rattle.swap_turns.proofs.Settling.{settled_none, settled_more, breaks_off}
use Rattle.recovery.specs.declared.all.Settled.{Settled}
use Rattle.recovery.specs.declared.fault.SettleFault.{SettleFault}
use Rattle.recovery.specs.declared.fault.SettleFault.TheVariants as faults
use Rattle.recovery.specs.declared.one.One.{One}
use Rattle.recovery.specs.declared.one.One.TheVariants as one
use Rattle.recovery.specs.Due.{due, due_in, name_of, swaps_of}
use Rattle.recovery.specs.One.{IsOverAs}
use Rattle.recovery.specs.Settle.{is_ended, is_stuck, Counts, CountedBy, SettledTo, SettledSome, SettledAll, AfterAll}
use Rattle.recovery.proofs.Due.{due_is, due_none, swaps_more, swaps_split, rest_more, same_at, rest_kept, EndsOne, ends_one, count_more}
use Rattle.recovery.proofs.Settling.{leg_is}

-- HOW IT MOVES
pub moves_now : (s : LabState) (n : ℕ) (busy : List (List ℕ)) (e : Experiment) (p : Swap) → AllDiffer (map (λ x. x.name) s.experiments) → AllSwaps s.experiments → slice_get s.experiments n ≡ Some e → due busy e ≡ Some p → length p.name ≤ 32 → Moves p s
moves_now s n busy e p differ swaps at is short =
    let d = due_is busy e p is in
    let h = Has-slice_get s.experiments n e at in
    record {
      is_swap = subst IsSwapPhase d.2 (swaps e h);
      short = short;
      exp = e;
      found = ap (λ m. find m s.experiments) d.1 ∙ find_has s.experiments e differ h;
      moving = d.2;
    }

-- the experiments after are as they were
rest_by : (mid after : LabState) (n : ℕ) (e : Experiment) (p : Swap) → AllDiffer (map (λ x. x.name) mid.experiments) → slice_get mid.experiments n ≡ Some e → p.name ≡ e.name → EndsOne mid p.name after → drop (n + 1) after.experiments ≡ drop (n + 1) mid.experiments
rest_by mid after n e p differ at named x =
    ap (drop (n + 1)) (x.is ∙ ap (λ m. replace m x.now mid.experiments) named) ∙ rest_kept mid.experiments n e x.now differ at

-- where one is to be settled, some are
pub some_due : (xs : List Swap) (p : Swap) (rest : List Swap) → xs ++ p ∷ rest ≡ [] → ⊥
some_due [] p rest is = absurd (cc is)
some_due (x ∷ xs) p rest is = absurd (cc is)

module _ (t : Texts) (s : LabState) (busy : List (List ℕ)) (before was : Seen) (i j : Journal) (n : ℕ) (mid : LabState) (settled : Settled) (u : SettledTo t s busy before was i j n mid settled) (within : n + 1 ≤ length s.experiments) where
  -- NONE IS DUE there
  pub none_more : None ≡ name_of (due_in busy (slice_get mid.experiments n)) → swaps_of busy (take n s.experiments) ≡ swaps_of busy (take (n + 1) s.experiments)
  none_more none = by (slice_get s.experiments n) refl
    where
      same : slice_get mid.experiments n ≡ slice_get s.experiments n
      same = same_at mid.experiments s.experiments n u.rest

      by : (o : Option Experiment) → slice_get s.experiments n ≡ o → swaps_of busy (take n s.experiments) ≡ swaps_of busy (take (n + 1) s.experiments)
      by None is = absurd (omega (arith, within, length_past s.experiments n is))
      by (Some e) is =
          let d = due_none busy e (subst (λ o. None ≡ name_of (due_in busy o)) (same ∙ is) none) in
          sym (swaps_more busy s.experiments n e is ∙ ap (λ o. swaps_of busy (take n s.experiments) ++ listed o) d ∙ append-nil (swaps_of busy (take n s.experiments)))

  pub skipped : None ≡ name_of (due_in busy (slice_get mid.experiments n)) → SettledTo t s busy before was i j (n + 1) mid settled
  skipped none = record {
    outcomes = u.outcomes;
    has = subst (λ l. HasSettled t s l before was i j u.outcomes mid) (none_more none) u.has;
    rest = rest_more mid.experiments s.experiments n u.rest;
    counts = u.counts;
    few = omega (arith, u.few);
  }

  -- memory was wanting: so far, and the rest
  wanting : SettledSome t s busy before was i j mid
  wanting = record {
    past = swaps_of busy (take n s.experiments);
    rest = swaps_of busy (drop n s.experiments);
    all = ap (λ l. swaps_of busy l) (sym (take-append-drop n s.experiments)) ∙ flat_map-append (λ x. listed (due busy x)) (take n s.experiments) (drop n s.experiments);
    outcomes = u.outcomes;
    has = u.has;
  }

  at_start : (e : Experiment) → slice_get mid.experiments n ≡ Some e → slice_get s.experiments n ≡ Some e
  at_start e at = sym (same_at mid.experiments s.experiments n u.rest) ∙ at

  -- ONE IS DUE there
  pub one_more : (e : Experiment) (p : Swap) → slice_get mid.experiments n ≡ Some e → due busy e ≡ Some p → swaps_of busy (take n s.experiments) ++ p ∷ [] ≡ swaps_of busy (take (n + 1) s.experiments)
  one_more e p at due_here = sym (swaps_more busy s.experiments n e (at_start e at) ∙ ap (λ o. swaps_of busy (take n s.experiments) ++ listed o) due_here)

  pub is_due : (e : Experiment) (p : Swap) → slice_get mid.experiments n ≡ Some e → due busy e ≡ Some p → swaps_of busy s.experiments ≡ [] → ⊥
  is_due e p at due_here none = some_due (swaps_of busy (take n s.experiments)) p (swaps_of busy (drop (suc n) s.experiments)) (swaps_split busy s.experiments n e p (at_start e at) due_here ∙ none)

  module _ (now : Seen) (k : Journal) (after : LabState) (e : Experiment) (p : Swap) (at : slice_get mid.experiments n ≡ Some e) (due_here : due busy e ≡ Some p) where
    at_s : slice_get s.experiments n ≡ Some e
    at_s = at_start e at

    ps_more : swaps_of busy (take n s.experiments) ++ p ∷ [] ≡ swaps_of busy (take (n + 1) s.experiments)
    ps_more = one_more e p at due_here

    more : (outcome : Outcome) (next : Settled) → IsSettled outcome → HasSettledOne t mid p was now j k outcome after → drop (n + 1) after.experiments ≡ drop (n + 1) mid.experiments → Counts next (u.outcomes ++ outcome ∷ []) → SettledTo t s busy before now i k (n + 1) after next
    more outcome next is_settled one rest counts = record {
      outcomes = u.outcomes ++ outcome ∷ [];
      has = subst (λ l. HasSettled t s l before now i k (u.outcomes ++ outcome ∷ []) after) ps_more (settled_more t s (swaps_of busy (take n s.experiments)) u.outcomes before was now i j k mid after p outcome is_settled u.has one);
      rest = rest ∙ rest_more mid.experiments s.experiments n u.rest;
      counts = counts;
      few = omega (arith, u.few, length-append u.outcomes (outcome ∷ []));
    }

    ended : (next : Settled) → HasSettledOne t mid p was now j k (Ended Settling) after → next ≡ record { done = settled.done + 1; stuck = settled.stuck } → SettledTo t s busy before now i k (n + 1) after next
    ended next over is =
        let f = over.leaves.is in
        let x = ends_one mid (commits f.at.swap Settling) f.at.swap.name after f.turn.0.1.moves in
        let named : f.at.swap.name ≡ p.name = ap (λ (q : Swap). q.name) (leg_is mid p f.front f.at f.onward).0 in
        more (Ended Settling) next tt over
        (rest_by mid after n e p u.has.work.sane.names at (due_is busy e p due_here).1 (subst (λ m. EndsOne mid m after) named x))
        (record {
          done = omega (arith, ap (λ (x : Settled). x.done) is, u.counts.done, count_more is_ended u.outcomes (Ended Settling));
          stuck = omega (arith, ap (λ (x : Settled). x.stuck) is, u.counts.stuck, count_more is_stuck u.outcomes (Ended Settling));
        })

    cut : (trouble : Trouble) (next : Settled) → HasSettledOne t mid p was now j k (Stuck trouble) after → next ≡ record { done = settled.done; stuck = settled.stuck + 1 } → SettledTo t s busy before now i k (n + 1) after next
    cut trouble next over is =
        let same : after ≡ mid = over.leaves.is.turn.3 in
        more (Stuck trouble) next tt over (ap (λ (x : LabState). drop (n + 1) x.experiments) same)
        (record {
          done = omega (arith, ap (λ (x : Settled). x.done) is, u.counts.done, count_more is_ended u.outcomes (Stuck trouble));
          stuck = omega (arith, ap (λ (x : Settled). x.stuck) is, u.counts.stuck, count_more is_stuck u.outcomes (Stuck trouble));
        })

    broken : (outcome : Outcome) → IsClosing outcome → HasSettledOne t mid p was now j k outcome after → HasBrokenOff t s (swaps_of busy s.experiments) before now outcome
    broken outcome closing over = subst (λ l. HasBrokenOff t s l before now outcome) (swaps_split busy s.experiments n e p at_s due_here)
        (breaks_off t s (swaps_of busy (take n s.experiments)) u.outcomes before was now i j k mid after p (swaps_of busy (drop (suc n) s.experiments)) outcome closing u.has over)

    -- ONE MORE IS SETTLED
    pub stepped : (outcome : One) (next : Settled) → IsOverAs t mid p was now j k after (Ok outcome) → CountedBy settled outcome next → SettledTo t s busy before now i k (n + 1) after next
    stepped one.Out next over is = ended next over.1 is
    stepped one.In next over is = ended next over.1 is
    stepped (one.Stuck what) next over is = cut over.0 next over.2 is

    -- or all breaks off
    pub stepped_off : (fault : SettleFault) → IsOverAs t mid p was now j k after (Err fault) → (fault ≡ faults.Memory → (after ≡ mid) × (k ≡ j) × (now ≡ was)) → AfterAll t s busy before now i k after (Err fault)
    stepped_off faults.Plant over same = broken Unwritten tt over
    stepped_off faults.Stopped over same = broken Stopped tt over
    stepped_off faults.Memory over same =
        let is = same refl in
        subst (λ x. SettledSome t s busy before now i k x) (sym is.0)
        (subst (λ x. SettledSome t s busy before now i x mid) (sym is.1) (subst (λ x. SettledSome t s busy before x i j mid) (sym is.2) wanting))

-- where one breaks off, all do
pub stops_as : (fault : SettleFault) (stopped : Bool) → IsErrOf {T = One} (Err fault) faults.Memory ⊎ (IsErrOf {T = One} (Err fault) faults.Stopped ↔ IsTrue stopped)
    → IsErrOf {T = Settled} (Err fault) faults.Memory ⊎ (IsErrOf {T = Settled} (Err fault) faults.Stopped ↔ IsTrue stopped)
stops_as faults.Memory stopped h = inl refl
stops_as faults.Plant stopped (inl is) = absurd (cc is)
stops_as faults.Plant stopped (inr both) = inr (λ is. absurd (cc is), λ is. absurd (cc (both.1 is)))
stops_as faults.Stopped stopped (inl is) = absurd (cc is)
stops_as faults.Stopped stopped (inr both) = inr (λ is. both.0 refl, λ is. refl)

-- NONE YET, and all
pub none_settled : (t : Texts) (s : LabState) (busy : List (List ℕ)) (now : Seen) (j : Journal) (settled : Settled) → settled ≡ record { done = 0; stuck = 0 } → AtWork t now.told j s → SettledTo t s busy now now j j 0 s settled
none_settled t s busy now j settled is work = record {
  outcomes = [];
  has = settled_none t s now j work;
  rest = refl;
  counts = record { done = ap (λ (x : Settled). x.done) is; stuck = ap (λ (x : Settled). x.stuck) is };
  few = omega arith;
}

pub all_settled : (t : Texts) (s : LabState) (busy : List (List ℕ)) (before now : Seen) (i j : Journal) (n : ℕ) (after : LabState) (settled : Settled) → length s.experiments ≤ n → SettledTo t s busy before now i j n after settled → SettledAll t s busy before now i j after settled
all_settled t s busy before now i j n after settled past u = record {
  outcomes = u.outcomes;
  has = subst (λ l. HasSettled t s (swaps_of busy l) before now i j u.outcomes after) (take_all n s.experiments past) u.has;
  counts = u.counts;
}

-- counts do not fall
pub later_all : (t : Texts) (s : LabState) (busy : List (List ℕ)) (before now : Seen) (i j : Journal) (after : LabState) (result : Result Settled SettleFault) → AfterAll t s busy before now i j after result → IsLater before now
later_all t s busy before now i j after (Ok settled) h = h.has.later
later_all t s busy before now i j after (Err faults.Memory) h = h.has.later
later_all t s busy before now i j after (Err faults.Plant) h = h.later
later_all t s busy before now i j after (Err faults.Stopped) h = h.later
