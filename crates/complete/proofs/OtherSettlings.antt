-- A settling of others sends no command of an experiment that is left alone.
use Rattle.std.proofs.Common.{◌≡◌, ◌≢◌, ◌⊎◌, inl, inr, ℕ, Bool, true, false, cond, is_some, List, [], ◌∷◌, ◌++◌, map, Option, Some, None, refl, sym, ◌∙◌, ap, subst}
use Rattle.lab_base.specs.Lists.{AllDiffer, Apart, Has, listed}
use Rattle.lab_base.proofs.Members.{Has-append, Has-flat_map, Has-mapped}
use Rattle.phys_lab.specs.Labs.{Lab}
use Rattle.plant.specs.Events.{Event}
use Rattle.virt_topo.specs.declared.experiment.Experiment.{Experiment}
use Rattle.virt_topo.specs.declared.experiment.Phase.{Phase}
use Rattle.virt_topo.specs.declared.experiment.Phase.TheVariants.{Out, In, Moving}
use Rattle.lab_model.specs.OnCourse.{own_events}
use Rattle.records_model.specs.Labs.{LabState, Says, Sane, find}
use Rattle.records_model.specs.Labs as labs
use Rattle.records_model.proofs.LabLaws.{follows_sane}
use Rattle.records_model.proofs.Finding.{find_has}
use Rattle.lab_state.specs.Texts.{the_texts}
use Rattle.recovery.specs.Due.{due, is_busy, swap_if, swaps_of}
use Rattle.swap_txn.specs.States.{last_by}
use Rattle.swap_turns.specs.Beginning.{settling}
use Rattle.swap_turns.specs.Legs.{commits, last, last_move, last_move_by}
use Rattle.swap_turns.specs.Settling.{IsSettled, Settles, SettlesOne}
use Rattle.swap_turns.specs.Swaps.{Swap as SwapOf}
use Rattle.swap_turns.specs.Turning.{Outcome, More, TurnsBack, Ended, Stuck, Unwritten, Stopped, TurnSteps}
use Rattle.complete.proofs.OwnCommands.{own_both}
use Rattle.complete.proofs.OtherSwaps.{finish_quiet}
use Rattle.lab_core.proofs.Others.{ended_stays}

-- A SWAP THAT IS DUE is of an experiment that moves so
due_phase : (name : List ℕ) (phase : Phase) (p : SwapOf) → Has (listed (swap_if name phase)) p → (p.name ≡ name) × (phase ≡ Moving p.old p.new)
due_phase name Out p h = absurd h
due_phase name (In mapping tags) p h = absurd h
due_phase name (Moving old new) p (inl same) = (ap (λ (q : SwapOf). q.name) (sym same), ap (λ (q : SwapOf). Moving q.old q.new) same)
due_phase name (Moving old new) p (inr none) = absurd none

due_if : (b : Bool) (name : List ℕ) (phase : Phase) (p : SwapOf) → Has (listed (cond b None (swap_if name phase))) p → (p.name ≡ name) × (phase ≡ Moving p.old p.new)
due_if true name phase p h = absurd h
due_if false name phase p h = due_phase name phase p h

due_of : (busy : List (List ℕ)) (es : List Experiment) (p : SwapOf) → Has (swaps_of busy es) p → (e : Experiment) × Has es e × (p.name ≡ e.name) × (e.phase ≡ Moving p.old p.new)
due_of busy es p has =
    let r = Has-flat_map (λ x. listed (due busy x)) es p has in
    let d = due_if (is_busy busy r.0.name) r.0.name r.0.phase p r.2 in
    (r.0, r.1, d.0, d.1)

abbrev pub AreMovers : LabState → List SwapOf → Type 0
AreMovers u ps = (p : SwapOf) → Has ps p → (f : Experiment) × (find p.name u.experiments ≡ Some f) × (f.phase ≡ Moving p.old p.new)

pub due_move : (busy : List (List ℕ)) (s : LabState) → Sane s → AreMovers s (swaps_of busy s.experiments)
due_move busy s sane p has =
    let d = due_of busy s.experiments p has in
    (d.0, ap (λ n. find n s.experiments) d.2 ∙ find_has s.experiments d.0 sane.names d.1, d.3)

-- their names differ
abbrev pub AreNamedApart : List SwapOf → Type 0
AreNamedApart ps = Apart (λ (p q : SwapOf). p.name ≢ q.name) ps

named_after : (busy : List (List ℕ)) (es : List Experiment) (e : Experiment) (ps : List SwapOf) → ((p : SwapOf) → Has ps p → p.name ≡ e.name) → ((name : List ℕ) → Has (map (λ (x : Experiment). x.name) es) name → e.name ≢ name) → AreNamedApart ps → AreNamedApart (swaps_of busy es) → AreNamedApart (ps ++ swaps_of busy es)
named_after busy es e [] named apart first rest = rest
named_after busy es e (p ∷ ps) named apart first rest =
    (λ q has same. by q (Has-append ps (swaps_of busy es) q has) same, named_after busy es e ps (λ x there. named x (inr there)) apart first.1 rest)
  where
    by : (q : SwapOf) → Has ps q ⊎ Has (swaps_of busy es) q → p.name ≢ q.name
    by q (inl there) = first.0 q there
    by q (inr there) = λ same.
        let d = due_of busy es q there in
        apart d.0.name (Has-mapped (λ (y : Experiment). y.name) es d.0 d.1) (sym (named p (inl refl)) ∙ same ∙ d.2)

one_listed : (busy : List (List ℕ)) (e : Experiment) (o : Option SwapOf) → AreNamedApart (listed o)
one_listed busy e None = tt
one_listed busy e (Some p) = ((λ q none. absurd none), tt)

pub due_apart : (busy : List (List ℕ)) (es : List Experiment) → AllDiffer (map (λ (x : Experiment). x.name) es) → AreNamedApart (swaps_of busy es)
due_apart busy [] differ = tt
due_apart busy (e ∷ es) differ =
    named_after busy es e (listed (due busy e)) (λ p has. (due_if (is_busy busy e.name) e.name e.phase p has).0) differ.0 (one_listed busy e (due busy e)) (due_apart busy es differ.1)

-- THE LAST RECORD of a settling leaves a sane lab
pub last_says : (u : LabState) (b : Bool) (name : List ℕ) → Says the_texts u (last_by b name) (last_move_by b name)
last_says u true name = refl
last_says u false name = refl

settled_sane : (u : LabState) (p : SwapOf) (outcome : Outcome) (steps : List Event) (mid : LabState) → Sane u → SettlesOne u p outcome steps mid → Sane mid
settled_sane u p outcome steps mid sane one = by outcome one.settled one.is.turn
  where
    by : (outcome : Outcome) → IsSettled outcome → TurnSteps u one.is.at one.is.behind outcome mid → Sane mid
    by (Ended leg) settled turn = follows_sane the_texts u (last one.is.at.swap leg) mid sane (record { move = last_move one.is.at.swap leg; says = last_says u (commits one.is.at.swap leg) one.is.at.swap.name; gives = turn.0.1.moves })
    by (Stuck trouble) settled turn = subst Sane (sym turn.3) sane
    by More settled turn = absurd settled
    by (TurnsBack why) settled turn = absurd settled
    by Unwritten settled turn = absurd settled
    by Stopped settled turn = absurd settled

-- A SETTLING OF OTHERS
module _ (name : List ℕ) (e : Experiment) where
  pub settles_quiet : (ps : List SwapOf) (outcomes : List Outcome) (u : LabState) (steps : List Event) (after : LabState) → Sane u → is_some u.lab ≡ true → find name u.experiments ≡ Some e → AreMovers u ps → AreNamedApart ps
      → ((p : SwapOf) → Has ps p → p.name ≢ name) → Settles u ps outcomes steps after → own_events (labs.lab_in u.lab) e steps ≡ []
  settles_quiet [] [] u steps after sane set found move apart other is = ap (λ l. own_events (labs.lab_in u.lab) e l) is.0
  settles_quiet [] (outcome ∷ outcomes) u steps after sane set found move apart other is = absurd is
  settles_quiet (p ∷ ps) [] u steps after sane set found move apart other is = absurd is
  settles_quiet (p ∷ ps) (outcome ∷ outcomes) u steps after sane set found move apart other is =
      let f = move p (inl refl) in
      let first = finish_quiet name u sane e found (settling p) is.0 outcome is.2 f.0 f.1 f.2 (other p (inl refl)) is.3.is in
      let stays = ended_stays name u is.2 (settling p) is.0 outcome set (other p (inl refl)) is.3.is in
      let goes = settles_quiet ps outcomes is.2 is.1 after (settled_sane u p outcome is.0 is.2 sane is.3) stays.set (stays.same ∙ found)
      (λ q has. let m = move q (inr has) in (m.0, (ended_stays q.name u is.2 (settling p) is.0 outcome set (apart.0 q has) is.3.is).same ∙ m.1, m.2))
      apart.1 (λ q has. other q (inr has)) is.4 in
      ap (λ l. own_events (labs.lab_in u.lab) e l) is.5
      ∙ own_both (labs.lab_in u.lab) e is.0 is.1
      ∙ (λ i. first i ++ own_events (labs.lab_in u.lab) e is.1)
      ∙ subst (λ (l : Option Lab). own_events (labs.lab_in l) e is.1 ≡ []) stays.lab goes
