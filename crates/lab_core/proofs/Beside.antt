-- An experiment whose own settling met no trouble is at rest after all settlings, whatever became of the others.
use Rattle.std.proofs.Common.{◌≡◌, inl, inr, ℕ, Bool, true, false, List, [], ◌∷◌, Option, Some, None, refl, sym, ◌∙◌, subst}
use Rattle.std.specs.Prelude.{is_some}
use Rattle.std.proofs.lemmas.Option.{same_Some}
use Rattle.plant.specs.Events.{Event}
use Rattle.phys_lab.specs.Labs.{Lab}
use Rattle.lab_model.specs.Sound.{is_moving}
use Rattle.virt_topo.specs.declared.experiment.Experiment.{Experiment}
use Rattle.virt_topo.specs.declared.experiment.Phase.{Phase}
use Rattle.virt_topo.specs.declared.experiment.Phase.TheVariants.{Out, In, Moving}
use Rattle.records_model.specs.Labs.{LabState, becomes, find, in_phase, in_state, inside, moved_of, moved_one, replace, with_replaced}
use Rattle.records_model.proofs.Finding.{none_some, found_from}
use Rattle.records_model.proofs.Swaps.{find_replaced}
use Rattle.recovery.specs.Settle.{is_ended}
use Rattle.swap_turns.specs.Beginning.{settling}
use Rattle.swap_turns.specs.Finishing.{Finishes}
use Rattle.swap_turns.specs.Legs.{commits, last_move_by}
use Rattle.swap_turns.specs.Settling.{Settles}
use Rattle.swap_turns.specs.Swaps.{Swap}
use Rattle.swap_turns.specs.Turning.{Outcome, More, TurnsBack, Ended, Stuck, Unwritten, Stopped}
use Rattle.swap_turns.proofs.Finishing.{onward_swap}
use Rattle.lab_core.specs.Recovery.{EndedIn}
use Rattle.lab_core.specs.Tells.{IsAtRest}
use Rattle.lab_core.proofs.Others.{rests_on, settles_stay}

-- a lab is set, and the experiment of that name is at rest
abbrev RestsSet : List ℕ → LabState → Type 0
RestsSet name u = (is_some u.lab ≡ true) × IsAtRest u name

-- THE LAST RECORD of a move
module _ (lab : Lab) (es : List Experiment) (name : List ℕ) (u : LabState) (e : Experiment) (found : find name es ≡ Some e) where
  put : (f : Experiment) → f.name ≡ e.name → is_moving f ≡ false → in_state lab (Some (replace name f es)) ≡ Some u → RestsSet name u
  put f named rests gives = subst (RestsSet name) (same_Some _ u gives) (
    refl,
    λ x is.
        let same : f ≡ x = same_Some f x (sym (find_replaced name es e f found (named ∙ (found_from name es e found).name_is)) ∙ is) in subst (λ (y : Experiment). is_moving y ≡ false) same rests,
  )

  by_phase : (commit : Bool) (phase : Phase) → in_state lab (with_replaced name es (becomes lab es e phase (last_move_by commit name))) ≡ Some u → RestsSet name u
  by_phase true Out gives = none_some u gives
  by_phase true (In mapping tags) gives = none_some u gives
  by_phase true (Moving old (Some new)) gives = put (inside e new) refl refl gives
  by_phase true (Moving (Some old) None) gives = put (in_phase e Out) refl refl gives
  by_phase true (Moving None None) gives = none_some u gives
  by_phase false Out gives = none_some u gives
  by_phase false (In mapping tags) gives = none_some u gives
  by_phase false (Moving None (Some new)) gives = put (in_phase e Out) refl refl gives
  by_phase false (Moving (Some old) (Some new)) gives = put (inside e old) refl refl gives
  by_phase false (Moving (Some old) None) gives = none_some u gives
  by_phase false (Moving None None) gives = none_some u gives

  by_found : (commit : Bool) → in_state lab (moved_one lab es name (Some e) (last_move_by commit name)) ≡ Some u → RestsSet name u
  by_found commit gives = by_phase commit e.phase gives

found_or : (lab : Lab) (es : List Experiment) (name : List ℕ) (u : LabState) (commit : Bool) (o : Option Experiment) → find name es ≡ o → in_state lab (moved_one lab es name o (last_move_by commit name)) ≡ Some u → RestsSet name u
found_or lab es name u commit None is gives = none_some u gives
found_or lab es name u commit (Some e) is gives = by_found lab es name u e is commit gives

ended_in : (o : Option Lab) (es : List Experiment) (name : List ℕ) (u : LabState) (commit : Bool) → moved_of o es (last_move_by commit name) ≡ Some u → RestsSet name u
ended_in None es name u true gives = none_some u gives
ended_in None es name u false gives = none_some u gives
ended_in (Some lab) es name u true gives = found_or lab es name u true (find name es) refl gives
ended_in (Some lab) es name u false gives = found_or lab es name u false (find name es) refl gives

-- ONE THAT ENDED
one_rests : (s u : LabState) (p : Swap) (outcome : Outcome) (steps : List Event) → is_ended outcome ≡ true → Finishes s (settling p) steps outcome u → RestsSet p.name u
one_rests s u p (Ended leg) steps ended f =
    let same : f.at.swap ≡ p = onward_swap s (settling p) f.front f.at f.onward in
    subst (λ (q : Swap). RestsSet q.name u) same (ended_in s.lab s.experiments f.at.swap.name u (commits f.at.swap leg) f.turn.0.1.moves)
one_rests s u p More steps ended f = absurd (cc ended)
one_rests s u p (TurnsBack why) steps ended f = absurd (cc ended)
one_rests s u p (Stuck why) steps ended f = absurd (cc ended)
one_rests s u p Unwritten steps ended f = absurd (cc ended)
one_rests s u p Stopped steps ended f = absurd (cc ended)

-- AMONG ALL
pub beside_rests : (ps : List Swap) (outcomes : List Outcome) (s after : LabState) (steps : List Event) (name : List ℕ) → Settles s ps outcomes steps after → EndedIn ps outcomes name → IsAtRest after name
beside_rests [] outcomes s after steps name settles ended = absurd ended
beside_rests (p ∷ ps) [] s after steps name settles ended = absurd ended
beside_rests (p ∷ ps) (outcome ∷ outcomes) s after steps name h (inl here) =
    let rests = subst (λ (n : List ℕ). RestsSet n h.2) here.0 (one_rests s h.2 p outcome h.0 here.1 h.3.is) in
    rests_on name h.2 after (settles_stay name ps outcomes h.2 after h.1 rests.0 rests.1 h.4) rests.1
beside_rests (p ∷ ps) (outcome ∷ outcomes) s after steps name h (inr later) = beside_rests ps outcomes h.2 after h.1 name h.4 later
