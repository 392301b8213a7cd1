-- The seat of a machine is of an experiment exactly where that experiment claims it.
use Rattle.std.specs.Prelude.{slice_get, IsTrue, ◌↔◌}
use Rattle.std.proofs.Common.{◌≡◌, inl, inr, ℕ, ◌-◌, ◌<◌, Bool, true, false, Option, Some, None, List, refl, sym, ap, ◌∙◌, subst, arith}
use Rattle.std.proofs.lemmas.Bool.{cases_Bool, eqb-true, eq-eqb}
use Rattle.lab_base.specs.Lists.{Has, Apart}
use Rattle.lab_base.proofs.Members.{Has-slice_get}
use Rattle.phys_lab.specs.Labs.{Lab}
use Rattle.virt_topo.specs.declared.experiment.Experiment.{Experiment}
use Rattle.lab_model.specs.Claims.{Claims, claims_it}
use Rattle.lab_model.proofs.Claiming.{claims_from, claims_test}
use Rattle.records_model.specs.Labs.{LabState, lab_in, Sane}
use Rattle.lab_view.specs.Views.{is_seat_of}
use Rattle.lab_look.specs.Seats.{holder, seat_by, seat_at, seat_of}
use Rattle.lab_look.proofs.Firsts.{first_passes, none_passes, none_first, apart_at}

abbrev claims_named : Lab → List ℕ → Experiment → Bool
claims_named lab name e = claims_it lab e name

abbrev SomeClaims : Lab → List ℕ → Option Experiment → Type 0
SomeClaims lab name None = ⊥
SomeClaims lab name (Some e) = claims_it lab e name ≡ true

-- the seat of a holder is of that experiment
seat_is : (lab : Lab) (es : List Experiment) (name : List ℕ) (k : ℕ) (e : Experiment) → slice_get es k ≡ Some e → is_seat_of k (seat_at lab es name (Some k)) ≡ true
seat_is lab es name k e is = ap (λ (o : Option Experiment). is_seat_of k (seat_by lab name k o)) is ∙ eq-eqb k k refl

seat_number : (lab : Lab) (es : List Experiment) (name : List ℕ) (k n : ℕ) (e : Experiment) → slice_get es k ≡ Some e → is_seat_of n (seat_at lab es name (Some k)) ≡ true → k ≡ n
seat_number lab es name k n e is seat = eqb-true k n (ap (λ (o : Option Experiment). is_seat_of n (seat_by lab name k o)) (sym is) ∙ seat)

from_zero : (k : ℕ) → k - 0 ≡ k
from_zero k = omega arith

held_at : (lab : Lab) (es : List Experiment) (name : List ℕ) (k : ℕ) → holder lab es name ≡ Some k → (e : Experiment) × (slice_get es k ≡ Some e) × (claims_it lab e name ≡ true)
held_at lab es name k is =
    let h = (first_passes (claims_named lab name) 0 k es is).1 in
    (h.0, ap (λ (m : ℕ). slice_get es m) (sym (from_zero k)) ∙ h.1, h.2)

pub seat_is_claim : (s : LabState) (lab : Lab) (n : ℕ) (e : Experiment) (name : List ℕ) → Sane s → s.lab ≡ Some lab → slice_get s.experiments n ≡ Some e
    → (IsTrue (is_seat_of n (seat_of lab s.experiments name)) ↔ Claims lab e name)
seat_is_claim s lab n e name sane is_lab is = (forth (holder lab s.experiments name) refl, back)
  where
    holding : Apart (λ e f. (name : List ℕ) → Claims lab e name → Claims lab f name → ⊥) s.experiments
    holding = subst (λ (o : Option Lab). Apart (λ e f. (name : List ℕ) → Claims (lab_in o) e name → Claims (lab_in o) f name → ⊥) s.experiments) is_lab sane.holding.nodes

    forth : (o : Option ℕ) → holder lab s.experiments name ≡ o → is_seat_of n (seat_at lab s.experiments name o) ≡ true → Claims lab e name
    forth None is_holder seat = absurd (cc seat)
    forth (Some k) is_holder seat =
        let h = held_at lab s.experiments name k is_holder in
        let same : k ≡ n = seat_number lab s.experiments name k n h.0 h.1 seat in
        let one : Some h.0 ≡ Some e = sym h.1 ∙ ap (λ (m : ℕ). slice_get s.experiments m) same ∙ is in
        claims_from lab e name (subst (λ (o : Option Experiment). SomeClaims lab name o) one h.2)

    back : Claims lab e name → is_seat_of n (seat_of lab s.experiments name) ≡ true
    back c = by (holder lab s.experiments name) refl
      where
        test : claims_it lab e name ≡ true
        test = claims_test lab e name c

        by : (o : Option ℕ) → holder lab s.experiments name ≡ o → is_seat_of n (seat_at lab s.experiments name o) ≡ true
        by None is_holder = absurd (both (sym test ∙ none_passes (claims_named lab name) 0 s.experiments is_holder e (Has-slice_get s.experiments n e is)))
          where
            both : true ≡ false → ⊥
            both x = cc
        by (Some k) is_holder =
            let h = held_at lab s.experiments name k is_holder in
            let other = claims_from lab h.0 name h.2 in
            let not_less : k < n → ⊥ = λ less. apart_at _ s.experiments k n h.0 e holding less h.1 is name other c in
            let not_more : n < k → ⊥ = λ more. apart_at _ s.experiments n k e h.0 holding more is h.1 name c other in
            let same : n ≡ k = equal n k not_less not_more in
            subst (λ (m : ℕ). is_seat_of m (seat_at lab s.experiments name (Some k)) ≡ true) (sym same) (seat_is lab s.experiments name k h.0 h.1)
          where
            equal : (n k : ℕ) → (k < n → ⊥) → (n < k → ⊥) → n ≡ k
            equal n k a b = omega arith

pub free_is_unclaimed : (lab : Lab) (es : List Experiment) (name : List ℕ) → ((seat_of lab es name ≡ None) ↔ ((e : Experiment) → Has es e → Claims lab e name → ⊥))
free_is_unclaimed lab es name = (forth (holder lab es name) refl, back)
  where
    both : true ≡ false → ⊥
    both x = cc

    forth : (o : Option ℕ) → holder lab es name ≡ o → seat_at lab es name o ≡ None → (e : Experiment) → Has es e → Claims lab e name → ⊥
    forth None is_holder seat e among c = both (sym (claims_test lab e name c) ∙ none_passes (claims_named lab name) 0 es is_holder e among)
    forth (Some k) is_holder seat e among c =
        let h = held_at lab es name k is_holder in
        let is : seat_by lab name k (Some h.0) ≡ None = ap (seat_by lab name k) (sym h.1) ∙ seat in
        absurd (cc is)

    back : ((e : Experiment) → Has es e → Claims lab e name → ⊥) → seat_of lab es name ≡ None
    back none = ap (seat_at lab es name) (none_first (claims_named lab name) 0 es (λ e among. fails e among))
      where
        fails : (e : Experiment) → Has es e → claims_it lab e name ≡ false
        fails e among = elim (cases_Bool (claims_it lab e name)) [ inl passes ↦ absurd (none e among (claims_from lab e name passes)) | inr not_so ↦ not_so ]
