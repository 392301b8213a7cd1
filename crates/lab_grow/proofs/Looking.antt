-- A look at the side of a grown lab.
use Rattle.std.proofs.Common.{◌≡◌, ◌≢◌, ℕ, ◌≤◌, List, [], ◌∷◌, ◌++◌, length, drop, refl, sym, ap, ◌∙◌, subst, arith, length-append}
use Rattle.lab_base.specs.Lists.{Has}
use Rattle.plant.specs.declared.step.Side.{Side}
use Rattle.plant.specs.declared.step.Side.TheVariants.{A}
use Rattle.journal_rec.specs.declared.record.Record.{Record}
use Rattle.journal_rec.specs.declared.record.Found.{Found}
use Rattle.journal_rec.specs.Payloads.{IsRecord}
use Rattle.journal_rec.specs.Packing.{blocks, ArePacked}
use Rattle.journal_model.specs.Journals.{Live, New, On, head, live, Reads, RecordsOf, Records, BadOf}
use Rattle.journal_model.proofs.Gates.{head_headed, drop_header, reads_shut}
use Rattle.journal_model.proofs.Readings.{reads_once, reads_or_breaks}
use Rattle.records_model.specs.Labs.{LabState, at_first, LabOf, StopsAt}
use Rattle.records_model.proofs.LabLaws.{folds_or_stops}
use Rattle.lab_state.specs.Replays.{records_of}
use Rattle.lab_state.specs.Texts.{the_texts}
use Rattle.lab_state.proofs.Canonical.{texts_once}
use Rattle.lab_sides.specs.declared.walking.Walked.{Walked}
use Rattle.lab_sides.specs.Reads.{HasFault}
use Rattle.lab_look.specs.Looks.{HasLab, HasWrong}
use Rattle.lab_look.proofs.Looking.{are_records, rest_is}
use Rattle.lab_grow.specs.Sides.{first_header}

abbrev one : List ℕ
one = 1 ∷ 0 ∷ 0 ∷ 0 ∷ 0 ∷ 0 ∷ 0 ∷ 0 ∷ []

abbrev side_in : Live → Side → Side
side_in (On s) other = s
side_in l other = other

module _ (text packed : List ℕ) (grs : List Record) (are : ArePacked packed grs) (is : text ≡ first_header ++ packed) where
  on_a : live (head text) (head []) ≡ On A
  on_a =
      let some : 1 ≤ length packed = omega (arith, ap length are.spelled, length-append (blocks grs) (0 ∷ [])) in
      ap (λ (t : List ℕ). live (head t) (head [])) is ∙ ap (λ h. live h (head [])) (head_headed one packed refl some)

  reads : Reads (drop 17 text) grs
  reads =
      let shut : 0 ≢ 165 = λ e. cc e in
      let all : Reads packed grs = subst (λ (l : List ℕ). Reads l grs) (sym are.spelled) (reads_shut grs 0 [] are.are_records shut) in
      let rest : drop 17 text ≡ packed = ap (λ (t : List ℕ). drop 17 t) is ∙ drop_header one packed refl in
      subst (λ (l : List ℕ). Reads l grs) (sym rest) all

  same_records : (rs : List Record) → Records text [] rs → rs ≡ grs
  same_records rs h = reads_once (drop 17 text) rs grs (subst (λ (l : Live). RecordsOf l text [] rs) on_a h) reads

  pub found : (side : Side) (w : Walked) (s : LabState) → HasLab text [] side w s → LabOf the_texts grs s × ((x : Walked) × HasLab text [] A x s)
  found side w s h =
      let is_a : side ≡ A = ap (λ (l : Live). side_in l side) (sym h.stands.on_side ∙ on_a) in
      (subst (λ (l : List Record). LabOf the_texts l s) (same_records h.rs h.stands.records_are) h.lab_is, (w, subst (λ (x : Side). HasLab text [] x w s) is_a h))

  pub not_new : live (head text) (head []) ≡ New → ⊥
  not_new e = let f : On A ≡ New = sym on_a ∙ e in cc f

  pub not_bad : (side : Side) (at : ℕ) (before : List Found) → HasFault text [] side at before → ⊥
  not_bad side at before h =
      let bad : BadOf (On A) text [] side at = subst (λ (l : Live). BadOf l text [] side at) on_a h.bad in
      reads_or_breaks (drop 17 text) grs bad.1.0 reads bad.1.1

  -- the records of a look that finds one that can't follow
  pub wrong_records : (side : Side) (at : ℕ) (w : Walked) → HasWrong text [] side at w → records_of w.found ≡ grs
  wrong_records side at w h = rest_is text [] side w h.rs h.stands ∙ same_records h.rs h.stands.records_are

  pub wrong_are : (side : Side) (at : ℕ) (w : Walked) → HasWrong text [] side at w → (f : Found) → Has w.found f → IsRecord f.entry
  wrong_are side at w h = are_records text [] side w h.rs h.stands

  pub wrong : (side : Side) (at : ℕ) (w : Walked) (end : LabState) → HasWrong text [] side at w → LabOf the_texts grs end → ⊥
  wrong side at w end h of =
      folds_or_stops the_texts at_first grs end h.index texts_once of (subst (λ (l : List Record). StopsAt the_texts at_first l h.index) (same_records h.rs h.stands.records_are) h.stops)
