-- An experiment that moves: how it is found, and its part.
use Rattle.std.specs.Str.{bytes_eq}
use Rattle.std.proofs.Common.{ℕ, ◌≢◌, ◌≡◌, inl, inr, true, cond, Option, Some, List, [], ◌∷◌, refl, sym, ap, ◌∙◌, subst}
use Rattle.std.proofs.lemmas.Bool.{cases_Bool, cond-true, cond-false}
use Rattle.std.proofs.lemmas.Slice.Eq.{bytes_eq-Decides}
use Rattle.lab_base.specs.Lists.{Has, AllDiffer}
use Rattle.lab_base.proofs.Members.{Has-right, flat-each}
use Rattle.lab_base.proofs.Bytes.{bytes_other}
use Rattle.phys_lab.specs.Labs.{Lab}
use Rattle.virt_topo.specs.declared.experiment.Experiment.{Experiment}
use Rattle.virt_topo.specs.declared.mapping.Mapped.{Mapped}
use Rattle.virt_topo.specs.declared.experiment.Phase.TheVariants.{Moving}
use Rattle.plant.specs.Worlds.{world_of}
use Rattle.plant.specs.Events.{Event}
use Rattle.plant.specs.declared.step.Side.{Side}
use Rattle.journal_rec.specs.declared.record.Record.{Record}
use Rattle.lab_model.specs.Claims.{Which, claimed, claimed_tags}
use Rattle.lab_model.specs.Holding.{Suits}
use Rattle.lab_model.specs.Parts.{Part}
use Rattle.lab_model.specs.Sound.{is_moving}
use Rattle.records_model.specs.Labs.{LabState, Texts, lab_in, find, replace, in_phase}
use Rattle.records_model.specs.Works.{AtWork}
use Rattle.lab_model.proofs.PartLaws.{parts_from_whole}
use Rattle.records_model.proofs.Finding.{none_some, found_from}
use Rattle.records_model.proofs.LabLaws.{lab_sane}

-- what is found stands in the list
pub found_in : (name : List ℕ) (es : List Experiment) (e : Experiment) → find name es ≡ Some e → Has es e
found_in name es e h = let f = found_from name es e h in subst (λ l. Has l e) (sym f.whole) (Has-right f.before (e ∷ f.after) e (inl refl))

-- and what it was replaced by is found
pub find_replaced : (name : List ℕ) (es : List Experiment) (e f : Experiment) → find name es ≡ Some e → f.name ≡ name → find name (replace name f es) ≡ Some f
find_replaced name [] e f h same = none_some e h
find_replaced name (x ∷ es) e f h same = elim (cases_Bool (bytes_eq x.name name)) [
  | inl yes' ↦
      ap (λ l. find name l) (cond-true (bytes_eq x.name name) (f ∷ es) (x ∷ replace name f es) yes')
      ∙ cond-true (bytes_eq f.name name) (Some f) (find name es) ((bytes_eq-Decides f.name name).1 same)
  | inr no' ↦
      ap (λ l. find name l) (cond-false (bytes_eq x.name name) (f ∷ es) (x ∷ replace name f es) no')
      ∙ cond-false (bytes_eq x.name name) (Some x) (find name (replace name f es)) no'
      ∙ find_replaced name es e f (sym (cond-false (bytes_eq x.name name) (Some x) (find name es) no') ∙ h) same
]

-- the others are found as before
pub find_others : (name other : List ℕ) (es : List Experiment) (f : Experiment) → f.name ≡ name → other ≢ name → find other (replace name f es) ≡ find other es
find_others name other [] f same apart = refl
find_others name other (x ∷ es) f same apart = elim (cases_Bool (bytes_eq x.name name)) [
  | inl yes' ↦
      let x_is : x.name ≡ name = (bytes_eq-Decides x.name name).0 yes' in
      ap (λ l. find other l) (cond-true (bytes_eq x.name name) (f ∷ es) (x ∷ replace name f es) yes')
      ∙ cond-false (bytes_eq f.name other) (Some f) (find other es) (bytes_other f.name other (λ e. apart (sym e ∙ same)))
      ∙ sym (cond-false (bytes_eq x.name other) (Some x) (find other es) (bytes_other x.name other (λ e. apart (sym e ∙ x_is))))
  | inr no' ↦
      ap (λ l. find other l) (cond-false (bytes_eq x.name name) (f ∷ es) (x ∷ replace name f es) no')
      ∙ ap (λ l. cond (bytes_eq x.name other) (Some x) l) (find_others name other es f same apart)
]

pub moves : (e : Experiment) (old new : Option Mapped) → e.phase ≡ Moving old new → is_moving e ≡ true
moves e old new moving = ap (λ p. is_moving (in_phase e p)) moving

-- ITS PART, where the controller is at work
module _ (t : Texts) (trace : List Event) (side : Side) (rs : List Record) (s : LabState) (e : Experiment) where
  abbrev lab_of : Lab
  lab_of = lab_in s.lab

  pub listed : find e.name s.experiments ≡ Some e → Has s.experiments e
  listed found = found_in e.name s.experiments e found

  pub part_now : AtWork t trace side rs s → Has s.experiments e → Part lab_of (world_of trace) e
  part_now work h =
      let sane = lab_sane t rs s work.lab_of in
      (parts_from_whole lab_of s.experiments sane.is_lab work.keeps.holding (world_of trace) work.keeps.isolated work.keeps.cabled).each e h

  pub suits : AtWork t trace side rs s → Has s.experiments e → (which : Which) (n : Mapped) → claimed e which ≡ Some n → Suits lab_of n
  suits work h which n is = work.keeps.holding.fits e which n h is

  pub differ : AtWork t trace side rs s → Has s.experiments e → AllDiffer (claimed_tags e)
  differ work h = flat-each claimed_tags s.experiments e work.keeps.holding.tags h
