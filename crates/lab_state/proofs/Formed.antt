-- Each experiment of a lab that records give: its wirings have texts, and it moves from its own wiring, or to it.
use Rattle.std.proofs.Common.{◌≡◌, inl, inr, ℕ, Bool, true, false, ◌&&◌, if◌then◌else◌, is_none, nat_le, Option, Some, None, List, [], ◌∷◌, ◌++◌, length, refl, sym, ap, ◌∙◌, subst}
use Rattle.std.proofs.lemmas.Option.{same_Some}
use Rattle.lab_base.specs.Lists.{Has}
use Rattle.lab_base.proofs.Members.{Has-append, Has-right}
use Rattle.phys_lab.specs.Labs.{Lab}
use Rattle.virt_topo.specs.declared.wiring.Wiring.{Wiring}
use Rattle.virt_topo.specs.declared.experiment.Experiment.{Experiment}
use Rattle.virt_topo.specs.declared.experiment.Phase.{Phase}
use Rattle.virt_topo.specs.declared.experiment.Phase.TheVariants.{Out, In, Moving}
use Rattle.virt_topo.specs.Wirings.{mapped}
use Rattle.journal_rec.specs.declared.record.Way.TheVariants.{In as WayIn, Out as WayOut, Change as WayChange, Change2 as WayChange2}
use Rattle.journal_rec.specs.declared.record.Record.{Record}
use Rattle.journal_rec.specs.declared.record.Record.TheVariants.{Lab as LabRecord, Create, Delete, Begin, Commit, Abort, Create2}
use Rattle.records_model.specs.Labs.{LabState, Move, SetLab, Creates, Deletes, BeginsIn, BeginsOut, BeginsChange, Commits, Aborts, find, others, in_phase, can_take, becomes, is_out, moved_one, deleted, in_state, moved_of, Texts, HasText, Says, FoldsTo, LabOf, at_first}
use Rattle.records_model.proofs.Finding.{none_some, found_from, has_replaced, has_others}
use Rattle.records_model.proofs.LabLaws.{in_state-some, with_replaced-some, found_one}

abbrev pub IsFormedPhase : Texts → Wiring → Phase → Type 0
IsFormedPhase t wiring Out = Unit {0}
IsFormedPhase t wiring (In mapping tags) = Unit {0}
IsFormedPhase t wiring (Moving None None) = ⊥
IsFormedPhase t wiring (Moving None (Some new)) = new.wiring ≡ wiring
IsFormedPhase t wiring (Moving (Some old) None) = old.wiring ≡ wiring
IsFormedPhase t wiring (Moving (Some old) (Some new)) = (old.wiring ≡ wiring) × HasText t new.wiring

pub record IsFormed (t : Texts) (e : Experiment) : Type 0 where
  pub wiring : HasText t e.wiring
  pub phase : IsFormedPhase t e.wiring e.phase

abbrev pub AreFormed : Texts → List Experiment → Type 0
AreFormed t es = (e : Experiment) → Has es e → IsFormed t e

-- the wirings of a move have texts
abbrev Worded : Texts → Move → Type 0
Worded t (Creates name wiring) = HasText t wiring
Worded t (BeginsChange name wiring mapping tags) = HasText t wiring
Worded t move = Unit {0}

says_worded : (t : Texts) (s : LabState) (r : Record) (move : Move) → Says t s r move → Worded t move
says_worded t s (LabRecord ptop) move h = subst (λ m. Worded t m) (sym h.3) tt
says_worded t s (Create exp top) move h = subst (λ m. Worded t m) (sym h.2) h.1.text
says_worded t s (Create2 exp top) move h = subst (λ m. Worded t m) (sym h.2) h.1.text
says_worded t s (Delete exp) move h = subst (λ m. Worded t m) (sym h) tt
says_worded t s (Begin exp (WayIn map tags)) move h = subst (λ m. Worded t m) (sym h.9) tt
says_worded t s (Begin exp WayOut) move h = subst (λ m. Worded t m) (sym h) tt
says_worded t s (Begin exp (WayChange top map tags)) move h = subst (λ m. Worded t m) (sym h.8) h.5.text
says_worded t s (Begin exp (WayChange2 top map tags)) move h = subst (λ m. Worded t m) (sym h.8) h.5.text
says_worded t s (Commit exp) move h = subst (λ m. Worded t m) (sym h) tt
says_worded t s (Abort exp) move h = subst (λ m. Worded t m) (sym h) tt

if_some : {X : Type 0} (b : Bool) (x y : X) → ◌≡◌ {A = Option X} (if b then Some x else None) (Some y) → (b ≡ true) × (x ≡ y)
if_some true x y h = (refl, same_Some x y h)
if_some false x y h = none_some y h

-- what an experiment becomes
becomes_formed : (t : Texts) (lab : Lab) (es : List Experiment) (e g : Experiment) (p : Phase) (move : Move) → Worded t move → HasText t e.wiring → IsFormedPhase t e.wiring p → becomes lab es e p move ≡ Some g → IsFormed t g
becomes_formed t lab es e g Out (BeginsIn name mapping tags) worded text formed h =
    let m = mapped e.wiring mapping tags in
    subst (IsFormed t) (if_some (can_take lab es e m) (in_phase e (Moving None (Some m))) g h).1 (record { wiring = text; phase = refl })
becomes_formed t lab es e g (In mapping tags) (BeginsOut name) worded text formed h = subst (IsFormed t) (same_Some _ g h) (record { wiring = text; phase = refl })
becomes_formed t lab es e g (In mapping tags) (BeginsChange name wiring new new_tags) worded text formed h =
    let m = mapped e.wiring mapping tags in
    let n = mapped wiring new new_tags in
    subst (IsFormed t) (if_some (can_take lab es e n) (in_phase e (Moving (Some m) (Some n))) g h).1 (record { wiring = text; phase = (refl, worded) })
becomes_formed t lab es e g (Moving None (Some new)) (Commits name) worded text formed h =
    subst (IsFormed t) (same_Some _ g h) (record { wiring = subst (HasText t) (sym formed) text; phase = tt })
becomes_formed t lab es e g (Moving (Some old) (Some new)) (Commits name) worded text formed h = subst (IsFormed t) (same_Some _ g h) (record { wiring = formed.1; phase = tt })
becomes_formed t lab es e g (Moving (Some old) None) (Commits name) worded text formed h = subst (IsFormed t) (same_Some _ g h) (record { wiring = text; phase = tt })
becomes_formed t lab es e g (Moving None (Some new)) (Aborts name) worded text formed h = subst (IsFormed t) (same_Some _ g h) (record { wiring = text; phase = tt })
becomes_formed t lab es e g (Moving (Some old) (Some new)) (Aborts name) worded text formed h =
    subst (IsFormed t) (same_Some _ g h) (record { wiring = subst (HasText t) (sym formed.0) text; phase = tt })
becomes_formed t lab es e g p move worded text formed h = none_some g h

deleted_some : (name : List ℕ) (es : List Experiment) (o : Option Experiment) (xs : List Experiment) → deleted name es o ≡ Some xs → others name es ≡ xs
deleted_some name es None xs h = none_some xs h
deleted_some name es (Some e) xs h = (if_some (is_out e.phase) (others name es) xs h).1

-- the move of one
one_formed : (t : Texts) (lab : Lab) (es : List Experiment) (name : List ℕ) (move : Move) (u : LabState) → Worded t move → AreFormed t es → in_state lab (moved_one lab es name (find name es) move) ≡ Some u → AreFormed t u.experiments
one_formed t lab es name move u worded formed h =
    let in_it = in_state-some lab (moved_one lab es name (find name es) move) u h in
    let e = found_one lab es name move (find name es) in_it.0 in_it.1 in
    let g = with_replaced-some name es (becomes lab es e.0 e.0.phase move) in_it.0 e.2 in
    let f = found_from name es e.0 e.1 in
    let was = formed e.0 (subst (λ l. Has l e.0) (sym f.whole) (Has-right f.before (e.0 ∷ f.after) e.0 (inl refl))) in
    let now = becomes_formed t lab es e.0 g.0 e.0.phase move worded was.wiring was.phase g.1 in
    subst (AreFormed t) (g.2 ∙ ap (λ (s : LabState). s.experiments) in_it.2)
    (λ x has. elim (has_replaced name g.0 es x has) [ inl is ↦ subst (IsFormed t) is now | inr old ↦ formed x old ])

steps_formed : (t : Texts) (o : Option Lab) (es : List Experiment) (move : Move) (u : LabState) → Worded t move → AreFormed t es → moved_of o es move ≡ Some u → AreFormed t u.experiments
steps_formed t None es (SetLab lab) u worded formed h = subst (λ (s : LabState). AreFormed t s.experiments) (same_Some _ u h) (λ e none. absurd none)
steps_formed t None es move u worded formed h = none_some u h
steps_formed t (Some lab) es (SetLab l) u worded formed h = none_some u h
steps_formed t (Some lab) es (Creates name w) u worded formed h =
    let e : Experiment = record { name = name; wiring = w; phase = Out } in
    let in_it = in_state-some lab (if is_none (find name es) && nat_le (length es) 255 then Some (es ++ e ∷ []) else None) u h in
    let both = if_some (is_none (find name es) && nat_le (length es) 255) (es ++ e ∷ []) in_it.0 in_it.1 in
    subst (AreFormed t) (both.1 ∙ ap (λ (s : LabState). s.experiments) in_it.2)
    (λ x has. elim (Has-append es (e ∷ []) x has) [
      | inl old ↦ formed x old
      | inr new ↦ elim new [ inl is ↦ subst (IsFormed t) is (record { wiring = worded; phase = tt }) | inr none ↦ absurd none ]
    ])
steps_formed t (Some lab) es (Deletes name) u worded formed h =
    let in_it = in_state-some lab (deleted name es (find name es)) u h in
    subst (AreFormed t) (deleted_some name es (find name es) in_it.0 in_it.1 ∙ ap (λ (s : LabState). s.experiments) in_it.2)
    (λ x has. formed x (has_others name es x has))
steps_formed t (Some lab) es (BeginsIn name m tags) u worded formed h = one_formed t lab es name (BeginsIn name m tags) u worded formed h
steps_formed t (Some lab) es (BeginsOut name) u worded formed h = one_formed t lab es name (BeginsOut name) u worded formed h
steps_formed t (Some lab) es (BeginsChange name w m tags) u worded formed h = one_formed t lab es name (BeginsChange name w m tags) u worded formed h
steps_formed t (Some lab) es (Commits name) u worded formed h = one_formed t lab es name (Commits name) u worded formed h
steps_formed t (Some lab) es (Aborts name) u worded formed h = one_formed t lab es name (Aborts name) u worded formed h

folds_formed : (t : Texts) (s : LabState) (rs : List Record) (end : LabState) → AreFormed t s.experiments → FoldsTo t s rs end → AreFormed t end.experiments
folds_formed t s [] end formed h = subst (λ (x : LabState). AreFormed t x.experiments) h formed
folds_formed t s (r ∷ rs) end formed h =
    folds_formed t h.0 rs end (steps_formed t s.lab s.experiments h.1.move h.0 (says_worded t s r h.1.move h.1.says) formed h.1.gives) h.2

-- EACH EXPERIMENT OF A LAB OF RECORDS is so
pub lab_formed : (t : Texts) (rs : List Record) (s : LabState) → LabOf t rs s → AreFormed t s.experiments
lab_formed t rs s h = folds_formed t at_first rs s (λ e none. absurd none) h
