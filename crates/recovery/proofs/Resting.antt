-- Where all were settled, none moves but the busy ones.
use Rattle.std.proofs.Common.{◌≡◌, ◌≢◌, ◌⊎◌, ◌+◌, inl, inr, ℕ, Bool, true, false, cond, count_by, List, [], ◌∷◌, map, Some, None, refl, sym, ap, ◌∙◌, subst, arith}
use Rattle.std.specs.Str.{bytes_eq}
use Rattle.std.proofs.lemmas.Bool.{cases_Bool, cond-false}
use Rattle.std.proofs.lemmas.Slice.Eq.{bytes_eq-Decides}
use Rattle.std.proofs.lemmas.List.Sums.{sum_by-cons}
use Rattle.std.proofs.lemmas.Option.{same_Some}
use Rattle.lab_base.specs.Lists.{Has, AllDiffer, listed}
use Rattle.lab_base.proofs.Members.{Has-mapped, Has-flat_mapped}
use Rattle.lab_model.specs.Sound.{is_moving}
use Rattle.plant.specs.Events.{Event}
use Rattle.virt_topo.specs.declared.experiment.Experiment.{Experiment}
use Rattle.virt_topo.specs.declared.wiring.Wiring.{Wiring}
use Rattle.virt_topo.specs.declared.experiment.Phase.{Phase}
use Rattle.virt_topo.specs.declared.experiment.Phase.TheVariants.{Out, In, Moving}
use Rattle.journal_disk.specs.declared.journal.Journal.{Journal}
use Rattle.records_model.specs.Labs.{LabState, Sane, Texts, find}
use Rattle.records_model.proofs.Finding.{found_from, names_mid, find_has}
use Rattle.records_model.proofs.Swaps.{found_in, find_replaced, find_others}
use Rattle.plant.specs.Seen.{Seen}
use Rattle.swap_turns.specs.Swaps.{Swap}
use Rattle.swap_turns.specs.Legs.{commits}
use Rattle.swap_turns.specs.Turning.{Outcome, More, TurnsBack, Ended, Stuck, Unwritten, Stopped}
use Rattle.swap_turns.specs.Settling.{SettlesOne, Settles}
use Rattle.recovery.specs.declared.all.Settled.{Settled}
use Rattle.recovery.specs.Due.{is_busy, swap_if, due, swaps_of}
use Rattle.recovery.specs.Settle.{is_stuck, SettledAll}
use Rattle.recovery.proofs.Due.{EndsOne, ends_one}
use Rattle.recovery.proofs.Settling.{leg_is}

-- who moves is busy, or is to be settled
abbrev pub Left : List (List ℕ) → List Swap → List Experiment → Type 0
Left busy ps es = (e : Experiment) → Has es e → is_moving e ≡ true → (is_busy busy e.name ≡ true) ⊎ Has (map (λ p. p.name) ps) e.name

module _ (busy : List (List ℕ)) (p : Swap) (ps : List Swap) (s mid : LabState) (x : EndsOne s p.name mid) (differ : AllDiffer (map (λ e. e.name) s.experiments)) where
  was_named : x.was.name ≡ p.name
  was_named = (found_from p.name s.experiments x.was x.found).name_is

  pub differ_now : AllDiffer (map (λ e. e.name) mid.experiments)
  differ_now =
      let f = found_from p.name s.experiments x.was x.found in
      subst (λ l. AllDiffer l) (ap (map (λ e. e.name)) f.whole ∙ sym (names_mid f.before f.after x.was x.now x.named) ∙ sym (ap (map (λ e. e.name)) (x.is ∙ f.replaced x.now))) differ

  one_less : Left busy (p ∷ ps) s.experiments → Left busy ps mid.experiments
  one_less left e h moving = elim (cases_Bool (bytes_eq e.name p.name)) [
    | inl yes' ↦
        let same : e.name ≡ p.name = (bytes_eq-Decides e.name p.name).0 yes' in
        let own : x.now ≡ e = same_Some x.now e (sym (find_replaced p.name s.experiments x.was x.now x.found (x.named ∙ was_named)) ∙ ap (λ l. find p.name l) (sym x.is) ∙ ap (λ n. find n mid.experiments) (sym same) ∙ find_has mid.experiments e differ_now h) in
        let not : false ≡ true = sym x.rests ∙ ap is_moving own ∙ moving in
        absurd (cc not)
    | inr no' ↦
        let apart : e.name ≢ p.name = (λ same. (let bad : false ≡ true = sym no' ∙ (bytes_eq-Decides e.name p.name).1 same in cc bad)) in
        let there : Has s.experiments e = found_in e.name s.experiments e (sym (ap (λ l. find e.name l) x.is ∙ find_others p.name e.name s.experiments x.now (x.named ∙ was_named) apart) ∙ find_has mid.experiments e differ_now h) in
        elim (left e there moving) [ inl is ↦ inl is | inr in_ps ↦ elim in_ps [ inl here ↦ absurd (apart (sym here)) | inr later ↦ inr later ] ]
  ]

-- each that was settled ended
first_ended : (o : Outcome) (os : List Outcome) → count_by is_stuck (o ∷ os) ≡ 0 → (is_stuck o ≡ false) × (count_by is_stuck os ≡ 0)
first_ended o os none = by (is_stuck o) refl
  where
    weight : Bool → ℕ
    weight b = cond b 1 0

    parts : count_by is_stuck (o ∷ os) ≡ weight (is_stuck o) + count_by is_stuck os
    parts = sum_by-cons (λ y. cond (is_stuck y) 1 0) o os

    by : (b : Bool) → is_stuck o ≡ b → (is_stuck o ≡ false) × (count_by is_stuck os ≡ 0)
    by true is = absurd (omega (arith, parts, ap (λ b. weight b) is, none))
    by false is = (is, omega (arith, parts, ap (λ b. weight b) is, none))

pub ended_one : (s : LabState) (p : Swap) (o : Outcome) (steps : List Event) (mid : LabState) → SettlesOne s p o steps mid → is_stuck o ≡ false → EndsOne s p.name mid
ended_one s p (Ended leg) steps mid one not =
    let f = one.is in
    let named : f.at.swap.name ≡ p.name = ap (λ (q : Swap). q.name) (leg_is s p f.front f.at f.onward).0 in
    subst (λ m. EndsOne s m mid) named (ends_one s (commits f.at.swap leg) f.at.swap.name mid f.turn.0.1.moves)
ended_one s p (Stuck trouble) steps mid one not = absurd (cc not)
ended_one s p More steps mid one not = absurd one.settled
ended_one s p (TurnsBack why) steps mid one not = absurd one.settled
ended_one s p Unwritten steps mid one not = absurd one.settled
ended_one s p Stopped steps mid one not = absurd one.settled

pub left_after : (busy : List (List ℕ)) (ps : List Swap) (s : LabState) (os : List Outcome) (steps : List Event) (after : LabState) → AllDiffer (map (λ e. e.name) s.experiments) → Settles s ps os steps after → count_by is_stuck os ≡ 0
    → Left busy ps s.experiments → Left busy [] after.experiments
left_after busy [] s [] steps after differ h none left = subst (λ (x : LabState). Left busy [] x.experiments) (sym h.1) left
left_after busy [] s (o ∷ os) steps after differ h none left = absurd h
left_after busy (p ∷ ps) s [] steps after differ h none left = absurd h
left_after busy (p ∷ ps) s (o ∷ os) steps after differ h none left =
    let n = first_ended o os none in
    let x = ended_one s p o h.0 h.2 h.3 n.0 in
    left_after busy ps h.2 os h.1 after (differ_now busy p ps s h.2 x differ) h.4 n.1 (one_less busy p ps s h.2 x differ left)

-- at first
due_moving : (name : List ℕ) (w : Wiring) (phase : Phase) → is_moving (record { name = name; wiring = w; phase = phase }) ≡ true → (p : Swap) × (swap_if name phase ≡ Some p) × (p.name ≡ name)
due_moving name w Out h = absurd (cc h)
due_moving name w (In mapping tags) h = absurd (cc h)
due_moving name w (Moving old new) h = (record { name = name; old = old; new = new }, refl, refl)

pub left_first : (busy : List (List ℕ)) (es : List Experiment) → Left busy (swaps_of busy es) es
left_first busy es e h moving = elim (cases_Bool (is_busy busy e.name)) [
  | inl yes' ↦ inl yes'
  | inr no' ↦
      let d = due_moving e.name e.wiring e.phase moving in
      let is : due busy e ≡ Some d.0 = cond-false (is_busy busy e.name) None (swap_if e.name e.phase) no' ∙ d.1 in
      inr (subst (λ n. Has (map (λ p. p.name) (swaps_of busy es)) n) d.2 (Has-mapped (λ (p : Swap). p.name) (swaps_of busy es) d.0
      (Has-flat_mapped (λ x. listed (due busy x)) es e d.0 h (subst (λ o. Has (listed o) d.0) (sym is) (inl refl)))))
]

-- NONE MOVES BUT THE BUSY ONES
pub all_rest : (t : Texts) (s : LabState) (busy : List (List ℕ)) (before now : Seen) (i j : Journal) (after : LabState) (settled : Settled) → Sane s → SettledAll t s busy before now i j after settled → settled.stuck ≡ 0
    → (e : Experiment) → Has after.experiments e → is_moving e ≡ true → is_busy busy e.name ≡ true
all_rest t s busy before now i j after settled sane u none e h moving =
    elim (left_after busy (swaps_of busy s.experiments) s u.outcomes u.has.steps after sane.names u.has.settled (sym u.counts.stuck ∙ none) (left_first busy s.experiments) e h moving) [ inl is ↦ is | inr no' ↦ absurd no' ]

-- and none where none is busy
pub none_moves : (t : Texts) (s : LabState) (before now : Seen) (i j : Journal) (after : LabState) (settled : Settled) → Sane s → SettledAll t s [] before now i j after settled → settled.stuck ≡ 0
    → (e : Experiment) → Has after.experiments e → is_moving e ≡ false
none_moves t s before now i j after settled sane u none e h =
    elim (cases_Bool (is_moving e)) [
      | inl yes' ↦ let busy : false ≡ true = all_rest t s [] before now i j after settled sane u none e h yes' in absurd (cc busy)
      | inr no' ↦ no'
    ]
