-- Moves of one experiment leave those of other names, a settling leaves those that don't move, and a record that ends no move those that do.
use Rattle.std.proofs.Common.{◌≡◌, ◌≢◌, ◌⊎◌, inl, inr, ℕ, Bool, true, false, cond, is_some, Option, Some, None, List, [], ◌∷◌, ◌++◌, refl, sym, ap, ◌∙◌, subst, arith}
use Rattle.std.specs.Prelude.{if◌then◌else◌}
use Rattle.std.specs.Str.{bytes_eq}
use Rattle.std.proofs.lemmas.Bool.{cases_Bool, cond-true, cond-false}
use Rattle.std.proofs.lemmas.Slice.Eq.{bytes_eq-Decides}
use Rattle.std.proofs.lemmas.Option.{same_Some}
use Rattle.phys_lab.specs.Labs.{Lab}
use Rattle.plant.specs.Events.{Event}
use Rattle.plant.specs.declared.step.Side.{Side}
use Rattle.virt_topo.specs.declared.experiment.Experiment.{Experiment}
use Rattle.virt_topo.specs.declared.experiment.Phase.{Phase}
use Rattle.virt_topo.specs.declared.experiment.Phase.TheVariants.{Out, In, Moving}
use Rattle.virt_topo.specs.declared.mapping.Mapped.{Mapped}
use Rattle.journal_rec.specs.declared.record.Record.{Record}
use Rattle.journal_rec.specs.declared.record.Record.TheVariants as records
use Rattle.journal_rec.specs.declared.record.Way.{Way}
use Rattle.journal_rec.specs.declared.record.Way.TheVariants as ways
use Rattle.records_model.specs.Labs.{LabState, Move, Says, SetLab, Creates, Deletes, BeginsIn, BeginsOut, BeginsChange, Commits, Aborts, find, others, becomes, is_out, deleted, moved_one, moved_in, moved_of, moved}
use Rattle.records_model.proofs.Finding.{none_some, found_from}
use Rattle.lab_state.specs.Texts.{the_texts}
use Rattle.records_model.proofs.LabLaws.{in_state-some, with_replaced-some, found_one}
use Rattle.records_model.proofs.Swaps.{find_others}
use Rattle.lab_base.specs.Lists.{Has, listed}
use Rattle.lab_base.proofs.Members.{Has-left, Has-right, Has-flat_map}
use Rattle.lab_base.proofs.Bytes.{bytes_other}
use Rattle.lab_model.specs.Sound.{is_moving}
use Rattle.recovery.specs.Due.{due, is_busy, swap_if, swaps_of}
use Rattle.swap_turns.specs.Swaps.{Swap, Moves}
use Rattle.swap_turns.specs.Records.{IsBroken}
use Rattle.swap_turns.specs.Beginning.{opened, settling}
use Rattle.swap_turns.specs.Finishing.{Finishes}
use Rattle.swap_turns.specs.Legs.{commits, last_move, last_move_by}
use Rattle.swap_turns.specs.Running.{OpenSwap}
use Rattle.swap_turns.specs.Settling.{Settles}
use Rattle.swap_turns.specs.Turning.{Outcome, More, TurnsBack, Ended, Stuck, Unwritten, Stopped, TurnSteps}
use Rattle.swap_turns.specs.Whole.{SwapSteps, begun, unwritten, stopped}
use Rattle.swap_turns.proofs.Finishing.{onward_swap}
use Rattle.lab_core.specs.LabSteps.{BeginSteps}
use Rattle.lab_core.specs.Recovery.{SettlesSome, some, within}
use Rattle.lab_tasks.specs.Tasks.{EndsNoMove}
use Rattle.lab_core.specs.Tells.{IsAtRest}

-- ---- lists of experiments
find_added : (name : List ℕ) (es : List Experiment) (e : Experiment) → e.name ≢ name → find name (es ++ e ∷ []) ≡ find name es
find_added name [] e apart = cond-false (bytes_eq e.name name) (Some e) None (bytes_other e.name name apart)
find_added name (x ∷ es) e apart = ap (λ o. cond (bytes_eq x.name name) (Some x) o) (find_added name es e apart)

find_without : (own name : List ℕ) (es : List Experiment) → own ≢ name → find name (others own es) ≡ find name es
find_without own name [] apart = refl
find_without own name (x ∷ es) apart = elim (cases_Bool (bytes_eq x.name own)) [
  | inl yes' ↦
      let x_is : x.name ≡ own = (bytes_eq-Decides x.name own).0 yes' in
      ap (λ l. find name l) (cond-true (bytes_eq x.name own) es (x ∷ others own es) yes')
      ∙ sym (cond-false (bytes_eq x.name name) (Some x) (find name es) (bytes_other x.name name (λ same. apart (sym x_is ∙ same))))
  | inr no' ↦
      ap (λ l. find name l) (cond-false (bytes_eq x.name own) es (x ∷ others own es) no')
      ∙ ap (λ o. cond (bytes_eq x.name name) (Some x) o) (find_without own name es apart)
]

if_some : {X : Type 0} (b : Bool) (x y : X) → ◌≡◌ {A = Option X} (if b then Some x else None) (Some y) → x ≡ y
if_some true x y h = same_Some x y h
if_some false x y h = none_some y h

-- what an experiment becomes keeps its name
becomes_name : (lab : Lab) (es : List Experiment) (e g : Experiment) (phase : Phase) (move : Move) → becomes lab es e phase move ≡ Some g → g.name ≡ e.name
becomes_name lab es e g Out (BeginsIn name mapping tags) h = sym (ap (λ x. x.name) (if_some _ _ g h))
becomes_name lab es e g (In old old_tags) (BeginsOut name) h = sym (ap (λ x. x.name) (same_Some _ g h))
becomes_name lab es e g (In old old_tags) (BeginsChange name wiring mapping tags) h = sym (ap (λ x. x.name) (if_some _ _ g h))
becomes_name lab es e g (Moving None (Some new)) (Commits name) h = sym (ap (λ x. x.name) (same_Some _ g h))
becomes_name lab es e g (Moving (Some old) (Some new)) (Commits name) h = sym (ap (λ x. x.name) (same_Some _ g h))
becomes_name lab es e g (Moving (Some old) None) (Commits name) h = sym (ap (λ x. x.name) (same_Some _ g h))
becomes_name lab es e g (Moving None (Some new)) (Aborts name) h = sym (ap (λ x. x.name) (same_Some _ g h))
becomes_name lab es e g (Moving (Some old) (Some new)) (Aborts name) h = sym (ap (λ x. x.name) (same_Some _ g h))
becomes_name lab es e g phase move h = none_some g h

-- ---- moves
-- the move is of no experiment of that name
abbrev pub IsApart : List ℕ → Move → Type 0
IsApart name (SetLab lab) = Unit {0}
IsApart name (Creates own wiring) = own ≢ name
IsApart name (Deletes own) = own ≢ name
IsApart name (BeginsIn own mapping tags) = own ≢ name
IsApart name (BeginsOut own) = own ≢ name
IsApart name (BeginsChange own wiring mapping tags) = own ≢ name
IsApart name (Commits own) = own ≢ name
IsApart name (Aborts own) = own ≢ name

-- `recover` leaves it: it has an open swap, or doesn't move
abbrev pub IsSpared : List (List ℕ) → LabState → List ℕ → Type 0
IsSpared busy s name = (is_busy busy name ≡ true) ⊎ IsAtRest s name

-- the lab is the same, and set still, and the experiment of that name is as it was
pub record Stays (name : List ℕ) (s u : LabState) : Type 0 where
  pub set : is_some u.lab ≡ true
  pub lab : u.lab ≡ s.lab
  pub same : find name u.experiments ≡ find name s.experiments

module _ (name : List ℕ) where
  one_stays : (lab : Lab) (es : List Experiment) (own : List ℕ) (move : Move) (xs : List Experiment) → own ≢ name → moved_one lab es own (find own es) move ≡ Some xs → find name xs ≡ find name es
  one_stays lab es own move xs apart h =
      let e = found_one lab es own move (find own es) xs h in
      let g = with_replaced-some own es (becomes lab es e.0 e.0.phase move) xs e.2 in
      let named : g.0.name ≡ own = becomes_name lab es e.0 g.0 e.0.phase move g.1 ∙ (found_from own es e.0 e.1).name_is in
      ap (λ l. find name l) (sym g.2) ∙ find_others own name es g.0 named (λ same. apart (sym same))

  deleted_stays : (es : List Experiment) (own : List ℕ) (o : Option Experiment) (xs : List Experiment) → own ≢ name → deleted own es o ≡ Some xs → find name xs ≡ find name es
  deleted_stays es own None xs apart h = none_some xs h
  deleted_stays es own (Some e) xs apart h = ap (λ l. find name l) (sym (if_some (is_out e.phase) (others own es) xs h)) ∙ find_without own name es apart

  in_stays : (lab : Lab) (es : List Experiment) (move : Move) (xs : List Experiment) → IsApart name move → moved_in lab es move ≡ Some xs → find name xs ≡ find name es
  in_stays lab es (SetLab l) xs apart h = none_some xs h
  in_stays lab es (Creates own wiring) xs apart h = ap (λ l. find name l) (sym (if_some _ _ xs h)) ∙ find_added name es (record { name = own; wiring = wiring; phase = Out }) apart
  in_stays lab es (Deletes own) xs apart h = deleted_stays es own (find own es) xs apart h
  in_stays lab es (BeginsIn own mapping tags) xs apart h = one_stays lab es own (BeginsIn own mapping tags) xs apart h
  in_stays lab es (BeginsOut own) xs apart h = one_stays lab es own (BeginsOut own) xs apart h
  in_stays lab es (BeginsChange own wiring mapping tags) xs apart h = one_stays lab es own (BeginsChange own wiring mapping tags) xs apart h
  in_stays lab es (Commits own) xs apart h = one_stays lab es own (Commits own) xs apart h
  in_stays lab es (Aborts own) xs apart h = one_stays lab es own (Aborts own) xs apart h

  pub of_stays : (o : Option Lab) (es : List Experiment) (move : Move) (u : LabState) → is_some o ≡ true → IsApart name move → moved_of o es move ≡ Some u → (u.lab ≡ o) × (find name u.experiments ≡ find name es)
  of_stays None es move u set apart h = absurd (cc set)
  of_stays (Some lab) es move u set apart h =
      let xs = in_state-some lab (moved_in lab es move) u h in
      (ap (λ (x : LabState). x.lab) (sym xs.2), ap (λ (x : LabState). find name x.experiments) (sym xs.2) ∙ in_stays lab es move xs.0 apart xs.1)

  -- A MOVE of another experiment
  pub move_stays : (s u : LabState) (move : Move) → is_some s.lab ≡ true → IsApart name move → moved s move ≡ Some u → Stays name s u
  move_stays s u move set apart h = let both = of_stays s.lab s.experiments move u set apart h in record { set = ap is_some both.0 ∙ set; lab = both.0; same = both.1 }

  pub same_stays : (s u : LabState) → is_some s.lab ≡ true → u ≡ s → Stays name s u
  same_stays s u set is = record { set = ap (λ (x : LabState). is_some x.lab) is ∙ set; lab = ap (λ (x : LabState). x.lab) is; same = ap (λ (x : LabState). find name x.experiments) is }

  pub both_stay : (s u v : LabState) → Stays name s u → Stays name u v → Stays name s v
  both_stay s u v a b = record { set = b.set; lab = b.lab ∙ a.lab; same = b.same ∙ a.same }

  pub either_stays : (s u after : LabState) → is_some s.lab ≡ true → Stays name s u → (after ≡ s) ⊎ (after ≡ u) → Stays name s after
  either_stays s u after set moves (inl before) = same_stays s after set before
  either_stays s u after set moves (inr now) = both_stay s u after moves (same_stays u after moves.set now)

  broken_stays : (behind : Side → List Event) (s after : LabState) (r : Record) (move : Move) (steps : List Event) → is_some s.lab ≡ true → ((u : LabState) → moved s move ≡ Some u → Stays name s u) → IsBroken behind s r move steps after → Stays name s after
  broken_stays behind s after r move steps set each b = either_stays s b.state after set (each b.state b.moves) b.either

  -- A TURN of a swap of that name, as its last record leaves the experiment
  abbrev Lasts : LabState → List ℕ → Type 0
  Lasts s own = (commit : Bool) (u : LabState) → moved s (last_move_by commit own) ≡ Some u → Stays name s u

  turn_stays : (s after : LabState) (o : OpenSwap) (steps : List Event) (outcome : Outcome) → is_some s.lab ≡ true → Lasts s o.swap.name → TurnSteps s o steps outcome after → Stays name s after
  turn_stays s after o steps More set last h = same_stays s after set h.2
  turn_stays s after o steps (TurnsBack why) set last h = same_stays s after set h.4
  turn_stays s after o steps (Ended leg) set last h = last (commits o.swap leg) after h.0.1.moves
  turn_stays s after o steps (Stuck trouble) set last h = same_stays s after set h.3
  turn_stays s after o steps Unwritten set last h = broken_stays _ s after _ (last_move o.swap o.leg) steps set (last (commits o.swap o.leg)) h.1
  turn_stays s after o steps Stopped set last h = elim h [
    | inl course ↦ same_stays s after set course.1
    | inr ended ↦ broken_stays _ s after _ (last_move o.swap o.leg) steps set (last (commits o.swap o.leg)) ended.1
  ]

  -- A SWAP of another experiment
  last_apart : (commit : Bool) (own : List ℕ) → own ≢ name → IsApart name (last_move_by commit own)
  last_apart true own apart = apart
  last_apart false own apart = apart

  lasts_apart : (s : LabState) (own : List ℕ) → is_some s.lab ≡ true → own ≢ name → Lasts s own
  lasts_apart s own set apart = λ commit u h. move_stays s u (last_move_by commit own) set (last_apart commit own apart) h

  pub turned_stays : (s after : LabState) (o : OpenSwap) (steps : List Event) (outcome : Outcome) → is_some s.lab ≡ true → o.swap.name ≢ name → TurnSteps s o steps outcome after → Stays name s after
  turned_stays s after o steps outcome set own turn = turn_stays s after o steps outcome set (lasts_apart s o.swap.name set own) turn

  pub ended_stays : (s after : LabState) (o : OpenSwap) (steps : List Event) (outcome : Outcome) → is_some s.lab ≡ true → o.swap.name ≢ name → Finishes s o steps outcome after → Stays name s after
  ended_stays s after o steps outcome set own f =
      let named : f.at.swap.name ≡ o.swap.name = ap (λ (q : Swap). q.name) (onward_swap s o f.front f.at f.onward) in
      turned_stays s after f.at f.behind outcome set (λ same. own (sym named ∙ same)) f.turn

  pub begun_stays : (s after : LabState) (begin : Record) (move : Move) (steps : List Event) (outcome : Outcome) → is_some s.lab ≡ true → IsApart name move → BeginSteps s begin move steps after outcome → Stays name s after
  begun_stays s after begin move steps More set apart b = move_stays s after move set apart b.moves
  begun_stays s after begin move steps Unwritten set apart b = broken_stays _ s after begin move steps set (λ u h. move_stays s u move set apart h) b
  begun_stays s after begin move steps Stopped set apart b = broken_stays _ s after begin move steps set (λ u h. move_stays s u move set apart h) b
  begun_stays s after begin move steps (TurnsBack why) set apart b = absurd b
  begun_stays s after begin move steps (Ended leg) set apart b = absurd b
  begun_stays s after begin move steps (Stuck trouble) set apart b = absurd b

  pub swap_stays : (p : Swap) (s after : LabState) (begin : Record) (move : Move) (steps : List Event) (outcome : Outcome) → is_some s.lab ≡ true → IsApart name move → p.name ≢ name → SwapSteps p s begin move steps after outcome → Stays name s after
  swap_stays p s after begin move steps outcome set apart own (begun b) =
      let first = move_stays s b.state move set apart b.begins.moves in
      both_stay s b.state after first (ended_stays b.state after (opened p) b.behind outcome first.set own b.finishes)
  swap_stays p s after begin move steps outcome set apart own (unwritten b is) = broken_stays _ s after begin move steps set (λ u h. move_stays s u move set apart h) b
  swap_stays p s after begin move steps outcome set apart own (stopped b is) = broken_stays _ s after begin move steps set (λ u h. move_stays s u move set apart h) b

  -- A SETTLING, where the experiment of that name, if there is one, doesn't move
  no_end : (lab : Lab) (es : List Experiment) (e g : Experiment) (phase : Phase) (commit : Bool) (own : List ℕ) → is_moving (record e { phase = phase }) ≡ false → becomes lab es e phase (last_move_by commit own) ≡ Some g → ⊥
  no_end lab es e g (Moving old new) commit own rests h = absurd (cc rests)
  no_end lab es e g Out true own rests h = none_some g h
  no_end lab es e g Out false own rests h = none_some g h
  no_end lab es e g (In mapping tags) true own rests h = none_some g h
  no_end lab es e g (In mapping tags) false own rests h = none_some g h

  last_one : (lab : Lab) (es : List Experiment) (commit : Bool) (own : List ℕ) (xs : List Experiment) → moved_in lab es (last_move_by commit own) ≡ Some xs → moved_one lab es own (find own es) (last_move_by commit own) ≡ Some xs
  last_one lab es true own xs h = h
  last_one lab es false own xs h = h

  no_last : (o : Option Lab) (es : List Experiment) (commit : Bool) (own : List ℕ) (u : LabState) → ((e : Experiment) → find own es ≡ Some e → is_moving e ≡ false) → is_some o ≡ true → moved_of o es (last_move_by commit own) ≡ Some u → ⊥
  no_last None es commit own u rests set h = absurd (cc set)
  no_last (Some lab) es commit own u rests set h =
      let xs = in_state-some lab (moved_in lab es (last_move_by commit own)) u h in
      let e = found_one lab es own (last_move_by commit own) (find own es) xs.0 (last_one lab es commit own xs.0 xs.1) in
      let g = with_replaced-some own es (becomes lab es e.0 e.0.phase (last_move_by commit own)) xs.0 e.2 in
      no_end lab es e.0 g.0 e.0.phase commit own (rests e.0 e.1) g.1

  rest_lasts : (s : LabState) (own : List ℕ) → is_some s.lab ≡ true → IsAtRest s name → Lasts s own
  rest_lasts s own set rests = λ commit u h. elim (cases_Bool (bytes_eq own name)) [
    | inl yes' ↦ absurd (no_last s.lab s.experiments commit own u (λ e is. rests e (ap (λ n. find n s.experiments) (sym ((bytes_eq-Decides own name).0 yes')) ∙ is)) set h)
    | inr no' ↦ move_stays s u (last_move_by commit own) set (last_apart commit own (λ same. (let bad : false ≡ true = sym no' ∙ (bytes_eq-Decides own name).1 same in cc bad))) h
  ]

  pub rests_on : (s u : LabState) → Stays name s u → IsAtRest s name → IsAtRest u name
  rests_on s u stays rests = λ e is. rests e (sym stays.same ∙ is)

  finish_stays : (s after : LabState) (p : Swap) (steps : List Event) (outcome : Outcome) → is_some s.lab ≡ true → IsAtRest s name → Finishes s (settling p) steps outcome after → Stays name s after
  finish_stays s after p steps outcome set rests f = turn_stays s after f.at f.behind outcome set (rest_lasts s f.at.swap.name set rests) f.turn

  pub settles_stay : (ps : List Swap) (outcomes : List Outcome) (s after : LabState) (steps : List Event) → is_some s.lab ≡ true → IsAtRest s name → Settles s ps outcomes steps after → Stays name s after
  settles_stay [] [] s after steps set rests h = same_stays s after set h.1
  settles_stay [] (outcome ∷ outcomes) s after steps set rests h = absurd h
  settles_stay (p ∷ ps) [] s after steps set rests h = absurd h
  settles_stay (p ∷ ps) (outcome ∷ outcomes) s after steps set rests h =
      let first = finish_stays s h.2 p h.0 outcome set rests h.3.is in
      both_stay s h.2 after first (settles_stay ps outcomes h.2 after h.1 first.set (rests_on s h.2 first rests) h.4)

  pub some_stay : (s after : LabState) (busy : List (List ℕ)) (steps : List Event) → is_some s.lab ≡ true → IsAtRest s name → SettlesSome s busy steps after → Stays name s after
  some_stay s after busy steps set rests (some first) = settles_stay first.past first.outcomes s after steps set rests first.settles
  some_stay s after busy steps set rests (within outcome front behind is b starts) =
      let first = settles_stay b.past b.outcomes s b.mid b.front set rests b.settled in
      both_stay s b.mid after first (finish_stays b.mid after b.last b.behind outcome first.set (rests_on s b.mid first rests) b.breaks)

  -- A SETTLING OF OTHERS, among them none of that name
  abbrev pub AreApart : List Swap → Type 0
  AreApart ps = (p : Swap) → Has ps p → p.name ≢ name

  pub settles_apart : (ps : List Swap) (outcomes : List Outcome) (s after : LabState) (steps : List Event) → is_some s.lab ≡ true → AreApart ps → Settles s ps outcomes steps after → Stays name s after
  settles_apart [] [] s after steps set apart h = same_stays s after set h.1
  settles_apart [] (outcome ∷ outcomes) s after steps set apart h = absurd h
  settles_apart (p ∷ ps) [] s after steps set apart h = absurd h
  settles_apart (p ∷ ps) (outcome ∷ outcomes) s after steps set apart h =
      let first = ended_stays s h.2 (settling p) h.0 outcome set (apart p (inl refl)) h.3.is in
      both_stay s h.2 after first (settles_apart ps outcomes h.2 after h.1 first.set (λ q there. apart q (inr there)) h.4)

  some_apart : (s after : LabState) (busy : List (List ℕ)) (steps : List Event) → is_some s.lab ≡ true → AreApart (swaps_of busy s.experiments) → SettlesSome s busy steps after → Stays name s after
  some_apart s after busy steps set apart (some first) =
      settles_apart first.past first.outcomes s after steps set (λ p there. apart p (subst (λ l. Has l p) (sym first.all) (Has-left first.past first.rest p there))) first.settles
  some_apart s after busy steps set apart (within outcome front behind is b starts) =
      let within : (p : Swap) → Has (b.past ++ b.last ∷ b.rest) p → p.name ≢ name = (λ p there. apart p (subst (λ l. Has l p) (sym b.all) there)) in
      let first = settles_apart b.past b.outcomes s b.mid b.front set (λ p there. within p (Has-left b.past (b.last ∷ b.rest) p there)) b.settled in
      both_stay s b.mid after first (ended_stays b.mid after (settling b.last) b.behind outcome first.set (within b.last (Has-right b.past (b.last ∷ b.rest) b.last (inl refl))) b.breaks)

  -- a swap that is due is of an experiment that isn't busy
  named_if : (own : List ℕ) (phase : Phase) (p : Swap) → Has (listed (swap_if own phase)) p → p.name ≡ own
  named_if own Out p there = absurd there
  named_if own (In mapping tags) p there = absurd there
  named_if own (Moving old new) p (inl same) = ap (λ (q : Swap). q.name) (sym same)
  named_if own (Moving old new) p (inr there) = absurd there

  due_if : (b : Bool) (own : List ℕ) (phase : Phase) (p : Swap) → Has (listed (if b then None else swap_if own phase)) p → (b ≡ false) × (p.name ≡ own)
  due_if true own phase p there = absurd there
  due_if false own phase p there = (refl, named_if own phase p there)

  pub busy_apart : (busy : List (List ℕ)) (es : List Experiment) → is_busy busy name ≡ true → AreApart (swaps_of busy es)
  busy_apart busy es is_busy_now = λ p there.
      let e = Has-flat_map (λ x. listed (due busy x)) es p there in
      let d = due_if (is_busy busy e.0.name) e.0.name e.0.phase p e.2 in
      (λ named. (let both : false ≡ true = sym d.0 ∙ ap (λ n. is_busy busy n) (sym d.1 ∙ named) ∙ is_busy_now in cc both))

  -- `recover`
  pub settled_stay : (busy : List (List ℕ)) (outcomes : List Outcome) (s after : LabState) (steps : List Event) → is_some s.lab ≡ true → IsSpared busy s name → Settles s (swaps_of busy s.experiments) outcomes steps after → Stays name s after
  settled_stay busy outcomes s after steps set (inl is_busy_now) settles = settles_apart _ outcomes s after steps set (busy_apart busy s.experiments is_busy_now) settles
  settled_stay busy outcomes s after steps set (inr rests) settles = settles_stay _ outcomes s after steps set rests settles

  pub in_part_stay : (busy : List (List ℕ)) (s after : LabState) (steps : List Event) → is_some s.lab ≡ true → IsSpared busy s name → SettlesSome s busy steps after → Stays name s after
  in_part_stay busy s after steps set (inl is_busy_now) part = some_apart s after busy steps set (busy_apart busy s.experiments is_busy_now) part
  in_part_stay busy s after steps set (inr rests) part = some_stay s after busy steps set rests part

-- A RECORD THAT ENDS NO MOVE leaves each experiment that moves
abbrev EndsNone : Move → Type 0
EndsNone (Commits name) = ⊥
EndsNone (Aborts name) = ⊥
EndsNone move = Unit {0}

begin_ends_none : (s : LabState) (exp : List ℕ) (way : Way) (move : Move) → Says the_texts s (records.Begin exp way) move → EndsNone move
begin_ends_none s exp (ways.In map tags) move says = subst EndsNone (sym says.9) tt
begin_ends_none s exp ways.Out move says = subst EndsNone (sym says) tt
begin_ends_none s exp (ways.Change top map tags) move says = subst EndsNone (sym says.8) tt
begin_ends_none s exp (ways.Change2 top map tags) move says = subst EndsNone (sym says.8) tt

ends_none : (s : LabState) (entry : Record) (move : Move) → EndsNoMove entry → Says the_texts s entry move → EndsNone move
ends_none s (records.Lab ptop) move no_end says = subst EndsNone (sym says.3) tt
ends_none s (records.Create exp top) move no_end says = subst EndsNone (sym says.2) tt
ends_none s (records.Create2 exp top) move no_end says = subst EndsNone (sym says.2) tt
ends_none s (records.Delete exp) move no_end says = subst EndsNone (sym says) tt
ends_none s (records.Begin exp way) move no_end says = begin_ends_none s exp way move says
ends_none s (records.Commit exp) move no_end says = absurd no_end
ends_none s (records.Abort exp) move no_end says = absurd no_end

-- the move is of another one, since one that moves begins nothing
module _ (es : List Experiment) (e : Experiment) (name : List ℕ) (old new : Option Mapped) (found : find name es ≡ Some e) (moving : e.phase ≡ Moving old new) where
  in_apart : (lab : Lab) (move : Move) (xs : List Experiment) → EndsNone move → moved_in lab es move ≡ Some xs → IsApart name move
  in_apart lab (SetLab l) xs none h = tt
  in_apart lab (Creates own wiring) xs none h = λ same. grind arith
  in_apart lab (Deletes own) xs none h = λ same. grind arith
  in_apart lab (BeginsIn own mapping tags) xs none h = λ same. grind arith
  in_apart lab (BeginsOut own) xs none h = λ same. grind arith
  in_apart lab (BeginsChange own wiring mapping tags) xs none h = λ same. grind arith
  in_apart lab (Commits own) xs none h = absurd none
  in_apart lab (Aborts own) xs none h = absurd none

  of_apart : (o : Option Lab) (move : Move) (u : LabState) → (o ≡ None → es ≡ []) → EndsNone move → moved_of o es move ≡ Some u → (u.lab ≡ o) × (find name u.experiments ≡ find name es)
  of_apart None move u empty none h = none_some e (sym (ap (λ l. find name l) (empty refl)) ∙ found)
  of_apart (Some l) move u empty none h = let xs = in_state-some l (moved_in l es move) u h in of_stays name (Some l) es move u refl (in_apart l move xs.0 none xs.1) h

pub record_leaves : (s u : LabState) (entry : Record) (move : Move) (p : Swap) → (s.lab ≡ None → s.experiments ≡ []) → EndsNoMove entry → Says the_texts s entry move → Moves p s → moved s move ≡ Some u
    → (u.lab ≡ s.lab) × (find p.name u.experiments ≡ find p.name s.experiments)
record_leaves s u entry move p empty no_end says m h = of_apart s.experiments m.exp p.name p.old p.new m.found m.moving s.lab move u empty (ends_none s entry move no_end says) h
