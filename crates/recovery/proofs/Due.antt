-- The experiments that are due.
use Rattle.std.proofs.Common.{◌≡◌, ◌+◌, ℕ, zero, suc, Bool, true, false, cond, count_by, List, [], ◌∷◌, ◌++◌, map, take, drop, slice_get, Option, Some, None, refl, sym, ap, ◌∙◌, subst, arith}
use Rattle.std.specs.Str.{bytes_eq}
use Rattle.std.proofs.lemmas.Bool.{cond-true, cond-false, false_from_ne_true}
use Rattle.std.proofs.lemmas.Slice.Eq.{bytes_eq-Decides}
use Rattle.std.proofs.lemmas.List.{take_more, append-nil}
use Rattle.std.proofs.lemmas.List.Sums.{sum_by-append}
use Rattle.std.proofs.lemmas.Grind.{flat_map-append}
use Rattle.std.proofs.lemmas.Option.{slice_get_within, get_or_from_slice_get, same_Some}
use Rattle.lab_base.specs.Lists.{AllDiffer, listed}
use Rattle.lab_base.proofs.Members.{Has-mapped, Has-slice_get}
use Rattle.lab_model.specs.Sound.{is_moving}
use Rattle.phys_lab.specs.Labs.{Lab}
use Rattle.virt_topo.specs.declared.experiment.Experiment.{Experiment}
use Rattle.virt_topo.specs.declared.experiment.Phase.{Phase}
use Rattle.virt_topo.specs.declared.experiment.Phase.TheVariants.{Out, In, Moving}
use Rattle.records_model.specs.Labs.{LabState, find, replace, becomes, moved, moved_of, in_state, inside, in_phase}
use Rattle.records_model.proofs.Finding.{none_some}
use Rattle.records_model.proofs.LabLaws.{found_one, with_replaced-some}
use Rattle.swap_turns.specs.Swaps.{Swap}
use Rattle.swap_turns.specs.Legs.{last_move_by}
use Rattle.recovery.specs.Due.{is_busy, swap_if, due, due_in, name_of, swaps_of}

-- WHAT IS DUE moves, and isn't busy
if_moves : (name : List ℕ) (phase : Phase) (p : Swap) → swap_if name phase ≡ Some p → (p.name ≡ name) × (phase ≡ Moving p.old p.new)
if_moves name Out p h = none_some p h
if_moves name (In mapping tags) p h = none_some p h
if_moves name (Moving old new) p h = let is = same_Some (record { name = name; old = old; new = new }) p h in (ap (λ q. q.name) (sym is), λ i. Moving ((is i).old) ((is i).new))

due_if : (b : Bool) (name : List ℕ) (phase : Phase) (p : Swap) → cond b None (swap_if name phase) ≡ Some p → (b ≡ false) × (p.name ≡ name) × (phase ≡ Moving p.old p.new)
due_if true name phase p h = none_some p h
due_if false name phase p h = let m = if_moves name phase p h in (refl, m.0, m.1)

pub due_is : (busy : List (List ℕ)) (e : Experiment) (p : Swap) → due busy e ≡ Some p → (is_busy busy e.name ≡ false) × (p.name ≡ e.name) × (e.phase ≡ Moving p.old p.new)
due_is busy e p h = due_if (is_busy busy e.name) e.name e.phase p h

named_some : (o : Option Swap) (name : List ℕ) → Some name ≡ name_of o → (p : Swap) × (o ≡ Some p) × (name ≡ p.name)
named_some None name h = none_some name (sym h)
named_some (Some p) name h = (p, refl, same_Some name p.name h)

pub due_some : (busy : List (List ℕ)) (o : Option Experiment) (name : List ℕ) → Some name ≡ name_of (due_in busy o) → (e : Experiment) × (p : Swap) × (o ≡ Some e) × (due busy e ≡ Some p) × (name ≡ p.name)
due_some busy None name h = none_some name (sym h)
due_some busy (Some e) name h = let n = named_some (due busy e) name h in (e, n.0, refl, n.1, n.2)

named_none : (o : Option Swap) → None ≡ name_of o → o ≡ None
named_none None h = refl
named_none (Some p) h = none_some p.name h

pub due_none : (busy : List (List ℕ)) (e : Experiment) → None ≡ name_of (due_in busy (Some e)) → due busy e ≡ None
due_none busy e h = named_none (due busy e) h

-- one experiment more
pub swaps_more : (busy : List (List ℕ)) (es : List Experiment) (n : ℕ) (e : Experiment) → slice_get es n ≡ Some e → swaps_of busy (take (n + 1) es) ≡ swaps_of busy (take n es) ++ listed (due busy e)
swaps_more busy es n e h =
    ap (λ l. swaps_of busy l) (take_more es n e (slice_get_within es n e h) ∙ ap (λ x. take n es ++ x ∷ []) (get_or_from_slice_get es n e e h))
    ∙ flat_map-append (λ x. listed (due busy x)) (take n es) (e ∷ [])
    ∙ ap (λ l. swaps_of busy (take n es) ++ l) (append-nil (listed (due busy e)))

-- all of them, by one
split_at : (es : List Experiment) (n : ℕ) (e : Experiment) → slice_get es n ≡ Some e → es ≡ take n es ++ e ∷ drop (suc n) es
split_at [] n e h = none_some e h
split_at (x ∷ es) zero e h = ap (λ y. y ∷ es) (same_Some x e h)
split_at (x ∷ es) (suc n) e h = ap (λ l. x ∷ l) (split_at es n e h)

pub swaps_split : (busy : List (List ℕ)) (es : List Experiment) (n : ℕ) (e : Experiment) (p : Swap) → slice_get es n ≡ Some e → due busy e ≡ Some p → swaps_of busy (take n es) ++ p ∷ swaps_of busy (drop (suc n) es) ≡ swaps_of busy es
swaps_split busy es n e p at is =
    ap (λ o. swaps_of busy (take n es) ++ (listed o ++ swaps_of busy (drop (suc n) es))) (sym is)
    ∙ sym (flat_map-append (λ x. listed (due busy x)) (take n es) (e ∷ drop (suc n) es))
    ∙ ap (λ l. swaps_of busy l) (sym (split_at es n e at))

-- the experiments after
tail_of : {X : Type 0} (xs : List X) (n : ℕ) → drop (suc n) xs ≡ drop 1 (drop n xs)
tail_of xs zero = refl
tail_of [] (suc n) = refl
tail_of (x ∷ xs) (suc n) = tail_of xs n

pub rest_more : (es fs : List Experiment) (n : ℕ) → drop n es ≡ drop n fs → drop (n + 1) es ≡ drop (n + 1) fs
rest_more es fs n same =
    let next : n + 1 ≡ suc n = omega arith in
    ap (λ k. drop k es) next ∙ tail_of es n ∙ ap (drop 1) same ∙ sym (tail_of fs n) ∙ sym (ap (λ k. drop k fs) next)

at_front : {X : Type 0} (xs : List X) (n : ℕ) → slice_get xs n ≡ slice_get (drop n xs) 0
at_front xs zero = refl
at_front [] (suc n) = refl
at_front (x ∷ xs) (suc n) = at_front xs n

pub same_at : (es fs : List Experiment) (n : ℕ) → drop n es ≡ drop n fs → slice_get es n ≡ slice_get fs n
same_at es fs n same = at_front es n ∙ ap (λ l. slice_get l 0) same ∙ sym (at_front fs n)

pub rest_kept : (es : List Experiment) (n : ℕ) (e f : Experiment) → AllDiffer (map (λ x. x.name) es) → slice_get es n ≡ Some e → drop (n + 1) (replace e.name f es) ≡ drop (n + 1) es
rest_kept es n e f differ at = let next : n + 1 ≡ suc n = omega arith in ap (λ k. drop k (replace e.name f es)) next ∙ go es n differ at ∙ sym (ap (λ k. drop k es) next)
  where
    go : (es : List Experiment) (n : ℕ) → AllDiffer (map (λ x. x.name) es) → slice_get es n ≡ Some e → drop (suc n) (replace e.name f es) ≡ drop (suc n) es
    go [] n differ at = none_some e at
    go (x ∷ es) zero differ at = ap (drop 1) (cond-true (bytes_eq x.name e.name) (f ∷ es) (x ∷ replace e.name f es) ((bytes_eq-Decides x.name e.name).1 (ap (λ y. y.name) (same_Some x e at))))
    go (x ∷ es) (suc n) differ at =
        ap (drop (suc (suc n))) (cond-false (bytes_eq x.name e.name) (f ∷ es) (x ∷ replace e.name f es)
        (false_from_ne_true (bytes_eq x.name e.name) (λ yes'. differ.0 e.name (Has-mapped (λ y. y.name) es e (Has-slice_get es n e at)) ((bytes_eq-Decides x.name e.name).0 yes'))))
        ∙ go es n differ.1 at

-- A LAST RECORD ends the move of that experiment, and leaves each other as it was
pub record EndsOne (s : LabState) (name : List ℕ) (after : LabState) : Type 0 where
  pub was : Experiment
  pub found : find name s.experiments ≡ Some was
  pub now : Experiment
  pub named : now.name ≡ was.name
  pub rests : is_moving now ≡ false
  pub lab_same : after.lab ≡ s.lab
  pub is : after.experiments ≡ replace name now s.experiments

rests_by : (e f g : Experiment) → f ≡ g → (f.name ≡ e.name) × (is_moving f ≡ false) → (g.name ≡ e.name) × (is_moving g ≡ false)
rests_by e f g is h = subst (λ x. (x.name ≡ e.name) × (is_moving x ≡ false)) is h

ends_case : (lab : Lab) (es : List Experiment) (e : Experiment) (phase : Phase) (commit : Bool) (name : List ℕ) (f : Experiment) → becomes lab es e phase (last_move_by commit name) ≡ Some f → (f.name ≡ e.name) × (is_moving f ≡ false)
ends_case lab es e Out true name f h = none_some f h
ends_case lab es e Out false name f h = none_some f h
ends_case lab es e (In mapping tags) true name f h = none_some f h
ends_case lab es e (In mapping tags) false name f h = none_some f h
ends_case lab es e (Moving old (Some new)) true name f h = rests_by e (inside e new) f (same_Some (inside e new) f h) (refl, refl)
ends_case lab es e (Moving (Some old) None) true name f h = rests_by e (in_phase e Out) f (same_Some (in_phase e Out) f h) (refl, refl)
ends_case lab es e (Moving None None) true name f h = none_some f h
ends_case lab es e (Moving None (Some new)) false name f h = rests_by e (in_phase e Out) f (same_Some (in_phase e Out) f h) (refl, refl)
ends_case lab es e (Moving (Some old) (Some new)) false name f h = rests_by e (inside e old) f (same_Some (inside e old) f h) (refl, refl)
ends_case lab es e (Moving None None) false name f h = none_some f h
ends_case lab es e (Moving (Some old) None) false name f h = none_some f h

in_some : (lab : Lab) (o : Option (List Experiment)) (u : LabState) → in_state lab o ≡ Some u → (u.lab ≡ Some lab) × (o ≡ Some u.experiments)
in_some lab None u h = none_some u h
in_some lab (Some es) u h = let is = same_Some (record { lab = Some lab; experiments = es }) u h in (ap (λ (x : LabState). x.lab) (sym is), ap (λ (x : LabState). Some x.experiments) is)

ends_in : (lab : Lab) (es : List Experiment) (commit : Bool) (name : List ℕ) (u : LabState) → in_state lab (Rattle.records_model.specs.Labs.moved_one lab es name (find name es) (last_move_by commit name)) ≡ Some u
    → EndsOne (record { lab = Some lab; experiments = es }) name u
ends_in lab es commit name u h =
    let i = in_some lab _ u h in
    let f = found_one lab es name (last_move_by commit name) (find name es) u.experiments i.1 in
    let w = with_replaced-some name es (becomes lab es f.0 f.0.phase (last_move_by commit name)) u.experiments f.2 in
    let r = ends_case lab es f.0 f.0.phase commit name w.0 w.1 in
    record { was = f.0; found = f.1; now = w.0; named = r.0; rests = r.1; lab_same = i.0; is = sym w.2 }

ends_of : (o : Option Lab) (es : List Experiment) (commit : Bool) (name : List ℕ) (u : LabState) → moved_of o es (last_move_by commit name) ≡ Some u → EndsOne (record { lab = o; experiments = es }) name u
ends_of None es true name u h = none_some u h
ends_of None es false name u h = none_some u h
ends_of (Some lab) es true name u h = ends_in lab es true name u h
ends_of (Some lab) es false name u h = ends_in lab es false name u h

pub ends_one : (s : LabState) (commit : Bool) (name : List ℕ) (u : LabState) → moved s (last_move_by commit name) ≡ Some u → EndsOne s name u
ends_one s commit name u h = ends_of s.lab s.experiments commit name u h

-- one more is counted
pub count_more : {X : Type 0} (p : X → Bool) (xs : List X) (x : X) → count_by p (xs ++ x ∷ []) ≡ count_by p xs + cond (p x) 1 0
count_more p xs x = sum_by-append (λ y. cond (p y) 1 0) xs (x ∷ []) ∙ ap (λ k. count_by p xs + k) (one (cond (p x) 1 0))
  where
    one : (k : ℕ) → count_by (λ y. y) [] + k ≡ k
    one k = omega arith
