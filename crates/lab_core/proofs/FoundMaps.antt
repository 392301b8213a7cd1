-- A mapping that a search may answer is shaped for the lab and its wiring.
use Rattle.std.specs.List.{filter_map, cons_option}
use Rattle.std.proofs.Common.{◌≡◌, ◌⊎◌, inl, inr, ℕ, List, [], ◌∷◌, ◌++◌, append_assoc, length, map, get_or, Contains, Option, Some, None, Ok, refl, sym, ◌∙◌, ap, subst, length-append, arith}
use Rattle.std.proofs.lemmas.Bool.{cases_lt}
use Rattle.std.proofs.lemmas.List.{append-nil, get_or_append_left}
use Rattle.std.proofs.Math.Seq.{get_or-append_seam}
use Rattle.lab_base.specs.Lists.{Has}
use Rattle.lab_base.proofs.Members.{Has-map, Has-flat_map, Has-place, Has-slice_get}
use Rattle.virt_topo.specs.declared.mapping.Mapping.{Mapping}
use Rattle.virt_topo.specs.Soundness.{IsSound}
use Rattle.lab_model.specs.Shapes.{IsShaped, Place}
use Rattle.node_maps.specs.NodeMaps.{IsChoice}
use Rattle.node_maps.proofs.MapLaws.{choice_within, mapped_shaped}
use Rattle.map_anneal.specs.Sought.{Sought, choices, mapped, sought}
use Rattle.assign_core.specs.Exact.{IsAllowed, all_choices, extended, node_maps}
use Rattle.assign_core.specs.declared.whole.Solved.{Solved}
use Rattle.assign_core.specs.declared.whole.Solved.TheVariants as solved
use Rattle.lab_judge.specs.Searches.{need_mapping}
use Rattle.lab_core.proofs.PromiseRuns.{FoundShaped}

-- AN ELEMENT of a list that is filtered and changed
has_option : {Y : Type 0} (o : Option Y) (ys : List Y) (y : Y) → Has (cons_option o ys) y → (o ≡ Some y) ⊎ Has ys y
has_option None ys y has = inr has
has_option (Some z) ys y (inl same) = inl (ap (λ v. Some v) same)
has_option (Some z) ys y (inr has) = inr has

has_changed : {X Y : Type 0} (h : X → Option Y) (xs : List X) (y : Y) → Has (filter_map h xs) y → (x : X) × Has xs x × (h x ≡ Some y)
has_changed h [] y has = absurd has
has_changed h (x ∷ xs) y has = elim (has_option (h x) (filter_map h xs) y has) [
  | inl here ↦ (x, inl refl, here)
  | inr there ↦ let r = has_changed h xs y there in (r.0, inr r.1, r.2)
]

-- ONE CANDIDATE MORE
choice_more : (cs : List (List Place)) (places c : List Place) (p : Place) → IsChoice cs places → Contains c p → IsChoice (cs ++ c ∷ []) (places ++ p ∷ [])
choice_more cs places c p is among = record {
  one_each = omega (arith, is.one_each, length-append places (p ∷ []), length-append cs (c ∷ []));
  among = λ v d lt. elim (cases_lt v (length cs)) [
    | inl before ↦
        let left : get_or (cs ++ c ∷ []) v [] ≡ get_or cs v [] = get_or_append_left cs (c ∷ []) [] v before in
        let right : get_or (places ++ p ∷ []) v d ≡ get_or places v d = get_or_append_left places (p ∷ []) d v (omega (arith, before, is.one_each)) in
        subst (λ l. Contains l (get_or (places ++ p ∷ []) v d)) (sym left) (subst (λ q. Contains (get_or cs v []) q) (sym right) (is.among v d before))
    | inr after ↦
        let at : length cs ≡ v = omega (arith, after, lt, length-append cs (c ∷ [])) in
        let at_place : length places ≡ v = is.one_each ∙ at in
        let left : get_or (cs ++ c ∷ []) v [] ≡ c = ap (λ n. get_or (cs ++ c ∷ []) n []) (sym at) ∙ get_or-append_seam cs c [] [] in
        let right : get_or (places ++ p ∷ []) v d ≡ p = ap (λ n. get_or (places ++ p ∷ []) n d) (sym at_place) ∙ get_or-append_seam places p [] d in
        subst (λ l. Contains l (get_or (places ++ p ∷ []) v d)) (sym left) (subst (λ q. Contains c q) (sym right) among)
  ];
}

-- ALL CHOICES are choices
each_choice : (todo past : List (List Place)) (maps : List (List Place)) → ((m : List Place) → Has maps m → IsChoice past m) → (places : List Place) → Has (all_choices maps todo) places → IsChoice (past ++ todo) places
each_choice [] past maps are places has = subst (λ l. IsChoice l places) (sym (append-nil past)) (are places has)
each_choice (c ∷ todo) past maps are places has =
    subst (λ l. IsChoice l places) (append_assoc past (c ∷ []) todo)
    (each_choice todo (past ++ c ∷ []) (extended maps c)
    (λ m there.
    let x = Has-flat_map (λ q. map (λ p. q ++ p ∷ []) c) maps m there in
    let y = Has-map (λ p. x.0 ++ p ∷ []) c m x.2 in
    subst (λ l. IsChoice (past ++ c ∷ []) l) y.2 (choice_more past x.0 c y.0 (are x.0 x.1) (Has-place c y.0 y.0 y.1)))
    places has)

none_yet : (m : List Place) → Has ([] ∷ []) m → IsChoice [] m
none_yet m (inl same) = subst (λ l. IsChoice [] l) same (record { one_each = refl; among = λ v d lt. absurd (omega (arith, lt)) })
none_yet m (inr none) = absurd none

shaped_by : (s : Sought) (places : List Place) (m : Mapping) → IsSound s.wiring → IsChoice (choices s) places → mapped s places ≡ Some m → IsShaped s.lab s.wiring m
shaped_by s places m sound choice is =
    let within = choice_within s.lab s.free s.wiring places choice in
    mapped_shaped s.lab s.free s.wiring places m sound within.placed within.are is

among_maps : (s : Sought) (m : Mapping) → IsSound s.wiring → Has (node_maps s) m → IsShaped s.lab s.wiring m
unfolding node_maps
among_maps s m sound has =
    let x = has_changed (λ places. mapped s places) (all_choices ([] ∷ []) (choices s)) m has in
    shaped_by s x.0 m sound (each_choice (choices s) [] ([] ∷ []) none_yet x.0 x.1) x.2

allowed_shaped : (s : Sought) (seed : ℕ) (found : Solved) (name : List ℕ) (m : Mapping) → IsSound s.wiring → IsAllowed s seed found → need_mapping name found ≡ Ok m → IsShaped s.lab s.wiring m
allowed_shaped s seed (solved.Least n cost) name m sound allowed is =
    let same : n ≡ m = cc is in
    subst (λ x. IsShaped s.lab s.wiring x) same (among_maps s n sound (Has-slice_get (node_maps s) allowed.1.place n allowed.1.stands))
allowed_shaped s seed (solved.Local n cost) name m sound allowed is =
    let same : n ≡ m = cc is in
    let its = allowed.3.node_map in
    subst (λ x. IsShaped s.lab s.wiring x) same (shaped_by s n.places n sound its.choice its.feasible)
allowed_shaped s seed solved.None name m sound allowed is = absurd (cc is)
allowed_shaped s seed solved.GaveUp name m sound allowed is = absurd (cc is)

pub found_shaped : FoundShaped
found_shaped rule s lab e seed found m sane is_lab has is_found some = allowed_shaped (sought lab is_found.free e.wiring rule) seed found e.name m (sane.wirings e has) is_found.allowed some
