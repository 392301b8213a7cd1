-- Where there is nothing to begin with there is no node map.
use Rattle.std.proofs.Common.{◌≡◌, ◌<◌, ◌∙◌, ◌+◌, ◌++◌, ◌∷◌, [], ℕ, zero, suc, List, length, map, get_or, All, Option, Some, None, refl, sym, ap, subst, length-append, arith}
use Rattle.std.specs.List.{filter_map, cons_option}
use Rattle.std.specs.Option.{option_map, option_map_or, option_and_then}
use Rattle.std.proofs.lemmas.List.Elements.{All-append, All-map}
use Rattle.std.proofs.lemmas.Option.{slice_get-get_or}
use Rattle.phys_lab.specs.declared.parts.Iface.{Iface}
use Rattle.phys_lab.specs.Labs.{Lab}
use Rattle.virt_topo.specs.declared.mapping.Mapping.{Mapping}
use Rattle.virt_topo.specs.Soundness.{IsSound}
use Rattle.lab_model.specs.Shapes.{Place}
use Rattle.lab_model.specs.Rules.{no_place, Laid}
use Rattle.node_maps.specs.declared.ends.End.{End}
use Rattle.node_maps.specs.NodeMaps.{ends_of, load_of, first_iface, laid_from, plugs_in, plugs_from}
use Rattle.node_maps.proofs.EndLists.{on_nodes}
use Rattle.node_maps.proofs.MapLaws.{candidates_count}
use Rattle.node_maps.proofs.MovedLaws.{no_plugs}
use Rattle.map_anneal.specs.Sought.{Sought, choices, mapped}
use Rattle.assign_core.specs.Begun.{HasNone}
use Rattle.assign_core.specs.Exact.{extended, all_choices, node_maps}
use Rattle.assign_core.proofs.Choosing.{all_choices-none}

-- a virtual node without candidates
extended_none : (maps : List (List Place)) → extended maps [] ≡ []
extended_none [] = refl
extended_none (m ∷ maps) = extended_none maps

none_chosen : (maps cs : List (List Place)) (v : ℕ) → v < length cs → get_or cs v [] ≡ [] → all_choices maps cs ≡ []
none_chosen maps [] v lt is = absurd (omega (arith, lt))
none_chosen maps (c ∷ cs) zero lt is = ap (λ (x : List Place). all_choices (extended maps x) cs) is ∙ ap (λ m. all_choices m cs) (extended_none maps) ∙ all_choices-none cs
none_chosen maps (c ∷ cs) (suc v) lt is = none_chosen (extended maps c) cs v (omega (arith, lt)) is

pub no_candidate : (s : Sought) → HasNone (choices s) → node_maps s ≡ []
unfolding node_maps
no_candidate s h = ap (λ xs. filter_map (λ p. mapped s p) xs) (none_chosen ([] ∷ []) (choices s) h.virt h.within h.none)

-- each choice has a place for each virtual node
longer_each : (n : ℕ) (maps : List (List Place)) (c : List Place) → All (λ (m : List Place). length m ≡ n) maps → All (λ (m : List Place). length m ≡ n + 1) (extended maps c)
longer_each n [] c each = λ k d lt. absurd (omega (arith, lt))
longer_each n (m ∷ maps) c each =
    let one : length m ≡ n = each 0 m (omega arith) in
    All-append (λ (x : List Place). length x ≡ n + 1) (map (λ p. m ++ p ∷ []) c) (extended maps c)
    (All-map (λ (x : List Place). length x ≡ n + 1) (λ p. m ++ p ∷ []) c (λ k d lt. let more = length-append m (get_or c k d ∷ []) in omega (arith, more, one)))
    (longer_each n maps c (λ k d lt. each (suc k) d (omega (arith, lt))))

whole_each : (n : ℕ) (maps cs : List (List Place)) → All (λ (m : List Place). length m ≡ n) maps → All (λ (m : List Place). length m ≡ n + length cs) (all_choices maps cs)
whole_each n maps [] each = λ k d lt. let one = each k d lt in omega (arith, one)
whole_each n maps (c ∷ cs) each = λ k d lt. let one = whole_each (n + 1) (extended maps c) cs (longer_each n maps c each) k d lt in omega (arith, one)

nothing_mapped : (f : List Place → Option Mapping) (xs : List (List Place)) → All (λ (x : List Place). f x ≡ None) xs → filter_map f xs ≡ []
nothing_mapped f [] none = refl
nothing_mapped f (x ∷ xs) none = ap (λ o. cons_option o (filter_map f xs)) (none 0 x (omega arith)) ∙ nothing_mapped f xs (λ k d lt. none (suc k) d (omega (arith, lt)))

-- a lab without interfaces
unserved : (lab : Lab) (ifaces : List Iface) (places : List Place) (es : List End) → lab.ifaces ≡ ifaces → length ifaces ≡ 0 → 0 < length es → All (λ (e : End). e.node < length places) es → plugs_from lab places es ≡ None
unserved lab (i ∷ ifaces) places es is none some placed = absurd (omega (arith, none))
unserved lab [] places [] is none some placed = absurd (omega (arith, some))
unserved lab [] places (e ∷ es) is none some placed =
    let given : Place → Option (List Laid) = λ q. option_map (λ j. [] ++ (load_of e, j) ∷ []) (first_iface 0 lab.ifaces [] q.0 (load_of e)) in
    let place = get_or places e.node no_place in
    ap (option_map (λ laid. plugs_in laid))
    (ap (λ o. option_and_then (λ laid. laid_from lab places es laid) (option_map_or given o (Some []))) (slice_get-get_or places e.node no_place (placed 0 e (omega arith)))
    ∙ ap (λ (xs : List Iface). option_and_then (λ laid. laid_from lab places es laid) (option_map (λ j. [] ++ (load_of e, j) ∷ []) (first_iface 0 xs [] place.0 (load_of e)))) is)

abbrev alone : List (List Place)
alone = [] ∷ []

pub no_interface : (s : Sought) → IsSound s.wiring → length s.lab.ifaces ≡ 0 → 0 < length (ends_of s.wiring.segments) → node_maps s ≡ []
unfolding node_maps
no_interface s sound none some =
    let cs = choices s in
    nothing_mapped (λ p. mapped s p) (all_choices ([] ∷ []) cs) (λ k d lt.
    let places = get_or (all_choices ([] ∷ []) cs) k d in
    let long = whole_each 0 ([] ∷ []) cs (λ j e j_lt. only j e (omega (arith, j_lt))) k d lt in
    let count : length places ≡ length s.wiring.nodes = (let all = candidates_count s.lab s.free s.wiring in omega (arith, long, all)) in
    let placed : All (λ (e : End). e.node < length places) (ends_of s.wiring.segments) = subst (λ (n : ℕ). All (λ (e : End). e.node < n) (ends_of s.wiring.segments)) (sym count) (on_nodes s.wiring sound) in
    sym (no_plugs s.lab s.free s.wiring places (unserved s.lab s.lab.ifaces places (ends_of s.wiring.segments) refl none some placed)))
  where
    only : (j : ℕ) (e : List Place) → j < 1 → length (get_or alone j e) ≡ 0
    only zero e lt = refl
    only (suc j) e lt = absurd (omega (arith, lt))
