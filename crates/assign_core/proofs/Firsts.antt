-- FirstFit, one virtual node more.
use Rattle.std.proofs.Common.{◌≡◌, ◌<◌, ◌∙◌, ◌+◌, ◌++◌, ◌∷◌, [], ℕ, List, length, drop, get_or, Contains, Bool, true, false, cond, ◌&&◌, Option, Some, None, IfSome, refl, sym, ap, subst, suc, arith}
use Rattle.std.specs.List.{find}
use Rattle.std.specs.Option.{option_and_then, is_some}
use Rattle.std.proofs.lemmas.Bool.{cond_both}
use Rattle.std.proofs.lemmas.List.{drop_more}
use Rattle.phys_lab.specs.Labs.{Lab}
use Rattle.std.proofs.lemmas.Option.{option_and_then_some}
use Rattle.phys_lab.specs.declared.free.Free.{Free}
use Rattle.virt_topo.specs.declared.mapping.Mapping.{Mapping}
use Rattle.lab_base.proofs.Lists.{item_at}
use Rattle.node_maps.specs.NodeMaps.{candidates, IsChoice, node_map, plugs_of}
use Rattle.node_maps.specs.Moved.{may_share}
use Rattle.node_maps.proofs.MapLaws.{mapped_is}
use Rattle.virt_topo.specs.declared.wiring.Wiring.{Wiring}
use Rattle.lab_model.specs.Shapes.{Place}
use Rattle.lab_model.specs.Rules.{no_place}
use Rattle.assign_core.specs.Exact.{fits_next, if_fits, first_fit_from, first_fit}
use Rattle.assign_core.proofs.Choosing.{get_or_here}

pub first_step : (lab : Lab) (w : Wiring) (places : List Place) (cs : List (List Place)) (i : ℕ) → i < length cs
    → first_fit_from lab w places (drop i cs) ≡ option_and_then (λ p. first_fit_from lab w (places ++ p ∷ []) (drop (i + 1) cs)) (find (λ p. fits_next lab w places p) (get_or cs i []))
first_step lab w places cs i lt = ap (first_fit_from lab w places) (item_at cs i (get_or cs i []) lt (get_or_here cs i lt))

-- the next one is looked at
find_step : (f : Place → Bool) (xs : List Place) (i : ℕ) → i < length xs → find f (drop i xs) ≡ cond (f (get_or xs i no_place)) (Some (get_or xs i no_place)) (find f (drop (i + 1) xs))
find_step f xs i lt = ap (find f) (drop_more xs i no_place lt)

-- it fits, or it doesn't
pub some_fits : (lab : Lab) (w : Wiring) (places own : List Place) (i : ℕ) (p : Place) → i < length own → if_fits lab w places (get_or own i no_place) ≡ Some p
    → find (λ q. fits_next lab w places q) (drop i own) ≡ Some p
some_fits lab w places own i p lt is = find_step (λ q. fits_next lab w places q) own i lt ∙ by (fits_next lab w places (get_or own i no_place)) is
  where
    by : (b : Bool) → cond b (Some (get_or own i no_place)) None ≡ Some p → cond b (Some (get_or own i no_place)) (find (λ q. fits_next lab w places q) (drop (i + 1) own)) ≡ Some p
    by true found = found
    by false found = absurd (cc found)

pub none_fits : (lab : Lab) (w : Wiring) (places own : List Place) (i : ℕ) → i < length own → if_fits lab w places (get_or own i no_place) ≡ None
    → find (λ q. fits_next lab w places q) (drop i own) ≡ find (λ q. fits_next lab w places q) (drop (i + 1) own)
none_fits lab w places own i lt is = find_step (λ q. fits_next lab w places q) own i lt ∙ by (fits_next lab w places (get_or own i no_place)) is
  where
    rest : Option Place
    rest = find (λ q. fits_next lab w places q) (drop (i + 1) own)

    by : (b : Bool) → cond b (Some (get_or own i no_place)) None ≡ None → cond b (Some (get_or own i no_place)) rest ≡ rest
    by true none = absurd (cc none)
    by false none = refl

-- no more may be on its node
pub full_fits_none : (lab : Lab) (w : Wiring) (places : List Place) (p : Place) → may_share lab w (places ++ p ∷ []) p.0.0 ≡ false → None ≡ if_fits lab w places p
full_fits_none lab w places p full = ap (λ (b : Bool). cond (b && is_some (plugs_of lab w (places ++ p ∷ []))) (Some p) None) (sym full)

pub find_among : (f : Place → Bool) (xs : List Place) (p : Place) → find f xs ≡ Some p → Contains xs p
find_among f [] p e = absurd (cc e)
find_among f (x ∷ xs) p e =
    cond_both (f x) (Some x) (find f xs) (λ o. o ≡ Some p → Contains (x ∷ xs) p)
    (λ here h. (0, omega arith, cc h))
    (λ later h. let there = find_among f xs p h in (suc there.0, omega (arith, there.1), there.2)) e

pub find_passes : (f : Place → Bool) (xs : List Place) (p : Place) → find f xs ≡ Some p → f p ≡ true
find_passes f [] p e = absurd (cc e)
find_passes f (x ∷ xs) p e = by (f x) refl e (λ h. find_passes f xs p h)
  where
    by : (b : Bool) → f x ≡ b → cond b (Some x) (find f xs) ≡ Some p → (find f xs ≡ Some p → f p ≡ true) → f p ≡ true
    by true passed h later = let same : x ≡ p = cc h in ap f (sym same) ∙ passed
    by false failed h later = later h

-- what is mapped of a choice is one
pub mapped_choice : (lab : Lab) (free : Free) (w : Wiring) (places : List Place) (o : Option Mapping) → IsChoice (candidates lab free w) places
    → o ≡ node_map lab free w places → IfSome o (λ m. IsChoice (candidates lab free w) m.places)
mapped_choice lab free w places None choice e = tt
mapped_choice lab free w places (Some m) choice e =
    subst (λ ps. IsChoice (candidates lab free w) ps) (sym (mapped_is lab free w places m (sym e)).same_places) choice

-- the map of FirstFit is the map of its places
pub first_fit_mapped : (lab : Lab) (free : Free) (w : Wiring) (m : Mapping) → first_fit lab free w ≡ Some m → node_map lab free w m.places ≡ Some m
unfolding first_fit
first_fit_mapped lab free w m e =
    option_and_then_some (λ places. node_map lab free w places) (first_fit_from lab w [] (candidates lab free w)) m e
    (λ places _ is. ap (λ ps. node_map lab free w ps) (mapped_is lab free w places m is).same_places ∙ is)
