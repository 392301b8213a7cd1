-- Choices, one candidate more, and the best of their maps.
use Rattle.std.proofs.Common.{◌≡◌, ◌≤◌, ◌<◌, ◌∙◌, ◌+◌, ◌++◌, ◌∷◌, [], inl, inr, ℕ, List, length, take, drop, map, get_or, Contains, Option, Some, None, true, false, refl, sym, ap, subst, suc, zero, length-append, append_assoc, arith}
use Rattle.std.specs.List.{filter_map, cons_option}
use Rattle.std.proofs.lemmas.Grind.{flat_map-append}
use Rattle.std.proofs.lemmas.List.{take_more, take-append-drop, map-append, get_or_append_left, get_or_default, append-nil}
use Rattle.std.proofs.lemmas.List.Elements.{filter_map-append}
use Rattle.std.proofs.Math.Seq.{get_or-append_seam}
use Rattle.std.proofs.lemmas.Bool.{cases_lt, eqb-true, ltb-true, ltb-false, false_from_ne_true}
use Rattle.std.specs.Prelude.{nat_lt}
use Rattle.lab_base.proofs.Lists.{item_at}
use Rattle.lab_base.specs.declared.ids.IfaceId.{IfaceId}
use Rattle.virt_topo.specs.declared.mapping.Mapping.{Mapping}
use Rattle.lab_model.specs.Shapes.{Place}
use Rattle.node_maps.specs.NodeMaps.{IsChoice}
use Rattle.node_maps.specs.Least.{IsFirstLeast}
use Rattle.node_maps.proofs.MapLaws.{mapped_is}
use Rattle.node_maps.proofs.Leasts.{least_alone, least_kept, least_taken}
use Rattle.map_anneal.specs.declared.priced.Priced.{Priced}
use Rattle.map_anneal.specs.Sought.{Sought, choices, mapped, price}
use Rattle.map_anneal.specs.Searches.{IsPriced}
use Rattle.assign_core.specs.Bests.{IsBest, IsPartial, is_below, is_free}
use Rattle.assign_core.specs.Exact.{extended, all_choices}

pub partial_more : (cs : List (List Place)) (places : List Place) (p : Place) → IsPartial cs places → length places < length cs
    → Contains (get_or cs (length places) []) p → IsPartial cs (places ++ p ∷ [])
partial_more cs places p h lt among =
    let longer : length (places ++ p ∷ []) ≡ length places + 1 = length-append places (p ∷ []) in
    record {
      within = omega (arith, longer);
      among = λ v d here. elim (cases_lt v (length places)) [
        | inl before ↦ (
            let In : Place → Type 0 = λ q. Contains (get_or cs v []) q in
            subst In (sym (get_or_append_left places (p ∷ []) d v before)) (h.among v d before))
        | inr after ↦ (
            let same : length places ≡ v = omega (arith, longer) in
            let At : ℕ → Type 0 = λ n. Contains (get_or cs n []) (get_or (places ++ p ∷ []) n d) in
            let In : Place → Type 0 = λ q. Contains (get_or cs (length places) []) q in
            subst At same (subst In (sym (get_or-append_seam places p [] d)) among))
      ];
    }

pub partial_whole : (cs : List (List Place)) (places : List Place) → IsPartial cs places → length places ≡ length cs → IsChoice cs places
partial_whole cs places h e = record { one_each = e; among = λ v d lt. h.among v d (omega arith) }

all_choices-append : (a b cs : List (List Place)) → all_choices (a ++ b) cs ≡ all_choices a cs ++ all_choices b cs
all_choices-append a b [] = refl
all_choices-append a b (c ∷ cs) =
    ap (λ m. all_choices m cs) (flat_map-append (λ m. map (λ p. m ++ p ∷ []) c) a b) ∙ all_choices-append (extended a c) (extended b c) cs

pub get_or_here : (cs : List (List Place)) (d : ℕ) → d < length cs → get_or cs d [] ≡ get_or cs d (get_or cs d [])
get_or_here cs d lt = get_or_default cs d [] (get_or cs d []) lt

pub all_choices-none : (cs : List (List Place)) → all_choices [] cs ≡ []
all_choices-none [] = refl
all_choices-none (c ∷ cs) = all_choices-none cs

-- the maps of all choices that begin with one of these
abbrev pub found : Sought → List (List Place) → List (List Place) → List Mapping
found s begun cs = filter_map (λ p. mapped s p) (all_choices begun cs)

abbrev pub with_each : List Place → List Place → List (List Place)
with_each places c = map (λ p. places ++ p ∷ []) c

pub found_none : (s : Sought) (cs : List (List Place)) → found s [] cs ≡ []
found_none s cs = ap (λ xs. filter_map (λ p. mapped s p) xs) (all_choices-none cs)

pub found-append : (s : Sought) (a b cs : List (List Place)) → found s (a ++ b) cs ≡ found s a cs ++ found s b cs
found-append s a b cs =
    ap (λ xs. filter_map (λ p. mapped s p) xs) (all_choices-append a b cs)
    ∙ filter_map-append (λ p. mapped s p) (all_choices a cs) (all_choices b cs)

pub found_one_more : (s : Sought) (places c : List Place) (k : ℕ) (x : Place) (cs : List (List Place)) → k < length c → x ≡ get_or c k x
    → found s (with_each places (take (k + 1) c)) cs ≡ found s (with_each places (take k c)) cs ++ found s ((places ++ x ∷ []) ∷ []) cs
found_one_more s places c k x cs lt is =
    let ext : Place → List Place = λ p. places ++ p ∷ [] in
    let more : with_each places (take (k + 1) c) ≡ with_each places (take k c) ++ (places ++ x ∷ []) ∷ [] =
    ap (λ xs. map ext xs) (take_more c k x lt) ∙ map-append ext (take k c) (get_or c k x ∷ [])
    ∙ ap (λ y. map ext (take k c) ++ ext y ∷ []) (sym is) in
    ap (λ xs. found s xs cs) more ∙ found-append s (with_each places (take k c)) ((places ++ x ∷ []) ∷ []) cs

-- the maps that begin with the first candidates, and then the others
pub found_split : (s : Sought) (places c : List Place) (k : ℕ) (cs : List (List Place))
    → found s (with_each places c) cs ≡ found s (with_each places (take k c)) cs ++ found s (with_each places (drop k c)) cs
found_split s places c k cs =
    let ext : Place → List Place = λ p. places ++ p ∷ [] in
    ap (λ xs. found s (with_each places xs) cs) (sym (take-append-drop k c))
    ∙ ap (λ xs. found s xs cs) (map-append ext (take k c) (drop k c))
    ∙ found-append s (with_each places (take k c)) (with_each places (drop k c)) cs

pub found_here : (s : Sought) (places : List Place) (cs : List (List Place)) (d : ℕ) → d < length cs
    → found s (places ∷ []) (drop d cs) ≡ found s (with_each places (get_or cs d [])) (drop (d + 1) cs)
found_here s places cs d lt =
    ap (λ xs. found s (places ∷ []) xs) (item_at cs d (get_or cs d []) lt (get_or_here cs d lt))
    ∙ ap (λ xs. found s xs (drop (d + 1) cs)) (append-nil (with_each places (get_or cs d [])))

-- the next map is cheaper, or it isn't
pub best_taken : (s : Sought) (maps : List Mapping) (o : Option Priced) (p : Priced) → IsBest s maps o → IsPriced s p → is_below p.cost o ≡ true → IsBest s (maps ++ p.mapping ∷ []) (Some p)
best_taken s maps None p h is below =
    let P : List Mapping → Type 0 = λ xs. IsFirstLeast (price s) (xs ++ p.mapping ∷ []) p.mapping in
    record { priced = is; least = subst P (sym h) (least_alone (price s) p.mapping) }
best_taken s maps (Some q) p h is below =
    record { priced = is; least = least_taken (price s) maps q.mapping p.mapping h.least (let lt : p.cost < q.cost = ltb-true p.cost q.cost below in omega (arith, is.cost, h.priced.cost)) }

pub best_kept : (s : Sought) (maps : List Mapping) (o : Option Priced) (p : Priced) → IsBest s maps o → IsPriced s p → is_below p.cost o ≡ false → IsBest s (maps ++ p.mapping ∷ []) o
best_kept s maps None p h is above = absurd (cc above)
best_kept s maps (Some q) p h is above =
    record { priced = h.priced; least = least_kept (price s) maps q.mapping p.mapping h.least (let le : q.cost ≤ p.cost = ltb-false p.cost q.cost above in omega (arith, is.cost, h.priced.cost)) }

-- a cost that is no less isn't below
pub not_below : (cost : ℕ) (p : Priced) → p.cost ≤ cost → is_below cost (Some p) ≡ false
not_below cost p le = false_from_ne_true (nat_lt cost p.cost) (λ yes. absurd (let lt : cost < p.cost = ltb-true cost p.cost yes in omega (arith, lt, le)))

-- a choice whose map, if it is one, is no cheaper
pub best_bound : (s : Sought) (maps : List Mapping) (o : Option Priced) (places : List Place) (map : Option Mapping) → IsBest s maps o → IsChoice (choices s) places
    → ((plugs : List IfaceId) → is_below (price s (record { places = places; plugs = plugs })) o ≡ false) → mapped s places ≡ map → IsBest s (maps ++ cons_option map []) o
best_bound s maps o places None h choice above is = subst (λ xs. IsBest s xs o) (sym (append-nil maps)) h
best_bound s maps o places (Some m) h choice above is =
    let same = (mapped_is s.lab s.free s.wiring places m is).same_places in
    let p : Priced = record { mapping = m; cost = price s m } in
    let priced : IsPriced s p = record {
      node_map = record {
        choice = subst (λ (l : List Place). IsChoice (choices s) l) (sym same) choice;
        feasible = ap (λ (l : List Place). mapped s l) same ∙ is;
      };
      cost = refl;
    } in
    best_kept s maps o p h priced (subst (λ (l : List Place). is_below (price s (record { places = l; plugs = m.plugs })) o ≡ false) (sym same) (above m.plugs))

-- none is cheaper than one that costs nothing
least_free : (f : Mapping → ℕ) (xs ys : List Mapping) (x : Mapping) → IsFirstLeast f xs x → f x ≡ 0 → IsFirstLeast f (xs ++ ys) x
least_free f xs [] x h free = subst (λ zs. IsFirstLeast f zs x) (sym (append-nil xs)) h
least_free f xs (y ∷ ys) x h free =
    subst (λ zs. IsFirstLeast f zs x) (append_assoc xs (y ∷ []) ys)
    (least_free f (xs ++ y ∷ []) ys x (least_kept f xs x y h (omega (arith, free))) free)

-- a map that costs nothing stays the best
pub best_free : (s : Sought) (maps more : List Mapping) (o : Option Priced) → is_free o ≡ true → IsBest s maps o → IsBest s (maps ++ more) o
best_free s maps more None free h = absurd (cc free)
best_free s maps more (Some p) free h =
    let nothing : p.cost ≡ 0 = eqb-true p.cost 0 free in
    record { priced = h.priced; least = least_free (price s) maps more p.mapping h.least (sym h.priced.cost ∙ nothing) }

-- where all virtual nodes are placed there is one map to ask, or none
pub found_whole : (s : Sought) (places : List Place) (rest : List (List Place)) → rest ≡ [] → found s (places ∷ []) rest ≡ cons_option (mapped s places) []
found_whole s places rest empty = ap (λ xs. found s (places ∷ []) xs) empty

-- what begins alike in more places does so in fewer
take_once : {X : Type 0} (n m : ℕ) (xs : List X) → n ≤ m → take n (take m xs) ≡ take n xs
take_once zero m xs le = refl
take_once (suc n) zero xs le = absurd (omega (arith, le))
take_once (suc n) (suc m) [] le = refl
take_once (suc n) (suc m) (x ∷ xs) le = ap (λ l. x ∷ l) (take_once n m xs (omega (arith, le)))

pub begun_alike : (n : ℕ) (xs ys : List Place) → take (n + 1) xs ≡ take (n + 1) ys → take n xs ≡ take n ys
begun_alike n xs ys same = sym (take_once n (n + 1) xs (omega arith)) ∙ ap (take n) same ∙ take_once n (n + 1) ys (omega arith)
