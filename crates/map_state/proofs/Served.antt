-- Of one virtual node more the rule asks its node alone.
use Rattle.std.proofs.Common.{◌≡◌, ◌≢◌, ◌<◌, ◌∙◌, ◌∷◌, ◌++◌, [], inl, inr, ℕ, suc, zero, List, length, map, get_or, drop, filter, Bool, true, false, cond, eqb, ◌==◌, Option, Some, None, All, refl, ap, sym, arith, length-append}
use Rattle.std.specs.Prelude.{slice_get}
use Rattle.std.specs.Option.{option_map, option_map_or, option_and_then, is_some}
use Rattle.std.proofs.lemmas.Bool.{cases_eq, eqb-true, ne_eqb}
use Rattle.std.proofs.lemmas.List.Elements.{filter_agree}
use Rattle.std.proofs.lemmas.Option.{slice_get-map, slice_get_within, get_or_from_slice_get}
use Rattle.lab_base.specs.declared.ids.IfaceId.{IfaceId}
use Rattle.lab_base.proofs.Tests.{same_tests}
use Rattle.phys_lab.specs.Labs.{Lab}
use Rattle.virt_topo.specs.declared.wiring.Wiring.{Wiring}
use Rattle.lab_model.specs.Shapes.{Place}
use Rattle.lab_model.specs.Rules.{no_place, Laid}
use Rattle.node_maps.specs.declared.ends.End.{End}
use Rattle.node_maps.specs.NodeMaps.{load_of, first_iface, with_plug, laid_from, plugs_in, plugs_from, plugs_of, ends_of}
use Rattle.node_maps.specs.Indexed.{ifaces_of, are_in_order}
use Rattle.node_maps.proofs.InOrder.{plugs_in_order}
use Rattle.map_state.specs.Nodes.{is_host, is_on, plugs_where}
use Rattle.map_state.proofs.ByNode.{all_plugs, own_plugs}
use Rattle.map_state.proofs.GivenAnew.{same_from, all_passed, count_given, filter_placed}

-- THE PLUGS OF ALL from those of each node, in the order of the ends
none_id : IfaceId
none_id = record { 0 = 0 }

abbrev taken : ℕ → (ℕ → List IfaceId) → ℕ → List IfaceId
taken m own n = cond (eqb m n) (drop 1 (own n)) (own n)

abbrev merged : List Place → List End → (ℕ → List IfaceId) → List IfaceId
merged places [] own = []
merged places (e ∷ es) own = get_or (own (get_or places e.node no_place).0.0) 0 none_id ∷ merged places es (taken (get_or places e.node no_place).0.0 own)

none_left : (l : List IfaceId) → length l ≡ 0 → [] ≡ l
none_left [] count = refl
none_left (i ∷ l) count = absurd (omega (arith, count))

one_left : (l : List IfaceId) (k : ℕ) → length l ≡ suc k → get_or l 0 none_id ∷ drop 1 l ≡ l
one_left [] k count = absurd (omega (arith, count))
one_left (i ∷ l) k count = refl

drop_count : (l : List IfaceId) (k : ℕ) → length l ≡ suc k → length (drop 1 l) ≡ k
drop_count [] k count = absurd (omega (arith, count))
drop_count (i ∷ l) k count = omega (arith, count)

abbrev AreOwn : List Place → List End → (ℕ → List IfaceId) → Type 0
AreOwn places es own = (n : ℕ) → length (own n) ≡ length (filter (is_on places n) es)

taken_own : (places : List Place) (e : End) (es : List End) (own : ℕ → List IfaceId) → AreOwn places (e ∷ es) own → AreOwn places es (taken (get_or places e.node no_place).0.0 own)
taken_own places e es own count n = by (eqb (get_or places e.node no_place).0.0 n) (count n)
  where
    by : (b : Bool) → length (own n) ≡ length (cond b (e ∷ filter (is_on places n) es) (filter (is_on places n) es)) → length (cond b (drop 1 (own n)) (own n)) ≡ length (filter (is_on places n) es)
    by true all = drop_count (own n) (length (filter (is_on places n) es)) all
    by false all = all

where_merged : (places : List Place) (es : List End) (own : ℕ → List IfaceId) → AreOwn places es own → (n : ℕ) → plugs_where (is_on places n) es (merged places es own) ≡ own n
where_merged places [] own count n = none_left (own n) (count n)
where_merged places (e ∷ es) own count n =
    by (eqb m n) refl (where_merged places es (taken m own) (taken_own places e es own count) n) (count n)
  where
    m : ℕ
    m = (get_or places e.node no_place).0.0

    rest : List IfaceId
    rest = plugs_where (is_on places n) es (merged places es (taken m own))

    by : (b : Bool) → eqb m n ≡ b → rest ≡ cond b (drop 1 (own n)) (own n) → length (own n) ≡ length (cond b (e ∷ filter (is_on places n) es) (filter (is_on places n) es))
        → cond b (get_or (own m) 0 none_id ∷ rest) rest ≡ own n
    by true same later all =
        ap (λ (l : List IfaceId). get_or (own m) 0 none_id ∷ l) later
        ∙ ap (λ (k : ℕ). get_or (own k) 0 none_id ∷ drop 1 (own n)) (eqb-true m n same)
        ∙ one_left (own n) (length (filter (is_on places n) es)) all
    by false apart later all = later

merged_count : (places : List Place) (es : List End) (own : ℕ → List IfaceId) → length (merged places es own) ≡ length es
merged_count places [] own = refl
merged_count places (e ∷ es) own = ap (λ (k : ℕ). suc k) (merged_count places es (taken (get_or places e.node no_place).0.0 own))

abbrev given_or : Option (List IfaceId) → List IfaceId
given_or None = []
given_or (Some l) = l

is_given : (o : Option (List IfaceId)) → is_some o ≡ true → o ≡ Some (given_or o)
is_given None some = absurd (cc some)
is_given (Some l) some = refl

-- WHERE THE RULE SERVES each node's ends by themselves it serves all
served_plugs : (lab : Lab) (places : List Place) (es : List End) → All (λ (e : End). e.node < length places) es
    → ((n : ℕ) → is_some (plugs_from lab places (filter (is_on places n) es)) ≡ true) → is_some (plugs_from lab places es) ≡ true
served_plugs lab places es placed each =
    ap (λ (o : Option (List IfaceId)). is_some o)
    (all_plugs lab places es (merged places es own) placed (merged_count places es own)
    (λ n. gives n ∙ ap (λ (l : List IfaceId). Some l) (sym (where_merged places es own count n))))
  where
    own : ℕ → List IfaceId
    own n = given_or (plugs_from lab places (filter (is_on places n) es))

    gives : (n : ℕ) → plugs_from lab places (filter (is_on places n) es) ≡ Some (own n)
    gives n = is_given (plugs_from lab places (filter (is_on places n) es)) (each n)

    count : (n : ℕ) → length (own n) ≡ length (filter (is_on places n) es)
    count n = count_given lab places (filter (is_on places n) es) (own n) (filter_placed (is_on places n) (length places) es placed) (gives n)

-- and where it serves all it serves each node's
served_own : (lab : Lab) (places : List Place) (es : List End) (n : ℕ) → All (λ (e : End). e.node < length places) es → is_some (plugs_from lab places es) ≡ true
    → is_some (plugs_from lab places (filter (is_on places n) es)) ≡ true
served_own lab places es n placed some = by (plugs_from lab places es) refl some
  where
    by : (o : Option (List IfaceId)) → plugs_from lab places es ≡ o → is_some o ≡ true → is_some (plugs_from lab places (filter (is_on places n) es)) ≡ true
    by None eq none = absurd (cc none)
    by (Some plugs) eq found = ap (λ (q : Option (List IfaceId)). is_some q) (own_plugs lab places es plugs n placed eq)

-- the virtual node of the end is placed
abbrev is_placed : List Place → End → Bool
is_placed places e = is_some (slice_get places e.node)

-- ends whose virtual nodes aren't placed get nothing
placed_laid : (lab : Lab) (places : List Place) (es : List End) (had : List Laid) → laid_from lab places es had ≡ laid_from lab places (filter (is_placed places) es) had
placed_laid lab places [] had = refl
placed_laid lab places (e ∷ es) had = by (slice_get places e.node) refl (λ laid. placed_laid lab places es laid)
  where
    rest : List End
    rest = filter (is_placed places) es

    given : Place → Option (List Laid)
    given q = option_map (λ j. had ++ (load_of e, j) ∷ []) (first_iface 0 lab.ifaces had q.0 (load_of e))

    later : ((laid : List Laid) → laid_from lab places es laid ≡ laid_from lab places rest laid) → (o : Option (List Laid))
        → option_and_then (λ laid. laid_from lab places es laid) o ≡ option_and_then (λ laid. laid_from lab places rest laid) o
    later each None = refl
    later each (Some laid) = each laid

    by : (o : Option Place) → slice_get places e.node ≡ o → ((laid : List Laid) → laid_from lab places es laid ≡ laid_from lab places rest laid)
        → laid_from lab places (e ∷ es) had ≡ laid_from lab places (cond (is_some (slice_get places e.node)) (e ∷ rest) rest) had
    by None at each =
        ap (λ (q : Option Place). option_and_then (λ laid. laid_from lab places es laid) (option_map_or given q (Some had))) at
        ∙ each had
        ∙ ap (λ (q : Option Place). laid_from lab places (cond (is_some q) (e ∷ rest) rest) had) (sym at)
    by (Some p) at each =
        later each (with_plug lab places e had)
        ∙ ap (λ (q : Option Place). laid_from lab places (cond (is_some q) (e ∷ rest) rest) had) (sym at)

placed_plugs : (lab : Lab) (places : List Place) (es : List End) → plugs_from lab places es ≡ plugs_from lab places (filter (is_placed places) es)
placed_plugs lab places es = ap (option_map (λ laid. plugs_in laid)) (placed_laid lab places es [])

within : (places : List Place) (e : End) → is_placed places e ≡ true → e.node < length places
within places e is = by (slice_get places e.node) refl is
  where
    by : (o : Option Place) → slice_get places e.node ≡ o → is_some o ≡ true → e.node < length places
    by None at some = absurd (cc some)
    by (Some p) at some = slice_get_within places e.node p at

all_placed : (places : List Place) (es : List End) → All (λ (e : End). e.node < length places) (filter (is_placed places) es)
all_placed places es = all_passed (λ (e : End). e.node < length places) (is_placed places) es (λ k d lt is. within places (get_or es k d) is)

-- the ends of the placed virtual nodes, of which node n is
both_filters : (p q r : End → Bool) (es : List End) → ((e : End) → r e ≡ cond (p e) (q e) false) → filter q (filter p es) ≡ filter r es
both_filters p q r [] same = refl
both_filters p q r (e ∷ es) same = by (p e) refl (both_filters p q r es same)
  where
    by : (b : Bool) → p e ≡ b → filter q (filter p es) ≡ filter r es → filter q (cond b (e ∷ filter p es) (filter p es)) ≡ cond (r e) (e ∷ filter r es) (filter r es)
    by true is rest =
        let told : r e ≡ q e = same e ∙ ap (λ (c : Bool). cond c (q e) false) is in
        ap (λ (l : List End). cond (q e) (e ∷ l) l) rest ∙ ap (λ (c : Bool). cond c (e ∷ filter r es) (filter r es)) (sym told)
    by false is rest =
        let told : r e ≡ false = same e ∙ ap (λ (c : Bool). cond c (q e) false) is in
        rest ∙ ap (λ (c : Bool). cond c (e ∷ filter r es) (filter r es)) (sym told)

-- the virtual node of the end is placed, on node n
abbrev pub is_placed_on : List Place → ℕ → End → Bool
is_placed_on places n e = is_host (map (λ (p : Place). p.0.0) places) n e

home_of : (places : List Place) (n : ℕ) (e : End) → is_placed_on places n e ≡ option_map_or (λ (p : Place). p.0.0 == n) (slice_get places e.node) false
home_of places n e = ap (λ (o : Option ℕ). option_map_or (λ h. h == n) o false) (slice_get-map (λ (p : Place). p.0.0) places e.node) ∙ by (slice_get places e.node)
  where
    by : (o : Option Place) → option_map_or (λ h. h == n) (option_map (λ (p : Place). p.0.0) o) false ≡ option_map_or (λ (p : Place). p.0.0 == n) o false
    by None = refl
    by (Some p) = refl

placed_is : (places : List Place) (n : ℕ) (e : End) → is_placed_on places n e ≡ cond (is_placed places e) (is_on places n e) false
placed_is places n e = home_of places n e ∙ by (slice_get places e.node) refl
  where
    by : (o : Option Place) → slice_get places e.node ≡ o → option_map_or (λ (p : Place). p.0.0 == n) o false ≡ cond (is_some o) (is_on places n e) false
    by None at = refl
    by (Some p) at = ap (λ (q : Place). q.0.0 == n) (sym (get_or_from_slice_get places e.node p no_place at))

on_node : (places : List Place) (n : ℕ) (es : List End) → filter (is_on places n) (filter (is_placed places) es) ≡ filter (is_placed_on places n) es
on_node places n es = both_filters (is_placed places) (is_on places n) (is_placed_on places n) es (placed_is places n)

-- the places with one more after them
more_at : (places : List Place) (p : Place) (v : ℕ) → v < length places → get_or (places ++ p ∷ []) v no_place ≡ get_or places v no_place
more_at [] p v lt = absurd (omega (arith, lt))
more_at (q ∷ places) p zero lt = refl
more_at (q ∷ places) p (suc v) lt = more_at places p v (omega (arith, lt))

last_at : (places : List Place) (p : Place) → get_or (places ++ p ∷ []) (length places) no_place ≡ p
last_at [] p = refl
last_at (q ∷ places) p = last_at places p

-- on another node than that of the last one the same virtual nodes are placed
other_placed : (places : List Place) (p : Place) (n : ℕ) (e : End) → n ≢ p.0.0 → is_placed_on (places ++ p ∷ []) n e ≡ is_placed_on places n e
other_placed places p n e apart = by places e.node
  where
    by : (ps : List Place) (v : ℕ) → option_map_or (λ h. h == n) (slice_get (map (λ (q : Place). q.0.0) (ps ++ p ∷ [])) v) false ≡ option_map_or (λ h. h == n) (slice_get (map (λ (q : Place). q.0.0) ps) v) false
    by [] zero = ne_eqb p.0.0 n (λ is. apart (sym is))
    by [] (suc v) = refl
    by (q ∷ ps) zero = refl
    by (q ∷ ps) (suc v) = by ps v

placed_within : (places : List Place) (n : ℕ) (e : End) → is_placed_on places n e ≡ true → e.node < length places
placed_within places n e is = by (slice_get places e.node) refl (sym (home_of places n e) ∙ is)
  where
    by : (o : Option Place) → slice_get places e.node ≡ o → option_map_or (λ (p : Place). p.0.0 == n) o false ≡ true → e.node < length places
    by None at some = absurd (cc some)
    by (Some p) at some = slice_get_within places e.node p at

-- the place of its virtual node is on node n
placed_there : (places : List Place) (n : ℕ) (e : End) → is_placed_on places n e ≡ true → (get_or places e.node no_place).0.0 ≡ n
placed_there places n e is = eqb-true (get_or places e.node no_place).0.0 n (by (is_placed places e) (sym (placed_is places n e) ∙ is))
  where
    by : (b : Bool) → cond b (is_on places n e) false ≡ true → is_on places n e ≡ true
    by true on = on
    by false on = absurd (cc on)

longer : (places : List Place) (p : Place) (v : ℕ) → v < length places → v < length (places ++ p ∷ [])
longer places p v lt = let all = length-append places (p ∷ []) in omega (arith, lt, all)

-- they get what they got
same_other : (lab : Lab) (places : List Place) (p : Place) (es : List End) (n : ℕ) → n ≢ p.0.0
    → plugs_from lab (places ++ p ∷ []) (filter (is_on (places ++ p ∷ []) n) (filter (is_placed (places ++ p ∷ [])) es)) ≡ plugs_from lab places (filter (is_on places n) (filter (is_placed places) es))
same_other lab places p es n apart =
    let new = places ++ p ∷ [] in
    let on = is_placed_on places n in
    ap (λ (l : List End). plugs_from lab new l) (on_node new n es ∙ filter_agree (is_placed_on new n) on (λ e. other_placed places p n e apart) es)
    ∙ same_from lab new places (filter on es)
    (all_passed (λ (e : End). e.node < length new) on es (λ k d lt is. longer places p (get_or es k d).node (placed_within places n (get_or es k d) is)))
    (all_passed (λ (e : End). e.node < length places) on es (λ k d lt is. placed_within places n (get_or es k d) is))
    (all_passed (λ (e : End). get_or new e.node no_place ≡ get_or places e.node no_place) on es (λ k d lt is. more_at places p (get_or es k d).node (placed_within places n (get_or es k d) is)))
    ∙ ap (λ (l : List End). plugs_from lab places l) (sym (on_node places n es))

-- WHERE ALL PLACED SO FAR ARE SERVED, one more asks its node alone
fits_on : (lab : Lab) (places : List Place) (p : Place) (es : List End) → is_some (plugs_from lab places es) ≡ true
    → is_some (plugs_from lab (places ++ p ∷ []) (filter (is_placed_on (places ++ p ∷ []) p.0.0) es)) ≡ is_some (plugs_from lab (places ++ p ∷ []) es)
fits_on lab places p es served =
    same_tests (is_some (plugs_from lab new (filter (is_placed_on new p.0.0) es))) (is_some (plugs_from lab new es))
    (λ here. ap some (placed_plugs lab new es) ∙ served_plugs lab new (filter (is_placed new) es) (all_placed new es)
    (λ n. elim (cases_eq n p.0.0) [
      | inl is ↦ ap (λ (k : ℕ). some (plugs_from lab new (filter (is_on new k) (filter (is_placed new) es)))) is ∙ ap (λ (l : List End). some (plugs_from lab new l)) (on_node new p.0.0 es) ∙ here
      | inr apart ↦ ap some (same_other lab places p es n apart)
          ∙ served_own lab places (filter (is_placed places) es) n (all_placed places es) (sym (ap some (placed_plugs lab places es)) ∙ served)
    ]))
    (λ all. sym (ap (λ (l : List End). some (plugs_from lab new l)) (on_node new p.0.0 es))
    ∙ served_own lab new (filter (is_placed new) es) p.0.0 (all_placed new es) (sym (ap some (placed_plugs lab new es)) ∙ all))
  where
    new : List Place
    new = places ++ p ∷ []

    some : Option (List IfaceId) → Bool
    some o = is_some o

-- where none is placed there is nothing to serve
none_laid : (lab : Lab) (es : List End) (had : List Laid) → laid_from lab [] es had ≡ Some had
none_laid lab [] had = refl
none_laid lab (e ∷ es) had = none_laid lab es had

pub none_served : (lab : Lab) (es : List End) → is_some (plugs_from lab [] es) ≡ true
none_served lab es = ap (λ (o : Option (List Laid)). is_some (option_map (λ laid. plugs_in laid) o)) (none_laid lab es [])

-- the same where the ends are a wiring's
pub fits_now : (lab : Lab) (w : Wiring) (earlier places : List Place) (p : Place) (es : List End) → places ≡ earlier ++ p ∷ [] → es ≡ ends_of w.segments → is_some (plugs_of lab w earlier) ≡ true
    → is_some (plugs_from lab places (filter (is_placed_on places p.0.0) es)) ≡ is_some (plugs_of lab w places)
fits_now lab w earlier places p es more is served =
    let here : List Place → List End → Bool = λ ps l. is_some (plugs_from lab ps (filter (is_placed_on ps p.0.0) l)) in
    (λ j. here (more j) (is j)) ∙ fits_on lab earlier p (ends_of w.segments) served ∙ ap (λ (ps : List Place). is_some (plugs_of lab w ps)) (sym more)

-- THE ENDS ON ONE NODE are served where each fits the interface of its own place
pub served_in_order : (lab : Lab) (places : List Place) (n : ℕ) (es : List End) → are_in_order (filter (is_placed_on places n) es) (ifaces_of 0 lab.ifaces n) ≡ true
    → is_some (plugs_from lab places (filter (is_placed_on places n) es)) ≡ true
served_in_order lab places n es ordered =
    let on = is_placed_on places n in
    ap (λ (o : Option (List IfaceId)). is_some o)
    (plugs_in_order lab places n (filter on es)
    (all_passed (λ (e : End). e.node < length places) on es (λ k d lt is. placed_within places n (get_or es k d) is))
    (all_passed (λ (e : End). (get_or places e.node no_place).0.0 ≡ n) on es (λ k d lt is. placed_there places n (get_or es k d) is))
    ordered)
