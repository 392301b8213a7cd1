-- One list of candidates for each kind of virtual node.
use Rattle.std.proofs.Common.{◌≡◌, ◌<◌, ◌+◌, ◌∙◌, ◌++◌, ◌∷◌, ◌&&◌, inl, inr, ◌⊎◌, ℕ, zero, suc, List, [], length, map, filter, take, get_or, All, Bool, true, false, cond, refl, ap, sym, subst, arith}
use Rattle.std.proofs.lemmas.Bool.{cases_lt}
use Rattle.std.proofs.Math.Seq.{get_or-append_seam}
use Rattle.std.proofs.lemmas.List.{length-append, length-map, append-nil, map-append, map_more, get_or-map, get_or_append_left, get_or_default, ext_get_or}
use Rattle.std.proofs.lemmas.List.Elements.{All-nil, All-append, All-cons, filter_more}
use Rattle.phys_lab.specs.declared.free.Free.{Free}
use Rattle.phys_lab.specs.Labs.{Lab}
use Rattle.virt_topo.specs.declared.wiring.VirtNode.{VirtNode}
use Rattle.virt_topo.specs.declared.wiring.Wiring.{Wiring}
use Rattle.virt_topo.specs.Wirings.{virt_at, no_virt}
use Rattle.lab_model.specs.Shapes.{Place, node_at}
use Rattle.lab_model.specs.Rules.{is_asked, are_met, is_fixed_at, no_place}
use Rattle.node_maps.specs.NodeMaps.{candidates_of, candidates, lab_places}
use Rattle.node_maps.specs.Kinds.{AreOfOneKind, AreKinds, AreNumbers, by_kind, listed, place_of, places_of}

-- the candidates hang on what is asked, desired and fixed alone
candidates_alike : (lab : Lab) (free : Free) (w : Wiring) (u v : VirtNode) → AreOfOneKind u v → candidates_of lab free w u ≡ candidates_of lab free w v
candidates_alike lab free w u v same =
    λ i. filter (λ p. get_or free.nodes p.0.0 false
    && ((is_asked w (same.asks i) p.1 && (are_met (same.desires i) (node_at lab p.0).features && are_met (node_at lab p.0).features (same.desires i)))
    && is_fixed_at (same.fixed i) (node_at lab p.0).name)) (lab_places lab)

-- the candidates of all virtual nodes are those of their kinds
pub candidates_by_kind : (lab : Lab) (free : Free) (w : Wiring) (ones kinds : List ℕ) → AreKinds w.nodes (length w.nodes) ones kinds
    → by_kind (map (λ v. candidates_of lab free w (virt_at w v)) ones) kinds ≡ candidates lab free w
unfolding candidates
candidates_by_kind lab free w ones kinds are =
    let of : VirtNode → List Place = λ v. candidates_of lab free w v in
    let lists : List (List Place) = map (λ (k : ℕ). candidates_of lab free w (virt_at w k)) ones in
    let at : ℕ → List Place = λ k. get_or lists k [] in
    let count = are.one_each in
    let all = length-map w.nodes of in
    sym (ext_get_or [] (map of w.nodes) (map at kinds) (all ∙ sym count ∙ sym (length-map kinds at))
    (λ v lt.
    let here : v < length w.nodes = omega (arith, lt, all) in
    get_or-map of w.nodes v no_virt [] here
    ∙ sym (candidates_alike lab free w (virt_at w (get_or ones (get_or kinds v 0) 0)) (virt_at w v) (are.same v here))
    ∙ sym (get_or-map (λ (k : ℕ). candidates_of lab free w (virt_at w k)) ones (get_or kinds v 0) 0 [] (are.within v here))
    ∙ sym (get_or-map at kinds v 0 [] (omega (arith, here, count)))))

-- what is made of a list of these, or of none
map_or : {X Y : Type 0} (f : X → Y) (lists : List (List X)) (k : ℕ) → get_or (map (map f) lists) k [] ≡ map f (get_or lists k [])
map_or f [] k = refl
map_or f (x ∷ lists) zero = refl
map_or f (x ∷ lists) (suc k) = map_or f lists k

-- what is made of each kind's list is made of its virtual nodes' lists
pub by_kind_map : {X Y : Type 0} (f : X → Y) (lists : List (List X)) (kinds : List ℕ) → by_kind (map (map f) lists) kinds ≡ map (map f) (by_kind lists kinds)
by_kind_map f lists [] = refl
by_kind_map f lists (k ∷ kinds) = λ i. map_or f lists k i ∷ by_kind_map f lists kinds i

-- what holds of each in a list and of the default holds of the one of any number
all_or : {X : Type 0} (P : X → Type 0) (xs : List X) (d : X) (k : ℕ) → All P xs → P d → P (get_or xs k d)
all_or P [] d k are none = none
all_or P (x ∷ xs) d zero are none = are 0 d (omega arith)
all_or P (x ∷ xs) d (suc k) are none = all_or P xs d k (λ j e lt. are (suc j) e (omega (arith, lt))) none

-- a place that is read by a number of its kind's list is the candidate
pub place_named : (places : List Place) (lists : List (List ℕ)) (kinds : List ℕ) (v n : ℕ) (p : Place) → AreNumbers places lists → v < length (by_kind (listed places lists) kinds)
    → n < length (get_or (by_kind (listed places lists) kinds) v []) → p ≡ get_or places (get_or (get_or lists (get_or kinds v 0) []) n 0) p
    → p ≡ get_or (get_or (by_kind (listed places lists) kinds) v []) n no_place
place_named places lists kinds v n p are v_lt n_lt is =
    let kind = get_or kinds v 0 in
    let own = get_or lists kind [] in
    let within = all_or (All (λ (k : ℕ). k < length places)) lists [] kind are (λ k d lt. absurd (omega (arith, lt))) in
    let of : ℕ → List Place = λ (k : ℕ). get_or (listed places lists) k [] in
    let here : v < length kinds = omega (arith, v_lt, length-map kinds of) in
    let at : get_or (by_kind (listed places lists) kinds) v [] ≡ places_of places own = get_or-map of kinds v 0 [] here ∙ map_or (place_of places) lists kind in
    let lt : n < length own = omega (arith, n_lt, ap length at, length-map own (place_of places)) in
    is ∙ get_or_default places (get_or own n 0) p no_place (within n 0 lt)
    ∙ sym (get_or-map (place_of places) own n 0 no_place lt) ∙ ap (λ (l : List Place). get_or l n no_place) (sym at)

-- one virtual node more, of a kind that is there
pub kinds_known : (nodes : List VirtNode) (n : ℕ) (ones kinds : List ℕ) (k : ℕ) → AreKinds nodes n ones kinds → k < length ones
    → AreOfOneKind (get_or nodes (get_or ones k 0) no_virt) (get_or nodes n no_virt) → AreKinds nodes (n + 1) ones (kinds ++ k ∷ [])
kinds_known nodes n ones kinds k are lt alike = record {
  first = are.first;
  apart = are.apart;
  one_each = omega (arith, are.one_each, length-append kinds (k ∷ []));
  within = λ v below. by v below (earlier_or v below);
  same = λ v below. one v below (earlier_or v below);
}
  where
    earlier_or : (v : ℕ) → v < n + 1 → (v < n) ⊎ (v ≡ n)
    earlier_or v below = elim (cases_lt v n) [
      | inl before ↦ inl before
      | inr behind ↦ inr (omega (arith, behind, below))
    ]

    earlier : (v : ℕ) → v < n → get_or (kinds ++ k ∷ []) v 0 ≡ get_or kinds v 0
    earlier v before = get_or_append_left kinds (k ∷ []) 0 v (omega (arith, before, are.one_each))

    last : get_or (kinds ++ k ∷ []) n 0 ≡ k
    last = ap (λ (j : ℕ). get_or (kinds ++ k ∷ []) j 0) (sym are.one_each) ∙ get_or-append_seam kinds k [] 0

    by : (v : ℕ) → v < n + 1 → (v < n) ⊎ (v ≡ n) → get_or (kinds ++ k ∷ []) v 0 < length ones
    by v below (inl before) = omega (arith, earlier v before, are.within v before)
    by v below (inr same) = subst (λ (j : ℕ). get_or (kinds ++ k ∷ []) j 0 < length ones) (sym same) (omega (arith, last, lt))

    one : (v : ℕ) → v < n + 1 → (v < n) ⊎ (v ≡ n) → AreOfOneKind (get_or nodes (get_or ones (get_or (kinds ++ k ∷ []) v 0) 0) no_virt) (get_or nodes v no_virt)
    one v below (inl before) = subst (λ (j : ℕ). AreOfOneKind (get_or nodes (get_or ones j 0) no_virt) (get_or nodes v no_virt)) (sym (earlier v before)) (are.same v before)
    one v below (inr same) =
        subst (λ (j : ℕ). AreOfOneKind (get_or nodes (get_or ones (get_or (kinds ++ k ∷ []) j 0) 0) no_virt) (get_or nodes j no_virt)) (sym same)
        (subst (λ (j : ℕ). AreOfOneKind (get_or nodes (get_or ones j 0) no_virt) (get_or nodes n no_virt)) (sym last) alike)

-- kinds are as they were where one more is after them, which is none of them
kinds_more : (nodes : List VirtNode) (n : ℕ) (ones kinds : List ℕ) → n < length nodes
    → ((k : ℕ) → k < length ones → AreOfOneKind (get_or nodes (get_or ones k 0) no_virt) (get_or nodes n no_virt) → ⊥)
    → AreKinds nodes n ones kinds → AreKinds nodes n (ones ++ n ∷ []) kinds
kinds_more nodes n ones kinds lt none are = record {
  first = All-append (λ v. v < length nodes) ones (n ∷ []) are.first (All-cons (λ v. v < length nodes) n [] lt (λ k d less. absurd (omega (arith, less))));
  apart = λ j k less below. differ j k less (elim (cases_lt k (length ones)) [
    | inl before ↦ inl before
    | inr behind ↦ inr (omega (arith, behind, below, length-append ones (n ∷ [])))
  ]);
  one_each = are.one_each;
  within = λ v before. omega (arith, are.within v before, length-append ones (n ∷ []));
  same = λ v before.
      subst (λ (j : ℕ). AreOfOneKind (get_or nodes j no_virt) (get_or nodes v no_virt)) (sym (at (get_or kinds v 0) (are.within v before))) (are.same v before);
}
  where
    at : (k : ℕ) → k < length ones → get_or (ones ++ n ∷ []) k 0 ≡ get_or ones k 0
    at k before = get_or_append_left ones (n ∷ []) 0 k before

    moved : (j k m : ℕ) → j < length ones → get_or (ones ++ n ∷ []) k 0 ≡ m → AreOfOneKind (get_or nodes (get_or (ones ++ n ∷ []) j 0) no_virt) (get_or nodes (get_or (ones ++ n ∷ []) k 0) no_virt)
        → AreOfOneKind (get_or nodes (get_or ones j 0) no_virt) (get_or nodes m no_virt)
    moved j k m before is alike =
        subst (λ (i : ℕ). AreOfOneKind (get_or nodes i no_virt) (get_or nodes m no_virt)) (at j before)
        (subst (λ (i : ℕ). AreOfOneKind (get_or nodes (get_or (ones ++ n ∷ []) j 0) no_virt) (get_or nodes i no_virt)) is alike)

    differ : (j k : ℕ) → j < k → (k < length ones) ⊎ (k ≡ length ones) → AreOfOneKind (get_or nodes (get_or (ones ++ n ∷ []) j 0) no_virt) (get_or nodes (get_or (ones ++ n ∷ []) k 0) no_virt) → ⊥
    differ j k less (inl before) alike = are.apart j k less before (moved j k (get_or ones k 0) (omega (arith, less, before)) (at k before) alike)
    differ j k less (inr same) alike =
        none j (omega (arith, less, same)) (moved j k n (omega (arith, less, same)) (ap (λ (i : ℕ). get_or (ones ++ n ∷ []) i 0) same ∙ get_or-append_seam ones n [] 0) alike)

-- one virtual node more, the first one of its kind
pub kinds_new : (nodes : List VirtNode) (n : ℕ) (ones kinds : List ℕ) → n < length nodes
    → ((k : ℕ) → k < length ones → AreOfOneKind (get_or nodes (get_or ones k 0) no_virt) (get_or nodes n no_virt) → ⊥)
    → AreKinds nodes n ones kinds → AreKinds nodes (n + 1) (ones ++ n ∷ []) (kinds ++ length ones ∷ [])
kinds_new nodes n ones kinds lt none are =
    kinds_known nodes n (ones ++ n ∷ []) kinds (length ones) (kinds_more nodes n ones kinds lt none are) (omega (arith, length-append ones (n ∷ [])))
    (subst (λ (j : ℕ). AreOfOneKind (get_or nodes j no_virt) (get_or nodes n no_virt)) (sym (get_or-append_seam ones n [] 0)) (record { asks = refl; desires = refl; fixed = refl }))

-- one number more of a list of numbers
pub numbers_more : (places : List Place) (lists more : List (List ℕ)) (own : List ℕ) → AreNumbers places lists → All (λ k. k < length places) own → more ≡ lists ++ own ∷ [] → AreNumbers places more
numbers_more places lists more own are here pushed =
    let P : List ℕ → Type 0 = λ numbers. All (λ k. k < length places) numbers in
    subst (All P) (sym pushed) (All-append P lists (own ∷ []) are (All-cons P own [] here (All-nil P)))

-- what is made of each, where one more was pushed
pub mapped_more : {X Y : Type 0} (f : X → Y) (xs : List X) (n : ℕ) (d : X) (ys more : List Y) (y : Y) → n < length xs → ys ≡ map f (take n xs) → y ≡ f (get_or xs n d) → more ≡ ys ++ y ∷ []
    → more ≡ map f (take (n + 1) xs)
mapped_more f xs n d ys more y lt before here pushed = pushed ∙ (λ j. before j ++ here j ∷ []) ∙ sym (map_more f xs n d lt)

-- the same, where the one was read
pub read_more : {X Y : Type 0} (f : X → Y) (xs : List X) (n : ℕ) (x : X) (ys more : List Y) (y : Y) → n < length xs → x ≡ get_or xs n x → ys ≡ map f (take n xs) → y ≡ f x → more ≡ ys ++ y ∷ []
    → more ≡ map f (take (n + 1) xs)
read_more f xs n x ys more y lt is before here pushed = mapped_more f xs n x ys more y lt before (here ∙ ap f is) pushed

-- the same of what is made in two steps
pub maps_more : {X Y Z : Type 0} (f : Y → Z) (g : X → Y) (xs : List X) (n : ℕ) (x : X) (zs more : List Z) (z : Z) → n < length xs → x ≡ get_or xs n x → zs ≡ map f (map g (take n xs)) → z ≡ f (g x)
    → more ≡ zs ++ z ∷ [] → more ≡ map f (map g (take (n + 1) xs))
maps_more f g xs n x zs more z lt is before here pushed =
    pushed ∙ (λ j. before j ++ (here ∙ ap (λ a. f (g a)) is) j ∷ []) ∙ sym (ap (map f) (map_more g xs n x lt) ∙ map-append f (map g (take n xs)) (g (get_or xs n x) ∷ []))

-- the places of lists of numbers, where one more was pushed
pub listed_more : (places : List Place) (f : ℕ → List Place) (ones : List ℕ) (n : ℕ) (lists more : List (List ℕ)) (own : List ℕ) → n < length ones
    → listed places lists ≡ map f (take n ones) → places_of places own ≡ f (get_or ones n 0) → more ≡ lists ++ own ∷ [] → listed places more ≡ map f (take (n + 1) ones)
listed_more places f ones n lists more own lt before here pushed =
    mapped_more f ones n 0 (listed places lists) (listed places more) (places_of places own) lt before here (ap (listed places) pushed ∙ map-append (places_of places) lists (own ∷ []))

-- one place more among these places: its number is kept where the place passes
pub place_passes : (p : Place → Bool) (places : List Place) (n : ℕ) (x : Place) (numbers : List ℕ) → n < length places → x ≡ get_or places n x → places_of places numbers ≡ filter p (take n places)
    → p x ≡ true → places_of places (numbers ++ n ∷ []) ≡ filter p (take (n + 1) places)
place_passes p places n x numbers lt is before passes =
    map-append (place_of places) numbers (n ∷ []) ∙ (λ j. before j ++ get_or_default places n no_place x lt j ∷ [])
    ∙ sym (filter_more p places n x lt ∙ ap (λ (b : Bool). filter p (take n places) ++ cond b (get_or places n x ∷ []) []) (ap p (sym is) ∙ passes))

pub place_fails : (p : Place → Bool) (places : List Place) (n : ℕ) (x : Place) (numbers : List ℕ) → n < length places → x ≡ get_or places n x → places_of places numbers ≡ filter p (take n places)
    → p x ≡ false → places_of places numbers ≡ filter p (take (n + 1) places)
place_fails p places n x numbers lt is before fails =
    before ∙ sym (filter_more p places n x lt ∙ ap (λ (b : Bool). filter p (take n places) ++ cond b (get_or places n x ∷ []) []) (ap p (sym is) ∙ fails) ∙ append-nil (filter p (take n places)))
