-- The counts where a virtual node goes to another place.
use Rattle.std.proofs.Common.{◌≡◌, ◌≢◌, ◌<◌, ◌≤◌, ◌+◌, ◌-◌, ◌*◌, ◌∙◌, ◌∷◌, ◌++◌, [], inl, inr, ℕ, zero, suc, List, length, map, take, drop, get_or, Bool, true, false, cond, eqb, ◌==◌, ◌||◌, refl, ap, sym, arith, get_or-set_other, get_or-set_same}
use Rattle.std.specs.Prelude.{nat_lt, count_by, not, ◌&&◌}
use Rattle.std.specs.List.{list_any, remove}
use Rattle.std.proofs.Math.ListN.{set}
use Rattle.std.proofs.lemmas.Bool.{cases_eq, eq-eqb, ne_eqb}
use Rattle.std.proofs.lemmas.Bool.Decides.{nat_tests}
use Rattle.std.proofs.lemmas.List.{map-set, length-set, length-map, get_or-map}
use Rattle.std.proofs.lemmas.List.Sums.{sum_by-cons}
use Rattle.std.proofs.lemmas.Slice.Eq.{bytes_eq-Decides}
use Rattle.std.proofs.Math.Nat.{mul-suc}
use Rattle.lab_base.specs.Names.{same_name}
use Rattle.lab_base.proofs.Numbers.{eqb_turned}
use Rattle.phys_lab.specs.Labs.{Lab}
use Rattle.virt_topo.specs.declared.wiring.Asks.{Asks}
use Rattle.virt_topo.specs.declared.wiring.Asks.TheVariants.{Plain, Class as InClass}
use Rattle.virt_topo.specs.declared.wiring.VirtNode.{VirtNode}
use Rattle.virt_topo.specs.declared.wiring.Wiring.{Wiring}
use Rattle.virt_topo.specs.declared.mapping.Mapping.{Mapping}
use Rattle.virt_topo.specs.Wirings.{virt_at, no_virt}
use Rattle.lab_model.specs.Shapes.{Place, node_at}
use Rattle.lab_model.specs.Rules.{class_at, no_place, is_member}
use Rattle.cost_rule.specs.Cost.{sum_below, different, missed, same_node, node_soft, class_soft, types_of, soft}
use Rattle.cost_rule.proofs.Sums.{sum_same, sum_at}
use Rattle.cost_rule.proofs.Different.{different_cons, new_if, replaced, some_different}
use Rattle.map_state.specs.Hosted.{hosted_at, kind_soft, asked_soft, placed_at}

-- SOFT
other_node : (lab : Lab) (w : Wiring) (m : Mapping) (v k : ℕ) (p : Place) → k ≢ v → node_soft lab w (placed_at m v p) k ≡ node_soft lab w m k
other_node lab w m v k p apart =
    ap (λ (q : Place). missed (virt_at w k).desires (node_at lab q.0).features + missed (node_at lab q.0).features (virt_at w k).desires) (get_or-set_other m.places v k p no_place apart)

pub types_same : (c : ℕ) (vs : List VirtNode) (places : List Place) (v : ℕ) (p : Place) → is_member c (get_or vs v no_virt).asks ≡ false → types_of c vs (set places v p) ≡ types_of c vs places
types_same c [] places v p apart = refl
types_same c (x ∷ vs) [] v p apart = refl
types_same c (x ∷ vs) (q ∷ places) zero p apart =
    ap (λ (b : Bool). cond b (p.1 ∷ types_of c vs places) (types_of c vs places)) apart ∙ sym (ap (λ (b : Bool). cond b (q.1 ∷ types_of c vs places) (types_of c vs places)) apart)
types_same c (x ∷ vs) (q ∷ places) (suc v) p apart = ap (λ l. cond (is_member c x.asks) (q.1 ∷ l) l) (types_same c vs places v p apart)

other_class : (w : Wiring) (m : Mapping) (v c : ℕ) (p : Place) → is_member c (virt_at w v).asks ≡ false → class_soft w (placed_at m v p) c ≡ class_soft w m c
other_class w m v c p apart =
    ap (λ (l : List (List ℕ)). cond (nat_lt (class_at w c).weight 1000) ((class_at w c).weight * (different same_name l - 1)) 0) (types_same c w.nodes m.places v p apart)

-- the types of a class's members, where virtual node v is one of them
pub types_at : (c : ℕ) (vs : List VirtNode) (places : List Place) (v : ℕ) → v < length vs → v < length places → is_member c (get_or vs v no_virt).asks ≡ true
    → types_of c vs places ≡ types_of c (take v vs) (take v places) ++ (get_or places v no_place).1 ∷ types_of c (drop (v + 1) vs) (drop (v + 1) places)
types_at c [] places v lt few is = absurd (omega (arith, lt))
types_at c (x ∷ vs) [] v lt few is = absurd (omega (arith, few))
types_at c (x ∷ vs) (q ∷ places) zero lt few is = ap (λ (b : Bool). cond b (q.1 ∷ types_of c vs places) (types_of c vs places)) is
types_at c (x ∷ vs) (q ∷ places) (suc v) lt few is =
    let next : suc v + 1 ≡ suc (v + 1) = omega arith in
    ap (λ (l : List (List ℕ)). cond (is_member c x.asks) (q.1 ∷ l) l) (types_at c vs places v (omega (arith, lt)) (omega (arith, few)) is)
    ∙ by (is_member c x.asks) (types_of c (take v vs) (take v places)) ((get_or places v no_place).1 ∷ types_of c (drop (v + 1) vs) (drop (v + 1) places))
    ∙ ap (λ (k : ℕ). types_of c (take (suc v) (x ∷ vs)) (take (suc v) (q ∷ places)) ++ (get_or places v no_place).1 ∷ types_of c (drop k (x ∷ vs)) (drop k (q ∷ places))) (sym next)
  where
    by : (b : Bool) (front back : List (List ℕ)) → cond b (q.1 ∷ (front ++ back)) (front ++ back) ≡ cond b (q.1 ∷ front) front ++ back
    by true front back = refl
    by false front back = refl

-- the same once it has another place
pub types_set : (c : ℕ) (vs : List VirtNode) (places : List Place) (v : ℕ) (p : Place) → v < length vs → v < length places → is_member c (get_or vs v no_virt).asks ≡ true
    → types_of c vs (set places v p) ≡ types_of c (take v vs) (take v places) ++ p.1 ∷ types_of c (drop (v + 1) vs) (drop (v + 1) places)
types_set c [] places v p lt few is = absurd (omega (arith, lt))
types_set c (x ∷ vs) [] v p lt few is = absurd (omega (arith, few))
types_set c (x ∷ vs) (q ∷ places) zero p lt few is = ap (λ (b : Bool). cond b (p.1 ∷ types_of c vs places) (types_of c vs places)) is
types_set c (x ∷ vs) (q ∷ places) (suc v) p lt few is =
    let next : suc v + 1 ≡ suc (v + 1) = omega arith in
    ap (λ (l : List (List ℕ)). cond (is_member c x.asks) (q.1 ∷ l) l) (types_set c vs places v p (omega (arith, lt)) (omega (arith, few)) is)
    ∙ by (is_member c x.asks) (types_of c (take v vs) (take v places)) (p.1 ∷ types_of c (drop (v + 1) vs) (drop (v + 1) places))
    ∙ ap (λ (k : ℕ). types_of c (take (suc v) (x ∷ vs)) (take (suc v) (q ∷ places)) ++ p.1 ∷ types_of c (drop k (x ∷ vs)) (drop k (q ∷ places))) (sym next)
  where
    by : (b : Bool) (front back : List (List ℕ)) → cond b (q.1 ∷ (front ++ back)) (front ++ back) ≡ cond b (q.1 ∷ front) front ++ back
    by true front back = refl
    by false front back = refl

-- a weight for each but one
ruled_out : (n d e : ℕ) (x y : Bool) → 1 ≤ d → 1 ≤ e → e + new_if x ≡ d + new_if y → n * (e - 1) + cond (not x) n 0 ≡ n * (d - 1) + cond (not y) n 0
ruled_out n d e true true some more is = let same : e ≡ d = omega (arith, is) in ap (λ (k : ℕ). n * (k - 1) + 0) same
ruled_out n d e false false some more is = let same : e ≡ d = omega (arith, is) in ap (λ (k : ℕ). n * (k - 1) + n) same
ruled_out n d e true false some more is = let same : e - 1 ≡ suc (d - 1) = omega (arith, is, some) in let step = ap (λ (k : ℕ). n * k) same ∙ mul-suc n (d - 1) in omega (arith, step)
ruled_out n d e false true some more is = let same : d - 1 ≡ suc (e - 1) = omega (arith, is, more) in let step = ap (λ (k : ℕ). n * k) same ∙ mul-suc n (e - 1) in omega (arith, step)

-- a class whose member v has another place
member_class : (w : Wiring) (m : Mapping) (v c : ℕ) (p : Place) → v < length w.nodes → v < length m.places → is_member c (virt_at w v).asks ≡ true
    → class_soft w (placed_at m v p) c + kind_soft w (placed_at m v p) c (get_or m.places v no_place).1 ≡ class_soft w m c + kind_soft w m c p.1
member_class w m v c p lt few is =
    let a = (get_or m.places v no_place).1 in
    let front = types_of c (take v w.nodes) (take v m.places) in
    let back = types_of c (drop (v + 1) w.nodes) (drop (v + 1) m.places) in
    let old = types_at c w.nodes m.places v lt few is in
    let new = types_set c w.nodes m.places v p lt few is in
    let whole : List (List ℕ) → List ℕ → ℕ =
    λ types kind. cond (nat_lt (class_at w c).weight 1000) ((class_at w c).weight * (different same_name types - 1)) 0
    + cond (nat_lt (class_at w c).weight 1000 && not (list_any (same_name kind) types)) (class_at w c).weight 0 in
    (λ j. whole (new j) a) ∙ by (nat_lt (class_at w c).weight 1000) front back a ∙ (λ j. whole (sym old j) p.1)
  where
    by : (b : Bool) (front back : List (List ℕ)) (a : List ℕ)
        → cond b ((class_at w c).weight * (different same_name (front ++ p.1 ∷ back) - 1)) 0 + cond (b && not (list_any (same_name a) (front ++ p.1 ∷ back))) (class_at w c).weight 0
        ≡ cond b ((class_at w c).weight * (different same_name (front ++ a ∷ back) - 1)) 0 + cond (b && not (list_any (same_name p.1) (front ++ a ∷ back))) (class_at w c).weight 0
    by false front back a = refl
    by true front back a =
        ruled_out (class_at w c).weight (different same_name (front ++ a ∷ back)) (different same_name (front ++ p.1 ∷ back)) (list_any (same_name a) (front ++ p.1 ∷ back)) (list_any (same_name p.1) (front ++ a ∷ back))
        (some_different same_name front back a) (some_different same_name front back p.1) (replaced same_name bytes_eq-Decides front back a p.1)

classes_after : (w : Wiring) (m : Mapping) (v : ℕ) (p : Place) (asks : Asks) → v < length w.nodes → v < length m.places → (virt_at w v).asks ≡ asks
    → sum_below (length w.classes) (class_soft w (placed_at m v p)) + asked_soft w (placed_at m v p) asks (get_or m.places v no_place).1
    ≡ sum_below (length w.classes) (class_soft w m) + asked_soft w m asks p.1
classes_after w m v p (Plain t) lt few is =
    let same = sum_same (length w.classes) (class_soft w (placed_at m v p)) (class_soft w m) (λ c c_lt. other_class w m v c p (ap (is_member c) is)) in
    omega (arith, same)
classes_after w m v p (InClass c) lt few is = by (nat_lt c (length w.classes)) refl
  where
    others : (d : ℕ) → d ≢ c → class_soft w (placed_at m v p) d ≡ class_soft w m d
    others d ne = other_class w m v d p (ap (is_member d) is ∙ ne_eqb c d (λ e. ne (sym e)))

    by : (b : Bool) → nat_lt c (length w.classes) ≡ b
        → sum_below (length w.classes) (class_soft w (placed_at m v p)) + cond b (kind_soft w (placed_at m v p) c (get_or m.places v no_place).1) 0
        ≡ sum_below (length w.classes) (class_soft w m) + cond b (kind_soft w m c p.1) 0
    by true within =
        let c_lt : c < length w.classes = grind (arith, nat_tests) in
        let sums = sum_at (length w.classes) c (class_soft w (placed_at m v p)) (class_soft w m) c_lt (λ d d_lt ne. others d ne) in
        let own = member_class w m v c p lt few (ap (is_member c) is ∙ eq-eqb c c refl) in
        omega (arith, sums, own)
    by false out =
        let le : length w.classes ≤ c = grind (arith, nat_tests) in
        let same = sum_same (length w.classes) (class_soft w (placed_at m v p)) (class_soft w m) (λ d d_lt. others d (λ e. absurd (omega (arith, e, d_lt, le)))) in
        omega (arith, same)

pub soft_after : (lab : Lab) (w : Wiring) (m : Mapping) (v : ℕ) (p : Place) → v < length w.nodes → v < length m.places
    → soft lab w (placed_at m v p) + node_soft lab w m v + asked_soft w (placed_at m v p) (virt_at w v).asks (get_or m.places v no_place).1
    ≡ soft lab w m + node_soft lab w (placed_at m v p) v + asked_soft w m (virt_at w v).asks p.1
soft_after lab w m v p lt few =
    let nodes = sum_at (length w.nodes) v (node_soft lab w (placed_at m v p)) (node_soft lab w m) lt (λ k k_lt ne. other_node lab w m v k p ne) in
    let classes = classes_after w m v p (virt_at w v).asks lt few refl in
    omega (arith, nodes, classes)

-- where the type stays
types_alike : (c : ℕ) (vs : List VirtNode) (places : List Place) (v : ℕ) (p : Place) → (get_or places v no_place).1 ≡ p.1 → types_of c vs (set places v p) ≡ types_of c vs places
types_alike c [] places v p same = refl
types_alike c (x ∷ vs) [] v p same = refl
types_alike c (x ∷ vs) (q ∷ places) zero p same = ap (λ (t : List ℕ). cond (is_member c x.asks) (t ∷ types_of c vs places) (types_of c vs places)) (sym same)
types_alike c (x ∷ vs) (q ∷ places) (suc v) p same = ap (λ l. cond (is_member c x.asks) (q.1 ∷ l) l) (types_alike c vs places v p same)

asked_alike : (w : Wiring) (m : Mapping) (v : ℕ) (p : Place) (asks : Asks) (kind : List ℕ) → (get_or m.places v no_place).1 ≡ p.1 → asked_soft w (placed_at m v p) asks kind ≡ asked_soft w m asks kind
asked_alike w m v p (Plain t) kind same = refl
asked_alike w m v p (InClass c) kind same =
    ap (λ (l : List (List ℕ)). cond (nat_lt c (length w.classes)) (cond (nat_lt (class_at w c).weight 1000 && not (list_any (same_name kind) l)) (class_at w c).weight 0) 0)
    (types_alike c w.nodes m.places v p same)

pub soft_alike : (lab : Lab) (w : Wiring) (m : Mapping) (v : ℕ) (p : Place) → v < length w.nodes → v < length m.places → (get_or m.places v no_place).1 ≡ p.1
    → soft lab w (placed_at m v p) + node_soft lab w m v ≡ soft lab w m + node_soft lab w (placed_at m v p) v
soft_alike lab w m v p lt few same =
    let law = soft_after lab w m v p lt few in
    let lost = asked_alike w m v p (virt_at w v).asks (get_or m.places v no_place).1 same in
    let kinds = ap (asked_soft w m (virt_at w v).asks) same in
    omega (arith, law, lost, kinds)

-- NODES IN USE

abbrev hosted : List ℕ → ℕ → ℕ
hosted xs n = count_by (λ (x : ℕ). x == n) xs

abbrev one_if : Bool → ℕ
one_if b = cond b 1 0

guests_cons : (x : ℕ) (xs : List ℕ) (n : ℕ) → hosted (x ∷ xs) n ≡ one_if (eqb x n) + hosted xs n
guests_cons x xs n = sum_by-cons (λ (y : ℕ). cond (eqb y n) 1 0) x xs

guests_removed : (xs : List ℕ) (v d n : ℕ) → v < length xs → hosted xs n ≡ hosted (remove xs v) n + one_if (eqb (get_or xs v d) n)
guests_removed [] v d n lt = absurd (omega (arith, lt))
guests_removed (x ∷ xs) zero d n lt = let step = guests_cons x xs n in omega (arith, step)
guests_removed (x ∷ xs) (suc v) d n lt =
    let whole = guests_cons x xs n in
    let part = guests_cons x (remove xs v) n in
    let rest = guests_removed xs v d n (omega (arith, lt)) in
    omega (arith, whole, part, rest)

removed_set : (xs : List ℕ) (v y : ℕ) → remove (set xs v y) v ≡ remove xs v
removed_set [] v y = refl
removed_set (x ∷ xs) zero y = refl
removed_set (x ∷ xs) (suc v) y = ap (λ (l : List ℕ). x ∷ l) (removed_set xs v y)

-- one is there where some are counted
pub any_counted : (y : ℕ) (xs : List ℕ) → cond (list_any (same_node y) xs) 0 1 ≡ one_if (eqb (hosted xs y) 0)
any_counted y [] = refl
any_counted y (x ∷ xs) = by (eqb y x) refl (any_counted y xs)
  where
    by : (b : Bool) → eqb y x ≡ b → cond (list_any (same_node y) xs) 0 1 ≡ one_if (eqb (hosted xs y) 0) → cond (eqb y x || list_any (same_node y) xs) 0 1 ≡ one_if (eqb (hosted (x ∷ xs) y) 0)
    by true is rest =
        let step = guests_cons x xs y in
        let one : ◌≡◌ {A = ℕ} (one_if (eqb x y)) 1 = ap one_if (eqb_turned x y ∙ is) in
        ap (λ (b : Bool). cond (b || list_any (same_node y) xs) 0 1) is ∙ sym (ap one_if (ne_eqb (hosted (x ∷ xs) y) 0 (λ e. absurd (omega (arith, e, step, one)))))
    by false is rest =
        let step = guests_cons x xs y in
        let none : ◌≡◌ {A = ℕ} (one_if (eqb x y)) 0 = ap one_if (eqb_turned x y ∙ is) in
        let same : hosted (x ∷ xs) y ≡ hosted xs y = omega (arith, step, none) in
        ap (λ (b : Bool). cond (b || list_any (same_node y) xs) 0 1) is ∙ rest ∙ ap (λ (n : ℕ). one_if (eqb n 0)) (sym same)

different_removed : (xs : List ℕ) (v d : ℕ) → v < length xs → different same_node xs ≡ different same_node (remove xs v) + one_if (eqb (hosted (remove xs v) (get_or xs v d)) 0)
different_removed [] v d lt = absurd (omega (arith, lt))
different_removed (x ∷ xs) zero d lt = let step = different_cons same_node x xs in let any = any_counted x xs in omega (arith, step, any)
different_removed (x ∷ xs) (suc v) d lt =
    let y = get_or xs v d in
    let rest = remove xs v in
    let whole = different_cons same_node x xs in
    let part = different_cons same_node x rest in
    let any_whole = any_counted x xs in
    let any_part = any_counted x rest in
    let later = different_removed xs v d (omega (arith, lt)) in
    let count = guests_removed xs v d x (omega (arith, lt)) in
    let more = guests_cons x rest y in
    elim (cases_eq x y) [
      | inl is ↦ (
          let here : ◌≡◌ {A = ℕ} (one_if (eqb y x)) 1 = ap one_if (eq-eqb y x (sym is)) in
          let there : ◌≡◌ {A = ℕ} (one_if (eqb x y)) 1 = ap one_if (eq-eqb x y is) in
          let none : ◌≡◌ {A = ℕ} (one_if (eqb (hosted xs x) 0)) 0 = ap one_if (ne_eqb (hosted xs x) 0 (λ e. absurd (omega (arith, e, count, here)))) in
          let full : ◌≡◌ {A = ℕ} (one_if (eqb (hosted (x ∷ rest) y) 0)) 0 = ap one_if (ne_eqb (hosted (x ∷ rest) y) 0 (λ e. absurd (omega (arith, e, more, there)))) in
          let same : ◌≡◌ {A = ℕ} (one_if (eqb (hosted rest x) 0)) (one_if (eqb (hosted rest y) 0)) = ap (λ (n : ℕ). one_if (eqb (hosted rest n) 0)) is in
          omega (arith, whole, part, any_whole, any_part, later, none, full, same))
      | inr apart ↦ (
          let here : ◌≡◌ {A = ℕ} (one_if (eqb y x)) 0 = ap one_if (ne_eqb y x (λ e. apart (sym e))) in
          let there : ◌≡◌ {A = ℕ} (one_if (eqb x y)) 0 = ap one_if (ne_eqb x y apart) in
          let at_x : hosted xs x ≡ hosted rest x = omega (arith, count, here) in
          let at_y : hosted (x ∷ rest) y ≡ hosted rest y = omega (arith, more, there) in
          let same : ◌≡◌ {A = ℕ} (one_if (eqb (hosted xs x) 0)) (one_if (eqb (hosted rest x) 0)) = ap (λ (n : ℕ). one_if (eqb n 0)) at_x in
          let same_y : ◌≡◌ {A = ℕ} (one_if (eqb (hosted (x ∷ rest) y) 0)) (one_if (eqb (hosted rest y) 0)) = ap (λ (n : ℕ). one_if (eqb n 0)) at_y in
          omega (arith, whole, part, any_whole, any_part, later, same, same_y))
    ]

-- WHAT IS KEPT OF THE PLACES AFTER A VIRTUAL NODE WENT FROM NODE a TO NODE b: g, h and k are the virtual nodes hosted, by node before, after it
-- left and after it joined, and x, y and z how many nodes are in use then
pub record Went (n : ℕ) (places : List Place) (v : ℕ) (p : Place) (g h k : List ℕ) (x y z : ℕ) : Type 0 where
  pub one_each : length g ≡ n
  pub counted : (i : ℕ) → i < n → get_or g i 0 ≡ hosted_at places i
  pub used : x ≡ different same_node (map (λ (q : Place). q.0.0) places)
  pub from : (get_or places v no_place).0.0 < n
  pub to : p.0.0 < n
  pub left : h ≡ set g (get_or places v no_place).0.0 (get_or g (get_or places v no_place).0.0 0 - 1)
  pub left_used : y + one_if (eqb (get_or g (get_or places v no_place).0.0 0) 1) ≡ x
  pub joined : k ≡ set h p.0.0 (get_or h p.0.0 0 + 1)
  pub joined_used : z ≡ y + one_if (eqb (get_or h p.0.0 0) 0)

abbrev nodes_of : List Place → List ℕ
nodes_of places = map (λ (q : Place). q.0.0) places

pub hosted_of : (places : List Place) (n : ℕ) → hosted_at places n ≡ hosted (nodes_of places) n
hosted_of [] n = refl
hosted_of (p ∷ places) n =
    let one = sum_by-cons (λ (q : Place). cond (eqb q.0.0 n) 1 0) p places in
    let other = guests_cons p.0.0 (nodes_of places) n in
    let rest = hosted_of places n in
    omega (arith, one, other, rest)

node_of : (places : List Place) (v : ℕ) → v < length places → get_or (nodes_of places) v 0 ≡ (get_or places v no_place).0.0
node_of places v lt = get_or-map (λ (q : Place). q.0.0) places v no_place 0 lt

-- those that stay
abbrev others : List Place → ℕ → List ℕ
others places v = remove (nodes_of places) v

-- one hosted node at least, and what is left without it
pub guest_left : (places : List Place) (v n : ℕ) → v < length places → hosted_at places n ≡ hosted (others places v) n + one_if (eqb (get_or places v no_place).0.0 n)
guest_left places v n lt =
    let count = guests_removed (nodes_of places) v 0 n (omega (arith, lt, length-map places (λ (q : Place). q.0.0))) in
    let at : ◌≡◌ {A = ℕ} (one_if (eqb (get_or (nodes_of places) v 0) n)) (one_if (eqb (get_or places v no_place).0.0 n)) = ap (λ (k : ℕ). one_if (eqb k n)) (node_of places v lt) in
    omega (arith, hosted_of places n, count, at)

pub used_left : (places : List Place) (v : ℕ) → v < length places
    → different same_node (nodes_of places) ≡ different same_node (others places v) + one_if (eqb (hosted (others places v) (get_or places v no_place).0.0) 0)
used_left places v lt =
    different_removed (nodes_of places) v 0 (omega (arith, lt, length-map places (λ (q : Place). q.0.0)))
    ∙ ap (λ (k : ℕ). different same_node (others places v) + one_if (eqb (hosted (others places v) k) 0)) (node_of places v lt)

others_set : (places : List Place) (v : ℕ) (p : Place) → others (set places v p) v ≡ others places v
others_set places v p = ap (λ (l : List ℕ). remove l v) (map-set (λ (q : Place). q.0.0) places v p) ∙ removed_set (nodes_of places) v p.0.0

-- a node has one hosted node more once a virtual node of another one goes there
pub guest_more : (places : List Place) (v : ℕ) (p : Place) → v < length places → (get_or places v no_place).0.0 ≢ p.0.0
    → hosted_at (set places v p) p.0.0 ≡ hosted_at places p.0.0 + 1
guest_more places v p lt apart =
    let n = p.0.0 in
    let before = guest_left places v n lt in
    let after = guest_left (set places v p) v n (omega (arith, lt, length-set places v p)) in
    let same : ◌≡◌ {A = ℕ} (hosted (others (set places v p) v) n) (hosted (others places v) n) = ap (λ (l : List ℕ). hosted l n) (others_set places v p) in
    let here : ◌≡◌ {A = ℕ} (one_if (eqb (get_or (set places v p) v no_place).0.0 n)) 1 = ap (λ (q : Place). one_if (eqb q.0.0 n)) (get_or-set_same places v p no_place lt) ∙ ap one_if (eq-eqb n n refl) in
    let gone : ◌≡◌ {A = ℕ} (one_if (eqb (get_or places v no_place).0.0 n)) 0 = ap one_if (ne_eqb (get_or places v no_place).0.0 n apart) in
    omega (arith, before, after, same, here, gone)

-- and the node that it leaves has one hosted node less
pub guest_less : (places : List Place) (v : ℕ) (p : Place) → v < length places → (get_or places v no_place).0.0 ≢ p.0.0
    → hosted_at (set places v p) (get_or places v no_place).0.0 + 1 ≡ hosted_at places (get_or places v no_place).0.0
guest_less places v p lt apart =
    let n = (get_or places v no_place).0.0 in
    let before = guest_left places v n lt in
    let after = guest_left (set places v p) v n (omega (arith, lt, length-set places v p)) in
    let same : ◌≡◌ {A = ℕ} (hosted (others (set places v p) v) n) (hosted (others places v) n) = ap (λ (l : List ℕ). hosted l n) (others_set places v p) in
    let gone : ◌≡◌ {A = ℕ} (one_if (eqb (get_or (set places v p) v no_place).0.0 n)) 0 = ap (λ (q : Place). one_if (eqb q.0.0 n)) (get_or-set_same places v p no_place lt) ∙ ap one_if (ne_eqb p.0.0 n (λ e. apart (sym e))) in
    let own : ◌≡◌ {A = ℕ} (one_if (eqb n n)) 1 = ap one_if (eq-eqb n n refl) in
    omega (arith, before, after, same, gone, own)

-- as many nodes are in use once a virtual node that is alone on its node goes to one that is empty
pub used_alone : (places : List Place) (v : ℕ) (p : Place) → v < length places → hosted_at places (get_or places v no_place).0.0 ≡ 1 → hosted_at places p.0.0 ≡ 0
    → different same_node (nodes_of (set places v p)) ≡ different same_node (nodes_of places)
used_alone places v p lt alone empty =
    let a = (get_or places v no_place).0.0 in
    let b = p.0.0 in
    let out = others places v in
    let left_a = guest_left places v a lt in
    let left_b = guest_left places v b lt in
    let own : ◌≡◌ {A = ℕ} (one_if (eqb a a)) 1 = ap one_if (eq-eqb a a refl) in
    let none_a : hosted out a ≡ 0 = omega (arith, left_a, own, alone) in
    let none_b : hosted out b ≡ 0 = omega (arith, left_b, empty) in
    let flag_a : ◌≡◌ {A = ℕ} (one_if (eqb (hosted out a) 0)) 1 = ap one_if (eq-eqb (hosted out a) 0 none_a) in
    let flag_b : ◌≡◌ {A = ℕ} (one_if (eqb (hosted out b) 0)) 1 = ap one_if (eq-eqb (hosted out b) 0 none_b) in
    let whole = used_left places v lt in
    let whole_after = used_left (set places v p) v (omega (arith, lt, length-set places v p)) in
    let same : ◌≡◌ {A = ℕ} (different same_node (others (set places v p) v) + one_if (eqb (hosted (others (set places v p) v) (get_or (set places v p) v no_place).0.0) 0)) (different same_node out + one_if (eqb (hosted out b) 0)) =
    (λ j. different same_node (others_set places v p j) + one_if (eqb (hosted (others_set places v p j) (get_or-set_same places v p no_place lt j).0.0) 0)) in
    omega (arith, whole, whole_after, same, flag_a, flag_b)

-- it goes to another node: one node more is in use where none was there, and one less where it was alone
pub used_apart : (places : List Place) (v : ℕ) (p : Place) (after : ℕ) → v < length places → (get_or places v no_place).0.0 ≢ p.0.0
    → after + one_if (eqb (hosted_at places (get_or places v no_place).0.0) 1) ≡ different same_node (nodes_of places) + one_if (eqb (hosted_at places p.0.0) 0)
    → after ≡ different same_node (nodes_of (set places v p))
used_apart places v p after lt apart is =
    let a = (get_or places v no_place).0.0 in
    let b = p.0.0 in
    let out = others places v in
    let left_a = guest_left places v a lt in
    let left_b = guest_left places v b lt in
    let own : ◌≡◌ {A = ℕ} (one_if (eqb a a)) 1 = ap one_if (eq-eqb a a refl) in
    let none : ◌≡◌ {A = ℕ} (one_if (eqb a b)) 0 = ap one_if (ne_eqb a b apart) in
    let was : hosted_at places a ≡ hosted out a + 1 = omega (arith, left_a, own) in
    let there : hosted_at places b ≡ hosted out b = omega (arith, left_b, none) in
    let flag_a : ◌≡◌ {A = ℕ} (one_if (eqb (hosted_at places a) 1)) (one_if (eqb (hosted out a) 0)) = ap (λ (j : ℕ). one_if (eqb j 1)) was ∙ by_count (hosted out a) in
    let flag_b : ◌≡◌ {A = ℕ} (one_if (eqb (hosted_at places b) 0)) (one_if (eqb (hosted out b) 0)) = ap (λ (j : ℕ). one_if (eqb j 0)) there in
    let whole = used_left places v lt in
    let whole_after = used_left (set places v p) v (omega (arith, lt, length-set places v p)) in
    let same : ◌≡◌ {A = ℕ} (different same_node (others (set places v p) v) + one_if (eqb (hosted (others (set places v p) v) (get_or (set places v p) v no_place).0.0) 0)) (different same_node out + one_if (eqb (hosted out b) 0)) =
    (λ j. different same_node (others_set places v p j) + one_if (eqb (hosted (others_set places v p j) (get_or-set_same places v p no_place lt j).0.0) 0)) in
    omega (arith, is, whole, whole_after, same, flag_a, flag_b)
  where
    by_count : (c : ℕ) → one_if (eqb (c + 1) 1) ≡ one_if (eqb c 0)
    by_count zero = refl
    by_count (suc c) = ap one_if (ne_eqb (suc c + 1) 1 (λ e. absurd (omega (arith, e)))) ∙ sym (ap one_if (ne_eqb (suc c) 0 (λ e. absurd (omega (arith, e)))))

-- one that is alone is on a node in use
pub used_some : (places : List Place) (v : ℕ) → v < length places → one_if (eqb (hosted_at places (get_or places v no_place).0.0) 1) ≤ different same_node (nodes_of places)
used_some places v lt =
    let a = (get_or places v no_place).0.0 in
    let out = others places v in
    let left_a = guest_left places v a lt in
    let own : ◌≡◌ {A = ℕ} (one_if (eqb a a)) 1 = ap one_if (eq-eqb a a refl) in
    let was : hosted_at places a ≡ hosted out a + 1 = omega (arith, left_a, own) in
    let flag : ◌≡◌ {A = ℕ} (one_if (eqb (hosted_at places a) 1)) (one_if (eqb (hosted out a) 0)) = ap (λ (j : ℕ). one_if (eqb j 1)) was ∙ by_count (hosted out a) in
    let whole = used_left places v lt in
    omega (arith, flag, whole)
  where
    by_count : (c : ℕ) → one_if (eqb (c + 1) 1) ≡ one_if (eqb c 0)
    by_count zero = refl
    by_count (suc c) = ap one_if (ne_eqb (suc c + 1) 1 (λ e. absurd (omega (arith, e)))) ∙ sym (ap one_if (ne_eqb (suc c) 0 (λ e. absurd (omega (arith, e)))))

-- it stays on its node
pub used_stays : (places : List Place) (v : ℕ) (p : Place) → v < length places → (get_or places v no_place).0.0 ≡ p.0.0
    → different same_node (nodes_of (set places v p)) ≡ different same_node (nodes_of places)
used_stays places v p lt stays =
    let out = others places v in
    let whole = used_left places v lt in
    let whole_after = used_left (set places v p) v (omega (arith, lt, length-set places v p)) in
    let same : ◌≡◌ {A = ℕ} (different same_node (others (set places v p) v) + one_if (eqb (hosted (others (set places v p) v) (get_or (set places v p) v no_place).0.0) 0)) (different same_node out + one_if (eqb (hosted out p.0.0) 0)) =
    (λ j. different same_node (others_set places v p j) + one_if (eqb (hosted (others_set places v p j) (get_or-set_same places v p no_place lt j).0.0) 0)) in
    let flag : ◌≡◌ {A = ℕ} (one_if (eqb (hosted out (get_or places v no_place).0.0) 0)) (one_if (eqb (hosted out p.0.0) 0)) = ap (λ (k : ℕ). one_if (eqb (hosted out k) 0)) stays in
    omega (arith, whole, whole_after, same, flag)

pub guests_went : (n : ℕ) (places : List Place) (v : ℕ) (p : Place) (g h k : List ℕ) (x y z : ℕ) → v < length places → Went n places v p g h k x y z
    → (i : ℕ) → i < n → get_or k i 0 ≡ hosted_at (set places v p) i
guests_went n places v p g h k x y z lt w i i_lt =
    let a = (get_or places v no_place).0.0 in
    let b = p.0.0 in
    let before = guest_left places v i lt in
    let before_a = guest_left places v a lt in
    let after = guest_left (set places v p) v i (omega (arith, lt, length-set places v p)) in
    let same : ◌≡◌ {A = ℕ} (hosted (others (set places v p) v) i) (hosted (others places v) i) = ap (λ (l : List ℕ). hosted l i) (others_set places v p) in
    let here : ◌≡◌ {A = ℕ} (one_if (eqb (get_or (set places v p) v no_place).0.0 i)) (one_if (eqb b i)) = ap (λ (q : Place). one_if (eqb q.0.0 i)) (get_or-set_same places v p no_place lt) in
    let counted = w.counted i i_lt in
    let counted_a = w.counted a w.from in
    let one : ◌≡◌ {A = ℕ} (one_if (eqb a a)) 1 = ap one_if (eq-eqb a a refl) in
    let left : get_or h i 0 ≡ hosted (others places v) i = elim (cases_eq i a) [
      | inl is ↦ (
          let at : ◌≡◌ {A = ℕ} (get_or h i 0) (get_or g a 0 - 1) = ap (λ (l : List ℕ). get_or l i 0) w.left ∙ ap (λ (j : ℕ). get_or (set g a (get_or g a 0 - 1)) j 0) is ∙ get_or-set_same g a (get_or g a 0 - 1) 0 (let f = w.from in let c = w.one_each in omega (arith, f, c)) in
          let its : ◌≡◌ {A = ℕ} (hosted (others places v) i) (hosted (others places v) a) = ap (hosted (others places v)) is in
          omega (arith, at, its, before_a, counted_a, one))
      | inr apart ↦ (
          let at : ◌≡◌ {A = ℕ} (get_or h i 0) (get_or g i 0) = ap (λ (l : List ℕ). get_or l i 0) w.left ∙ get_or-set_other g a i (get_or g a 0 - 1) 0 apart in
          let none : ◌≡◌ {A = ℕ} (one_if (eqb a i)) 0 = ap one_if (ne_eqb a i (λ e. apart (sym e))) in
          omega (arith, at, before, counted, none))
    ] in
    let count : length h ≡ n = ap length w.left ∙ length-set g a (get_or g a 0 - 1) ∙ w.one_each in
    elim (cases_eq i b) [
      | inl is ↦ (
          let at : ◌≡◌ {A = ℕ} (get_or k i 0) (get_or h b 0 + 1) = ap (λ (l : List ℕ). get_or l i 0) w.joined ∙ ap (λ (j : ℕ). get_or (set h b (get_or h b 0 + 1)) j 0) is ∙ get_or-set_same h b (get_or h b 0 + 1) 0 (let t = w.to in omega (arith, t, count)) in
          let its : ◌≡◌ {A = ℕ} (get_or h b 0) (get_or h i 0) = ap (λ (j : ℕ). get_or h j 0) (sym is) in
          let there : ◌≡◌ {A = ℕ} (one_if (eqb b i)) 1 = ap one_if (eq-eqb b i (sym is)) in
          omega (arith, at, its, left, after, same, here, there))
      | inr apart ↦ (
          let at : ◌≡◌ {A = ℕ} (get_or k i 0) (get_or h i 0) = ap (λ (l : List ℕ). get_or l i 0) w.joined ∙ get_or-set_other h b i (get_or h b 0 + 1) 0 apart in
          let there : ◌≡◌ {A = ℕ} (one_if (eqb b i)) 0 = ap one_if (ne_eqb b i (λ e. apart (sym e))) in
          omega (arith, at, left, after, same, here, there))
    ]

pub used_went : (n : ℕ) (places : List Place) (v : ℕ) (p : Place) (g h k : List ℕ) (x y z : ℕ) → v < length places → Went n places v p g h k x y z
    → z ≡ different same_node (map (λ (q : Place). q.0.0) (set places v p))
used_went n places v p g h k x y z lt w =
    let a = (get_or places v no_place).0.0 in
    let b = p.0.0 in
    let out = others places v in
    let before_a = guest_left places v a lt in
    let one : ◌≡◌ {A = ℕ} (one_if (eqb a a)) 1 = ap one_if (eq-eqb a a refl) in
    let counted_a = w.counted a w.from in
    let was : get_or g a 0 ≡ hosted out a + 1 = omega (arith, before_a, one, counted_a) in
    let flag : ◌≡◌ {A = ℕ} (one_if (eqb (get_or g a 0) 1)) (one_if (eqb (hosted out a) 0)) = ap (λ (j : ℕ). one_if (eqb j 1)) was ∙ by_count (hosted out a) in
    let used = w.used in
    let left_used = w.left_used in
    let joined_used = w.joined_used in
    let whole = used_left places v lt in
    let whole_after = used_left (set places v p) v (omega (arith, lt, length-set places v p)) in
    let same : ◌≡◌ {A = ℕ} (different same_node (others (set places v p) v) + one_if (eqb (hosted (others (set places v p) v) (get_or (set places v p) v no_place).0.0) 0)) (different same_node out + one_if (eqb (hosted out b) 0)) =
    (λ j. different same_node (others_set places v p j) + one_if (eqb (hosted (others_set places v p j) (get_or-set_same places v p no_place lt j).0.0) 0)) in
    let left : get_or h b 0 ≡ hosted out b = elim (cases_eq b a) [
      | inl is ↦ (
          let at : ◌≡◌ {A = ℕ} (get_or h b 0) (get_or g a 0 - 1) = ap (λ (l : List ℕ). get_or l b 0) w.left ∙ ap (λ (j : ℕ). get_or (set g a (get_or g a 0 - 1)) j 0) is ∙ get_or-set_same g a (get_or g a 0 - 1) 0 (let f = w.from in let c = w.one_each in omega (arith, f, c)) in
          let its : ◌≡◌ {A = ℕ} (hosted out b) (hosted out a) = ap (hosted out) is in
          omega (arith, at, its, was))
      | inr apart ↦ (
          let at : ◌≡◌ {A = ℕ} (get_or h b 0) (get_or g b 0) = ap (λ (l : List ℕ). get_or l b 0) w.left ∙ get_or-set_other g a b (get_or g a 0 - 1) 0 apart in
          let none : ◌≡◌ {A = ℕ} (one_if (eqb a b)) 0 = ap one_if (ne_eqb a b (λ e. apart (sym e))) in
          let before = guest_left places v b lt in
          let counted = w.counted b w.to in
          omega (arith, at, none, before, counted))
    ] in
    let joined_flag : ◌≡◌ {A = ℕ} (one_if (eqb (get_or h b 0) 0)) (one_if (eqb (hosted out b) 0)) = ap (λ (j : ℕ). one_if (eqb j 0)) left in
    omega (arith, flag, used, left_used, joined_used, whole, whole_after, same, joined_flag)
  where
    by_count : (c : ℕ) → one_if (eqb (c + 1) 1) ≡ one_if (eqb c 0)
    by_count zero = refl
    by_count (suc c) = ap one_if (ne_eqb (suc c + 1) 1 (λ e. absurd (omega (arith, e)))) ∙ sym (ap one_if (ne_eqb (suc c) 0 (λ e. absurd (omega (arith, e)))))
