-- Prices change alike.
use Rattle.std.proofs.Common.{◌≡◌, ◌≢◌, ◌⊎◌, ◌<◌, ◌+◌, ◌∙◌, ◌∷◌, [], inl, inr, ℕ, zero, suc, List, length, map, get_or, Bool, true, false, cond, eqb, ◌||◌, All, refl, ap, sym, arith}
use Rattle.std.specs.List.{list_any}
use Rattle.std.proofs.lemmas.Bool.{cases_eq, eq-eqb, ne_eqb}
use Rattle.phys_lab.specs.Labs.{Lab}
use Rattle.virt_topo.specs.declared.wiring.Wiring.{Wiring}
use Rattle.virt_topo.specs.declared.mapping.Mapping.{Mapping}
use Rattle.virt_topo.specs.Wirings.{virt_at}
use Rattle.lab_model.specs.Shapes.{Place, node_at}
use Rattle.lab_model.specs.Rules.{no_place}
use Rattle.cost_rule.specs.declared.rule.RuleNumber.{RuleNumber}
use Rattle.cost_rule.specs.declared.rule.RuleNumber.TheVariants as numbers
use Rattle.cost_rule.specs.Cost.{cost, sum_below, different, same_node, missed, node_soft, class_soft, nodes_in_use}
use Rattle.cost_rule.proofs.Sums.{sum_at}
use Rattle.cost_rule.proofs.Different.{different_cons, new_if}
use Rattle.node_maps.specs.Moved.{AlikeBut, IsOn}
use Rattle.map_anneal.proofs.Frames.{IsOff, AlikeOn}
use Rattle.map_anneal.proofs.Shares.{OneTry}
use Rattle.map_anneal.proofs.ShareLaws.{sums_add, uses_add}

-- the places of four maps
pub record AreFour (a b : ℕ) (m n x y : List Place) : Type 0 where
  pub one : AlikeBut a b n m
  pub two : AlikeBut a b y x
  pub before : AlikeOn a b m x
  pub after : AlikeOn a b n y

never : (a b : ℕ) (p : Place) → IsOn a b p → IsOff a b p → ⊥
never a b p on off = elim on [ inl is ↦ off.0 is | inr is ↦ off.1 is ]

-- each virtual node stays in both, or has the same place in both, before and after
pub place_by_place : (a b : ℕ) (m n x y : List Place) (v : ℕ) (d : Place) → AreFour a b m n x y → v < length n
    → ((get_or n v d ≡ get_or m v d) × (get_or y v d ≡ get_or x v d)) ⊎ ((get_or n v d ≡ get_or y v d) × (get_or m v d ≡ get_or x v d))
place_by_place a b m n x y v d f lt =
    let m_lt : v < length m = (let c = f.one.count in omega (arith, c, lt)) in
    let y_lt : v < length y = (let c = f.after.count in omega (arith, c, lt)) in
    elim (f.after.each v d lt) [
      | inl same ↦ elim (f.before.each v d m_lt) [
        | inl too ↦ inr (same, too)
        | inr off ↦ elim (f.one.each v d lt) [
          | inl stays ↦ elim (f.two.each v d y_lt) [
            | inl other ↦ inl (stays, other)
            | inr on ↦ absurd (never a b (get_or x v d) on.1 off.1)
          ]
          | inr on ↦ absurd (never a b (get_or m v d) on.1 off.0)
        ]
      ]
      | inr off ↦ elim (f.one.each v d lt) [
        | inl stays ↦ elim (f.two.each v d y_lt) [
          | inl other ↦ inl (stays, other)
          | inr on ↦ absurd (never a b (get_or y v d) on.0 off.1)
        ]
        | inr on ↦ absurd (never a b (get_or n v d) on.0 off.0)
      ]
    ]

-- SOFT
place_soft : Lab → Wiring → ℕ → Place → ℕ
place_soft lab w v p = missed (virt_at w v).desires (node_at lab p.0).features + missed (node_at lab p.0).features (virt_at w v).desires

pub node_softs_add : (lab : Lab) (w : Wiring) (m n x y : Mapping) (a b : ℕ) → AreFour a b m.places n.places x.places y.places → length n.places ≡ length w.nodes
    → sum_below (length w.nodes) (node_soft lab w n) + sum_below (length w.nodes) (node_soft lab w x) ≡ sum_below (length w.nodes) (node_soft lab w y) + sum_below (length w.nodes) (node_soft lab w m)
node_softs_add lab w m n x y a b f count = sums_add (length w.nodes) (node_soft lab w n) (node_soft lab w x) (node_soft lab w y) (node_soft lab w m) (λ v lt. each v lt)
  where
    at : (v : ℕ) (p q : Place) → p ≡ q → ◌≡◌ {A = ℕ} (missed (virt_at w v).desires (node_at lab p.0).features + missed (node_at lab p.0).features (virt_at w v).desires) (missed (virt_at w v).desires (node_at lab q.0).features + missed (node_at lab q.0).features (virt_at w v).desires)
    at v p q is = ap (λ (r : Place). missed (virt_at w v).desires (node_at lab r.0).features + missed (node_at lab r.0).features (virt_at w v).desires) is

    each : (v : ℕ) → v < length w.nodes → node_soft lab w n v + node_soft lab w x v ≡ node_soft lab w y v + node_soft lab w m v
    each v lt = elim (place_by_place a b m.places n.places x.places y.places v no_place f (omega (arith, lt, count))) [
      | inl stay ↦ (let one = at v _ _ stay.0 in let two = at v _ _ stay.1 in omega (arith, one, two))
      | inr same ↦ (let one = at v _ _ same.0 in let two = at v _ _ same.1 in omega (arith, one, two))
    ]

-- NODES IN USE
abbrev nodes_of : List Place → List ℕ
nodes_of places = map (λ (p : Place). p.0.0) places

abbrev pub one_if : Bool → ℕ
one_if b = cond b 1 0

sum_none : (n : ℕ) → sum_below n (λ i. 0) ≡ 0
sum_none zero = refl
sum_none (suc n) = let rest = sum_none n in omega (arith, rest)

-- as many are different as there are numbers that stand there
pub different_is : (n : ℕ) (xs : List ℕ) → All (λ k. k < n) xs → different same_node xs ≡ sum_below n (λ i. one_if (list_any (same_node i) xs))
different_is n [] all = sym (sum_none n)
different_is n (x ∷ xs) all =
    let rest = different_is n xs (λ k d lt. all (suc k) d (omega (arith, lt))) in
    let step = different_cons same_node x xs in
    let f = λ (i : ℕ). one_if (eqb i x || list_any (same_node i) xs) in
    let g = λ (i : ℕ). one_if (list_any (same_node i) xs) in
    let sums = sum_at n x f g (all 0 x (omega arith)) (λ k less ne. ap (λ (t : Bool). one_if (t || list_any (same_node k) xs)) (ne_eqb k x ne)) in
    let here : ◌≡◌ {A = ℕ} (f x) 1 = ap (λ (t : Bool). one_if (t || list_any (same_node x) xs)) (eq-eqb x x refl) in
    let flip = turned (list_any (same_node x) xs) in
    omega (arith, rest, step, sums, here, flip)
  where
    turned : (t : Bool) → new_if t + one_if t ≡ 1
    turned true = refl
    turned false = refl

any_on : (places others : List Place) (a b i : ℕ) → AlikeOn a b places others → (i ≡ a) ⊎ (i ≡ b) → list_any (same_node i) (nodes_of places) ≡ list_any (same_node i) (nodes_of others)
any_on [] [] a b i alike here = refl
any_on [] (q ∷ others) a b i alike here = absurd (let count = alike.count in omega (arith, count))
any_on (p ∷ places) [] a b i alike here = absurd (let count = alike.count in omega (arith, count))
any_on (p ∷ places) (q ∷ others) a b i alike here =
    let count = alike.count in
    let rest = any_on places others a b i (record { count = omega (arith, count); each = λ k d lt. alike.each (suc k) d (omega (arith, lt)) }) here in
    let none : (z : Place) → IsOff a b z → eqb i z.0.0 ≡ false = λ z off. ne_eqb i z.0.0 (λ e. elim here [ inl is ↦ off.0 (sym e ∙ is) | inr is ↦ off.1 (sym e ∙ is) ]) in
    elim (alike.each 0 p (omega arith)) [
      | inl same ↦ (λ j. eqb i (same j).0.0 || rest j)
      | inr both ↦ (λ j. (none p both.0 ∙ sym (none q both.1)) j || rest j)
    ]

any_but : (places others : List Place) (a b i : ℕ) → AlikeBut a b places others → i ≢ a → i ≢ b → list_any (same_node i) (nodes_of places) ≡ list_any (same_node i) (nodes_of others)
any_but [] [] a b i alike not_a not_b = refl
any_but [] (q ∷ others) a b i alike not_a not_b = absurd (let count = alike.count in omega (arith, count))
any_but (p ∷ places) [] a b i alike not_a not_b = absurd (let count = alike.count in omega (arith, count))
any_but (p ∷ places) (q ∷ others) a b i alike not_a not_b =
    let count = alike.count in
    let rest = any_but places others a b i (record { count = omega (arith, count); each = λ k d lt. alike.each (suc k) d (omega (arith, lt)) }) not_a not_b in
    let none : (z : Place) → IsOn a b z → eqb i z.0.0 ≡ false = λ z on. ne_eqb i z.0.0 (λ e. elim on [ inl is ↦ not_a (e ∙ is) | inr is ↦ not_b (e ∙ is) ]) in
    elim (alike.each 0 p (omega arith)) [
      | inl same ↦ (λ j. eqb i (same j).0.0 || rest j)
      | inr both ↦ (λ j. (none p both.0 ∙ sym (none q both.1)) j || rest j)
    ]

-- the places are on nodes of the lab
abbrev pub AreIn : ℕ → List Place → Type 0
AreIn n places = All (λ p. p.0.0 < n) places

nodes_in : (n : ℕ) (places : List Place) → AreIn n places → All (λ k. k < n) (nodes_of places)
nodes_in n [] all = λ k d lt. absurd (omega (arith, lt))
nodes_in n (p ∷ places) all = heads p.0.0 (nodes_of places) (all 0 p (omega arith)) (nodes_in n places (λ k d lt. all (suc k) d (omega (arith, lt))))
  where
    heads : (k : ℕ) (ks : List ℕ) → k < n → All (λ j. j < n) ks → All (λ j. j < n) (k ∷ ks)
    heads k ks first rest zero d lt = first
    heads k ks first rest (suc i) d lt = rest i d (omega (arith, lt))

pub nodes_add : (lab : Lab) (m n x y : Mapping) (a b : ℕ) → AreFour a b m.places n.places x.places y.places
    → AreIn (length lab.nodes) m.places → AreIn (length lab.nodes) n.places → AreIn (length lab.nodes) x.places → AreIn (length lab.nodes) y.places
    → nodes_in_use n + nodes_in_use x ≡ nodes_in_use y + nodes_in_use m
nodes_add lab m n x y a b f m_in n_in x_in y_in =
    let there : List Place → ℕ → ℕ = λ ps i. one_if (list_any (same_node i) (nodes_of ps)) in
    let most = length lab.nodes in
    let sums = sums_add most (there n.places) (there x.places) (there y.places) (there m.places) (λ i lt. each i) in
    let a_is = different_is most (nodes_of m.places) (nodes_in most m.places m_in) in
    let b_is = different_is most (nodes_of n.places) (nodes_in most n.places n_in) in
    let c_is = different_is most (nodes_of x.places) (nodes_in most x.places x_in) in
    let d_is = different_is most (nodes_of y.places) (nodes_in most y.places y_in) in
    omega (arith, sums, a_is, b_is, c_is, d_is)
  where
    both : (i : ℕ) → (i ≡ a) ⊎ (i ≡ b) → one_if (list_any (same_node i) (nodes_of n.places)) + one_if (list_any (same_node i) (nodes_of x.places)) ≡ one_if (list_any (same_node i) (nodes_of y.places)) + one_if (list_any (same_node i) (nodes_of m.places))
    both i here =
        let one : ◌≡◌ {A = ℕ} (one_if (list_any (same_node i) (nodes_of n.places))) (one_if (list_any (same_node i) (nodes_of y.places))) = ap one_if (any_on n.places y.places a b i f.after here) in
        let two : ◌≡◌ {A = ℕ} (one_if (list_any (same_node i) (nodes_of m.places))) (one_if (list_any (same_node i) (nodes_of x.places))) = ap one_if (any_on m.places x.places a b i f.before here) in
        omega (arith, one, two)

    each : (i : ℕ) → one_if (list_any (same_node i) (nodes_of n.places)) + one_if (list_any (same_node i) (nodes_of x.places)) ≡ one_if (list_any (same_node i) (nodes_of y.places)) + one_if (list_any (same_node i) (nodes_of m.places))
    each i = elim (cases_eq i a) [
      | inl is ↦ both i (inl is)
      | inr not_a ↦ elim (cases_eq i b) [
        | inl is ↦ both i (inr is)
        | inr not_b ↦ (
            let one : ◌≡◌ {A = ℕ} (one_if (list_any (same_node i) (nodes_of n.places))) (one_if (list_any (same_node i) (nodes_of m.places))) = ap one_if (any_but n.places m.places a b i f.one not_a not_b) in
            let two : ◌≡◌ {A = ℕ} (one_if (list_any (same_node i) (nodes_of y.places))) (one_if (list_any (same_node i) (nodes_of x.places))) = ap one_if (any_but y.places x.places a b i f.two not_a not_b) in
            omega (arith, one, two))
      ]
    ]

-- THE PRICES
pub prices_add : (number : RuleNumber) (lab : Lab) (w : Wiring) (m n x y : Mapping) (a b : ℕ) → AreFour a b m.places n.places x.places y.places → length n.places ≡ length w.nodes
    → AreIn (length lab.nodes) m.places → AreIn (length lab.nodes) n.places → AreIn (length lab.nodes) x.places → AreIn (length lab.nodes) y.places
    → OneTry lab w m n x y
    → sum_below (length w.classes) (class_soft w n) + sum_below (length w.classes) (class_soft w x) ≡ sum_below (length w.classes) (class_soft w y) + sum_below (length w.classes) (class_soft w m)
    → cost number lab w n + cost number lab w x ≡ cost number lab w y + cost number lab w m
unfolding cost
prices_add numbers.Trunk lab w m n x y a b f count m_in n_in x_in y_in one classes =
    let uses = uses_add lab w m n x y one in
    let nodes = node_softs_add lab w m n x y a b f count in
    omega (arith, uses, nodes, classes)
prices_add numbers.Pack lab w m n x y a b f count m_in n_in x_in y_in one classes =
    let used = nodes_add lab m n x y a b f m_in n_in x_in y_in in
    let nodes = node_softs_add lab w m n x y a b f count in
    omega (arith, used, nodes, classes)
