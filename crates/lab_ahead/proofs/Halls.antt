-- Sums over needs of how many nodes each has: where some types' needs count more than there are nodes, no giving exists.
use Rattle.std.proofs.Common.{◌≡◌, ◌<◌, ◌≤◌, ◌+◌, ℕ, zero, suc, Bool, true, false, cond, eqb, List, [], ◌∷◌, length, map, count_by, sum_by, Option, Some, None, refl, sym, ap, ◌∙◌, subst, inl, inr, arith}
use Rattle.std.specs.List.{list_any}
use Rattle.std.proofs.lemmas.Bool.{cases_eq, eq-eqb, ne_eqb}
use Rattle.std.proofs.lemmas.List.Sums.{sum_by-cons}
use Rattle.lab_base.specs.Lists.{Has}
use Rattle.lab_base.proofs.Members.{Has-map, any_has, any_from}
use Rattle.lab_base.specs.declared.ids.NodeId.{NodeId}
use Rattle.lab_base.specs.Names.{same_name}
use Rattle.lab_base.proofs.Bytes.{bytes_same}
use Rattle.phys_lab.specs.Labs.{Lab}
use Rattle.phys_lab.specs.Keys.{has_name}
use Rattle.lab_ahead.specs.declared.fitting.Need.{Need}
use Rattle.lab_ahead.specs.Givings.{Fits, IsShort, has_type, have_of, need_at}
use Rattle.lab_ahead.specs.SearchTrees.{is_of}
use Rattle.lab_ahead.proofs.Counting.{one_if, count-cons, count-map, count_among, count_of_more}

-- whether a node's need is among those that are chosen
abbrev pub chosen : (Need → Bool) → List Need → Option ℕ → Bool
chosen c needs None = false
chosen c needs (Some n) = c (need_at needs n)

abbrev pub total : (Need → Bool) → List Need → ℕ
total c needs = sum_by (λ need. cond (c need) need.count 0) needs

-- the sum over the chosen needs of a number for each
pub held_sum : (ℕ → ℕ) → (Need → Bool) → List Need → ℕ
held_sum h c [] = 0
held_sum h c (need ∷ needs) = cond (c need) (h zero) 0 + held_sum (λ n. h (suc n)) c needs

total-cons : (c : Need → Bool) (need : Need) (needs : List Need) → total c (need ∷ needs) ≡ cond (c need) need.count 0 + total c needs
total-cons c need needs = sum_by-cons (λ (n : Need). cond (c n) n.count 0) need needs

abbrev Within : (ℕ → ℕ) → List Need → Type 0
Within h needs = (n : ℕ) → n < length needs → h n ≤ (need_at needs n).count

pub sum_below : (h : ℕ → ℕ) (c : Need → Bool) (needs : List Need) → ((n : ℕ) → n < length needs → h n ≤ (need_at needs n).count) → held_sum h c needs ≤ total c needs
unfolding held_sum
sum_below h c [] within = omega arith
sum_below h c (need ∷ needs) within =
    let rest : held_sum (λ n. h (suc n)) c needs ≤ total c needs = sum_below (λ n. h (suc n)) c needs (λ n lt. within (suc n) (omega arith)) in
    let first : h zero ≤ need.count = within zero (omega arith) in
    omega (arith, total-cons c need needs, one (c need) first)
  where
    one : (b : Bool) → h zero ≤ need.count → cond b (h zero) 0 ≤ cond b need.count 0
    one false le = omega arith
    one true le = le

pub sum_above : (h : ℕ → ℕ) (c : Need → Bool) (needs : List Need) → ((n : ℕ) → n < length needs → h n ≡ (need_at needs n).count) → total c needs ≤ held_sum h c needs
unfolding held_sum
sum_above h c [] enough = omega arith
sum_above h c (need ∷ needs) enough =
    let rest : total c needs ≤ held_sum (λ n. h (suc n)) c needs = sum_above (λ n. h (suc n)) c needs (λ n lt. enough (suc n) (omega arith)) in
    let first : h zero ≡ need.count = enough zero (omega arith) in
    omega (arith, total-cons c need needs, ap (λ (m : ℕ). cond (c need) m 0) first)

pub sum_less : (h : ℕ → ℕ) (c : Need → Bool) (needs : List Need) (start : ℕ) → ((n : ℕ) → n < length needs → h n ≤ (need_at needs n).count) → start < length needs
    → c (need_at needs start) ≡ true → h start < (need_at needs start).count → held_sum h c needs < total c needs
unfolding held_sum
sum_less h c [] start within in_range is_chosen fewer = absurd (omega arith)
sum_less h c (need ∷ needs) zero within in_range is_chosen fewer =
    let rest : held_sum (λ n. h (suc n)) c needs ≤ total c needs = sum_below (λ n. h (suc n)) c needs (λ n lt. within (suc n) (omega arith)) in
    omega (arith, total-cons c need needs, ap (λ (b : Bool). cond b need.count 0) is_chosen, ap (λ (b : Bool). cond b (h zero) 0) is_chosen)
sum_less h c (need ∷ needs) (suc start) within in_range is_chosen fewer =
    let rest : held_sum (λ n. h (suc n)) c needs < total c needs = sum_less (λ n. h (suc n)) c needs start (λ n lt. within (suc n) (omega arith)) (omega arith) is_chosen fewer in
    let first : h zero ≤ need.count = within zero (omega arith) in
    omega (arith, total-cons c need needs, one (c need) first)
  where
    one : (b : Bool) → h zero ≤ need.count → cond b (h zero) 0 ≤ cond b need.count 0
    one false le = omega arith
    one true le = le

-- WHAT EACH NEED HAS, SUMMED, IS HOW MANY NODES ARE OF A CHOSEN NEED

sum-alike : (f g : ℕ → ℕ) (c : Need → Bool) (needs : List Need) → ((n : ℕ) → f n ≡ g n) → held_sum f c needs ≡ held_sum g c needs
sum-alike f g c needs same = λ i. held_sum (λ n. same n i) c needs

sum-zero : (f : ℕ → ℕ) (c : Need → Bool) (needs : List Need) → ((n : ℕ) → f n ≡ 0) → held_sum f c needs ≡ 0
unfolding held_sum
sum-zero f c [] none = refl
sum-zero f c (need ∷ needs) none = omega (arith, sum-zero (λ n. f (suc n)) c needs (λ n. none (suc n)), one (c need))
  where
    one : (b : Bool) → cond b (f zero) 0 ≡ 0
    one false = refl
    one true = none zero

sum-added : (f g : ℕ → ℕ) (c : Need → Bool) (needs : List Need) → held_sum (λ n. f n + g n) c needs ≡ held_sum f c needs + held_sum g c needs
unfolding held_sum
sum-added f g c [] = refl
sum-added f g c (need ∷ needs) = omega (arith, sum-added (λ n. f (suc n)) (λ n. g (suc n)) c needs, one (c need))
  where
    one : (b : Bool) → cond b (f zero + g zero) 0 ≡ cond b (f zero) 0 + cond b (g zero) 0
    one false = refl
    one true = refl

next_alike : (m n : ℕ) → eqb (suc m) (suc n) ≡ eqb m n
next_alike m n = elim (cases_eq m n) [
  | inl e ↦ eq-eqb (suc m) (suc n) (ap suc e) ∙ sym (eq-eqb m n e)
  | inr d ↦ ne_eqb (suc m) (suc n) (λ e. d (omega arith)) ∙ sym (ne_eqb m n d)
]

sum-one : (m : ℕ) (c : Need → Bool) (needs : List Need) → m < length needs → held_sum (λ n. one_if (eqb m n)) c needs ≡ one_if (c (need_at needs m))
unfolding held_sum
sum-one m c [] within = absurd (omega arith)
sum-one zero c (need ∷ needs) within = omega (arith, sum-zero (λ n. one_if (eqb zero (suc n))) c needs (λ n. ap one_if (ne_eqb zero (suc n) (omega arith))), one (c need))
  where
    one : (b : Bool) → cond b (one_if (eqb zero zero)) 0 ≡ one_if b
    one false = refl
    one true = refl
sum-one (suc m) c (need ∷ needs) within =
    omega (arith, sum-alike (λ n. one_if (eqb (suc m) (suc n))) (λ n. one_if (eqb m n)) c needs (λ n. ap one_if (next_alike m n)), sum-one m c needs (omega arith), one (c need))
  where
    one : (b : Bool) → cond b (one_if (eqb (suc m) zero)) 0 ≡ 0
    one false = refl
    one true = ap one_if (ne_eqb (suc m) zero (omega arith))

-- a node's need is one of these
abbrev pub IsNeed : List Need → Option ℕ → Type 0
IsNeed needs None = Unit {0}
IsNeed needs (Some n) = n < length needs

sum-owner : (o : Option ℕ) (c : Need → Bool) (needs : List Need) → IsNeed needs o → held_sum (λ n. one_if (is_of n o)) c needs ≡ one_if (chosen c needs o)
sum-owner None c needs is = sum-zero (λ n. one_if (is_of n None)) c needs (λ n. refl)
sum-owner (Some m) c needs is = sum-one m c needs is

pub sum-held : {X : Type 0} (key : X → Option ℕ) (c : Need → Bool) (needs : List Need) (xs : List X) → ((x : X) → Has xs x → IsNeed needs (key x))
    → held_sum (λ n. count_by (λ x. is_of n (key x)) xs) c needs ≡ count_by (λ x. chosen c needs (key x)) xs
sum-held key c needs [] are = sum-zero (λ n. 0) c needs (λ n. refl)
sum-held key c needs (x ∷ xs) are =
    sum-alike (λ n. count_by (λ y. is_of n (key y)) (x ∷ xs)) (λ n. one_if (is_of n (key x)) + count_by (λ y. is_of n (key y)) xs) c needs (λ n. count-cons (λ y. is_of n (key y)) x xs)
    ∙ sum-added (λ n. one_if (is_of n (key x))) (λ n. count_by (λ y. is_of n (key y)) xs) c needs
    ∙ (λ i. sum-owner (key x) c needs (are x (inl refl)) i + sum-held key c needs xs (λ y h. are y (inr h)) i)
    ∙ sym (count-cons (λ y. chosen c needs (key y)) x xs)

-- a need of one of these types
abbrev pub is_among : List (List ℕ) → Need → Bool
is_among kinds need = has_name kinds need.kind

abbrev pub has_some : Lab → List (List ℕ) → NodeId → Bool
has_some lab kinds node = list_any (λ kind. has_type lab kind node) kinds

-- THE LAW

pub never_fits : (lab : Lab) (left : List NodeId) (needs : List Need) (kinds : List (List ℕ)) → IsShort lab left needs kinds → Fits lab left needs → ⊥
never_fits lab left needs kinds is (given, giving) =
    let c = is_among kinds in
    let counts = λ (n : ℕ). count_by (λ (g : NodeId × ℕ). is_of n (Some g.1)) given in
    let above : total c needs ≤ held_sum counts c needs = sum_above counts c needs giving.enough in
    let same : held_sum counts c needs ≡ count_by (λ (g : NodeId × ℕ). c (need_at needs g.1)) given = sum-held (λ (g : NodeId × ℕ). Some g.1) c needs given giving.of_need in
    let typed : count_by (λ (g : NodeId × ℕ). c (need_at needs g.1)) given ≤ count_by (λ (g : NodeId × ℕ). has_some lab kinds g.0) given =
    count_of_more (λ (g : NodeId × ℕ). c (need_at needs g.1)) (λ (g : NodeId × ℕ). has_some lab kinds g.0) given of_some in
    let nodes : count_by (has_some lab kinds) (map (λ (g : NodeId × ℕ). g.0) given) ≡ count_by (λ (g : NodeId × ℕ). has_some lab kinds g.0) given = count-map (has_some lab kinds) (λ (g : NodeId × ℕ). g.0) given in
    let few : count_by (has_some lab kinds) (map (λ (g : NodeId × ℕ). g.0) given) ≤ have_of lab left kinds = count_among (has_some lab kinds) (map (λ (g : NodeId × ℕ). g.0) given) left giving.once of_left in
    omega (arith, is.short)
  where
    of_some : (g : NodeId × ℕ) → Has given g → is_among kinds (need_at needs g.1) ≡ true → has_some lab kinds g.0 ≡ true
    of_some g h e =
        let found = any_from (same_name (need_at needs g.1).kind) kinds e in
        any_has (λ kind. has_type lab kind g.0) kinds found.0 found.1 (subst (λ (v : List ℕ). has_type lab v g.0 ≡ true) (bytes_same (need_at needs g.1).kind found.0 found.2) (giving.of_type g h))

    of_left : (node : NodeId) → Has (map (λ (g : NodeId × ℕ). g.0) given) node → Has left node
    of_left node h = let at = Has-map (λ (g : NodeId × ℕ). g.0) given node h in subst (λ v. Has left v) at.2 (giving.of_left at.0 at.1)
