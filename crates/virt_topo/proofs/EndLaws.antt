-- Ends one after another.
use Rattle.std.specs.Prelude.{nat_le, replicate}
use Rattle.std.proofs.Common.{◌≡◌, ◌≢◌, ℕ, zero, suc, ◌+◌, ◌-◌, ◌<◌, ◌≤◌, Bool, true, false, cond, eqb, List, [], ◌∷◌, ◌++◌, length, map, drop, get_or, refl, sym, ap, ◌∙◌, arith, length-append}
use Rattle.std.proofs.Math.Seq.{drop-cons}
use Rattle.std.proofs.lemmas.Bool.{eq-eqb, ne_eqb}
use Rattle.std.proofs.lemmas.Bool.Decides.{nat_tests}
use Rattle.std.proofs.lemmas.List.{length-map, drop_all, length-replicate}
use Rattle.lab_base.proofs.Lists.{item_at}
use Rattle.virt_topo.specs.declared.wiring.Segment.{Segment}
use Rattle.virt_topo.specs.declared.wiring.VirtEnd.{VirtEnd}
use Rattle.virt_topo.specs.Ends.{end_nodes, end_owners, end_multiplexed, end_number}

abbrev pub nodes_of : List VirtEnd → List ℕ
nodes_of ends = map (λ e. e.node) ends

pub end_step : (ends : List VirtEnd) (i : ℕ) (d : VirtEnd) (rest : List ℕ) (v k : ℕ) → i < length ends
    → end_number (nodes_of (drop i ends) ++ rest) v k ≡ cond (eqb (get_or ends i d).node v) (cond (eqb k 0) 0 (end_number (nodes_of (drop (i + 1) ends) ++ rest) v (k - 1) + 1)) (end_number (nodes_of (drop (i + 1) ends) ++ rest) v k + 1)
end_step ends i d rest v k lt =
    let next : suc i ≡ i + 1 = omega arith in
    ap (λ (l : List VirtEnd). end_number (nodes_of l ++ rest) v k) (drop-cons ends i d lt ∙ ap (λ (j : ℕ). get_or ends i d ∷ drop j ends) next)

pub nodes_from : (segments : List Segment) (i : ℕ) (s : Segment) → i < length segments → s ≡ get_or segments i s
    → end_nodes (drop i segments) ≡ nodes_of s.ends ++ end_nodes (drop (i + 1) segments)
nodes_from segments i s lt is = ap end_nodes (item_at segments i s lt is)

pub ends_from : (segments : List Segment) (i : ℕ) (s : Segment) → i < length segments → s ≡ get_or segments i s
    → length (end_nodes (drop i segments)) ≡ length s.ends + length (end_nodes (drop (i + 1) segments))
ends_from segments i s lt is =
    let both = length-append (nodes_of s.ends) (end_nodes (drop (i + 1) segments)) in
    let own : length (nodes_of s.ends) ≡ length s.ends = length-map s.ends (λ e. e.node) in
    ap length (nodes_from segments i s lt is) ∙ both ∙ (λ j. own j + length (end_nodes (drop (i + 1) segments)))

-- the end is here
pub end_here : (ends : List VirtEnd) (i : ℕ) (d : VirtEnd) (rest : List ℕ) (v k : ℕ) → i < length ends → (get_or ends i d).node ≡ v → k ≡ 0
    → end_number (nodes_of (drop i ends) ++ rest) v k ≡ 0
end_here ends i d rest v k lt is none =
    let node : eqb (get_or ends i d).node v ≡ true = eq-eqb _ _ is in
    let zero : eqb k 0 ≡ true = eq-eqb _ _ none in
    end_step ends i d rest v k lt ∙ rw (node, zero) refl

-- an end of the virtual node is passed
pub end_passed : (ends : List VirtEnd) (i : ℕ) (d : VirtEnd) (rest : List ℕ) (v k left : ℕ) → i < length ends → (get_or ends i d).node ≡ v → k ≢ 0 → left ≡ k - 1
    → end_number (nodes_of (drop i ends) ++ rest) v k ≡ end_number (nodes_of (drop (i + 1) ends) ++ rest) v left + 1
end_passed ends i d rest v k left lt is some next =
    let node : eqb (get_or ends i d).node v ≡ true = eq-eqb _ _ is in
    let zero : eqb k 0 ≡ false = ne_eqb k 0 some in
    end_step ends i d rest v k lt ∙ rw (node, zero, next) refl

-- another end is passed
pub end_other : (ends : List VirtEnd) (i : ℕ) (d : VirtEnd) (rest : List ℕ) (v k : ℕ) → i < length ends → (get_or ends i d).node ≢ v
    → end_number (nodes_of (drop i ends) ++ rest) v k ≡ end_number (nodes_of (drop (i + 1) ends) ++ rest) v k + 1
end_other ends i d rest v k lt is =
    let node : eqb (get_or ends i d).node v ≡ false = ne_eqb _ _ is in
    end_step ends i d rest v k lt ∙ rw node refl

pub end_none : (ends : List VirtEnd) (i : ℕ) (rest : List ℕ) (v k : ℕ) → length ends ≤ i → end_number (nodes_of (drop i ends) ++ rest) v k ≡ end_number rest v k
end_none ends i rest v k le = ap (λ (l : List VirtEnd). end_number (nodes_of l ++ rest) v k) (drop_all i ends le)

pub end_number_le : (xs : List ℕ) (v k : ℕ) → end_number xs v k ≤ length xs
end_number_le [] v k = omega arith
end_number_le (x ∷ xs) v k = by (eqb x v) (eqb k 0) (end_number_le xs v (k - 1)) (end_number_le xs v k)
  where
    by : (a b : Bool) → end_number xs v (k - 1) ≤ length xs → end_number xs v k ≤ length xs → cond a (cond b 0 (end_number xs v (k - 1) + 1)) (end_number xs v k + 1) ≤ suc (length xs)
    by true true p q = omega arith
    by true false p q = omega arith
    by false b p q = omega arith

-- a test of a sum, and of what is left of the bound
pub le_less : (a b x most : ℕ) → a ≡ x + b → x ≤ most → nat_le b (most - x) ≡ nat_le a most
le_less a b x most sum le = grind (arith, nat_tests)

-- the ends of the segment at i, and those after it
pub nodes_with : (segments : List Segment) (i : ℕ) (s : Segment) (ends : List VirtEnd) → i < length segments → s ≡ get_or segments i s → ends ≡ s.ends
    → end_nodes (drop i segments) ≡ nodes_of ends ++ end_nodes (drop (i + 1) segments)
nodes_with segments i s ends lt is same = nodes_from segments i s lt is ∙ ap (λ (l : List VirtEnd). nodes_of l ++ end_nodes (drop (i + 1) segments)) (sym same)

pub length-nodes_of : (ends : List VirtEnd) → length (nodes_of ends) ≡ length ends
length-nodes_of ends = length-map ends (λ e. e.node)

pub ends_with : (segments : List Segment) (i : ℕ) (s : Segment) (ends : List VirtEnd) → i < length segments → s ≡ get_or segments i s → ends ≡ s.ends
    → length (end_nodes (drop i segments)) ≡ length ends + length (end_nodes (drop (i + 1) segments))
ends_with segments i s ends lt is same = ends_from segments i s lt is ∙ ap (λ (l : List VirtEnd). length l + length (end_nodes (drop (i + 1) segments))) (sym same)

pub no_more : (segments : List Segment) (i : ℕ) → length segments ≤ i → end_nodes (drop i segments) ≡ []
no_more segments i le = ap end_nodes (drop_all i segments le)

-- OWNERS

abbrev pub owners_of : Segment → List (List ℕ)
owners_of s = replicate (length s.ends) s.owner

pub owners_from : (segments : List Segment) (i : ℕ) (s : Segment) → i < length segments → s ≡ get_or segments i s
    → end_owners (drop i segments) ≡ owners_of s ++ end_owners (drop (i + 1) segments)
owners_from segments i s lt is = ap end_owners (item_at segments i s lt is)

pub owner_here : {X : Type 0} (n k : ℕ) (a d : X) (ys : List X) → k < n → get_or (replicate n a ++ ys) k d ≡ a
owner_here zero k a d ys lt = absurd (omega arith)
owner_here (suc n) zero a d ys lt = refl
owner_here (suc n) (suc k) a d ys lt = owner_here n k a d ys (omega arith)

pub owner_past : {X : Type 0} (n k : ℕ) (a d : X) (ys : List X) → n ≤ k → get_or (replicate n a ++ ys) k d ≡ get_or ys (k - n) d
owner_past zero k a d ys le = let same : k ≡ k - 0 = omega arith in ap (λ (i : ℕ). get_or ys i d) same
owner_past (suc n) zero a d ys le = absurd (omega arith)
owner_past (suc n) (suc k) a d ys le = let same : k - n ≡ suc k - suc n = omega arith in owner_past n k a d ys (omega arith) ∙ ap (λ (i : ℕ). get_or ys i d) same

pub length-owners : (segments : List Segment) → length (end_owners segments) ≡ length (end_nodes segments)
length-owners [] = refl
length-owners (s ∷ segments) =
    let rest = length-owners segments in
    let left = length-append (owners_of s) (end_owners segments) in
    let right = length-append (nodes_of s.ends) (end_nodes segments) in
    omega (arith, left, right, rest, length-replicate (length s.ends) s.owner, length-map s.ends (λ e. e.node))

-- WHETHER SEGMENTS ARE MULTIPLEXED

abbrev pub flags_of : Segment → List Bool
flags_of s = replicate (length s.ends) s.multiplexed

pub flags_from : (segments : List Segment) (i : ℕ) (s : Segment) → i < length segments → s ≡ get_or segments i s
    → end_multiplexed (drop i segments) ≡ flags_of s ++ end_multiplexed (drop (i + 1) segments)
flags_from segments i s lt is = ap end_multiplexed (item_at segments i s lt is)

pub length-flags : (segments : List Segment) → length (end_multiplexed segments) ≡ length (end_nodes segments)
length-flags [] = refl
length-flags (s ∷ segments) =
    let rest = length-flags segments in
    let left = length-append (flags_of s) (end_multiplexed segments) in
    let right = length-append (nodes_of s.ends) (end_nodes segments) in
    omega (arith, left, right, rest, length-replicate (length s.ends) s.multiplexed, length-map s.ends (λ e. e.node))
