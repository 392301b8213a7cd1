-- The ends of segments after which others stand, and the owners that are kept by virtual node.
use Rattle.std.specs.Prelude.{nat_lt}
use Rattle.std.proofs.Common.{◌≡◌, ℕ, zero, suc, ◌+◌, ◌-◌, ◌<◌, Bool, true, false, cond, eqb, List, [], ◌∷◌, ◌++◌, length, get_or, refl, sym, ap, ◌∙◌, arith, length-append}
use Rattle.std.proofs.lemmas.Bool.Decides.{nat_tests}
use Rattle.std.proofs.lemmas.Grind.{flat_map-append}
use Rattle.std.proofs.lemmas.List.{get_or_append_left, append-nil}
use Rattle.std.proofs.lemmas.Bool.{ltb-true, lt-ltb}
use Rattle.std.proofs.Math.Dec.{eqb-suc-zero}
use Rattle.virt_topo.specs.declared.wiring.Segment.{Segment}
use Rattle.virt_topo.specs.Ends.{end_nodes, end_owners, end_multiplexed, end_number}
use Rattle.virt_topo.specs.Owners.{at_ends, owners_on}
use Rattle.virt_topo.proofs.EndLaws.{nodes_of, owners_of, length-owners, flags_of, length-flags}

-- ONE SEGMENT MORE

pub nodes_more : (segments : List Segment) (s : Segment) → end_nodes (segments ++ s ∷ []) ≡ end_nodes segments ++ nodes_of s.ends
nodes_more segments s = flat_map-append (λ (t : Segment). nodes_of t.ends) segments (s ∷ []) ∙ ap (λ (l : List ℕ). end_nodes segments ++ l) (append-nil (nodes_of s.ends))

pub owners_more : (segments : List Segment) (s : Segment) → end_owners (segments ++ s ∷ []) ≡ end_owners segments ++ owners_of s
owners_more segments s = flat_map-append owners_of segments (s ∷ []) ∙ ap (λ (l : List (List ℕ)). end_owners segments ++ l) (append-nil (owners_of s))

pub flags_more : (segments : List Segment) (s : Segment) → end_multiplexed (segments ++ s ∷ []) ≡ end_multiplexed segments ++ flags_of s
flags_more segments s = flat_map-append flags_of segments (s ∷ []) ∙ ap (λ (l : List Bool). end_multiplexed segments ++ l) (append-nil (flags_of s))

-- NUMBERS OF ENDS

-- an end that is there keeps its number
pub number_more : (xs ys : List ℕ) (v k : ℕ) → end_number xs v k < length xs → end_number (xs ++ ys) v k ≡ end_number xs v k
number_more [] ys v k lt = absurd (omega arith)
number_more (x ∷ xs) ys v k lt = by (eqb x v) (eqb k 0) lt (number_more xs ys v (k - 1)) (number_more xs ys v k)
  where
    by : (a b : Bool) → cond a (cond b 0 (end_number xs v (k - 1) + 1)) (end_number xs v k + 1) < suc (length xs)
        → (end_number xs v (k - 1) < length xs → end_number (xs ++ ys) v (k - 1) ≡ end_number xs v (k - 1))
        → (end_number xs v k < length xs → end_number (xs ++ ys) v k ≡ end_number xs v k)
        → cond a (cond b 0 (end_number (xs ++ ys) v (k - 1) + 1)) (end_number (xs ++ ys) v k + 1) ≡ cond a (cond b 0 (end_number xs v (k - 1) + 1)) (end_number xs v k + 1)
    by true true lt p q = refl
    by true false lt p q = ap (λ (n : ℕ). n + 1) (p (omega arith))
    by false b lt p q = ap (λ (n : ℕ). n + 1) (q (omega arith))

-- OWNERS BY VIRTUAL NODE

one_less : (a b : ℕ) → nat_lt (a + 1) (suc b) ≡ nat_lt a b
one_less a b = grind (arith, nat_tests)

none_less : (b : ℕ) → nat_lt 0 (suc b) ≡ true
none_less b = grind (arith, nat_tests)

-- the number of an end is that of one, where so many ends of the virtual node are there
pub is_end_at : {X : Type 0} (xs : List ℕ) (ys : List X) (v k : ℕ) → length xs ≡ length ys → nat_lt (end_number xs v k) (length xs) ≡ nat_lt k (length (at_ends v xs ys))
is_end_at [] [] v k same = grind (arith, nat_tests)
is_end_at [] (y ∷ ys) v k same = absurd (omega (arith, same))
is_end_at (x ∷ xs) [] v k same = absurd (omega (arith, same))
is_end_at {X} (x ∷ xs) (y ∷ ys) v k same = by (eqb x v) k (is_end_at xs ys v k rest) (is_end_at xs ys v (k - 1) rest)
  where
    rest : length xs ≡ length ys
    rest = omega (arith, same)

    by : (a : Bool) (k : ℕ) → nat_lt (end_number xs v k) (length xs) ≡ nat_lt k (length (at_ends v xs ys))
        → nat_lt (end_number xs v (k - 1)) (length xs) ≡ nat_lt (k - 1) (length (at_ends v xs ys))
        → nat_lt (cond a (cond (eqb k 0) 0 (end_number xs v (k - 1) + 1)) (end_number xs v k + 1)) (suc (length xs)) ≡ nat_lt k (length (cond a (y ∷ at_ends v xs ys) (at_ends v xs ys)))
    by true zero p q = none_less (length xs) ∙ sym (none_less (length (at_ends v xs ys)))
    by true (suc k) p q =
        let less : suc k - 1 ≡ k = omega arith in
        let next : suc k ≡ k + 1 = omega arith in
        ap (λ (b : Bool). nat_lt (cond b 0 (end_number xs v (suc k - 1) + 1)) (suc (length xs))) (eqb-suc-zero k) ∙ one_less (end_number xs v (suc k - 1)) (length xs) ∙ q ∙ ap (λ (n : ℕ). nat_lt n (length (at_ends v xs ys))) less ∙ sym (one_less k (length (at_ends v xs ys))) ∙ ap (λ (n : ℕ). nat_lt n (suc (length (at_ends v xs ys)))) (sym next)
    by false k p q = one_less (end_number xs v k) (length xs) ∙ p

-- what stands at an end of a virtual node
pub value_at_end : {X : Type 0} (xs : List ℕ) (ys : List X) (v k : ℕ) (d : X) → length xs ≡ length ys → get_or ys (end_number xs v k) d ≡ get_or (at_ends v xs ys) k d
value_at_end [] [] v k d same = refl
value_at_end [] (y ∷ ys) v k d same = absurd (omega (arith, same))
value_at_end (x ∷ xs) [] v k d same = absurd (omega (arith, same))
value_at_end {X} (x ∷ xs) (y ∷ ys) v k d same = by (eqb x v) k (value_at_end xs ys v k d rest) (value_at_end xs ys v (k - 1) d rest)
  where
    rest : length xs ≡ length ys
    rest = omega (arith, same)

    next : (n : ℕ) → n + 1 ≡ suc n
    next n = omega arith

    by : (a : Bool) (k : ℕ) → get_or ys (end_number xs v k) d ≡ get_or (at_ends v xs ys) k d
        → get_or ys (end_number xs v (k - 1)) d ≡ get_or (at_ends v xs ys) (k - 1) d
        → get_or (y ∷ ys) (cond a (cond (eqb k 0) 0 (end_number xs v (k - 1) + 1)) (end_number xs v k + 1)) d ≡ get_or (cond a (y ∷ at_ends v xs ys) (at_ends v xs ys)) k d
    by true zero p q = refl
    by true (suc k) p q =
        let less : suc k - 1 ≡ k = omega arith in
        ap (λ (b : Bool). get_or (y ∷ ys) (cond b 0 (end_number xs v (suc k - 1) + 1)) d) (eqb-suc-zero k) ∙ ap (λ (n : ℕ). get_or (y ∷ ys) n d) (next (end_number xs v (suc k - 1))) ∙ q ∙ ap (λ (n : ℕ). get_or (at_ends v xs ys) n d) less
    by false k p q = ap (λ (n : ℕ). get_or (y ∷ ys) n d) (next (end_number xs v k)) ∙ p

pub at_ends-append : {X : Type 0} (v : ℕ) (xs : List ℕ) (ys : List X) (us : List ℕ) (vs : List X) → length xs ≡ length ys → at_ends v (xs ++ us) (ys ++ vs) ≡ at_ends v xs ys ++ at_ends v us vs
at_ends-append v [] [] us vs same = refl
at_ends-append v [] (y ∷ ys) us vs same = absurd (omega (arith, same))
at_ends-append v (x ∷ xs) [] us vs same = absurd (omega (arith, same))
at_ends-append {X} v (x ∷ xs) (y ∷ ys) us vs same = by (eqb x v) (at_ends-append v xs ys us vs (omega (arith, same)))
  where
    by : (a : Bool) → at_ends v (xs ++ us) (ys ++ vs) ≡ at_ends v xs ys ++ at_ends v us vs
        → cond a (y ∷ at_ends v (xs ++ us) (ys ++ vs)) (at_ends v (xs ++ us) (ys ++ vs)) ≡ cond a (y ∷ at_ends v xs ys) (at_ends v xs ys) ++ at_ends v us vs
    by true is = ap (λ (l : List X). y ∷ l) is
    by false is = is

-- the owners with a segment more
pub owners_on_more : (segments : List Segment) (s : Segment) (v : ℕ) → owners_on (segments ++ s ∷ []) v ≡ owners_on segments v ++ at_ends v (nodes_of s.ends) (owners_of s)
owners_on_more segments s v =
    (λ i. at_ends v (nodes_more segments s i) (owners_more segments s i)) ∙ at_ends-append v (end_nodes segments) (end_owners segments) (nodes_of s.ends) (owners_of s) (sym (length-owners segments))

-- an end of a virtual node, by the owners that are kept of it
pub is_end_on : (segments : List Segment) (v k : ℕ) → nat_lt (end_number (end_nodes segments) v k) (length (end_nodes segments)) ≡ nat_lt k (length (owners_on segments v))
is_end_on segments v k = is_end_at (end_nodes segments) (end_owners segments) v k (sym (length-owners segments))

pub owner_on : (segments : List Segment) (v k : ℕ) → get_or (end_owners segments) (end_number (end_nodes segments) v k) [] ≡ get_or (owners_on segments v) k []
owner_on segments v k = value_at_end (end_nodes segments) (end_owners segments) v k [] (sym (length-owners segments))

-- the owner of an end that is there, where a segment more stands
pub owner_kept : (segments : List Segment) (s : Segment) (v k : ℕ) → nat_lt (end_number (end_nodes segments) v k) (length (end_nodes segments)) ≡ true
    → get_or (end_owners (segments ++ s ∷ [])) (end_number (end_nodes (segments ++ s ∷ [])) v k) [] ≡ get_or (end_owners segments) (end_number (end_nodes segments) v k) []
owner_kept segments s v k is =
    let there = ltb-true _ _ is in
    let number : end_number (end_nodes (segments ++ s ∷ [])) v k ≡ end_number (end_nodes segments) v k = ap (λ (l : List ℕ). end_number l v k) (nodes_more segments s) ∙ number_more (end_nodes segments) (nodes_of s.ends) v k there in
    (λ i. get_or (owners_more segments s i) (number i) [])
    ∙ get_or_append_left (end_owners segments) (owners_of s) [] (end_number (end_nodes segments) v k) (omega (arith, there, length-owners segments))

-- whether the segment of an end that is there is multiplexed, where a segment more stands
pub flag_kept : (segments : List Segment) (s : Segment) (v k : ℕ) → nat_lt (end_number (end_nodes segments) v k) (length (end_nodes segments)) ≡ true
    → get_or (end_multiplexed (segments ++ s ∷ [])) (end_number (end_nodes (segments ++ s ∷ [])) v k) false ≡ get_or (end_multiplexed segments) (end_number (end_nodes segments) v k) false
flag_kept segments s v k is =
    let there = ltb-true _ _ is in
    let number : end_number (end_nodes (segments ++ s ∷ [])) v k ≡ end_number (end_nodes segments) v k = ap (λ (l : List ℕ). end_number l v k) (nodes_more segments s) ∙ number_more (end_nodes segments) (nodes_of s.ends) v k there in
    (λ i. get_or (flags_more segments s i) (number i) false)
    ∙ get_or_append_left (end_multiplexed segments) (flags_of s) false (end_number (end_nodes segments) v k) (omega (arith, there, length-flags segments))

-- an end that is there stays one
pub end_kept : (segments : List Segment) (s : Segment) (v k : ℕ) → nat_lt (end_number (end_nodes segments) v k) (length (end_nodes segments)) ≡ true
    → nat_lt (end_number (end_nodes (segments ++ s ∷ [])) v k) (length (end_nodes (segments ++ s ∷ []))) ≡ true
end_kept segments s v k is =
    let there = ltb-true _ _ is in
    let number : end_number (end_nodes (segments ++ s ∷ [])) v k ≡ end_number (end_nodes segments) v k = ap (λ (l : List ℕ). end_number l v k) (nodes_more segments s) ∙ number_more (end_nodes segments) (nodes_of s.ends) v k there in
    let longer : length (end_nodes (segments ++ s ∷ [])) ≡ length (end_nodes segments) + length (nodes_of s.ends) = ap length (nodes_more segments s) ∙ length-append (end_nodes segments) (nodes_of s.ends) in
    lt-ltb _ _ (omega (arith, there, number, longer))
