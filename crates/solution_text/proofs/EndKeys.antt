-- Ends by their virtual nodes, and the earlier ends of these.
use Rattle.std.proofs.Common.{◌≡◌, ℕ, zero, suc, ◌+◌, ◌-◌, ◌<◌, ◌≤◌, Bool, true, false, not, cond, eqb, ltb, ◌&&◌, List, [], ◌∷◌, ◌++◌, length, take, get_or, unwrap_or, Option, Some, None, refl, sym, ap, ◌∙◌, arith, append_assoc}
use Rattle.std.specs.List.{position, prefix_len}
use Rattle.std.proofs.lemmas.Bool.{and_from, eqb-true, eq-eqb, and_right}
use Rattle.std.proofs.lemmas.Bool.Decides.{nat_tests}
use Rattle.std.proofs.lemmas.List.{append-nil, take_more}
use Rattle.std.proofs.lemmas.List.Sums.{sum_by-append, sum_by-cons}
use Rattle.lab_base.proofs.Numbers.{not_eqb_turned}
use Rattle.virt_topo.specs.Ends.{end_number}
use Rattle.virt_topo.specs.Soundness.{end_if}
use Rattle.top_text.proofs.PipeCount.{ends_of}
use Rattle.solution_text.specs.CanonicalSolution.{end_keys}
use Rattle.solution_text.specs.Names.{same_key}

abbrev is_of : ℕ → ℕ → ℕ
is_of v x = cond (eqb x v) 1 0

not_of : (v x : ℕ) → eqb x v ≡ false → is_of v x ≡ 0
not_of v x e = ap {B = ℕ} (λ (b : Bool). cond b 1 0) e

one_of : (v x : ℕ) → eqb x v ≡ true → is_of v x ≡ 1
one_of v x e = ap {B = ℕ} (λ (b : Bool). cond b 1 0) e

pub count_more : (v : ℕ) (ends : List ℕ) (x : ℕ) → ends_of v (ends ++ x ∷ []) ≡ ends_of v ends + is_of v x
count_more v ends x =
    let both : ends_of v (ends ++ x ∷ []) ≡ ends_of v ends + ends_of v (x ∷ []) = sum_by-append (is_of v) ends (x ∷ []) in
    let one : ends_of v (x ∷ []) ≡ is_of v x + ends_of v [] = sum_by-cons (is_of v) x [] in
    let none : ends_of v [] ≡ 0 = refl in
    omega (arith, both, one, none)

pub count_few : (v : ℕ) (ends : List ℕ) → ends_of v ends ≤ length ends
count_few v [] = omega arith
count_few v (x ∷ ends) =
    let one : ends_of v (x ∷ ends) ≡ is_of v x + ends_of v ends = sum_by-cons (is_of v) x ends in
    omega (arith, one, at_most (eqb x v), count_few v ends)
  where
    at_most : (b : Bool) → ◌≤◌ (cond b 1 0) 1
    at_most true = omega arith
    at_most false = omega arith

pub keys_more : (earlier ends : List ℕ) (x : ℕ) → end_keys earlier (ends ++ x ∷ []) ≡ end_keys earlier ends ++ (x, ends_of x (earlier ++ ends)) ∷ []
keys_more earlier [] x = ap (λ (l : List ℕ). (x, ends_of x l) ∷ []) (sym (append-nil earlier))
keys_more earlier (y ∷ ends) x =
    ap (λ (l : List (ℕ × ℕ)). (y, ends_of y earlier) ∷ l) (keys_more (earlier ++ y ∷ []) ends x
    ∙ ap (λ (l : List ℕ). end_keys (earlier ++ y ∷ []) ends ++ (x, ends_of x l) ∷ []) (append_assoc earlier (y ∷ []) ends))

pub keys_length : (earlier ends : List ℕ) → length (end_keys earlier ends) ≡ length ends
keys_length earlier [] = refl
keys_length earlier (x ∷ ends) = ap suc (keys_length (earlier ++ x ∷ []) ends)

-- THE PLACE OF A KEY

unequal : (x y : ℕ) → y < x → eqb x y ≡ false
unequal x y lt = grind (arith, nat_tests)

-- how many keys stand before (v, n), beyond the end of x
abbrev behind : ℕ → List ℕ → List ℕ → ℕ → ℕ → ℕ
behind v earlier ends x n = prefix_len (λ key. not (same_key (v, n) key)) (end_keys (earlier ++ x ∷ []) ends)

keys_prefix : (v : ℕ) (earlier ends : List ℕ) (k n : ℕ) → n ≡ ends_of v earlier + k → prefix_len (λ key. not (same_key (v, n) key)) (end_keys earlier ends) ≡ end_number ends v k
keys_prefix v earlier [] k n is = refl
keys_prefix v earlier (x ∷ ends) k n is = by (eqb x v) refl k is (λ m h. keys_prefix v (earlier ++ x ∷ []) ends m n h)
  where
    -- the first key isn't this one
    passes : (m : ℕ) → same_key (v, n) (x, ends_of x earlier) ≡ false → behind v earlier ends x n ≡ m → cond (not (same_key (v, n) (x, ends_of x earlier))) (1 + behind v earlier ends x n) 0 ≡ m + 1
    passes m not_here is_rest = ap (λ (b : Bool). cond (not b) (1 + behind v earlier ends x n) 0) not_here ∙ omega (arith, is_rest)

    by : (b : Bool) → eqb x v ≡ b → (k : ℕ) → n ≡ ends_of v earlier + k → ((m : ℕ) → n ≡ ends_of v (earlier ++ x ∷ []) + m → behind v earlier ends x n ≡ end_number ends v m)
        → cond (not (same_key (v, n) (x, ends_of x earlier))) (1 + behind v earlier ends x n) 0 ≡ end_number (x ∷ ends) v k
    by false e k is rest =
        let not_here : same_key (v, n) (x, ends_of x earlier) ≡ false = ap (λ (b : Bool). b && eqb n (ends_of x earlier)) (not_eqb_turned x v e) in
        let grown : n ≡ ends_of v (earlier ++ x ∷ []) + k = omega (arith, is, count_more v earlier x, not_of v x e) in
        passes (end_number ends v k) not_here (rest k grown)
        ∙ sym (ap (λ (b : Bool). cond b (cond (eqb k 0) 0 (end_number ends v (k - 1) + 1)) (end_number ends v k + 1)) e)
    by true e zero is rest =
        let same : x ≡ v = eqb-true x v e in
        let count : ends_of v earlier ≡ ends_of x earlier = ap (λ (y : ℕ). ends_of y earlier) (sym same) in
        let here : same_key (v, n) (x, ends_of x earlier) ≡ true = and_from _ _ (eq-eqb v x (sym same)) (eq-eqb n (ends_of x earlier) (omega (arith, is, count))) in
        ap (λ (b : Bool). cond (not b) (1 + behind v earlier ends x n) 0) here
        ∙ sym (ap (λ (b : Bool). cond b (cond (eqb 0 0) 0 (end_number ends v (0 - 1) + 1)) (end_number ends v 0 + 1)) e)
    by true e (suc k) is rest =
        let same : x ≡ v = eqb-true x v e in
        let count : ends_of v earlier ≡ ends_of x earlier = ap (λ (y : ℕ). ends_of y earlier) (sym same) in
        let not_here : same_key (v, n) (x, ends_of x earlier) ≡ false = and_right (eqb v x) (eqb n (ends_of x earlier)) (unequal n (ends_of x earlier) (omega (arith, is, count))) in
        let grown : n ≡ ends_of v (earlier ++ x ∷ []) + k = omega (arith, is, count_more v earlier x, one_of v x e) in
        let more : eqb (suc k) 0 ≡ false = unequal (suc k) 0 (omega arith) in
        let less : suc k - 1 ≡ k = omega arith in
        passes (end_number ends v k) not_here (rest k grown)
        ∙ sym (ap (λ (b : Bool). cond b (cond (eqb (suc k) 0) 0 (end_number ends v (suc k - 1) + 1)) (end_number ends v (suc k) + 1)) e
        ∙ (λ i. cond (more i) 0 (end_number ends v (less i) + 1)))

-- the place of a key is the number of that end
pub key_place : (ends : List ℕ) (v k : ℕ) → position (same_key (v, k)) (end_keys [] ends) ≡ end_if (length ends) (end_number ends v k)
key_place ends v k =
    let at : prefix_len (λ key. not (same_key (v, k) key)) (end_keys [] ends) ≡ end_number ends v k = keys_prefix v [] ends k k (omega arith) in
    λ i. cond (ltb (at i) (keys_length [] ends i)) (Some (at i)) None

-- the end after `front` has that number
abbrev later : ℕ → List ℕ → List ℕ → ℕ → ℕ
later v front rest k = end_number (front ++ v ∷ rest) v k

pub number_at : (v : ℕ) (front rest : List ℕ) → end_number (front ++ v ∷ rest) v (ends_of v front) ≡ length front
number_at v [] rest = ap (λ (b : Bool). cond b (cond (eqb 0 0) 0 (end_number rest v (0 - 1) + 1)) (end_number rest v 0 + 1)) (eq-eqb v v refl)
number_at v (x ∷ front) rest = by (eqb x v) refl (number_at v front rest)
  where
    one : ends_of v (x ∷ front) ≡ is_of v x + ends_of v front
    one = sum_by-cons (is_of v) x front

    by : (b : Bool) → eqb x v ≡ b → later v front rest (ends_of v front) ≡ length front → end_number (x ∷ front ++ v ∷ rest) v (ends_of v (x ∷ front)) ≡ suc (length front)
    by false e before =
        let count : ends_of v (x ∷ front) ≡ ends_of v front = omega (arith, one, not_of v x e) in
        ap (λ (b : Bool). cond b (cond (eqb (ends_of v (x ∷ front)) 0) 0 (later v front rest (ends_of v (x ∷ front) - 1) + 1)) (later v front rest (ends_of v (x ∷ front)) + 1)) e
        ∙ ap (λ (k : ℕ). later v front rest k + 1) count
        ∙ omega (arith, before)
    by true e before =
        let count : ends_of v (x ∷ front) ≡ suc (ends_of v front) = omega (arith, one, one_of v x e) in
        let more : eqb (ends_of v (x ∷ front)) 0 ≡ false = unequal (ends_of v (x ∷ front)) 0 (omega (arith, count)) in
        let less : ends_of v (x ∷ front) - 1 ≡ ends_of v front = omega (arith, count) in
        ap (λ (b : Bool). cond b (cond (eqb (ends_of v (x ∷ front)) 0) 0 (later v front rest (ends_of v (x ∷ front) - 1) + 1)) (later v front rest (ends_of v (x ∷ front)) + 1)) e
        ∙ (λ i. cond (more i) 0 (later v front rest (less i) + 1))
        ∙ omega (arith, before)

-- ONE END MORE

pub key_next : (nodes : List ℕ) (i : ℕ) → i < length nodes
    → end_keys [] (take (i + 1) nodes) ≡ end_keys [] (take i nodes) ++ (get_or nodes i 0, ends_of (get_or nodes i 0) (take i nodes)) ∷ []
key_next nodes i lt = ap (end_keys []) (take_more nodes i 0 lt) ∙ keys_more [] (take i nodes) (get_or nodes i 0)

pub count_next : (nodes : List ℕ) (i v earlier : ℕ) (old new : Option ℕ) → i < length nodes → earlier ≡ ends_of (get_or nodes i 0) (take i nodes) → unwrap_or old 0 ≡ ends_of v (take i nodes)
    → new ≡ cond (eqb (get_or nodes i 0) v) (Some (earlier + 1)) old → unwrap_or new 0 ≡ ends_of v (take (i + 1) nodes)
count_next nodes i v earlier old new lt is was now = by (eqb (get_or nodes i 0) v) refl
  where
    more : ends_of v (take (i + 1) nodes) ≡ ends_of v (take i nodes) + is_of v (get_or nodes i 0)
    more = ap (ends_of v) (take_more nodes i 0 lt) ∙ count_more v (take i nodes) (get_or nodes i 0)

    by : (b : Bool) → eqb (get_or nodes i 0) v ≡ b → unwrap_or new 0 ≡ ends_of v (take (i + 1) nodes)
    by false e =
        let kept : new ≡ old = now ∙ ap (λ (b : Bool). cond b (Some (earlier + 1)) old) e in
        let same : unwrap_or new 0 ≡ unwrap_or old 0 = ap (λ (o : Option ℕ). unwrap_or o 0) kept in
        omega (arith, same, was, more, not_of v (get_or nodes i 0) e)
    by true e =
        let set : new ≡ Some (earlier + 1) = now ∙ ap (λ (b : Bool). cond b (Some (earlier + 1)) old) e in
        let value : unwrap_or new 0 ≡ earlier + 1 = ap (λ (o : Option ℕ). unwrap_or o 0) set in
        let same : ends_of (get_or nodes i 0) (take i nodes) ≡ ends_of v (take i nodes) = ap (λ (y : ℕ). ends_of y (take i nodes)) (eqb-true (get_or nodes i 0) v e) in
        omega (arith, value, is, same, more, one_of v (get_or nodes i 0) e)
