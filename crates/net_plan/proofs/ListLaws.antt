-- Lists, one element more.
use Rattle.std.proofs.Common.{◌≡◌, ℕ, zero, suc, ◌+◌, ◌-◌, ◌<◌, ◌≤◌, List, [], ◌∷◌, ◌++◌, length, map, take, get_or, refl, ap, sym, ◌∙◌, arith, append_assoc}
use Rattle.std.specs.List.{range_with_len, enumerate_from}
use Rattle.std.proofs.lemmas.List.{take_more, map-append}
use Rattle.std.proofs.lemmas.List.FromFn.{map-range_with_len_more, length-enumerate_from, get_or-enumerate_from}

-- numbers from a on, one more
pub range_more : {X : Type 0} (f : ℕ → X) (a j : ℕ) → a ≤ j → map f (range_with_len a ((j + 1) - a)) ≡ map f (range_with_len a (j - a)) ++ f j ∷ []
range_more f a j le =
    let next : (j + 1) - a ≡ (j - a) + 1 = omega arith in
    ap (λ (n : ℕ). map f (range_with_len a n)) next ∙ map-range_with_len_more f a (j - a) j (omega arith)

-- one element more after those that a loop began with
pub push_range : {X : Type 0} (f : ℕ → X) (old so_far next : List X) (x : X) (a j : ℕ) → a ≤ j → so_far ≡ old ++ map f (range_with_len a (j - a)) → next ≡ so_far ++ x ∷ [] → x ≡ f j
    → next ≡ old ++ map f (range_with_len a ((j + 1) - a))
push_range {X} f old so_far next x a j le before step is =
    step ∙ (λ i. before i ++ is i ∷ []) ∙ append_assoc old (map f (range_with_len a (j - a))) (f j ∷ []) ∙ ap (λ (l : List X). old ++ l) (sym (range_more f a j le))

pub push_numbered : {X Y : Type 0} (g : (ℕ × X) → Y) (old so_far next : List Y) (xs : List X) (i : ℕ) (d : X) (y : Y) → i < length xs → so_far ≡ old ++ map g (take i (enumerate_from 0 xs)) → next ≡ so_far ++ y ∷ [] → y ≡ g (i, get_or xs i d)
    → next ≡ old ++ map g (take (i + 1) (enumerate_from 0 xs))
push_numbered {X} {Y} g old so_far next xs i d y lt before step is =
    let pairs = enumerate_from 0 xs in
    let item : ℕ × X = (i, get_or xs i d) in
    let within : i < length pairs = omega (arith, length-enumerate_from 0 xs) in
    let place : 0 + i ≡ i = omega arith in
    let pair : get_or pairs i (0, d) ≡ item = get_or-enumerate_from 0 xs i (0, d) lt ∙ (λ j. (place j, get_or xs i d)) in
    let more : take (i + 1) pairs ≡ take i pairs ++ item ∷ [] = take_more pairs i (0, d) within ∙ ap (λ (p : ℕ × X). take i pairs ++ p ∷ []) pair in
    let mapped : map g (take (i + 1) pairs) ≡ map g (take i pairs) ++ g item ∷ [] = ap (map g) more ∙ map-append g (take i pairs) (item ∷ []) in
    step ∙ (λ j. before j ++ is j ∷ []) ∙ append_assoc old (map g (take i pairs)) (g item ∷ []) ∙ ap (λ (l : List Y). old ++ l) (sym mapped)

-- an item that is read with any default
pub own_item : {X : Type 0} (xs : List X) (i : ℕ) (d : X) → i < length xs → get_or xs i d ≡ get_or xs i (get_or xs i d)
own_item [] i d lt = absurd (omega arith)
own_item (x ∷ xs) zero d lt = refl
own_item (x ∷ xs) (suc i) d lt = own_item xs i d (omega arith)
