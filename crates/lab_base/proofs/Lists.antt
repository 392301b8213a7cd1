-- Lists, one step on.
use Rattle.std.proofs.Common.{◌≡◌, ℕ, zero, suc, ◌+◌, ◌<◌, ◌≤◌, Bool, true, false, cond, None, List, [], ◌∷◌, ◌++◌, length, drop, get_or, map, refl, sym, ap, ◌∙◌, arith}
use Rattle.std.specs.Prelude.{slice_get}
use Rattle.std.specs.List.{flat_map, range_with_len}
use Rattle.std.proofs.lemmas.List.{drop_more, flat_map_more}

-- the item at i, and those after it
pub item_at : {X : Type 0} (xs : List X) (i : ℕ) (x : X) → i < length xs → x ≡ get_or xs i x → drop i xs ≡ x ∷ drop (i + 1) xs
item_at xs i x lt is = drop_more xs i x lt ∙ ap (λ y. y ∷ drop (i + 1) xs) (sym is)

-- where there is no item, the list has ended
pub length_past : {X : Type 0} (xs : List X) (n : ℕ) → slice_get xs n ≡ None → length xs ≤ n
length_past [] n is = omega arith
length_past (x ∷ xs) zero is = absurd (cc is)
length_past (x ∷ xs) (suc n) is = omega (arith, length_past xs n is)

pub map-map : {X Y Z : Type 0} (f : Y → Z) (g : X → Y) (xs : List X) → map f (map g xs) ≡ map (λ x. f (g x)) xs
map-map f g [] = refl
map-map f g (x ∷ xs) = ap (λ l. f (g x) ∷ l) (map-map f g xs)

pub cond_append : {X : Type 0} (b : Bool) (x : X) (l m : List X) → cond b (x ∷ (l ++ m)) (l ++ m) ≡ cond b (x ∷ l) l ++ m
cond_append true x l m = refl
cond_append false x l m = refl

-- NUMBERS FROM A START ON, one more

pub range_last : (a n j : ℕ) → a + n ≡ j → range_with_len a (suc n) ≡ range_with_len a n ++ j ∷ []
range_last a zero j e = let same : a ≡ j = omega arith in ap (λ (x : ℕ). x ∷ []) same
range_last a (suc n) j e = ap (λ (xs : List ℕ). a ∷ xs) (range_last (a + 1) n j (omega arith))

pub range_push : (n : ℕ) → range_with_len 0 (n + 1) ≡ range_with_len 0 n ++ n ∷ []
range_push n = let on : n + 1 ≡ suc n = omega arith in ap (range_with_len 0) on ∙ range_last 0 n n (omega arith)

pub flat_map_range : (f : ℕ → List ℕ) (n : ℕ) (before : List ℕ) → before ++ flat_map f (range_with_len 0 (n + 1)) ≡ before ++ flat_map f (range_with_len 0 n) ++ f n
flat_map_range f n before = ap (λ (xs : List ℕ). before ++ flat_map f xs) (range_push n) ∙ sym (flat_map_more f before (range_with_len 0 n) n)
