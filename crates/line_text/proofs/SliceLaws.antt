-- Fields after slices.
use Rattle.std.proofs.Common.{◌≡◌, ℕ, suc, ◌+◌, ◌-◌, Bool, not, cond, ltb, List, [], ◌∷◌, length, take, drop, map, Some, None, refl, sym, ap, arith, length-drop, Bor}
use Rattle.std.specs.List.{position, prefix_len}
use Rattle.std.proofs.lemmas.List.{length-map, take-map, drop-map, take_all}
use Rattle.lab_base.specs.Texts.{views}

prefix_len-map : {X Y : Type 0} (p : Y → Bool) (f : X → Y) (xs : List X) → prefix_len p (map f xs) ≡ prefix_len (λ x. p (f x)) xs
prefix_len-map p f [] = refl
prefix_len-map p f (x ∷ xs) = ap (λ (n : ℕ). cond (p (f x)) (1 + n) 0) (prefix_len-map p f xs)

pub position-map : {X Y : Type 0} (p : Y → Bool) (f : X → Y) (xs : List X) → position p (map f xs) ≡ position (λ x. p (f x)) xs
position-map p f xs = λ i. cond (ltb (prefix_len-map (λ y. not (p y)) f xs i) (length-map xs f i)) (Some (prefix_len-map (λ y. not (p y)) f xs i)) None

pub views-take : (n : ℕ) (fields : List (Bor (List ℕ))) → views (take n fields) ≡ take n (views fields)
views-take n fields = sym (take-map (λ s. s.now) n fields)

pub views-drop : (n : ℕ) (fields : List (Bor (List ℕ))) → views (drop n fields) ≡ drop n (views fields)
views-drop n fields = sym (drop-map (λ s. s.now) n fields)

pub whole_drop : (n : ℕ) (fields : List (Bor (List ℕ))) → take (length fields - n) (drop n fields) ≡ drop n fields
whole_drop n fields = take_all _ _ (omega (arith, length-drop n fields))

pub length-views : (fields : List (Bor (List ℕ))) → length (views fields) ≡ length fields
length-views [] = refl
length-views (x ∷ xs) = ap suc (length-views xs)
