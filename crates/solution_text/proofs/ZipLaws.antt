-- Two lists side by side.
use Rattle.std.proofs.Common.{◌≡◌, ℕ, zero, suc, ◌<◌, List, [], ◌∷◌, length, get_or, refl, ap, arith}
use Rattle.std.specs.List.{zip}

pub zip_length : {X Y : Type 0} (xs : List X) (ys : List Y) → length ys ≡ length xs → length (zip xs ys) ≡ length xs
zip_length [] ys same = refl
zip_length (x ∷ xs) [] same = absurd (omega arith)
zip_length (x ∷ xs) (y ∷ ys) same = ap suc (zip_length xs ys (omega arith))

pub zip_at : {X Y : Type 0} (xs : List X) (ys : List Y) (i : ℕ) (x : X) (y : Y) → length ys ≡ length xs → i < length xs → x ≡ get_or xs i x → y ≡ get_or ys i y → ◌≡◌ {A = X × Y} (x, y) (get_or (zip xs ys) i (x, y))
zip_at [] ys i x y same lt a b = absurd (omega arith)
zip_at (z ∷ xs) [] i x y same lt a b = absurd (omega arith)
zip_at (z ∷ xs) (w ∷ ys) zero x y same lt a b = λ j. (a j, b j)
zip_at (z ∷ xs) (w ∷ ys) (suc i) x y same lt a b = zip_at xs ys i x y (omega arith) (omega arith) a b
