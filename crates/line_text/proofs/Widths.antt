-- How long printed lines are.
use Rattle.std.proofs.Common.{◌≡◌, ℕ, suc, ◌+◌, ◌*◌, ◌<◌, ◌≤◌, ◌^◌, true, List, [], ◌∷◌, ◌++◌, length, map, refl, arith, inl, inr, length-append}
use Rattle.std.specs.Prelude.{decimal}
use Rattle.std.proofs.lemmas.Fmt.{length-decimal-le}
use Rattle.lab_base.specs.Names.{is_name}
use Rattle.lab_base.specs.Lists.{Has}
use Rattle.lab_base.proofs.Names.{name_short}
use Rattle.line_text.specs.Printing.{spaced, line_text, text_of, with_number}

-- the bytes of fields, each with a space or the line feed
unfoldable pub width : List (List ℕ) → ℕ
width [] = 0
width (field ∷ fields) = 1 + length field + width fields

pub spaced_length : (fields : List (List ℕ)) → length (spaced fields) ≡ width fields
unfolding width
spaced_length [] = refl
spaced_length (field ∷ fields) =
    let more : length (field ++ spaced fields) ≡ length field + length (spaced fields) = length-append field (spaced fields) in
    let rest : length (spaced fields) ≡ width fields = spaced_length fields in
    omega (arith, more, rest)

pub line_length : (field : List ℕ) (fields : List (List ℕ)) → length (line_text (field ∷ fields)) ≡ 1 + length field + width fields
line_length field fields =
    let one : length ((field ++ spaced fields) ++ 10 ∷ []) ≡ length (field ++ spaced fields) + 1 = length-append (field ++ spaced fields) (10 ∷ []) in
    let two : length (field ++ spaced fields) ≡ length field + length (spaced fields) = length-append field (spaced fields) in
    omega (arith, one, two, spaced_length fields)

pub width-append : (xs ys : List (List ℕ)) → width (xs ++ ys) ≡ width xs + width ys
unfolding width
width-append [] ys = omega arith
width-append (x ∷ xs) ys = let rest : width (xs ++ ys) ≡ width xs + width ys = width-append xs ys in omega (arith, rest)

pub times_more : (k n : ℕ) → k * suc n ≡ k + k * n
times_more k n = grind arith

-- lines of at most k bytes each
pub lines_length : {X : Type 0} (line : X → List (List ℕ)) (k : ℕ) (xs : List X) → ((x : X) → Has xs x → length (line_text (line x)) ≤ k) → length (text_of (map line xs)) ≤ k * length xs
lines_length line k [] each = omega arith
lines_length line k (x ∷ xs) each =
    let more : length (line_text (line x) ++ text_of (map line xs)) ≡ length (line_text (line x)) + length (text_of (map line xs)) = length-append (line_text (line x)) (text_of (map line xs)) in
    let first : length (line_text (line x)) ≤ k = each x (inl refl) in
    let rest : length (text_of (map line xs)) ≤ k * length xs = lines_length line k xs (λ y h. each y (inr h)) in
    omega (arith, more, first, rest, times_more k (length xs))

pub pairs_width : (k : ℕ) (pairs : List (List ℕ × ℕ)) → ((pair : List ℕ × ℕ) → Has pairs pair → 1 + length (with_number pair) ≤ k) → width (map with_number pairs) ≤ k * length pairs
unfolding width
pairs_width k [] each = omega arith
pairs_width k (x ∷ xs) each =
    let first : 1 + length (with_number x) ≤ k = each x (inl refl) in
    let rest : width (map with_number xs) ≤ k * length xs = pairs_width k xs (λ y h. each y (inr h)) in
    omega (arith, first, rest, times_more k (length xs))

pub pair_length : (name : List ℕ) (n k : ℕ) → is_name name ≡ true → 0 < k → n < 10 ^ k → n < 2 ^ 64 → length (with_number (name, n)) ≤ 33 + k
pair_length name n k named some small fits =
    let whole : length (name ++ 58 ∷ decimal n) ≡ length name + length (58 ∷ decimal n) = length-append name (58 ∷ decimal n) in
    let digits : length (decimal n) ≤ k = length-decimal-le k n some small fits in
    omega (arith, whole, digits, name_short name named)
