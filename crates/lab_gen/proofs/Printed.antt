-- Printed bytes, and lines of them.
use Rattle.std.proofs.Common.{◌≡◌, ◌∙◌, ℕ, zero, suc, ◌+◌, ◌-◌, ◌*◌, ◌<◌, ◌≤◌, ◌^◌, Bool, true, false, List, [], ◌∷◌, ◌++◌, length, map, refl, sym, ap, arith, length-append}
use Rattle.std.specs.Prelude.{decimal, nat_le, ◌==◌}
use Rattle.std.specs.Char.{is_ascii_digit}
use Rattle.std.specs.List.{flat_map, list_all, slice_index, slice_index_or}
use Rattle.std.specs.Str.Lines.{strip_carriage_return}
use Rattle.std.proofs.lemmas.Bool.{and_from}
use Rattle.std.proofs.lemmas.Bool.Decides.{nat_tests}
use Rattle.std.proofs.lemmas.Fmt.{digits_decimal, length-decimal-le}
use Rattle.std.proofs.lemmas.List.Folds.{list_all-append}
use Rattle.std.proofs.lemmas.List.Sums.{AllPass-from_list_all}
use Rattle.lab_base.proofs.Digits.{own}
use Rattle.lab_base.proofs.Members.{all_weaker}
use Rattle.lab_io.specs.Feeds.{EndedLine, NoFeed}
use Rattle.lab_io.specs.Lines.{lines_from}
use Rattle.lab_io.proofs.LineLaws.{lines-ended, line-text}
use Rattle.script_text.specs.Taking.{known}
use Rattle.lab_gen.specs.Script.{numbers, text_of}

-- A PART of a line is printed, and has at most so many bytes
abbrev pub is_printed : ℕ → Bool
is_printed b = nat_le 32 b

pub record IsPart (most : ℕ) (bytes : List ℕ) : Type 0 where
  pub printed : list_all is_printed bytes ≡ true
  pub short : length bytes ≤ most

digit_printed : (b : ℕ) → is_ascii_digit b ≡ true → is_printed b ≡ true
digit_printed b h = grind (arith, nat_tests)

pub digits_of : (n : ℕ) → n < 1000000 → list_all is_ascii_digit (decimal n) ≡ true
digits_of n lt = digits_decimal own n (omega arith)

pub number_part : (n : ℕ) → n < 1000000 → IsPart 6 (decimal n)
number_part n lt = record { printed = all_weaker is_ascii_digit is_printed digit_printed (decimal n) (digits_of n lt); short = length-decimal-le 6 n (omega arith) (omega arith) (omega arith) }

pub parts : (a b : ℕ) (xs ys : List ℕ) → IsPart a xs → IsPart b ys → IsPart (a + b) (xs ++ ys)
parts a b xs ys first second = record {
  printed = list_all-append is_printed xs ys ∙ and_from _ _ first.printed second.printed;
  short = omega (arith, length-append xs ys, first.short, second.short);
}

-- A LINE is printed, and short
abbrev pub IsLine : List ℕ → Type 0
IsLine line = IsPart 100 line

pub line_of_parts : (most : ℕ) (line : List ℕ) → most ≤ 100 → IsPart most line → IsLine line
line_of_parts most line few is = record { printed = is.printed; short = omega (arith, is.short) }

abbrev pub AreLines : List (List ℕ) → Type 0
AreLines [] = Unit {0}
AreLines (line ∷ lines) = IsLine line × AreLines lines

pub lines_more : (xs ys : List (List ℕ)) → AreLines xs → AreLines ys → AreLines (xs ++ ys)
lines_more [] ys first second = second
lines_more (x ∷ xs) ys first second = (first.0, lines_more xs ys first.1 second)

pub lines_map : (f : ℕ → List ℕ) (a n : ℕ) → ((k : ℕ) → k < a + n → IsLine (f k)) → AreLines (map f (numbers a n))
unfolding numbers
lines_map f a zero h = tt
lines_map f a (suc n) h = (h a (omega arith), lines_map f (a + 1) n (λ k lt. h k (omega arith)))

pub lines_each : (f : ℕ → List (List ℕ)) (a n : ℕ) → ((k : ℕ) → k < a + n → AreLines (f k)) → AreLines (flat_map f (numbers a n))
unfolding numbers
lines_each f a zero h = tt
lines_each f a (suc n) h = lines_more (f a) (flat_map f (numbers (a + 1) n)) (h a (omega arith)) (lines_each f (a + 1) n (λ k lt. h k (omega arith)))

-- how many there are
pub count_map : (f : ℕ → List ℕ) (a n : ℕ) → length (map f (numbers a n)) ≡ n
unfolding numbers
count_map f a zero = refl
count_map f a (suc n) = ap suc (count_map f (a + 1) n)

pub count_each : (f : ℕ → List (List ℕ)) (a n c : ℕ) → ((k : ℕ) → k < a + n → length (f k) ≤ c) → length (flat_map f (numbers a n)) ≤ n * c
unfolding numbers
count_each f a zero c h = omega arith
count_each f a (suc n) c h =
    let here : length (f a) ≤ c = h a (omega arith) in
    let rest : length (flat_map f (numbers (a + 1) n)) ≤ n * c = count_each f (a + 1) n c (λ k lt. h k (omega arith)) in
    simp length-append (omega (arith, here, rest))

pub count_all : (f : ℕ → List (List ℕ)) (a n c : ℕ) → ((k : ℕ) → length (f k) ≡ c) → length (flat_map f (numbers a n)) ≡ n * c
unfolding numbers
count_all f a zero c h = omega arith
count_all f a (suc n) c h =
    let here : length (f a) ≡ c = h a in
    let rest : length (flat_map f (numbers (a + 1) n)) ≡ n * c = count_all f (a + 1) n c h in
    simp length-append (omega (arith, here, rest))

-- the text of lines
pub text_short : (lines : List (List ℕ)) → AreLines lines → length (text_of lines) ≤ 101 * length lines
text_short [] are = omega arith
text_short (x ∷ lines) are = simp length-append (omega (arith, are.0.short, text_short lines are.1))

-- THE LINES OF THE TEXT are these lines
not_feed : (b : ℕ) → is_printed b ≡ true → (b == 10) ≡ false
not_feed b h = grind (arith, nat_tests)

not_return : (b : ℕ) → is_printed b ≡ true → (b == 13) ≡ false
not_return b h = grind (arith, nat_tests)

no_feed : (line : List ℕ) → list_all is_printed line ≡ true → NoFeed line
no_feed line h k d lt = not_feed (slice_index_or line k d) (AllPass-from_list_all is_printed line h k d lt)

last_printed : (line : List ℕ) → list_all is_printed line ≡ true → (slice_index line (length line - 1) == 13) ≡ false
last_printed [] h = refl
last_printed (b ∷ bytes) h = not_return _ (AllPass-from_list_all is_printed (b ∷ bytes) h (length (b ∷ bytes) - 1) 0 (omega arith))

no_return : (line : List ℕ) → list_all is_printed line ≡ true → strip_carriage_return line ≡ line
no_return line h = rw (last_printed line h) refl

ended : (line : List ℕ) → list_all is_printed line ≡ true → EndedLine (line ++ 10 ∷ []) line
ended line h = (line, refl, no_feed line h, sym (no_return line h))

pub lines_of_text : (lines : List (List ℕ)) (before : ℕ) → AreLines lines → before + length (text_of lines) ≤ 2 ^ 32 → lines_from before (text_of lines) ≡ known lines
lines_of_text [] before are within = refl
lines_of_text (x ∷ lines) before are within =
    let raw = x ++ 10 ∷ [] in
    let size : length (text_of (x ∷ lines)) ≡ length raw + length (text_of lines) = length-append raw (text_of lines) in
    lines-ended before raw x (text_of lines) (ended x are.0.printed)
    ∙ ap (λ o. o ∷ lines_from (before + length raw) (text_of lines)) (line-text before (length raw) x (omega (arith, are.0.short)) (omega (arith, within, size)))
    ∙ ap (λ l. known (x ∷ []) ++ l) (lines_of_text lines (before + length raw) are.1 (omega (arith, within, size)))
