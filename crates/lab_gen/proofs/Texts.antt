-- Texts of lines: some lines more.
use Rattle.std.proofs.Common.{◌≡◌, ◌∙◌, ℕ, ◌+◌, List, [], ◌∷◌, ◌++◌, map, ap, sym, append_assoc, append-nil}
use Rattle.std.specs.List.{flat_map}
use Rattle.std.proofs.lemmas.Grind.{flat_map-append}
use Rattle.std.proofs.lemmas.List.Folds.{flat_map-map}
use Rattle.std.proofs.lemmas.List.FromFn.{map-range_with_len_more}
use Rattle.lab_gen.specs.Script.{numbers, text_of}

pub text-append : (xs ys : List (List ℕ)) → text_of (xs ++ ys) ≡ text_of xs ++ text_of ys
text-append xs ys = flat_map-append (λ line. line ++ 10 ∷ []) xs ys

text-single : (line : List ℕ) → text_of (line ∷ []) ≡ line ++ 10 ∷ []
text-single line = append-nil (line ++ 10 ∷ [])

-- after a text that begins so, more lines were added
pub lines_added : (start before now : List ℕ) (lines more : List (List ℕ)) → before ≡ start ++ text_of lines → now ≡ before ++ text_of more → now ≡ start ++ text_of (lines ++ more)
lines_added start before now lines more was new = new ∙ ap (λ t. t ++ text_of more) was ∙ append_assoc start (text_of lines) (text_of more) ∙ ap (λ t. start ++ t) (sym (text-append lines more))

pub line_added : (start before now : List ℕ) (lines : List (List ℕ)) (line : List ℕ) → before ≡ start ++ text_of lines → now ≡ before ++ (line ++ 10 ∷ []) → now ≡ start ++ text_of (lines ++ line ∷ [])
line_added start before now lines line was new = lines_added start before now lines (line ∷ []) was (new ∙ ap (λ t. before ++ t) (sym (text-single line)))

-- one number more
map_more : (f : ℕ → List ℕ) (first i n : ℕ) → first + i ≡ n → map f (numbers first (i + 1)) ≡ map f (numbers first i) ++ f n ∷ []
unfolding numbers
map_more f first i n is = map-range_with_len_more f first i n is

each_more : (f : ℕ → List (List ℕ)) (first i n : ℕ) → first + i ≡ n → flat_map f (numbers first (i + 1)) ≡ flat_map f (numbers first i) ++ f n
unfolding numbers
each_more f first i n is =
    sym (flat_map-map (λ l. l) f (numbers first (i + 1))) ∙ ap (flat_map (λ l. l)) (map-range_with_len_more f first i n is)
    ∙ flat_map-append (λ l. l) (map f (numbers first i)) (f n ∷ []) ∙ ap (λ l. flat_map (λ l. l) (map f (numbers first i)) ++ l) (append-nil (f n))
    ∙ ap (λ l. l ++ f n) (flat_map-map (λ l. l) f (numbers first i))

pub lines_none : (f : ℕ → List ℕ) (first : ℕ) (start : List ℕ) → start ≡ start ++ text_of (map f (numbers first 0))
unfolding numbers
lines_none f first start = sym (append-nil start)

pub texts_none : (f : ℕ → List (List ℕ)) (first : ℕ) (start : List ℕ) → start ≡ start ++ text_of (flat_map f (numbers first 0))
unfolding numbers
texts_none f first start = sym (append-nil start)

pub lines_more : (f : ℕ → List ℕ) (first i n : ℕ) (start before now : List ℕ) → first + i ≡ n → before ≡ start ++ text_of (map f (numbers first i)) → now ≡ before ++ (f n ++ 10 ∷ [])
    → now ≡ start ++ text_of (map f (numbers first (i + 1)))
lines_more f first i n start before now is was new =
    line_added start before now (map f (numbers first i)) (f n) was new ∙ ap (λ l. start ++ text_of l) (sym (map_more f first i n is))

pub texts_more : (f : ℕ → List (List ℕ)) (first i n : ℕ) (start before now : List ℕ) → first + i ≡ n → before ≡ start ++ text_of (flat_map f (numbers first i)) → now ≡ before ++ text_of (f n)
    → now ≡ start ++ text_of (flat_map f (numbers first (i + 1)))
texts_more f first i n start before now is was new =
    lines_added start before now (flat_map f (numbers first i)) (f n) was new ∙ ap (λ l. start ++ text_of l) (sym (each_more f first i n is))
