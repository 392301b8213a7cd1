-- The lines of what is left, as a reader takes them.
use Rattle.std.specs.Prelude.{◌≡◌, ℕ, ◌+◌, ◌^◌, ◌==◌, ◌<◌, ◌≤◌, nat_lt, Bool, true, false, List, [], ◌∷◌, ◌++◌, length, Some, None, refl}
use Rattle.std.proofs.Common.{ap, ◌∙◌, sym, append_assoc, length-append, arith}
use Rattle.std.proofs.lemmas.Bool.Decides.{nat_tests}
use Rattle.std.specs.List.{slice_split}
use Rattle.std.specs.Str.Lines.{strip_carriage_return}
use Rattle.std.proofs.lemmas.List.Splits.{slice_split_at, slice_split_none, length-slice_split}
use Rattle.lab_io.specs.Feeds.{EndedLine, LastLine}
use Rattle.lab_io.specs.Lines.{line_of, lines_between, lines_from}

-- a line that is short enough and ends within the limit is its text
pub line-text : (before size : ℕ) (text : List ℕ) → length text ≤ 4096 → before + size ≤ 2 ^ 32 → line_of before text size ≡ Some text
line-text before size text short within =
    let a : nat_lt 4096 (length text) ≡ false = grind (arith, nat_tests) in
    let b : nat_lt (2 ^ 32) (before + size) ≡ false = grind (arith, nat_tests) in
    rw (a, b) refl

-- one that is longer, or that ends beyond the limit, is too long
pub line-long : (before size : ℕ) (text : List ℕ) → 4096 < length text → line_of before text size ≡ None
line-long before size text long =
    let a : nat_lt 4096 (length text) ≡ true = grind (arith, nat_tests) in
    rw a refl

pub line-beyond : (before size : ℕ) (text : List ℕ) → 2 ^ 32 < before + size → line_of before text size ≡ None
line-beyond before size text beyond = either (nat_lt 4096 (length text)) refl
  where
    either : (t : Bool) → nat_lt 4096 (length text) ≡ t → line_of before text size ≡ None
    either true e = rw e refl
    either false e =
        let b : nat_lt (2 ^ 32) (before + size) ≡ true = grind (arith, nat_tests) in
        rw (e, b) refl

parts_more : (before : ℕ) (x : List ℕ) (parts : List (List ℕ)) → 0 < length parts → lines_between before (x ∷ parts) ≡ line_of before (strip_carriage_return x) (length x + 1) ∷ lines_between (before + (length x + 1)) parts
parts_more before x [] some = absurd (omega arith)
parts_more before [] (y ∷ parts) some = refl
parts_more before (b ∷ x) (y ∷ parts) some = refl

-- a line with its line feed, and what follows it
pub lines-ended : (before : ℕ) (raw text more : List ℕ) → EndedLine raw text → lines_from before (raw ++ more) ≡ line_of before text (length raw) ∷ lines_from (before + length raw) more
lines-ended before raw text more ended =
    let body = ended.0 in
    let whole : raw ++ more ≡ body ++ 10 ∷ more = ap (λ (l : List ℕ). l ++ more) ended.1 ∙ append_assoc body (10 ∷ []) more in
    let feed : ℕ → Bool = λ b. b == 10 in
    let size : length raw ≡ length body + 1 = ap length ended.1 ∙ length-append body (10 ∷ []) in
    ap (lines_from before) whole
    ∙ ap (lines_between before) (slice_split_at feed body 10 more ended.2 refl)
    ∙ parts_more before body (slice_split feed more) (omega (arith, length-slice_split feed more))
    ∙ ap (λ (n : ℕ). line_of before (strip_carriage_return body) n ∷ lines_between (before + n) (slice_split feed more)) (sym size)
    ∙ ap (λ (l : List ℕ). line_of before l (length raw) ∷ lines_from (before + length raw) more) (sym ended.3)

-- a last line
pub lines-last : (before : ℕ) (raw text : List ℕ) → LastLine raw text → lines_from before raw ≡ line_of before text (length raw) ∷ []
lines-last before raw text last =
    let feed : ℕ → Bool = λ b. b == 10 in
    ap (lines_between before) (slice_split_none feed raw last.1) ∙ one raw last.2 ∙ ap (λ (l : List ℕ). line_of before l (length raw) ∷ []) last.0
  where
    one : (raw : List ℕ) → 0 < length raw → lines_between before (raw ∷ []) ≡ line_of before raw (length raw) ∷ []
    one [] some = absurd (omega arith)
    one (b ∷ raw) some = refl

-- where nothing is left there is no line
pub lines-none : (before : ℕ) → lines_from before [] ≡ []
lines-none before = refl
