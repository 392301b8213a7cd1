-- A line that a reader finds too long is too long.
use Rattle.std.proofs.Common.{◌≡◌, ◌⊎◌, inl, inr, ℕ, ◌+◌, ◌-◌, ◌^◌, ◌<◌, ◌≤◌, Bool, true, false, cond, eqb, List, [], ◌∷◌, ◌++◌, length, take, Option, Some, None, refl, sym, ap, subst, ◌∙◌, arith, append_assoc, length-append}
use Rattle.std.specs.Prelude.{◌==◌, slice_index}
use Rattle.std.specs.Str.Lines.{strip_carriage_return}
use Rattle.std.specs.Io.KnownBytes.{prepend_known}
use Rattle.std.proofs.lemmas.Bool.{eqb-true}
use Rattle.std.proofs.lemmas.List.{append-nil, length-take-le}
use Rattle.std.proofs.lemmas.List.Elements.{All-append, All-cons, All-nil}
use Rattle.lab_io.specs.Feeds.{NoFeed, EndedLine, LastLine}
use Rattle.lab_io.specs.Lines.{line_of, lines_from}
use Rattle.lab_io.specs.Taken.{IsLong, IsTooLong, above, above_last, beyond, ends_beyond}
use Rattle.lab_io.proofs.LineLaws.{lines-ended, lines-last, line-long, line-beyond}

-- what stands before the first line feed
pub record Front (bytes : List ℕ) : Type 0 where
  pub front : List ℕ
  pub none : NoFeed front
  pub whole : (bytes ≡ front) ⊎ ((more : List ℕ) × (bytes ≡ front ++ 10 ∷ more))

abbrev no_feed : ℕ → Type 0
no_feed b = (b == 10) ≡ false

pub front_of : (bytes : List ℕ) → Front bytes
front_of [] = record { front = []; none = All-nil no_feed; whole = inl refl }
front_of (b ∷ bytes) = by (eqb b 10) refl (front_of bytes)
  where
    by : (t : Bool) → eqb b 10 ≡ t → Front bytes → Front (b ∷ bytes)
    by true is rest = record { front = []; none = All-nil no_feed; whole = inr (bytes, ap (λ (n : ℕ). n ∷ bytes) (eqb-true b 10 is)) }
    by false is rest = record {
      front = b ∷ rest.front;
      none = All-cons no_feed b rest.front is rest.none;
      whole = elim rest.whole [
        | inl same ↦ inl (ap (λ (l : List ℕ). b ∷ l) same)
        | inr more ↦ inr (more.0, ap (λ (l : List ℕ). b ∷ l) more.1)
      ];
    }

-- a line loses one byte at most
pub strip_keeps : (line : List ℕ) → length line ≤ length (strip_carriage_return line) + 1
strip_keeps line = by (slice_index line (length line - 1) == 13)
  where
    by : (t : Bool) → length line ≤ length (cond t (take (length line - 1) line) line) + 1
    by true = omega (arith, length-take-le (length line - 1) line (omega arith))
    by false = omega arith

pub strip_shorter : (line : List ℕ) → length (strip_carriage_return line) ≤ length line
strip_shorter line = by (slice_index line (length line - 1) == 13)
  where
    by : (t : Bool) → length (cond t (take (length line - 1) line) line) ≤ length line
    by true = omega (arith, length-take-le (length line - 1) line (omega arith))
    by false = omega arith

-- what more there is of a line makes it no shorter
pub longer : (body front : List ℕ) → 4096 < length (strip_carriage_return body) → 4096 < length (strip_carriage_return (body ++ front))
longer body [] long = subst (λ (l : List ℕ). 4096 < length (strip_carriage_return l)) (sym (append-nil body)) long
longer body (b ∷ front) long =
    let whole = length-append body (b ∷ front) in
    omega (arith, strip_keeps (body ++ b ∷ front), strip_shorter body, whole)

abbrev pub FirstIsLong : ℕ → List ℕ → Type 0
FirstIsLong before bytes = (others : List (Option (List ℕ))) × (lines_from before bytes ≡ None ∷ others)

-- a line that begins so, and is too long however it ends
begins : (before : ℕ) (body rest : List ℕ) → NoFeed body
    → ((front : List ℕ) → line_of before (strip_carriage_return (body ++ front)) (length (body ++ front) + 1) ≡ None)
    → ((front : List ℕ) → line_of before (body ++ front) (length (body ++ front)) ≡ None)
    → 0 < length body → FirstIsLong before (body ++ rest)
begins before body rest none ended last some =
    let f = front_of rest in
    let line = body ++ f.front in
    let plain : NoFeed line = All-append no_feed body f.front none f.none in
    elim f.whole [
      | inl same ↦
          let whole : body ++ rest ≡ line = ap (λ (l : List ℕ). body ++ l) same in
          let is : LastLine line line = (refl, plain, omega (arith, length-append body f.front)) in
          ([], ap (lines_from before) whole ∙ lines-last before line line is ∙ ap (λ (x : Option (List ℕ)). x ∷ []) (last f.front))
      | inr more ↦
          let raw = line ++ 10 ∷ [] in
          let whole : body ++ rest ≡ raw ++ more.0 = ap (λ (l : List ℕ). body ++ l) more.1 ∙ sym (append_assoc body f.front (10 ∷ more.0)) ∙ sym (append_assoc line (10 ∷ []) more.0) in
          let is : EndedLine raw (strip_carriage_return line) = (line, refl, plain, refl) in
          let size : length raw ≡ length line + 1 = length-append line (10 ∷ []) in (
            lines_from (before + length raw) more.0,
            ap (lines_from before) whole ∙ lines-ended before raw (strip_carriage_return line) more.0 is
                ∙ ap (λ (x : Option (List ℕ)). x ∷ lines_from (before + length raw) more.0) (ap (line_of before (strip_carriage_return line)) size ∙ ended f.front),
          )
    ]

-- THE FIRST LINE OF WHAT IS LEFT IS TOO LONG
pub first_is_long : (before : ℕ) (left : List ℕ) → before ≤ 2 ^ 32 → IsTooLong before (Some left) → FirstIsLong before left
first_is_long before left within h = by h.rest h.front h.long
  where
    by : (rest : Option (List ℕ)) → Some left ≡ prepend_known h.body rest → IsLong before h.body rest → FirstIsLong before left
    by None is long = absurd (cc is)
    by (Some rest) is long =
        let whole : left ≡ h.body ++ rest = cc is in
        subst (λ (l : List ℕ). FirstIsLong before l) (sym whole) (elim long [
          | above none more ↦ begins before h.body rest none (λ front. line-long before _ _ (longer h.body front more)) (λ front. line-long before _ _ (omega (arith, strip_shorter h.body, length-append h.body front))) (omega (arith, strip_shorter h.body))
          | above_last none end more ↦
              let empty : rest ≡ [] = end in
              let is : LastLine h.body h.body = (refl, none, omega arith) in
              ([], ap (λ (l : List ℕ). lines_from before (h.body ++ l)) empty ∙ ap (lines_from before) (append-nil h.body) ∙ lines-last before h.body h.body is ∙ ap (λ (x : Option (List ℕ)). x ∷ []) (line-long before (length h.body) h.body more))
          | beyond none more ↦ begins before h.body rest none (λ front. line-beyond before _ _ (omega (arith, length-append h.body front))) (λ front. line-beyond before _ _ (omega (arith, length-append h.body front))) (omega arith)
          | ends_beyond line is_line none more ↦
              let is : EndedLine h.body (strip_carriage_return line) = (line, is_line, none, refl) in
              (lines_from (before + length h.body) rest, lines-ended before h.body (strip_carriage_return line) rest is ∙ ap (λ (x : Option (List ℕ)). x ∷ lines_from (before + length h.body) rest) (line-beyond before (length h.body) _ more))
        ])
