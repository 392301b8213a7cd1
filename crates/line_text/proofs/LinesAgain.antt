-- The lines of a printed text are read again.
use Rattle.std.proofs.Common.{◌≡◌, ℕ, ◌+◌, Bool, true, false, not, cond, eqb, List, [], ◌∷◌, ◌++◌, map, Result, Ok, refl, sym, ap, subst, ◌∙◌, inl, inr}
use Rattle.std.specs.List.{list_all}
use Rattle.std.proofs.lemmas.Bool.{and_from}
use Rattle.std.proofs.lemmas.List.{append-nil, append_assoc}
use Rattle.std.proofs.lemmas.List.Folds.{list_all-append}
use Rattle.lab_base.specs.Texts.{fields_of, lines_of, is_skipped}
use Rattle.lab_base.specs.Lists.{Has}
use Rattle.lab_base.specs.declared.fault.Kind.{Kind}
use Rattle.lab_base.proofs.Again.{line_again, field_again, last_field_again}
use Rattle.line_text.specs.Reading.{line_added, at_line, read_from}
use Rattle.line_text.specs.Printing.{spaced, line_text, text_of}
use Rattle.line_text.proofs.PartsAgain.{IsPlain}

abbrev ArePlain : List (List ℕ) → Type 0
ArePlain fields = (f : List ℕ) → Has fields f → IsPlain f

-- a line that is printed: its first field begins with no `#`
pub record IsPrinted (line : List (List ℕ)) : Type 0 where
  pub kept : is_skipped line ≡ false
  pub plain : (f : List ℕ) → Has line f → IsPlain f

fields_again : (field : List ℕ) (fields : List (List ℕ)) → ArePlain (field ∷ fields) → fields_of (field ++ spaced fields) ≡ field ∷ fields
fields_again field [] plain =
    let p = plain field (inl refl) in
    ap fields_of (append-nil field) ∙ last_field_again field p.filled p.no_blank
fields_again field (next ∷ fields) plain =
    let p = plain field (inl refl) in
    field_again field (next ++ spaced fields) p.filled p.no_blank ∙ ap (λ l. field ∷ l) (fields_again next fields (λ f h. plain f (inr h)))

no_feeds : (field : List ℕ) (fields : List (List ℕ)) → ArePlain (field ∷ fields) → list_all (λ b. not (eqb b 10)) (field ++ spaced fields) ≡ true
no_feeds field [] plain = ap (list_all (λ b. not (eqb b 10))) (append-nil field) ∙ (plain field (inl refl)).no_feed
no_feeds field (next ∷ fields) plain =
    list_all-append (λ b. not (eqb b 10)) field (32 ∷ next ++ spaced fields)
    ∙ and_from _ _ (plain field (inl refl)).no_feed (no_feeds next fields (λ f h. plain f (inr h)))

-- what lines add one after another
abbrev pub Adds : {S : Type 0} → (S → List (List ℕ) → Result S Kind) → S → List (List (List ℕ)) → S → Type 0
Adds add s [] t = s ≡ t
Adds {S} add s (line ∷ lines) t = (u : S) × (add s line ≡ Ok u) × Adds add u lines t

pub adds_append : {S : Type 0} (add : S → List (List ℕ) → Result S Kind) (s t u : S) (xs ys : List (List (List ℕ))) → Adds add s xs t → Adds add t ys u → Adds add s (xs ++ ys) u
adds_append add s t u [] ys a b = subst (λ v. Adds add v ys u) (sym a) b
adds_append add s t u (x ∷ xs) ys a b = (a.0, a.1, adds_append add a.0 t u xs ys a.2 b)

-- the lines of a list, each after those before it
pub adds_each : {S X : Type 0} (add : S → List (List ℕ) → Result S Kind) (line : X → List (List ℕ)) (state : List X → S) (front rest : List X)
    → ((a : List X) (x : X) (b : List X) → a ++ x ∷ b ≡ front ++ rest → add (state a) (line x) ≡ Ok (state (a ++ x ∷ []))) → Adds add (state front) (map line rest) (state (front ++ rest))
adds_each add line state front [] step = ap state (sym (append-nil front))
adds_each add line state front (x ∷ rest) step =
    let whole = append_assoc front (x ∷ []) rest in (
      state (front ++ x ∷ []),
      step front x rest refl,
      subst (λ l. Adds add (state (front ++ x ∷ [])) (map line rest) (state l)) whole (adds_each add line state (front ++ x ∷ []) rest (λ a y b e. step a y b (e ∙ whole))),
    )

-- A PRINTED TEXT IS READ AS ITS LINES
pub read_again : {S : Type 0} (add : S → List (List ℕ) → Result S Kind) (n : ℕ) (s t : S) (lines : List (List (List ℕ))) → ((line : List (List ℕ)) → Has lines line → IsPrinted line) → Adds add s lines t
    → read_from add n (Ok s) (lines_of (text_of lines)) ≡ Ok t
read_again add n s t [] printed adds = ap (λ v. Ok v) adds
read_again add n s t ([] ∷ lines) printed adds = absurd (let skipped = (printed [] (inl refl)).kept in cc skipped)
read_again {S} add n s t ((field ∷ fields) ∷ lines) printed adds =
    let is = printed (field ∷ fields) (inl refl) in
    let text : line_text (field ∷ fields) ++ text_of lines ≡ (field ++ spaced fields) ++ 10 ∷ text_of lines =
    append_assoc (field ++ spaced fields) (10 ∷ []) (text_of lines) in
    let first : lines_of (text_of ((field ∷ fields) ∷ lines)) ≡ (field ++ spaced fields) ∷ lines_of (text_of lines) =
    ap lines_of text ∙ line_again (field ++ spaced fields) (text_of lines) (no_feeds field fields is.plain) in
    let same : fields_of (field ++ spaced fields) ≡ field ∷ fields = fields_again field fields is.plain in
    let added : line_added add s (field ++ spaced fields) ≡ Ok adds.0 =
    ap (λ (l : List (List ℕ)). cond (is_skipped l) (Ok s) (add s l)) same ∙ ap (λ (b : Bool). cond b (Ok s) (add s (field ∷ fields))) is.kept ∙ adds.1 in
    ap (read_from add n (Ok s)) first
    ∙ ap (λ (r : Result S Kind). read_from add (n + 1) (at_line n r) (lines_of (text_of lines))) added
    ∙ read_again add (n + 1) adds.0 t lines (λ l h. printed l (inr h)) adds.2
