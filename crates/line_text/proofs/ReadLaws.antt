-- Reading on after some lines.
use Rattle.line_text.specs.declared.line_fault.LineFault.{LineFault}
use Rattle.line_text.specs.declared.line_fault.LineFault.TheVariants as line_faults
use Rattle.line_text.specs.Refusals.{Takes, Reads, ReadsInto, refused_at}
use Rattle.std.proofs.Common.{◌≡◌, ℕ, ◌+◌, Bool, true, false, cond, List, [], ◌∷◌, Result, Ok, Err, refl, sym, ap, subst, ◌∙◌}
use Rattle.lab_base.specs.Texts.{fields_of, is_skipped}
use Rattle.lab_base.specs.declared.fault.Kind.{Kind}
use Rattle.lab_base.specs.declared.fault.TextFault.{TextFault}
use Rattle.lab_base.specs.declared.fault.TextRefused.{TextRefused}
use Rattle.lab_base.specs.declared.fault.TextRefused.TheVariants as refusals
use Rattle.line_text.specs.Reading.{line_added, at_line, read_from}

-- a fault stays
pub stays : {S : Type 0} (add : S → List (List ℕ) → Result S Kind) (n : ℕ) (fault : TextFault) (lines : List (List ℕ)) → read_from add n (Err fault) lines ≡ Err fault
stays add n fault [] = refl
stays add n fault (line ∷ lines) = stays add (n + 1) fault lines

line_keeps : {S : Type 0} (add : S → List (List ℕ) → Result S Kind) (P : S → Type 0) → ((s t : S) (fields : List (List ℕ)) → P s → add s fields ≡ Ok t → P t)
    → (s t : S) (line : List ℕ) → P s → line_added add s line ≡ Ok t → P t
line_keeps add P each s t line is h = by (is_skipped (fields_of line)) h
  where
    by : (b : Bool) → cond b (Ok s) (add s (fields_of line)) ≡ Ok t → P t
    by true h = subst P (cc h) is
    by false h = each s t (fields_of line) is h

-- what each line keeps, all keep
pub lines_keep : {S : Type 0} (add : S → List (List ℕ) → Result S Kind) (P : S → Type 0) → ((s t : S) (fields : List (List ℕ)) → P s → add s fields ≡ Ok t → P t)
    → (n : ℕ) (s t : S) (lines : List (List ℕ)) → P s → read_from add n (Ok s) lines ≡ Ok t → P t
lines_keep add P each n s t [] is h = subst P (cc h) is
lines_keep {S} add P each n s t (line ∷ lines) is h = by (line_added add s line) refl h (λ u kept more. lines_keep add P each (n + 1) u t lines kept more)
  where
    by : (r : Result S Kind) → line_added add s line ≡ r → read_from add (n + 1) (at_line n r) lines ≡ Ok t → ((u : S) → P u → read_from add (n + 1) (Ok u) lines ≡ Ok t → P t) → P t
    by (Ok u) added h rest = rest u (line_keeps add P each s u line is added) h
    by (Err kind) added h rest = absurd (let never = sym (stays add (n + 1) (record { line = n; kind = kind }) lines) ∙ h in cc never)

-- the fault of the next line is that of the text
pub ends : {S : Type 0} (add : S → List (List ℕ) → Result S Kind) (n : ℕ) (old new : S) (fault : LineFault) (line : List ℕ) (lines rest : List (List ℕ)) (whole : Result S TextFault)
    → whole ≡ read_from add n (Ok old) lines → lines ≡ line ∷ rest → Takes {U = Unit {0}} (Err fault) new (line_added add old line) → ReadsInto {U = ℕ} (Err (refused_at n fault)) new whole
ends {S} add n old new (line_faults.Kind kind) line lines rest whole so_far first takes =
    so_far
    ∙ ap (read_from add n (Ok old)) first
    ∙ ap (λ (r : Result S Kind). read_from add (n + 1) (at_line n r) rest) takes
    ∙ stays add (n + 1) (record { line = n; kind = kind }) rest
ends add n old new line_faults.Memory line lines rest whole so_far first takes = tt

-- a refusal of the lines is one of the text
pub passes_on : {S X : Type 0} (of_text : Result S TextFault → Result X TextFault) (refused : TextRefused) (new : S) (read : Result S TextFault)
    → ((fault : TextFault) → of_text (Err fault) ≡ Err fault) → ReadsInto {U = ℕ} (Err refused) new read → Reads {X = X} (Err refused) (of_text read)
passes_on of_text (refusals.Text fault) new read fails is = ap of_text is ∙ fails fault
passes_on of_text refusals.Memory new read fails is = tt
