-- The line of a fault of a solution text is one of its lines, or the one after them; and how long a block is.
use Rattle.std.proofs.Common.{◌≡◌, ◌+◌, ◌<◌, ◌≤◌, ◌==◌, ℕ, Bool, true, false, Option, Some, None, Result, Ok, Err, List, [], ◌∷◌, length, cond, refl, ap, sym, ◌∙◌, arith}
use Rattle.std.specs.List.{onto_first}
use Rattle.lab_base.specs.Texts.{lines_of}
use Rattle.lab_base.specs.declared.fault.Kind.{Kind}
use Rattle.lab_base.specs.declared.fault.Kind.TheVariants.{Missing}
use Rattle.lab_base.specs.declared.fault.TextFault.{TextFault}
use Rattle.lab_base.specs.declared.ids.IfaceId.{IfaceId}
use Rattle.line_text.specs.Reading.{at_line, line_added, read_from}
use Rattle.line_text.proofs.ReadLaws.{stays}
use Rattle.phys_lab.specs.Labs.{Lab}
use Rattle.virt_topo.specs.declared.mapping.Mapping.{Mapping}
use Rattle.virt_topo.specs.declared.wiring.Wiring.{Wiring}
use Rattle.lab_model.specs.Shapes.{Place}
use Rattle.solution_text.specs.Solutions.{all_given, completed, line_given, mapped, mapping_of_text, nothing}

onto_first_few : (byte : ℕ) (lines : List (List ℕ)) → length (onto_first byte lines) ≤ length lines + 1
onto_first_few byte [] = omega arith
onto_first_few byte (line ∷ lines) = omega arith

lines_if : (b : Bool) (byte n : ℕ) (lines : List (List ℕ)) → length lines ≤ n → length (cond b ([] ∷ lines) (onto_first byte lines)) ≤ n + 1
lines_if true byte n lines few = omega (arith, few)
lines_if false byte n lines few = omega (arith, few, onto_first_few byte lines)

lines_few : (text : List ℕ) → length (lines_of text) ≤ length text
lines_few [] = omega arith
lines_few (byte ∷ text) = omega (arith, lines_if (byte == 10) byte (length text) (lines_of text) (lines_few text))

err_is : {X : Type 0} (a b : TextFault) → ◌≡◌ {A = Result X TextFault} (Err a) (Err b) → a ≡ b
err_is a b h = cc h

read_within : {S : Type 0} (add : S → List (List ℕ) → Result S Kind) (n : ℕ) (so_far : S) (lines : List (List ℕ)) (fault : TextFault) → read_from add n (Ok so_far) lines ≡ Err fault → fault.line < n + length lines
read_within add n so_far [] fault h = absurd (cc h)
read_within {S} add n so_far (line ∷ lines) fault h = by (λ next more. read_within add (n + 1) next lines fault more) (line_added add so_far line) h
  where
    by : ((next : S) → read_from add (n + 1) (Ok next) lines ≡ Err fault → fault.line < n + 1 + length lines) → (r : Result S Kind) → read_from add (n + 1) (at_line n r) lines ≡ Err fault → fault.line < n + length (line ∷ lines)
    by within (Ok next) h = omega (arith, within next h)
    by within (Err kind) h =
        let same : record { line = n; kind = kind } ≡ fault = err_is {X = S} (record { line = n; kind = kind }) fault (sym (stays add (n + 1) (record { line = n; kind = kind }) lines) ∙ h) in
        omega (arith, ap (λ (f : TextFault). f.line) same)

mapped_within : (line : ℕ) (places : Option (List Place)) (plugs : Option (List IfaceId)) (fault : TextFault) → mapped line places plugs ≡ Err fault → fault.line ≡ line
mapped_within line (Some places) (Some plugs) fault h = absurd (cc h)
mapped_within line (Some places) None fault h = ap (λ (f : TextFault). f.line) (sym (err_is {X = Mapping} (record { line = line; kind = Missing }) fault h))
mapped_within line None plugs fault h = ap (λ (f : TextFault). f.line) (sym (err_is {X = Mapping} (record { line = line; kind = Missing }) fault h))

-- a reader that answers the first fault of a line, or what all lines give
module _ {S : Type 0} (add : S → List (List ℕ) → Result S Kind) (start : S) (all : Result S TextFault → Result Mapping TextFault) (lines : List (List ℕ)) (fault : TextFault)
    (last : (so_far : S) → all (Ok so_far) ≡ Err fault → fault.line ≡ length lines + 1) (first : (f : TextFault) → all (Err f) ≡ Err f) where
  by_read : (r : Result S TextFault) → read_from add 1 (Ok start) lines ≡ r → all r ≡ Err fault → fault.line ≤ length lines + 1
  by_read (Ok so_far) is h = omega (arith, last so_far h)
  by_read (Err f) is h =
      let same : f ≡ fault = err_is {X = Mapping} f fault (sym (first f) ∙ h) in
      omega (arith, read_within add 1 start lines f is, ap (λ (f : TextFault). f.line) same)

pub fault_within : (lab : Lab) (w : Wiring) (text : List ℕ) (fault : TextFault) → mapping_of_text lab w text ≡ Err fault → fault.line ≤ length text + 1
fault_within lab w text fault h =
    let lines = lines_of text in
    let within : fault.line ≤ length lines + 1
    = by_read (line_given lab w) (nothing w) (completed (length lines + 1)) lines fault (λ given bad. mapped_within (length lines + 1) (all_given given.places) (all_given given.plugs) fault bad) (λ f. refl) (read_from (line_given lab w) 1 (Ok (nothing w)) lines) refl h in
    omega (arith, within, lines_few text)
