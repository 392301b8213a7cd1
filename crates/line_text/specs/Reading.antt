-- Reading a text line after line. What is read so far is of any type; a line's fields are added to it.
use Rattle.std.specs.Prelude.{ℕ, ◌+◌, List, [], ◌∷◌, Result, Ok, Err, if◌then◌else◌}
use Rattle.lab_base.specs.Texts.{fields_of, is_skipped}
use Rattle.lab_base.specs.declared.fault.Kind.{Kind}
use Rattle.lab_base.specs.declared.fault.TextFault.{TextFault}

-- two steps, of which the first one's fault counts
abbrev pub and_then : {A B : Type 0} → Result A Kind → (A → Result B Kind) → Result B Kind
and_then (Ok a) next = next a
and_then (Err kind) next = Err kind

-- a fault of line n
abbrev pub at_line : {S : Type 0} → ℕ → Result S Kind → Result S TextFault
at_line n (Ok s) = Ok s
at_line n (Err kind) = Err (record { line = n; kind = kind })

-- a skipped line adds nothing
abbrev pub line_added : {S : Type 0} → (S → List (List ℕ) → Result S Kind) → S → List ℕ → Result S Kind
line_added add s line = if is_skipped (fields_of line) then Ok s else add s (fields_of line)

-- line n after what is read so far
abbrev pub with_line : {S : Type 0} → (S → List (List ℕ) → Result S Kind) → ℕ → Result S TextFault → List ℕ → Result S TextFault
with_line add n (Err fault) line = Err fault
with_line add n (Ok s) line = at_line n (line_added add s line)

-- lines n, n + 1, .. after what is read so far: what they give, or the fault of the first line that has one
abbrev pub read_from : {S : Type 0} → (S → List (List ℕ) → Result S Kind) → ℕ → Result S TextFault → List (List ℕ) → Result S TextFault
read_from add n so_far [] = so_far
read_from add n so_far (line ∷ lines) = read_from add (n + 1) (with_line add n so_far line) lines
