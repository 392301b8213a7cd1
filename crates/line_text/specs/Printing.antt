-- Canonical texts: lines of fields.
use Rattle.std.specs.Prelude.{ℕ, List, [], ◌∷◌, ◌++◌, decimal}
use Rattle.std.specs.List.{flat_map}

-- fields, each after a space
abbrev pub spaced : List (List ℕ) → List ℕ
spaced fields = flat_map (λ field. 32 ∷ field) fields

-- a line of a canonical text: its fields with one space between them, and a line feed
abbrev pub line_text : List (List ℕ) → List ℕ
line_text [] = 10 ∷ []
line_text (field ∷ fields) = field ++ spaced fields ++ 10 ∷ []

abbrev pub text_of : List (List (List ℕ)) → List ℕ
text_of lines = flat_map line_text lines

-- a name and a number, joined by a colon
abbrev pub with_number : List ℕ × ℕ → List ℕ
with_number pair = pair.0 ++ 58 ∷ decimal pair.1
