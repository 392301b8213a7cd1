-- Candidates on nodes that are marked.
use Rattle.std.specs.Prelude.{ℕ, Bool, true, List, filter, length, map, slice_index_or}
use Rattle.phys_lab.specs.Forests.{numbers}
use Rattle.lab_model.specs.Shapes.{Place}

-- by place whether its node is marked; nodes beyond the end of the marks are
abbrev pub marks_of : List Bool → List Place → List Bool
marks_of nodes listed = map (λ p. slice_index_or nodes p.0.0 true) listed

-- the mark of a number; those beyond the end of the marks are marked
abbrev pub mark_of : List Bool → ℕ → Bool
mark_of marks k = slice_index_or marks k true

-- the numbers that are marked, ascending
abbrev pub marked_numbers : List Bool → List ℕ
marked_numbers marks = filter (mark_of marks) (numbers (length marks))

-- the numbers of the places whose node is marked, ascending
abbrev pub marked_of : List Bool → List Place → List ℕ
marked_of nodes listed = marked_numbers (marks_of nodes listed)
