-- The limits of the interpreter.
use Rattle.std.specs.Prelude.{ℕ, ◌<◌, ◌≤◌, List, [], length, All, option_map, slice_index_or}
use Rattle.std.specs.Option.{ForSome}
use Rattle.tcl_eval.specs.Forms.{Branching}
use Rattle.tcl_eval.specs.declared.branches.Branch.{Branch}

-- no word is longer than a value may be
abbrev pub AllShort : List (List ℕ) → Type 0
AllShort words = All (λ word. length word ≤ 65536) words

-- a branch names words of so many
abbrev pub BranchLies : ℕ → Branch → Type 0
BranchLies n b = (b.body < n) × ForSome b.condition (λ place. place < n)

-- the condition and the body that it names
abbrev pub branching_of : List (List ℕ) → Branch → Branching
branching_of words b = (option_map (λ place. slice_index_or words place []) b.condition, slice_index_or words b.body [])
