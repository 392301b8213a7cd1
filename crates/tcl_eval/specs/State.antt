-- The state that a script changes: its variables, the host's objects, and the rest of its budget.
use Rattle.std.specs.Prelude.{ℕ, ◌-◌, List, [], Option, None, Some, Result, Ok, Err, nat_eq, unwrap_or}
use Rattle.std.specs.Map.{lookup}
use Rattle.std.specs.Cmp.Lexicographic.{pointwise}
use Rattle.indexmap.specs.IndexMap.{insert_entry}
use Rattle.lab_base.specs.declared.fault.Kind.{Kind}
use Rattle.lab_base.specs.declared.fault.Kind.TheVariants as kinds

-- variables in the order in which they were first set, the host's objects, and how many commands and
-- conditions are left
pub record State (O : Type 0) : Type 0 where
  pub variables : List (List ℕ × List ℕ)
  pub objects : O
  pub left : ℕ

-- a state of these
abbrev pub state : {O : Type 0} → List (List ℕ × List ℕ) → O → ℕ → State O
state variables objects left = record { variables = variables; objects = objects; left = left }

-- the value of a variable
abbrev pub value_of : {O : Type 0} → State O → List ℕ → Option (List ℕ)
value_of s name = lookup (pointwise nat_eq name) s.variables

-- the value of a variable that must be set
abbrev pub read_of : {O : Type 0} → State O → List ℕ → Result (List ℕ) Kind
read_of s name = elim (value_of s name) [ None ↦ Err kinds.Variable | Some v ↦ Ok v ]

-- the value of a variable, or the empty text
abbrev pub old_or_empty : {O : Type 0} → State O → List ℕ → List ℕ
old_or_empty s name = unwrap_or (value_of s name) []

-- a variable has a new value
abbrev pub with_value : {O : Type 0} → State O → List ℕ → List ℕ → State O
with_value s name value = record s { variables = insert_entry (pointwise nat_eq) s.variables name value }

-- the host has new objects
abbrev pub with_objects : {O : Type 0} → State O → O → State O
with_objects s objects = record s { objects = objects }

-- one command or condition less
abbrev pub spent : {O : Type 0} → State O → State O
spent s = record s { left = s.left - 1 }
