-- The jobs of an evaluation, and their results.
use Rattle.std.specs.Prelude.{ℕ, ℤ, Bool, List, Result, Ok, Err}
use Rattle.lab_base.specs.declared.fault.Kind.{Kind}
use Rattle.tcl_words.specs.declared.word.Part.{Part}
use Rattle.tcl_words.specs.declared.word.Word.{Word}
use Rattle.tcl_words.specs.declared.word.Command.{Command}
use Rattle.tcl_eval.specs.declared.halts.Halt.{Halt}
use Rattle.tcl_eval.specs.declared.halts.Halt.TheVariants.{Fault}
use Rattle.tcl_eval.specs.Forms.{Branching}

-- what is evaluated
pub data Job : Type 0 where
  -- a text, one level deeper or here; its commands from one on, after this result; one of them
  Nested : (text : List ℕ) → Job
  Whole : (text : List ℕ) → Job
  Commands : (text : List ℕ) → (rest : List Command) → (result : List ℕ) → Job
  One : (text : List ℕ) → (command : Command) → Job
  -- words and parts after what came of those before, and a variable at its place; inside an index or not
  Words : (text : List ℕ) → (rest : List Word) → (values : List (List ℕ)) → Job
  Parts : (text : List ℕ) → (in_index : Bool) → (rest : List Part) → (value : List ℕ) → Job
  Named : (text : List ℕ) → (at : ℕ) → (in_index : Bool) → Job
  -- a command's words; the branches of an `if` that are left; a loop at its condition; the elements that are left
  Call : (words : List (List ℕ)) → Job
  If : (rest : List Branching) → Job
  For : (condition next body : List ℕ) → Job
  Each : (name list : List ℕ) → (at : ℕ) → (body : List ℕ) → Job
  -- a condition, an expression, and its tiers; where it isn't live nothing is evaluated
  Condition : (text : List ℕ) → Job
  Expression : (text : List ℕ) → Job
  Pass : (text : List ℕ) → (live : Bool) → Job
  Tier : (text : List ℕ) → (at tier : ℕ) → (live : Bool) → Job
  Chain : (text : List ℕ) → (at tier : ℕ) → (live : Bool) → (left : ℤ) → Job
  Operand : (text : List ℕ) → (at : ℕ) → (live : Bool) → Job

-- what comes of it: a value, words, a number or a truth; a value or a number with the place after it
pub data Gain : Type 0 where
  Value : List ℕ → Gain
  Texts : List (List ℕ) → Gain
  Integer : ℤ → Gain
  Truth : Bool → Gain
  ValueAt : List ℕ → ℕ → Gain
  IntegerAt : ℤ → ℕ → Gain

-- a fault
abbrev pub fails : {A : Type 0} → Kind → Result A Halt
fails k = Err (Fault k)

-- a value, or its fault
abbrev pub value_or : Result (List ℕ) Kind → Result Gain Halt
value_or (Ok v) = Ok (Value v)
value_or (Err k) = fails k

-- a value and the place after it, or its fault
abbrev pub value_at : Result (List ℕ) Kind → ℕ → Result Gain Halt
value_at (Ok v) end = Ok (ValueAt v end)
value_at (Err k) end = fails k

-- a number and the place after it, or its fault
abbrev pub integer_at : Result ℤ Kind → ℕ → Result Gain Halt
integer_at (Ok z) end = Ok (IntegerAt z end)
integer_at (Err k) end = fails k
