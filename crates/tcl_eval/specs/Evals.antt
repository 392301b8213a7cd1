-- The meaning of texts over any host: a big-step relation. Each rule stands for one case of the language. `calls` is
-- what the host answers on the line of the top-level command under way.
use Rattle.std.specs.Prelude.{◌≡◌, ◌≢◌, ℕ, ◌+◌, ◌-◌, ◌<◌, ◌≤◌, ℤ, pos, neg_ℤ, Bool, true, false, List, [], ◌∷◌, ◌++◌, Some, None, Result, Ok, Err, length, take, drop, slice_range, if◌then◌else◌}
use Rattle.std.specs.Fmt.{signed_decimal}
use Rattle.lab_base.specs.declared.fault.Kind.{Kind}
use Rattle.lab_base.specs.declared.fault.Kind.TheVariants as kinds
use Rattle.tcl_words.specs.declared.flaw.Flaw.{Flaw}
use Rattle.tcl_words.specs.declared.frame.BracketState.TheVariants.{Start}
use Rattle.tcl_words.specs.declared.frame.Frame.TheVariants as frames
use Rattle.tcl_words.specs.declared.word.Part.{Part}
use Rattle.tcl_words.specs.declared.word.Part.TheVariants.{Plain, Escape, Variable, Script}
use Rattle.tcl_words.specs.declared.word.Word.{Word}
use Rattle.tcl_words.specs.declared.word.Command.{Command}
use Rattle.tcl_words.specs.declared.word.Reference.{Reference}
use Rattle.tcl_words.specs.Tokens.{begins_with}
use Rattle.tcl_words.specs.Passes.{Passes}
use Rattle.tcl_words.specs.Words.{CommandsOf, ReferenceOf}
use Rattle.tcl_eval.specs.declared.hosts.Called.{Called}
use Rattle.tcl_eval.specs.declared.hosts.Called.TheVariants as called
use Rattle.tcl_eval.specs.declared.halts.Halt.{Halt}
use Rattle.tcl_eval.specs.declared.halts.Halt.TheVariants.{Stop}
use Rattle.tcl_eval.specs.declared.operators.Operator.{Operator}
use Rattle.tcl_eval.specs.declared.openings.Opening.TheVariants.{Not, Minus, Parenthesis, Digits, Dollar, Bracket, Nothing}
use Rattle.tcl_eval.specs.declared.commands.Own.TheVariants as owns
use Rattle.tcl_eval.specs.Numbers.{number_of, IsValue, Applies, IsNeeded, IsNot, alive, Writes}
use Rattle.tcl_eval.specs.Forms.{joined_by, Branching, branches_of, element_from, listed, own, IsShort}
use Rattle.tcl_eval.specs.Operators.{operator_from, place, opening_of, IsPrefix, digits_of}
use Rattle.tcl_eval.specs.State.{State, read_of, old_or_empty, with_value, with_objects, spent}
use Rattle.tcl_eval.specs.Settings.{IsSum, number_in, step_of, indexed_name}
use Rattle.tcl_eval.specs.Jobs.{Job, Nested, Whole, Commands, One, Words, Parts, Named, Call, If, For, Each, Condition, Expression, Pass, Tier, Chain, Operand, Gain, Value, Texts, Integer, Truth, ValueAt, IntegerAt, fails, value_or, value_at, integer_at}

-- With so many levels left, from a state, the job ends so, in that state.
pub data Evals {O : Type 0} (calls : O → List (List ℕ) → Result Called Kind × O) (hears : O → List ℕ → List ℕ → Result (Unit {0}) Kind × O) :
    ℕ → Job → State O → Result Gain Halt → State O → Type 0 where
  -- texts
  deep : {l : ℕ} {t : List ℕ} {s : State O} → l ≡ 0 → Evals calls hears l (Nested t) s (fails kinds.Deep) s
  deeper : {l k : ℕ} {t : List ℕ} {s u : State O} {r : Result Gain Halt} → k + 1 ≡ l → Evals calls hears k (Whole t) s r u
      → Evals calls hears l (Nested t) s r u
  refused : {l : ℕ} {t : List ℕ} {s : State O} {e : Flaw} → CommandsOf t 0 (Err e) → Evals calls hears l (Whole t) s (fails e.kind) s
  whole : {l : ℕ} {t : List ℕ} {s u : State O} {cs : List Command} {r : Result Gain Halt} → CommandsOf t 0 (Ok cs)
      → Evals calls hears l (Commands t cs []) s r u → Evals calls hears l (Whole t) s r u
  ended : {l : ℕ} {t : List ℕ} {s : State O} {v : List ℕ} → Evals calls hears l (Commands t [] v) s (Ok (Value v)) s
  next : {l : ℕ} {t : List ℕ} {s u w : State O} {c : Command} {cs : List Command} {v q : List ℕ} {r : Result Gain Halt}
      → Evals calls hears l (One t c) s (Ok (Value q)) u → Evals calls hears l (Commands t cs q) u r w
      → Evals calls hears l (Commands t (c ∷ cs) v) s r w
  halts : {l : ℕ} {t : List ℕ} {s u : State O} {c : Command} {cs : List Command} {v : List ℕ} {h : Halt} → Evals calls hears l (One t c) s (Err h) u
      → Evals calls hears l (Commands t (c ∷ cs) v) s (Err h) u
  -- a command counts before its words are substituted
  many : {l : ℕ} {t : List ℕ} {s : State O} {c : Command} → s.left ≡ 0 → Evals calls hears l (One t c) s (fails kinds.Many) s
  words_halt : {l : ℕ} {t : List ℕ} {s u : State O} {c : Command} {h : Halt} → 0 < s.left
      → Evals calls hears l (Words t c.words []) (spent s) (Err h) u → Evals calls hears l (One t c) s (Err h) u
  call_halts : {l : ℕ} {t : List ℕ} {s u w : State O} {c : Command} {ws : List (List ℕ)} {h : Halt} → 0 < s.left
      → Evals calls hears l (Words t c.words []) (spent s) (Ok (Texts ws)) u → Evals calls hears l (Call ws) u (Err h) w
      → Evals calls hears l (One t c) s (Err h) w
  long_result : {l : ℕ} {t : List ℕ} {s u w : State O} {c : Command} {ws : List (List ℕ)} {v : List ℕ} → 0 < s.left
      → Evals calls hears l (Words t c.words []) (spent s) (Ok (Texts ws)) u → Evals calls hears l (Call ws) u (Ok (Value v)) w → 65536 < length v
      → Evals calls hears l (One t c) s (fails kinds.Long) w
  one : {l : ℕ} {t : List ℕ} {s u w : State O} {c : Command} {ws : List (List ℕ)} {v : List ℕ} → 0 < s.left
      → Evals calls hears l (Words t c.words []) (spent s) (Ok (Texts ws)) u → Evals calls hears l (Call ws) u (Ok (Value v)) w → IsShort v
      → Evals calls hears l (One t c) s (Ok (Value v)) w
  -- words from left to right, after the values of those before
  no_words : {l : ℕ} {t : List ℕ} {s : State O} {vs : List (List ℕ)} → Evals calls hears l (Words t [] vs) s (Ok (Texts vs)) s
  word : {l : ℕ} {t : List ℕ} {s u w : State O} {word : Word} {words : List Word} {v : List ℕ} {vs : List (List ℕ)} {r : Result Gain Halt}
      → Evals calls hears l (Parts t false word.parts []) s (Ok (Value v)) u → Evals calls hears l (Words t words (vs ++ v ∷ [])) u r w
      → Evals calls hears l (Words t (word ∷ words) vs) s r w
  word_halts : {l : ℕ} {t : List ℕ} {s u : State O} {word : Word} {words : List Word} {vs : List (List ℕ)} {h : Halt}
      → Evals calls hears l (Parts t false word.parts []) s (Err h) u → Evals calls hears l (Words t (word ∷ words) vs) s (Err h) u
  -- parts from left to right, after what came of those before
  long_value : {l : ℕ} {t : List ℕ} {i : Bool} {s : State O} {v : List ℕ} → 65536 < length v
      → Evals calls hears l (Parts t i [] v) s (fails kinds.Long) s
  no_parts : {l : ℕ} {t : List ℕ} {i : Bool} {s : State O} {v : List ℕ} → IsShort v → Evals calls hears l (Parts t i [] v) s (Ok (Value v)) s
  plain : {l : ℕ} {t : List ℕ} {i : Bool} {s u : State O} {a b : ℕ} {ps : List Part} {v : List ℕ} {r : Result Gain Halt}
      → Evals calls hears l (Parts t i ps (v ++ slice_range t a b)) s r u → Evals calls hears l (Parts t i (Plain a b ∷ ps) v) s r u
  escape : {l : ℕ} {t : List ℕ} {i : Bool} {s u : State O} {b : ℕ} {ps : List Part} {v : List ℕ} {r : Result Gain Halt}
      → Evals calls hears l (Parts t i ps (v ++ b ∷ [])) s r u → Evals calls hears l (Parts t i (Escape b ∷ ps) v) s r u
  variable : {l : ℕ} {t : List ℕ} {i : Bool} {s u w : State O} {a b end : ℕ} {ps : List Part} {v q : List ℕ} {r : Result Gain Halt}
      → Evals calls hears l (Named t a i) s (Ok (ValueAt q end)) u → Evals calls hears l (Parts t i ps (v ++ q)) u r w
      → Evals calls hears l (Parts t i (Variable a b ∷ ps) v) s r w
  variable_halts : {l : ℕ} {t : List ℕ} {i : Bool} {s u : State O} {a b : ℕ} {ps : List Part} {v : List ℕ} {h : Halt}
      → Evals calls hears l (Named t a i) s (Err h) u → Evals calls hears l (Parts t i (Variable a b ∷ ps) v) s (Err h) u
  script : {l : ℕ} {t : List ℕ} {i : Bool} {s u w : State O} {a b : ℕ} {ps : List Part} {v q : List ℕ} {r : Result Gain Halt}
      → Evals calls hears l (Nested (slice_range t a b)) s (Ok (Value q)) u → Evals calls hears l (Parts t i ps (v ++ q)) u r w
      → Evals calls hears l (Parts t i (Script a b ∷ ps) v) s r w
  script_halts : {l : ℕ} {t : List ℕ} {i : Bool} {s u : State O} {a b : ℕ} {ps : List Part} {v : List ℕ} {h : Halt}
      → Evals calls hears l (Nested (slice_range t a b)) s (Err h) u → Evals calls hears l (Parts t i (Script a b ∷ ps) v) s (Err h) u
  -- a variable; an index inside an index is one level more
  index_refused : {l : ℕ} {t : List ℕ} {at : ℕ} {i : Bool} {s : State O} {e : Flaw} → ReferenceOf t at (Err e)
      → Evals calls hears l (Named t at i) s (fails e.kind) s
  no_variable : {l : ℕ} {t : List ℕ} {at : ℕ} {i : Bool} {s : State O} → ReferenceOf t at (Ok None)
      → Evals calls hears l (Named t at i) s (fails kinds.Syntax) s
  named : {l : ℕ} {t : List ℕ} {at : ℕ} {i : Bool} {s : State O} {f : Reference} → ReferenceOf t at (Ok (Some f)) → f.index ≡ None
      → Evals calls hears l (Named t at i) s (value_at (read_of s (slice_range t f.name_start f.name_end)) f.end) s
  index_deep : {l : ℕ} {t : List ℕ} {at : ℕ} {s : State O} {f : Reference} {ps : List Part} → ReferenceOf t at (Ok (Some f)) → f.index ≡ Some ps
      → l ≡ 0 → Evals calls hears l (Named t at true) s (fails kinds.Deep) s
  index_halts : {l k : ℕ} {t : List ℕ} {at : ℕ} {i : Bool} {s u : State O} {f : Reference} {ps : List Part} {h : Halt}
      → ReferenceOf t at (Ok (Some f)) → f.index ≡ Some ps → k + (if i then 1 else 0) ≡ l → Evals calls hears k (Parts t true ps []) s (Err h) u
      → Evals calls hears l (Named t at i) s (Err h) u
  index_long : {l k : ℕ} {t : List ℕ} {at : ℕ} {i : Bool} {s u : State O} {f : Reference} {ps : List Part} {q : List ℕ}
      → ReferenceOf t at (Ok (Some f)) → f.index ≡ Some ps → k + (if i then 1 else 0) ≡ l
      → Evals calls hears k (Parts t true ps []) s (Ok (Value q)) u → 65536 < length (indexed_name (slice_range t f.name_start f.name_end) q)
      → Evals calls hears l (Named t at i) s (fails kinds.Long) u
  indexed : {l k : ℕ} {t : List ℕ} {at : ℕ} {i : Bool} {s u : State O} {f : Reference} {ps : List Part} {q : List ℕ} → ReferenceOf t at (Ok (Some f))
      → f.index ≡ Some ps → k + (if i then 1 else 0) ≡ l → Evals calls hears k (Parts t true ps []) s (Ok (Value q)) u
      → IsShort (indexed_name (slice_range t f.name_start f.name_end) q)
      → Evals calls hears l (Named t at i) s (value_at (read_of u (indexed_name (slice_range t f.name_start f.name_end) q)) f.end) u
  -- a command of the host's
  answered : {l : ℕ} {s : State O} {ws : List (List ℕ)} {v : List ℕ} {o : O} → own ws ≡ None → calls s.objects ws ≡ (Ok (called.Value v), o)
      → Evals calls hears l (Call ws) s (Ok (Value v)) (with_objects s o)
  stops : {l : ℕ} {s : State O} {ws : List (List ℕ)} {o : O} → own ws ≡ None → calls s.objects ws ≡ (Ok called.Stop, o)
      → Evals calls hears l (Call ws) s (Err Stop) (with_objects s o)
  unknown : {l : ℕ} {s : State O} {ws : List (List ℕ)} {o : O} → own ws ≡ None → calls s.objects ws ≡ (Ok called.NotMine, o)
      → Evals calls hears l (Call ws) s (fails kinds.Command) (with_objects s o)
  host_fails : {l : ℕ} {s : State O} {ws : List (List ℕ)} {kind : Kind} {o : O} → own ws ≡ None → calls s.objects ws ≡ (Err kind, o)
      → Evals calls hears l (Call ws) s (fails kind) (with_objects s o)
  -- set
  set_arity : {l : ℕ} {s : State O} {ws : List (List ℕ)} → own ws ≡ Some owns.Set → length ws ≢ 2 → length ws ≢ 3
      → Evals calls hears l (Call ws) s (fails kinds.Arity) s
  gets : {l : ℕ} {s : State O} {cmd n : List ℕ} → own (cmd ∷ n ∷ []) ≡ Some owns.Set
      → Evals calls hears l (Call (cmd ∷ n ∷ [])) s (value_or (read_of s n)) s
  sets : {l : ℕ} {s : State O} {cmd n v : List ℕ} {o : O} → own (cmd ∷ n ∷ v ∷ []) ≡ Some owns.Set → hears s.objects n v ≡ (Ok tt, o)
      → Evals calls hears l (Call (cmd ∷ n ∷ v ∷ [])) s (Ok (Value v)) (with_objects (with_value s n v) o)
  set_fails : {l : ℕ} {s : State O} {cmd n v : List ℕ} {kind : Kind} {o : O} → own (cmd ∷ n ∷ v ∷ []) ≡ Some owns.Set
      → hears s.objects n v ≡ (Err kind, o) → Evals calls hears l (Call (cmd ∷ n ∷ v ∷ [])) s (fails kind) (with_objects (with_value s n v) o)
  -- incr: the variable unset, its value no number, the other word no number, the sum
  incr_arity : {l : ℕ} {s : State O} {ws : List (List ℕ)} → own ws ≡ Some owns.Incr → length ws ≢ 2 → length ws ≢ 3
      → Evals calls hears l (Call ws) s (fails kinds.Arity) s
  incr_fails : {l : ℕ} {s : State O} {cmd n : List ℕ} {more : List (List ℕ)} {kind : Kind} → own (cmd ∷ n ∷ more) ≡ Some owns.Incr → length more ≤ 1
      → IsSum (number_in (read_of s n)) (step_of more) (Err kind) → Evals calls hears l (Call (cmd ∷ n ∷ more)) s (fails kind) s
  incr_adds : {l : ℕ} {s : State O} {cmd n : List ℕ} {more : List (List ℕ)} (z : ℤ) → own (cmd ∷ n ∷ more) ≡ Some owns.Incr → length more ≤ 1
      → IsSum (number_in (read_of s n)) (step_of more) (Ok z)
      → Evals calls hears l (Call (cmd ∷ n ∷ more)) s (Ok (Value (signed_decimal z))) (with_value s n (signed_decimal z))
  -- append and lappend: an unset variable begins empty
  append_arity : {l : ℕ} {s : State O} {ws : List (List ℕ)} → own ws ≡ Some owns.Append → length ws < 3
      → Evals calls hears l (Call ws) s (fails kinds.Arity) s
  append_long : {l : ℕ} {s : State O} {cmd n : List ℕ} {more : List (List ℕ)} → own (cmd ∷ n ∷ more) ≡ Some owns.Append → 0 < length more
      → 65536 < length (old_or_empty s n ++ joined_by [] more) → Evals calls hears l (Call (cmd ∷ n ∷ more)) s (fails kinds.Long) s
  appends : {l : ℕ} {s : State O} {cmd n : List ℕ} {more : List (List ℕ)} → own (cmd ∷ n ∷ more) ≡ Some owns.Append → 0 < length more
      → IsShort (old_or_empty s n ++ joined_by [] more)
      → Evals calls hears l (Call (cmd ∷ n ∷ more)) s (Ok (Value (old_or_empty s n ++ joined_by [] more))) (with_value s n (old_or_empty s n ++ joined_by [] more))
  lappend_arity : {l : ℕ} {s : State O} {ws : List (List ℕ)} → own ws ≡ Some owns.Lappend → length ws < 3
      → Evals calls hears l (Call ws) s (fails kinds.Arity) s
  lappend_fails : {l : ℕ} {s : State O} {cmd n : List ℕ} {more : List (List ℕ)} {kind : Kind} → own (cmd ∷ n ∷ more) ≡ Some owns.Lappend
      → 0 < length more → listed (old_or_empty s n) more ≡ Err kind → Evals calls hears l (Call (cmd ∷ n ∷ more)) s (fails kind) s
  lappends : {l : ℕ} {s : State O} {cmd n : List ℕ} {more : List (List ℕ)} {v : List ℕ} → own (cmd ∷ n ∷ more) ≡ Some owns.Lappend → 0 < length more
      → listed (old_or_empty s n) more ≡ Ok v → Evals calls hears l (Call (cmd ∷ n ∷ more)) s (Ok (Value v)) (with_value s n v)
  -- expr: the words joined by blanks
  expr_arity : {l : ℕ} {s : State O} {ws : List (List ℕ)} → own ws ≡ Some owns.Expr → length ws < 2
      → Evals calls hears l (Call ws) s (fails kinds.Arity) s
  expr_long : {l : ℕ} {s : State O} {cmd : List ℕ} {more : List (List ℕ)} → own (cmd ∷ more) ≡ Some owns.Expr → 0 < length more
      → 65536 < length (joined_by (32 ∷ []) more) → Evals calls hears l (Call (cmd ∷ more)) s (fails kinds.Long) s
  expr_halts : {l : ℕ} {s u : State O} {cmd : List ℕ} {more : List (List ℕ)} {h : Halt} → own (cmd ∷ more) ≡ Some owns.Expr → 0 < length more
      → IsShort (joined_by (32 ∷ []) more) → Evals calls hears l (Expression (joined_by (32 ∷ []) more)) s (Err h) u
      → Evals calls hears l (Call (cmd ∷ more)) s (Err h) u
  computes : {l : ℕ} {s u : State O} {cmd : List ℕ} {more : List (List ℕ)} {z : ℤ} → own (cmd ∷ more) ≡ Some owns.Expr → 0 < length more
      → IsShort (joined_by (32 ∷ []) more) → Evals calls hears l (Expression (joined_by (32 ∷ []) more)) s (Ok (Integer z)) u
      → Evals calls hears l (Call (cmd ∷ more)) s (Ok (Value (signed_decimal z))) u
  -- if: its whole form is tested first
  if_arity : {l : ℕ} {s : State O} {ws : List (List ℕ)} → own ws ≡ Some owns.If → branches_of ws ≡ None
      → Evals calls hears l (Call ws) s (fails kinds.Arity) s
  branches : {l : ℕ} {s u : State O} {ws : List (List ℕ)} {bs : List Branching} {r : Result Gain Halt} → own ws ≡ Some owns.If
      → branches_of ws ≡ Some bs → Evals calls hears l (If bs) s r u → Evals calls hears l (Call ws) s r u
  no_branch : {l : ℕ} {s : State O} → Evals calls hears l (If []) s (Ok (Value [])) s
  otherwise : {l : ℕ} {s u : State O} {body : List ℕ} {bs : List Branching} {r : Result Gain Halt} → Evals calls hears l (Nested body) s r u
      → Evals calls hears l (If ((None, body) ∷ bs)) s r u
  branch_halts : {l : ℕ} {s u : State O} {cond body : List ℕ} {bs : List Branching} {h : Halt} → Evals calls hears l (Condition cond) s (Err h) u
      → Evals calls hears l (If ((Some cond, body) ∷ bs)) s (Err h) u
  taken : {l : ℕ} {s u w : State O} {cond body : List ℕ} {bs : List Branching} {r : Result Gain Halt}
      → Evals calls hears l (Condition cond) s (Ok (Truth true)) u → Evals calls hears l (Nested body) u r w
      → Evals calls hears l (If ((Some cond, body) ∷ bs)) s r w
  not_taken : {l : ℕ} {s u w : State O} {cond body : List ℕ} {bs : List Branching} {r : Result Gain Halt}
      → Evals calls hears l (Condition cond) s (Ok (Truth false)) u → Evals calls hears l (If bs) u r w
      → Evals calls hears l (If ((Some cond, body) ∷ bs)) s r w
  -- for
  for_arity : {l : ℕ} {s : State O} {ws : List (List ℕ)} → own ws ≡ Some owns.For → length ws ≢ 5
      → Evals calls hears l (Call ws) s (fails kinds.Arity) s
  start_halts : {l : ℕ} {s u : State O} {cmd start cond next body : List ℕ} {h : Halt} → own (cmd ∷ start ∷ cond ∷ next ∷ body ∷ []) ≡ Some owns.For
      → Evals calls hears l (Nested start) s (Err h) u → Evals calls hears l (Call (cmd ∷ start ∷ cond ∷ next ∷ body ∷ [])) s (Err h) u
  starts : {l : ℕ} {s u w : State O} {cmd start cond next body v : List ℕ} {r : Result Gain Halt}
      → own (cmd ∷ start ∷ cond ∷ next ∷ body ∷ []) ≡ Some owns.For → Evals calls hears l (Nested start) s (Ok (Value v)) u
      → Evals calls hears l (For cond next body) u r w → Evals calls hears l (Call (cmd ∷ start ∷ cond ∷ next ∷ body ∷ [])) s r w
  condition_halts : {l : ℕ} {s u : State O} {cond next body : List ℕ} {h : Halt} → Evals calls hears l (Condition cond) s (Err h) u
      → Evals calls hears l (For cond next body) s (Err h) u
  for_ends : {l : ℕ} {s u : State O} {cond next body : List ℕ} → Evals calls hears l (Condition cond) s (Ok (Truth false)) u
      → Evals calls hears l (For cond next body) s (Ok (Value [])) u
  body_halts : {l : ℕ} {s u w : State O} {cond next body : List ℕ} {h : Halt} → Evals calls hears l (Condition cond) s (Ok (Truth true)) u
      → Evals calls hears l (Nested body) u (Err h) w → Evals calls hears l (For cond next body) s (Err h) w
  next_halts : {l : ℕ} {s u w x : State O} {cond next body v : List ℕ} {h : Halt} → Evals calls hears l (Condition cond) s (Ok (Truth true)) u
      → Evals calls hears l (Nested body) u (Ok (Value v)) w → Evals calls hears l (Nested next) w (Err h) x
      → Evals calls hears l (For cond next body) s (Err h) x
  turns : {l : ℕ} {s u w x y : State O} {cond next body v q : List ℕ} {r : Result Gain Halt}
      → Evals calls hears l (Condition cond) s (Ok (Truth true)) u → Evals calls hears l (Nested body) u (Ok (Value v)) w
      → Evals calls hears l (Nested next) w (Ok (Value q)) x → Evals calls hears l (For cond next body) x r y
      → Evals calls hears l (For cond next body) s r y
  -- foreach
  each_arity : {l : ℕ} {s : State O} {ws : List (List ℕ)} → own ws ≡ Some owns.Foreach → length ws ≢ 4
      → Evals calls hears l (Call ws) s (fails kinds.Arity) s
  goes_over : {l : ℕ} {s u : State O} {cmd n list body : List ℕ} {r : Result Gain Halt} → own (cmd ∷ n ∷ list ∷ body ∷ []) ≡ Some owns.Foreach
      → Evals calls hears l (Each n list 0 body) s r u → Evals calls hears l (Call (cmd ∷ n ∷ list ∷ body ∷ [])) s r u
  each_ends : {l : ℕ} {s : State O} {n list body : List ℕ} {at : ℕ} → element_from list at ≡ None
      → Evals calls hears l (Each n list at body) s (Ok (Value [])) s
  each_halts : {l : ℕ} {s u : State O} {n list body : List ℕ} {at from end : ℕ} {h : Halt} → element_from list at ≡ Some (from, end)
      → Evals calls hears l (Nested body) (with_value s n (slice_range list from end)) (Err h) u
      → Evals calls hears l (Each n list at body) s (Err h) u
  each : {l : ℕ} {s u w : State O} {n list body v : List ℕ} {at from end : ℕ} {r : Result Gain Halt} → element_from list at ≡ Some (from, end)
      → Evals calls hears l (Nested body) (with_value s n (slice_range list from end)) (Ok (Value v)) u
      → Evals calls hears l (Each n list end body) u r w → Evals calls hears l (Each n list at body) s r w
  -- a condition counts one
  condition_many : {l : ℕ} {t : List ℕ} {s : State O} → s.left ≡ 0 → Evals calls hears l (Condition t) s (fails kinds.Many) s
  expression_halts : {l : ℕ} {t : List ℕ} {s u : State O} {h : Halt} → 0 < s.left → Evals calls hears l (Expression t) (spent s) (Err h) u
      → Evals calls hears l (Condition t) s (Err h) u
  holds : {l : ℕ} {t : List ℕ} {s u : State O} {z : ℤ} → 0 < s.left → Evals calls hears l (Expression t) (spent s) (Ok (Integer z)) u → z ≢ pos 0
      → Evals calls hears l (Condition t) s (Ok (Truth true)) u
  holds_not : {l : ℕ} {t : List ℕ} {s u : State O} {z : ℤ} → 0 < s.left → Evals calls hears l (Expression t) (spent s) (Ok (Integer z)) u → z ≡ pos 0
      → Evals calls hears l (Condition t) s (Ok (Truth false)) u
  -- an expression that is malformed is refused before anything in it is evaluated
  malformed : {l : ℕ} {t : List ℕ} {s u : State O} {h : Halt} → Evals calls hears l (Pass t false) s (Err h) u
      → Evals calls hears l (Expression t) s (Err h) u
  expression : {l : ℕ} {t : List ℕ} {s u w : State O} {g : Gain} {r : Result Gain Halt} → Evals calls hears l (Pass t false) s (Ok g) u
      → Evals calls hears l (Pass t true) u r w → Evals calls hears l (Expression t) s r w
  tier_halts : {l : ℕ} {t : List ℕ} {live : Bool} {s u : State O} {h : Halt} → Evals calls hears l (Tier t 0 0 live) s (Err h) u
      → Evals calls hears l (Pass t live) s (Err h) u
  text_left : {l : ℕ} {t : List ℕ} {live : Bool} {s u : State O} {z : ℤ} {at : ℕ} → Evals calls hears l (Tier t 0 0 live) s (Ok (IntegerAt z at)) u
      → place t at < length t → Evals calls hears l (Pass t live) s (fails kinds.Syntax) u
  passed : {l : ℕ} {t : List ℕ} {live : Bool} {s u : State O} {z : ℤ} {at : ℕ} → Evals calls hears l (Tier t 0 0 live) s (Ok (IntegerAt z at)) u
      → length t ≤ place t at → Evals calls hears l (Pass t live) s (Ok (Integer z)) u
  -- tiers from loose to tight; operators of one tier group from the left
  tightest : {l : ℕ} {t : List ℕ} {at tier : ℕ} {live : Bool} {s u : State O} {r : Result Gain Halt} → tier ≡ 6
      → Evals calls hears l (Operand t (place t at) live) s r u → Evals calls hears l (Tier t at tier live) s r u
  left_halts : {l : ℕ} {t : List ℕ} {at tier : ℕ} {live : Bool} {s u : State O} {h : Halt} → tier < 6
      → Evals calls hears l (Tier t at (tier + 1) live) s (Err h) u → Evals calls hears l (Tier t at tier live) s (Err h) u
  left : {l : ℕ} {t : List ℕ} {at end tier : ℕ} {live : Bool} {s u w : State O} {z : ℤ} {r : Result Gain Halt} → tier < 6
      → Evals calls hears l (Tier t at (tier + 1) live) s (Ok (IntegerAt z end)) u → Evals calls hears l (Chain t end tier live z) u r w
      → Evals calls hears l (Tier t at tier live) s r w
  chain_ends : {l : ℕ} {t : List ℕ} {at tier : ℕ} {live : Bool} {s : State O} {z : ℤ} → operator_from t at tier ≡ None
      → Evals calls hears l (Chain t at tier live z) s (Ok (IntegerAt z at)) s
  right_halts : {l : ℕ} {t : List ℕ} {at from tier : ℕ} {live needed : Bool} {s u : State O} {z : ℤ} {op : Operator} {h : Halt}
      → operator_from t at tier ≡ Some (op, from) → IsNeeded live op z needed → Evals calls hears l (Tier t from (tier + 1) needed) s (Err h) u
      → Evals calls hears l (Chain t at tier live z) s (Err h) u
  not_live : {l : ℕ} {t : List ℕ} {at from end tier : ℕ} {s u w : State O} {z z1 : ℤ} {op : Operator} {r : Result Gain Halt}
      → operator_from t at tier ≡ Some (op, from) → Evals calls hears l (Tier t from (tier + 1) false) s (Ok (IntegerAt z1 end)) u
      → Evals calls hears l (Chain t end tier false z) u r w → Evals calls hears l (Chain t at tier false z) s r w
  applies : {l : ℕ} {t : List ℕ} {at from end tier : ℕ} {needed : Bool} {s u w : State O} {z z1 z2 : ℤ} {op : Operator} {r : Result Gain Halt}
      → operator_from t at tier ≡ Some (op, from) → IsNeeded true op z needed
      → Evals calls hears l (Tier t from (tier + 1) needed) s (Ok (IntegerAt z1 end)) u → Applies op z z1 (Ok z2)
      → Evals calls hears l (Chain t end tier true z2) u r w → Evals calls hears l (Chain t at tier true z) s r w
  apply_fails : {l : ℕ} {t : List ℕ} {at from end tier : ℕ} {needed : Bool} {s u : State O} {z z1 : ℤ} {op : Operator} {kind : Kind}
      → operator_from t at tier ≡ Some (op, from) → IsNeeded true op z needed
      → Evals calls hears l (Tier t from (tier + 1) needed) s (Ok (IntegerAt z1 end)) u → Applies op z z1 (Err kind)
      → Evals calls hears l (Chain t at tier true z) s (fails kind) u
  -- operands; signs, `!` and parentheses are levels
  no_operand : {l : ℕ} {t : List ℕ} {at : ℕ} {live : Bool} {s : State O} → opening_of (drop at t) ≡ Nothing
      → Evals calls hears l (Operand t at live) s (fails kinds.Syntax) s
  prefix_deep : {l : ℕ} {t : List ℕ} {at : ℕ} {live : Bool} {s : State O} → IsPrefix (opening_of (drop at t)) → l ≡ 0
      → Evals calls hears l (Operand t at live) s (fails kinds.Deep) s
  not_halts : {l k : ℕ} {t : List ℕ} {at : ℕ} {live : Bool} {s u : State O} {h : Halt} → opening_of (drop at t) ≡ Not → k + 1 ≡ l
      → Evals calls hears k (Operand t (place t (at + 1)) live) s (Err h) u → Evals calls hears l (Operand t at live) s (Err h) u
  turns_round : {l k : ℕ} {t : List ℕ} {at end : ℕ} {live : Bool} {s u : State O} {z : ℤ} (z1 : ℤ) → opening_of (drop at t) ≡ Not → k + 1 ≡ l
      → Evals calls hears k (Operand t (place t (at + 1)) live) s (Ok (IntegerAt z end)) u → IsNot z z1
      → Evals calls hears l (Operand t at live) s (Ok (IntegerAt (alive live z1) end)) u
  minus_halts : {l k : ℕ} {t : List ℕ} {at : ℕ} {live : Bool} {s u : State O} {h : Halt} → opening_of (drop at t) ≡ Minus → k + 1 ≡ l
      → Evals calls hears k (Operand t (place t (at + 1)) live) s (Err h) u → Evals calls hears l (Operand t at live) s (Err h) u
  negates : {l k : ℕ} {t : List ℕ} {at end : ℕ} {live : Bool} {s u : State O} {z : ℤ} (number : Result ℤ Kind) → opening_of (drop at t) ≡ Minus
      → k + 1 ≡ l → Evals calls hears k (Operand t (place t (at + 1)) live) s (Ok (IntegerAt z end)) u → IsValue (neg_ℤ z) number
      → Evals calls hears l (Operand t at live) s (integer_at number end) u
  inner_halts : {l k : ℕ} {t : List ℕ} {at : ℕ} {live : Bool} {s u : State O} {h : Halt} → opening_of (drop at t) ≡ Parenthesis → k + 1 ≡ l
      → Evals calls hears k (Tier t (at + 1) 0 live) s (Err h) u → Evals calls hears l (Operand t at live) s (Err h) u
  parenthesis : {l k : ℕ} {t : List ℕ} {at end : ℕ} {live : Bool} {s u : State O} {z : ℤ} → opening_of (drop at t) ≡ Parenthesis → k + 1 ≡ l
      → Evals calls hears k (Tier t (at + 1) 0 live) s (Ok (IntegerAt z end)) u → begins_with 41 (drop (place t end) t) ≡ true
      → Evals calls hears l (Operand t at live) s (Ok (IntegerAt z (place t end + 1))) u
  not_closed : {l k : ℕ} {t : List ℕ} {at end : ℕ} {live : Bool} {s u : State O} {z : ℤ} → opening_of (drop at t) ≡ Parenthesis → k + 1 ≡ l
      → Evals calls hears k (Tier t (at + 1) 0 live) s (Ok (IntegerAt z end)) u → begins_with 41 (drop (place t end) t) ≡ false
      → Evals calls hears l (Operand t at live) s (fails kinds.Syntax) u
  -- a written number; one with a leading zero is malformed, and one too large is no fault where it isn't evaluated
  digits : {l : ℕ} {t : List ℕ} {at : ℕ} {live : Bool} {s : State O} (number : Result ℤ Kind) → opening_of (drop at t) ≡ Digits
      → Writes live (take (digits_of (drop at t)) (drop at t)) number
      → Evals calls hears l (Operand t at live) s (integer_at number (at + digits_of (drop at t))) s
  -- a variable
  dollar_halts : {l : ℕ} {t : List ℕ} {at : ℕ} {s u : State O} {h : Halt} → opening_of (drop at t) ≡ Dollar
      → Evals calls hears l (Named t at false) s (Err h) u → Evals calls hears l (Operand t at true) s (Err h) u
  dollar : {l : ℕ} {t : List ℕ} {at end : ℕ} {s u : State O} {v : List ℕ} → opening_of (drop at t) ≡ Dollar
      → Evals calls hears l (Named t at false) s (Ok (ValueAt v end)) u → Evals calls hears l (Operand t at true) s (integer_at (number_of v) end) u
  dollar_passed : {l : ℕ} {t : List ℕ} {at : ℕ} {s : State O} {f : Reference} → opening_of (drop at t) ≡ Dollar → ReferenceOf t at (Ok (Some f))
      → Evals calls hears l (Operand t at false) s (Ok (IntegerAt (pos 0) f.end)) s
  dollar_alone : {l : ℕ} {t : List ℕ} {at : ℕ} {s : State O} → opening_of (drop at t) ≡ Dollar → ReferenceOf t at (Ok None)
      → Evals calls hears l (Operand t at false) s (fails kinds.Syntax) s
  dollar_refused : {l : ℕ} {t : List ℕ} {at : ℕ} {s : State O} {e : Flaw} → opening_of (drop at t) ≡ Dollar → ReferenceOf t at (Err e)
      → Evals calls hears l (Operand t at false) s (fails e.kind) s
  -- a bracket
  bracket_refused : {l : ℕ} {t : List ℕ} {at : ℕ} {live : Bool} {s : State O} {e : Flaw} → opening_of (drop at t) ≡ Bracket
      → Passes t (frames.Bracket at Start) (at + 1) (Err e) → Evals calls hears l (Operand t at live) s (fails e.kind) s
  bracket_passed : {l : ℕ} {t : List ℕ} {at end : ℕ} {s : State O} → opening_of (drop at t) ≡ Bracket
      → Passes t (frames.Bracket at Start) (at + 1) (Ok end) → Evals calls hears l (Operand t at false) s (Ok (IntegerAt (pos 0) end)) s
  bracket_halts : {l : ℕ} {t : List ℕ} {at end : ℕ} {s u : State O} {h : Halt} → opening_of (drop at t) ≡ Bracket
      → Passes t (frames.Bracket at Start) (at + 1) (Ok end) → Evals calls hears l (Nested (slice_range t (at + 1) (end - 1))) s (Err h) u
      → Evals calls hears l (Operand t at true) s (Err h) u
  bracket : {l : ℕ} {t : List ℕ} {at end : ℕ} {s u : State O} {v : List ℕ} → opening_of (drop at t) ≡ Bracket
      → Passes t (frames.Bracket at Start) (at + 1) (Ok end) → Evals calls hears l (Nested (slice_range t (at + 1) (end - 1))) s (Ok (Value v)) u
      → Evals calls hears l (Operand t at true) s (integer_at (number_of v) end) u
