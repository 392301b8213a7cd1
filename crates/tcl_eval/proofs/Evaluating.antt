-- The next step of each job of an evaluation.
use Rattle.std.proofs.Common.{◌≡◌, ◌≢◌, ℕ, ◌+◌, ◌-◌, ◌<◌, Bool, true, false, arith, List, [], ◌∷◌, ◌++◌, Option, Some, None, Result, Ok, Err, length, drop, take, refl, ap, ℤ, pos, neg_ℤ}
use Rattle.std.specs.Prelude.{slice_range, if◌then◌else◌}
use Rattle.std.specs.Fmt.{signed_decimal}
use Rattle.lab_base.specs.declared.fault.Kind.{Kind}
use Rattle.lab_base.specs.declared.fault.Kind.TheVariants as kinds
use Rattle.tcl_words.specs.declared.flaw.Flaw.{Flaw}
use Rattle.tcl_words.specs.declared.frame.BracketState.TheVariants.{Start}
use Rattle.tcl_words.specs.declared.frame.Frame.TheVariants as frames
use Rattle.tcl_words.specs.declared.word.Part.{Part}
use Rattle.tcl_words.specs.declared.word.Part.TheVariants.{Plain, Escape, Variable, Script}
use Rattle.tcl_words.specs.declared.word.Command.{Command}
use Rattle.tcl_words.specs.declared.word.Reference.{Reference}
use Rattle.tcl_words.specs.Tokens.{begins_with}
use Rattle.tcl_words.specs.Passes.{Passes}
use Rattle.tcl_words.specs.Words.{CommandsOf, ReferenceOf}
use Rattle.tcl_eval.specs.declared.hosts.Called.{Called}
use Rattle.tcl_eval.specs.declared.hosts.Called.TheVariants as called
use Rattle.tcl_eval.specs.declared.halts.Halt.{Halt}
use Rattle.tcl_eval.specs.declared.halts.Halt.TheVariants.{Stop}
use Rattle.tcl_eval.specs.declared.operators.Operator.{Operator}
use Rattle.tcl_eval.specs.declared.openings.Opening.{Opening}
use Rattle.tcl_eval.specs.declared.openings.Opening.TheVariants.{Not, Minus, Parenthesis, Digits, Dollar, Bracket, Nothing}
use Rattle.tcl_eval.specs.declared.commands.Own.{Own}
use Rattle.tcl_eval.specs.declared.commands.Own.TheVariants as owns
use Rattle.tcl_eval.specs.Numbers.{number_of, IsValue, Applies, IsNeeded, IsNot, alive, Writes}
use Rattle.tcl_eval.specs.Forms.{joined_by, Branching, branches_of, element_from, listed, own}
use Rattle.tcl_eval.specs.Operators.{operator_from, place, opening_of, digits_of}
use Rattle.tcl_eval.specs.State.{State, read_of, old_or_empty, with_value, with_objects, spent}
use Rattle.tcl_eval.specs.Settings.{IsSum, number_in, step_of, indexed_name}
use Rattle.tcl_eval.specs.Jobs.{Job, Nested, Whole, Commands, One, Words, Parts, Named, Call, If, For, Each, Condition, Expression, Pass, Tier, Chain, Operand, Gain, Value, Texts, Integer, Truth, ValueAt, IntegerAt, fails, value_or, value_at, integer_at}
use Rattle.tcl_words.proofs.Plans.{Plan, Ends, Asks, Knows, chosen, test, test_some, test_most, what_is}
use Rattle.tcl_words.proofs.Passing.{passes_once}
use Rattle.tcl_words.proofs.OneSplitting.{commands_once, reference_once}
use Rattle.tcl_eval.proofs.OneNumber.{value_once, sum_once, not_once, needed_once, writes_once, applies_once}

-- so many levels are left after n more, or there aren't n
abbrev pub IsBelow : ℕ → ℕ → Option ℕ → Type 0
IsBelow n l None = l < n
IsBelow n l (Some k) = k + n ≡ l

pub below_once : (n l : ℕ) (a b : Option ℕ) → IsBelow n l a → IsBelow n l b → a ≡ b
below_once n l None None h g = refl
below_once n l None (Some k) h g = absurd (omega (arith, h, g))
below_once n l (Some k) None h g = absurd (omega (arith, h, g))
below_once n l (Some k) (Some m) h g = ap Some (omega (arith, h, g))

module _ {O : Type 0} (calls : O → List (List ℕ) → Result Called Kind × O) (hears : O → List ℕ → List ℕ → Result (Unit {0}) Kind × O) where
  -- what comes next
  abbrev pub Course : Type 1
  Course = Plan (ℕ × Job × State O) (Result Gain Halt × State O)

  -- by what a job gained; a fault ends it
  abbrev pub then_gain : (State O → Course) → Result Gain Halt × State O → Course
  then_gain on (Ok g, u) = on u
  then_gain on (Err h, u) = Ends (Err h, u)

  abbrev pub then_value : (List ℕ → State O → Course) → Result Gain Halt × State O → Course
  then_value on (Ok (Value v), u) = on v u
  then_value on x = Ends x

  abbrev pub then_texts : (List (List ℕ) → State O → Course) → Result Gain Halt × State O → Course
  then_texts on (Ok (Texts ws), u) = on ws u
  then_texts on x = Ends x

  abbrev pub then_integer : (ℤ → State O → Course) → Result Gain Halt × State O → Course
  then_integer on (Ok (Integer z), u) = on z u
  then_integer on x = Ends x

  abbrev pub then_truth : (Bool → State O → Course) → Result Gain Halt × State O → Course
  then_truth on (Ok (Truth b), u) = on b u
  then_truth on x = Ends x

  abbrev pub then_value_at : (List ℕ → ℕ → State O → Course) → Result Gain Halt × State O → Course
  then_value_at on (Ok (ValueAt v end), u) = on v end u
  then_value_at on x = Ends x

  abbrev pub then_integer_at : (ℤ → ℕ → State O → Course) → Result Gain Halt × State O → Course
  then_integer_at on (Ok (IntegerAt z end), u) = on z end u
  then_integer_at on x = Ends x

  -- a value that may be too long
  abbrev pub if_short : List ℕ → State O → Course → Course
  if_short v u on = test_most (length v) 65536 on (Ends (fails kinds.Long, u))

  -- n levels deeper, if there are so many
  abbrev pub deep_plan : (ℕ → Course) → State O → Option ℕ → Course
  deep_plan on s None = Ends (fails kinds.Deep, s)
  deep_plan on s (Some k) = on k

  abbrev pub deeper : ℕ → ℕ → State O → (ℕ → Course) → Course
  deeper n l s on = Knows (Option ℕ) (IsBelow n l) (below_once n l) (deep_plan on s)

  -- TEXTS
  abbrev pub whole_plan : ℕ → List ℕ → State O → Result (List Command) Flaw → Course
  whole_plan l t s (Ok cs) = Asks (l, Commands t cs [], s) Ends
  whole_plan l t s (Err e) = Ends (fails e.kind, s)

  abbrev pub index_plan : ℕ → List ℕ → Bool → State O → Reference → Option (List Part) → Course
  index_plan l t i s f None = Ends (value_at (read_of s (slice_range t f.name_start f.name_end)) f.end, s)
  index_plan l t i s f (Some ps) =
      deeper (if i then 1 else 0) l s (λ k. Asks (k, Parts t true ps [], s) (then_value (λ q u. if_short (indexed_name (slice_range t f.name_start f.name_end) q) u
      (Ends (value_at (read_of u (indexed_name (slice_range t f.name_start f.name_end) q)) f.end, u)))))

  abbrev pub named_plan : ℕ → List ℕ → Bool → State O → Result (Option Reference) Flaw → Course
  named_plan l t i s (Ok None) = Ends (fails kinds.Syntax, s)
  named_plan l t i s (Ok (Some f)) = what_is f.index (index_plan l t i s f)
  named_plan l t i s (Err e) = Ends (fails e.kind, s)

  -- COMMANDS
  abbrev pub host_answer : Result Called Kind → Result Gain Halt
  host_answer (Ok (called.Value v)) = Ok (Value v)
  host_answer (Ok called.Stop) = Err Stop
  host_answer (Ok called.NotMine) = fails kinds.Command
  host_answer (Err k) = fails k

  abbrev pub heard : List ℕ → Result (Unit {0}) Kind → Result Gain Halt
  heard v (Ok x) = Ok (Value v)
  heard v (Err k) = fails k

  abbrev pub no_arity : State O → Course
  no_arity s = Ends (fails kinds.Arity, s)

  abbrev pub set_plan : State O → List (List ℕ) → Course
  set_plan s (c ∷ n ∷ []) = Ends (value_or (read_of s n), s)
  set_plan s (c ∷ n ∷ v ∷ []) = what_is (hears s.objects n v) (λ x. Ends (heard v x.0, with_objects (with_value s n v) x.1))
  set_plan s ws = no_arity s

  abbrev pub sum_plan : State O → List ℕ → Result ℤ Kind → Course
  sum_plan s n (Ok z) = Ends (Ok (Value (signed_decimal z)), with_value s n (signed_decimal z))
  sum_plan s n (Err k) = Ends (fails k, s)

  abbrev pub incr_plan : State O → List (List ℕ) → Course
  incr_plan s [] = no_arity s
  incr_plan s (c ∷ []) = no_arity s
  incr_plan s (c ∷ n ∷ more) =
      test_most (length more) 1 (Knows (Result ℤ Kind) (IsSum (number_in (read_of s n)) (step_of more)) (sum_once (number_in (read_of s n)) (step_of more)) (sum_plan s n)) (no_arity s)

  abbrev pub append_plan : State O → List (List ℕ) → Course
  append_plan s [] = no_arity s
  append_plan s (c ∷ []) = no_arity s
  append_plan s (c ∷ n ∷ more) =
      test_some (length more) (if_short (old_or_empty s n ++ joined_by [] more) s
      (Ends (Ok (Value (old_or_empty s n ++ joined_by [] more)), with_value s n (old_or_empty s n ++ joined_by [] more)))) (no_arity s)

  abbrev pub listed_plan : State O → List ℕ → Result (List ℕ) Kind → Course
  listed_plan s n (Ok v) = Ends (Ok (Value v), with_value s n v)
  listed_plan s n (Err k) = Ends (fails k, s)

  abbrev pub lappend_plan : State O → List (List ℕ) → Course
  lappend_plan s [] = no_arity s
  lappend_plan s (c ∷ []) = no_arity s
  lappend_plan s (c ∷ n ∷ more) = test_some (length more) (what_is (listed (old_or_empty s n) more) (listed_plan s n)) (no_arity s)

  abbrev pub expr_plan : ℕ → State O → List (List ℕ) → Course
  expr_plan l s [] = no_arity s
  expr_plan l s (c ∷ more) =
      test_some (length more) (if_short (joined_by (32 ∷ []) more) s
      (Asks (l, Expression (joined_by (32 ∷ []) more), s) (then_integer (λ z u. Ends (Ok (Value (signed_decimal z)), u))))) (no_arity s)

  abbrev pub if_plan : ℕ → State O → Option (List Branching) → Course
  if_plan l s None = no_arity s
  if_plan l s (Some bs) = Asks (l, If bs, s) Ends

  abbrev pub for_plan : ℕ → State O → List (List ℕ) → Course
  for_plan l s (c ∷ start ∷ cond ∷ next ∷ body ∷ []) = Asks (l, Nested start, s) (then_value (λ v u. Asks (l, For cond next body, u) Ends))
  for_plan l s ws = no_arity s

  abbrev pub foreach_plan : ℕ → State O → List (List ℕ) → Course
  foreach_plan l s (c ∷ n ∷ list ∷ body ∷ []) = Asks (l, Each n list 0 body, s) Ends
  foreach_plan l s ws = no_arity s

  abbrev pub call_plan : ℕ → State O → List (List ℕ) → Option Own → Course
  call_plan l s ws None = what_is (calls s.objects ws) (λ x. Ends (host_answer x.0, with_objects s x.1))
  call_plan l s ws (Some owns.Set) = set_plan s ws
  call_plan l s ws (Some owns.Incr) = incr_plan s ws
  call_plan l s ws (Some owns.Append) = append_plan s ws
  call_plan l s ws (Some owns.Lappend) = lappend_plan s ws
  call_plan l s ws (Some owns.Expr) = expr_plan l s ws
  call_plan l s ws (Some owns.If) = what_is (branches_of ws) (if_plan l s)
  call_plan l s ws (Some owns.For) = for_plan l s ws
  call_plan l s ws (Some owns.Foreach) = foreach_plan l s ws

  abbrev pub each_plan : ℕ → State O → List ℕ → List ℕ → List ℕ → Option (ℕ × ℕ) → Course
  each_plan l s n list body None = Ends (Ok (Value []), s)
  each_plan l s n list body (Some x) = Asks (l, Nested body, with_value s n (slice_range list x.0 x.1)) (then_value (λ v u. Asks (l, Each n list x.1 body, u) Ends))

  -- EXPRESSIONS
  abbrev pub applied_plan : ℕ → List ℕ → ℕ → ℕ → State O → Result ℤ Kind → Course
  applied_plan l t end tier u (Ok z) = Asks (l, Chain t end tier true z, u) Ends
  applied_plan l t end tier u (Err k) = Ends (fails k, u)

  abbrev pub right_plan : ℕ → List ℕ → ℕ → Bool → ℤ → Operator → ℤ → ℕ → State O → Course
  right_plan l t tier false z op z1 end u = Asks (l, Chain t end tier false z, u) Ends
  right_plan l t tier true z op z1 end u = Knows (Result ℤ Kind) (Applies op z z1) (applies_once op z z1) (applied_plan l t end tier u)

  abbrev pub chain_plan : ℕ → List ℕ → ℕ → ℕ → Bool → ℤ → State O → Option (Operator × ℕ) → Course
  chain_plan l t at tier live z s None = Ends (Ok (IntegerAt z at), s)
  chain_plan l t at tier live z s (Some x) =
      Knows Bool (IsNeeded live x.0 z) (needed_once live x.0 z) (λ needed. Asks (l, Tier t x.1 (tier + 1) needed, s) (then_integer_at (right_plan l t tier live z x.0)))

  abbrev pub passed_plan : State O → Result (Option Reference) Flaw → Course
  passed_plan s (Ok None) = Ends (fails kinds.Syntax, s)
  passed_plan s (Ok (Some f)) = Ends (Ok (IntegerAt (pos 0) f.end), s)
  passed_plan s (Err e) = Ends (fails e.kind, s)

  abbrev pub dollar_plan : ℕ → List ℕ → ℕ → Bool → State O → Course
  dollar_plan l t at true s = Asks (l, Named t at false, s) (then_value_at (λ v end u. Ends (integer_at (number_of v) end, u)))
  dollar_plan l t at false s = Knows (Result (Option Reference) Flaw) (ReferenceOf t at) (reference_once t at) (passed_plan s)

  abbrev pub bracket_plan : ℕ → List ℕ → ℕ → Bool → State O → Result ℕ Flaw → Course
  bracket_plan l t at live s (Err e) = Ends (fails e.kind, s)
  bracket_plan l t at false s (Ok end) = Ends (Ok (IntegerAt (pos 0) end), s)
  bracket_plan l t at true s (Ok end) = Asks (l, Nested (slice_range t (at + 1) (end - 1)), s) (then_value (λ v u. Ends (integer_at (number_of v) end, u)))

  abbrev pub operand_plan : ℕ → List ℕ → ℕ → Bool → State O → Opening → Course
  operand_plan l t at live s Not =
      deeper 1 l s (λ k. Asks (k, Operand t (place t (at + 1)) live, s) (then_integer_at (λ z end u. Knows ℤ (IsNot z) (not_once z) (λ z1. Ends (Ok (IntegerAt (alive live z1) end), u)))))
  operand_plan l t at live s Minus =
      deeper 1 l s (λ k. Asks (k, Operand t (place t (at + 1)) live, s) (then_integer_at (λ z end u. Knows (Result ℤ Kind) (IsValue (neg_ℤ z)) (value_once (neg_ℤ z)) (λ number. Ends (integer_at number end, u)))))
  operand_plan l t at live s Parenthesis =
      deeper 1 l s (λ k. Asks (k, Tier t (at + 1) 0 live, s) (then_integer_at (λ z end u. what_is (begins_with 41 (drop (place t end) t))
      (chosen (Ends (Ok (IntegerAt z (place t end + 1)), u)) (Ends (fails kinds.Syntax, u))))))
  operand_plan l t at live s Digits =
      Knows (Result ℤ Kind) (Writes live (take (digits_of (drop at t)) (drop at t))) (writes_once live (take (digits_of (drop at t)) (drop at t)))
      (λ number. Ends (integer_at number (at + digits_of (drop at t)), s))
  operand_plan l t at live s Dollar = dollar_plan l t at live s
  operand_plan l t at live s Bracket =
      Knows (Result ℕ Flaw) (Passes t (frames.Bracket at Start) (at + 1)) (passes_once t (frames.Bracket at Start) (at + 1)) (bracket_plan l t at live s)
  operand_plan l t at live s Nothing = Ends (fails kinds.Syntax, s)

  -- EACH JOB
  abbrev pub job_plan : ℕ → Job → State O → Course
  job_plan l (Nested t) s = deeper 1 l s (λ k. Asks (k, Whole t, s) Ends)
  job_plan l (Whole t) s = Knows (Result (List Command) Flaw) (CommandsOf t 0) (commands_once t 0) (whole_plan l t s)
  job_plan l (Commands t [] v) s = Ends (Ok (Value v), s)
  job_plan l (Commands t (c ∷ cs) v) s = Asks (l, One t c, s) (then_value (λ q u. Asks (l, Commands t cs q, u) Ends))
  job_plan l (One t c) s =
      test_some s.left (Asks (l, Words t c.words [], spent s) (then_texts (λ ws u. Asks (l, Call ws, u) (then_value (λ v w. if_short v w (Ends (Ok (Value v), w)))))))
      (Ends (fails kinds.Many, s))
  job_plan l (Words t [] vs) s = Ends (Ok (Texts vs), s)
  job_plan l (Words t (w ∷ ws) vs) s = Asks (l, Parts t false w.parts [], s) (then_value (λ v u. Asks (l, Words t ws (vs ++ v ∷ []), u) Ends))
  job_plan l (Parts t i [] v) s = if_short v s (Ends (Ok (Value v), s))
  job_plan l (Parts t i (Plain a b ∷ ps) v) s = Asks (l, Parts t i ps (v ++ slice_range t a b), s) Ends
  job_plan l (Parts t i (Escape b ∷ ps) v) s = Asks (l, Parts t i ps (v ++ b ∷ []), s) Ends
  job_plan l (Parts t i (Variable a b ∷ ps) v) s = Asks (l, Named t a i, s) (then_value_at (λ q end u. Asks (l, Parts t i ps (v ++ q), u) Ends))
  job_plan l (Parts t i (Script a b ∷ ps) v) s = Asks (l, Nested (slice_range t a b), s) (then_value (λ q u. Asks (l, Parts t i ps (v ++ q), u) Ends))
  job_plan l (Named t at i) s = Knows (Result (Option Reference) Flaw) (ReferenceOf t at) (reference_once t at) (named_plan l t i s)
  job_plan l (Call ws) s = what_is (own ws) (call_plan l s ws)
  job_plan l (If []) s = Ends (Ok (Value []), s)
  job_plan l (If ((None, body) ∷ bs)) s = Asks (l, Nested body, s) Ends
  job_plan l (If ((Some cond, body) ∷ bs)) s =
      Asks (l, Condition cond, s) (then_truth (λ holds u. chosen (Asks (l, Nested body, u) Ends) (Asks (l, If bs, u) Ends) holds))
  job_plan l (For cond next body) s =
      Asks (l, Condition cond, s) (then_truth (λ holds u. chosen (Asks (l, Nested body, u) (then_value (λ v w. Asks (l, Nested next, w) (then_value (λ q x. Asks (l, For cond next body, x) Ends)))))
      (Ends (Ok (Value []), u)) holds))
  job_plan l (Each n list at body) s = what_is (element_from list at) (each_plan l s n list body)
  job_plan l (Condition t) s =
      test_some s.left (Asks (l, Expression t, spent s) (then_integer (λ z u. test (z ≢ pos 0) (z ≡ pos 0) (λ not is. not is) (Ends (Ok (Truth true), u)) (Ends (Ok (Truth false), u)))))
      (Ends (fails kinds.Many, s))
  job_plan l (Expression t) s = Asks (l, Pass t false, s) (then_gain (λ u. Asks (l, Pass t true, u) Ends))
  job_plan l (Pass t live) s = Asks (l, Tier t 0 0 live, s) (then_integer_at (λ z at u. test_most (length t) (place t at) (Ends (Ok (Integer z), u)) (Ends (fails kinds.Syntax, u))))
  job_plan l (Tier t at tier live) s =
      test (tier ≡ 6) (tier < 6) (λ is less. absurd (omega (arith, is, less))) (Asks (l, Operand t (place t at) live, s) Ends)
      (Asks (l, Tier t at (tier + 1) live, s) (then_integer_at (λ z end u. Asks (l, Chain t end tier live z, u) Ends)))
  job_plan l (Chain t at tier live z) s = what_is (operator_from t at tier) (chain_plan l t at tier live z s)
  job_plan l (Operand t at live) s = what_is (opening_of (drop at t)) (operand_plan l t at live s)

  abbrev pub evaluating : ℕ × Job × State O → Course
  evaluating x = job_plan x.0 x.1 x.2
