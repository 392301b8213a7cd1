-- How conditions and expressions end, over opaque words.
use Rattle.std.proofs.Common.{◌≡◌, ◌≢◌, ℕ, ◌+◌, ◌-◌, ◌<◌, ◌≤◌, List, length, take, drop, Some, None, Result, Ok, Err, sym, subst}
use Rattle.std.specs.Prelude.{slice_range, Bool, true, false, MatchBool, ℤ, pos, neg_ℤ}
use Rattle.lab_base.specs.declared.fault.Kind.{Kind}
use Rattle.lab_base.specs.declared.fault.Kind.TheVariants as kinds
use Rattle.tcl_words.specs.declared.flaw.Flaw.{Flaw}
use Rattle.tcl_words.specs.declared.flaw.Broken.{Broken}
use Rattle.tcl_words.specs.Gives.{Finds}
use Rattle.tcl_words.specs.Words.{ReferenceOf}
use Rattle.tcl_eval.specs.declared.hosts.Called.{Called}
use Rattle.tcl_eval.specs.declared.halts.Halt.{Halt}
use Rattle.tcl_eval.specs.declared.halts.Halt.TheVariants.{Fault}
use Rattle.tcl_eval.specs.Jobs.{Job, Nested, Condition, Expression, Pass, Tier, Chain, Operand, Value, Truth, Integer, IntegerAt, ValueAt, Named, fails, integer_at}
use Rattle.tcl_eval.specs.Operators.{place, operator_from, opening_of, IsPrefix, digits_of}
use Rattle.tcl_eval.specs.declared.openings.Opening.TheVariants.{Not, Minus, Parenthesis, Digits, Dollar, Bracket, Nothing}
use Rattle.tcl_words.specs.Tokens.{begins_with}
use Rattle.tcl_words.specs.Passes.{Passes}
use Rattle.tcl_words.specs.declared.frame.BracketState.TheVariants.{Start}
use Rattle.tcl_words.specs.declared.frame.Frame.TheVariants as frames
use Rattle.tcl_words.specs.declared.word.Reference.{Reference}
use Rattle.tcl_eval.specs.Numbers.{IsNeeded, Applies, IsNot, IsValue, alive, Writes, number_of}
use Rattle.tcl_eval.specs.declared.operators.Operator.{Operator}
use Rattle.tcl_eval.specs.State.{State, spent}
use Rattle.tcl_eval.specs.Halts.{broken_halt}
use Rattle.tcl_eval.specs.Evals as rules
use Rattle.tcl_eval.specs.Evals.{Evals}
use Rattle.tcl_eval.specs.Machines.{Ended, Leads}
use Rattle.tcl_eval.proofs.Ended.{got, given, faulted, halted, handed, levels_out, found_out, by, leads, leads_on}

module _ {O : Type 0} (calls : O → List (List ℕ) → Result Called Kind × O) (hears : O → List ℕ → List ℕ → Result (Unit {0}) Kind × O) where
  -- a condition counts one; an expression is passed over before it is evaluated
  pub condition_many : (l : ℕ) (t : List ℕ) (s : State O) → s.left ≡ 0 → Ended calls hears Truth l (Condition t) s s (Err (Fault kinds.Many))
  condition_many l t s none = faulted calls hears Truth l (Condition t) s s kinds.Many (rules.condition_many none)

  pub condition_halts : (l : ℕ) (t : List ℕ) (s u x : State O) (e : Halt) → 0 < s.left → u ≡ spent s
      → Ended calls hears Integer l (Expression t) u x (Err e) → Ended calls hears Truth l (Condition t) s x (Err e)
  condition_halts l t s u x e some same h =
      halted calls hears Integer Truth l l (Expression t) (Condition t) u x s x e (λ (h : Halt) (out : Evals calls hears l (Expression t) u (Err h) x).
      rules.expression_halts some (subst (λ (y : State O). Evals calls hears l (Expression t) y (Err h) x) same out)) h

  pub condition_ends : (l : ℕ) (t : List ℕ) (s u x : State O) (z : ℤ) (b : Bool) → 0 < s.left → u ≡ spent s → MatchBool b (z ≢ pos 0) (z ≡ pos 0)
      → Ended calls hears Integer l (Expression t) u x (Ok z) → Ended calls hears Truth l (Condition t) s x (Ok b)
  condition_ends l t s u x z true some same truth h =
      given calls hears Truth l (Condition t) s x true (rules.holds some (subst (λ (y : State O). Evals calls hears l (Expression t) y (Ok (Integer z)) x) same (got calls hears Integer l (Expression t) u x z h)) truth)
  condition_ends l t s u x z false some same truth h =
      given calls hears Truth l (Condition t) s x false (rules.holds_not some (subst (λ (y : State O). Evals calls hears l (Expression t) y (Ok (Integer z)) x) same (got calls hears Integer l (Expression t) u x z h)) truth)

  pub malformed_ends : (l : ℕ) (t : List ℕ) (s u : State O) (e : Halt) → Ended calls hears Integer l (Pass t false) s u (Err e) → Ended calls hears Integer l (Expression t) s u (Err e)
  malformed_ends l t s u e h = halted calls hears Integer Integer l l (Pass t false) (Expression t) s u s u e (λ h out. rules.malformed out) h

  pub expression_ends : (l : ℕ) (t : List ℕ) (s u x : State O) (z : ℤ) (y : Result ℤ Halt) → Ended calls hears Integer l (Pass t false) s u (Ok z)
      → Ended calls hears Integer l (Pass t true) u x y → Ended calls hears Integer l (Expression t) s x y
  expression_ends l t s u x z y first h = handed calls hears Integer l l (Pass t true) (Expression t) u x s x y (λ r out. rules.expression (got calls hears Integer l (Pass t false) s u z first) out) h

  -- what a tier gives
  abbrev pub Tiered : ℕ → Job → State O → State O → Result (ℤ × ℕ) Halt → Type 0
  Tiered l j s u y = Ended calls hears (λ (x : ℤ × ℕ). IntegerAt x.0 x.1) l j s u y

  pub tier_halts : (l : ℕ) (t : List ℕ) (live : Bool) (s u : State O) (e : Halt) → Tiered l (Tier t 0 0 live) s u (Err e) → Ended calls hears Integer l (Pass t live) s u (Err e)
  tier_halts l t live s u e h = halted calls hears (λ (x : ℤ × ℕ). IntegerAt x.0 x.1) Integer l l (Tier t 0 0 live) (Pass t live) s u s u e (λ h out. rules.tier_halts out) h

  pub text_left : (l : ℕ) (t : List ℕ) (live : Bool) (s u : State O) (x : ℤ × ℕ) → Tiered l (Tier t 0 0 live) s u (Ok x) → place t x.1 < length t
      → Ended calls hears Integer l (Pass t live) s u (Err (Fault kinds.Syntax))
  text_left l t live s u x h more = faulted calls hears Integer l (Pass t live) s u kinds.Syntax (rules.text_left (got calls hears (λ (x : ℤ × ℕ). IntegerAt x.0 x.1) l (Tier t 0 0 live) s u x h) more)

  pub passed : (l : ℕ) (t : List ℕ) (live : Bool) (s u : State O) (x : ℤ × ℕ) → Tiered l (Tier t 0 0 live) s u (Ok x) → length t ≤ place t x.1
      → Ended calls hears Integer l (Pass t live) s u (Ok x.0)
  passed l t live s u x h none = given calls hears Integer l (Pass t live) s u x.0 (rules.passed (got calls hears (λ (x : ℤ × ℕ). IntegerAt x.0 x.1) l (Tier t 0 0 live) s u x h) none)

  -- tiers: the left side, then operators of this tier one after another
  pub tightest_ends : (l : ℕ) (t : List ℕ) (at tier : ℕ) (live : Bool) (s u : State O) (y : Result (ℤ × ℕ) Halt) → tier ≡ 6
      → Tiered l (Operand t (place t at) live) s u y → Tiered l (Tier t at tier live) s u y
  tightest_ends l t at tier live s u y six h = handed calls hears (λ (x : ℤ × ℕ). IntegerAt x.0 x.1) l l (Operand t (place t at) live) (Tier t at tier live) s u s u y (λ r out. rules.tightest six out) h

  pub left_halts : (l : ℕ) (t : List ℕ) (at tier : ℕ) (live : Bool) (s u : State O) (e : Halt) → tier < 6
      → Tiered l (Tier t at (tier + 1) live) s u (Err e) → Tiered l (Tier t at tier live) s u (Err e)
  left_halts l t at tier live s u e less h =
      halted calls hears (λ (x : ℤ × ℕ). IntegerAt x.0 x.1) (λ (x : ℤ × ℕ). IntegerAt x.0 x.1) l l (Tier t at (tier + 1) live) (Tier t at tier live) s u s u e (λ h out. rules.left_halts less out) h

  pub chain_starts : (l : ℕ) (t : List ℕ) (at tier : ℕ) (live : Bool) (s u : State O) (x : ℤ × ℕ) → tier < 6
      → Tiered l (Tier t at (tier + 1) live) s u (Ok x) → Leads calls hears l (Chain t x.1 tier live x.0) u (Tier t at tier live) s
  chain_starts l t at tier live s u x less h =
      leads calls hears l (Chain t x.1 tier live x.0) (Tier t at tier live) u s (λ r w rest. rules.left less (got calls hears (λ (x : ℤ × ℕ). IntegerAt x.0 x.1) l (Tier t at (tier + 1) live) s u x h) rest)

  pub right_halts : (l : ℕ) (t : List ℕ) (at from tier : ℕ) (live needed : Bool) (z : ℤ) (op : Operator) (s u x : State O) (j : Job) (e : Halt)
      → operator_from t at tier ≡ Some (op, from) → IsNeeded live op z needed → Leads calls hears l (Chain t at tier live z) s j x
      → Tiered l (Tier t from (tier + 1) needed) s u (Err e) → Tiered l j x u (Err e)
  right_halts l t at from tier live needed z op s u x j e found need on h =
      halted calls hears (λ (x : ℤ × ℕ). IntegerAt x.0 x.1) (λ (x : ℤ × ℕ). IntegerAt x.0 x.1) l l (Tier t from (tier + 1) needed) j s u x u e
      (λ (h : Halt) (out : Evals calls hears l (Tier t from (tier + 1) needed) s (Err h) u). by calls hears l (Chain t at tier live z) j s x (Err h) u on (rules.right_halts found need out)) h

  pub chain_ends : (l : ℕ) (t : List ℕ) (at tier : ℕ) (live : Bool) (z : ℤ) (s x : State O) (j : Job) → operator_from t at tier ≡ None
      → Leads calls hears l (Chain t at tier live z) s j x → Tiered l j x s (Ok (z, at))
  chain_ends l t at tier live z s x j none on =
      given calls hears (λ (x : ℤ × ℕ). IntegerAt x.0 x.1) l j x s (z, at) (by calls hears l (Chain t at tier live z) j s x (Ok (IntegerAt z at)) s on (rules.chain_ends none))

  pub chain_passes : (l : ℕ) (t : List ℕ) (at from tier : ℕ) (z : ℤ) (op : Operator) (s u x : State O) (j : Job) (y : ℤ × ℕ)
      → operator_from t at tier ≡ Some (op, from) → Leads calls hears l (Chain t at tier false z) s j x
      → Tiered l (Tier t from (tier + 1) false) s u (Ok y) → Leads calls hears l (Chain t y.1 tier false z) u j x
  chain_passes l t at from tier z op s u x j y found on h =
      leads_on calls hears l (Chain t at tier false z) j (Chain t y.1 tier false z) s x u on
      (λ r w rest. rules.not_live found (got calls hears (λ (x : ℤ × ℕ). IntegerAt x.0 x.1) l (Tier t from (tier + 1) false) s u y h) rest)

  pub chain_applies : (l : ℕ) (t : List ℕ) (at from tier : ℕ) (needed : Bool) (z v : ℤ) (op : Operator) (s u x : State O) (j : Job) (y : ℤ × ℕ)
      → operator_from t at tier ≡ Some (op, from) → IsNeeded true op z needed → Leads calls hears l (Chain t at tier true z) s j x
      → Tiered l (Tier t from (tier + 1) needed) s u (Ok y) → Applies op z y.0 (Ok v) → Leads calls hears l (Chain t y.1 tier true v) u j x
  chain_applies l t at from tier needed z v op s u x j y found need on h sum =
      leads_on calls hears l (Chain t at tier true z) j (Chain t y.1 tier true v) s x u on
      (λ r w rest. rules.applies found need (got calls hears (λ (x : ℤ × ℕ). IntegerAt x.0 x.1) l (Tier t from (tier + 1) needed) s u y h) sum rest)

  pub apply_fails : (l : ℕ) (t : List ℕ) (at from tier : ℕ) (needed : Bool) (z : ℤ) (op : Operator) (s u x : State O) (j : Job) (y : ℤ × ℕ) (k : Kind)
      → operator_from t at tier ≡ Some (op, from) → IsNeeded true op z needed → Leads calls hears l (Chain t at tier true z) s j x
      → Tiered l (Tier t from (tier + 1) needed) s u (Ok y) → Applies op z y.0 (Err k) → Tiered l j x u (Err (Fault k))
  apply_fails l t at from tier needed z op s u x j y k found need on h sum =
      faulted calls hears (λ (x : ℤ × ℕ). IntegerAt x.0 x.1) l j x u k (by calls hears l (Chain t at tier true z) j s x (fails k) u on (rules.apply_fails found need (got calls hears (λ (x : ℤ × ℕ). IntegerAt x.0 x.1) l (Tier t from (tier + 1) needed) s u y h) sum))

  -- operands
  pub no_operand : (l : ℕ) (t : List ℕ) (at : ℕ) (live : Bool) (s : State O) → opening_of (drop at t) ≡ Nothing → Tiered l (Operand t at live) s s (Err (Fault kinds.Syntax))
  no_operand l t at live s none = faulted calls hears (λ (x : ℤ × ℕ). IntegerAt x.0 x.1) l (Operand t at live) s s kinds.Syntax (rules.no_operand none)

  pub prefix_deep : (l : ℕ) (t : List ℕ) (at : ℕ) (live : Bool) (s : State O) (e : Halt) → IsPrefix (opening_of (drop at t)) → (e ≡ Fault kinds.Deep) × (l ≡ 0)
      → Tiered l (Operand t at live) s s (Err e)
  prefix_deep l t at live s e opens found = levels_out calls hears (λ (x : ℤ × ℕ). IntegerAt x.0 x.1) l (Operand t at live) s e (λ (none : l ≡ 0). rules.prefix_deep opens none) found

  pub not_halts : (l k : ℕ) (t : List ℕ) (at : ℕ) (live : Bool) (s u : State O) (e : Halt) → opening_of (drop at t) ≡ Not → k + 1 ≡ l
      → Tiered k (Operand t (place t (at + 1)) live) s u (Err e) → Tiered l (Operand t at live) s u (Err e)
  not_halts l k t at live s u e opens less h =
      halted calls hears (λ (x : ℤ × ℕ). IntegerAt x.0 x.1) (λ (x : ℤ × ℕ). IntegerAt x.0 x.1) k l (Operand t (place t (at + 1)) live) (Operand t at live) s u s u e (λ h out. rules.not_halts opens less out) h

  pub not_ends : (l k : ℕ) (t : List ℕ) (at : ℕ) (live : Bool) (s u : State O) (x : ℤ × ℕ) (z : ℤ) → opening_of (drop at t) ≡ Not → k + 1 ≡ l
      → Tiered k (Operand t (place t (at + 1)) live) s u (Ok x) → IsNot x.0 z → Tiered l (Operand t at live) s u (Ok (alive live z, x.1))
  not_ends l k t at live s u x z opens less h is =
      given calls hears (λ (x : ℤ × ℕ). IntegerAt x.0 x.1) l (Operand t at live) s u (alive live z, x.1)
      (rules.turns_round z opens less (got calls hears (λ (x : ℤ × ℕ). IntegerAt x.0 x.1) k (Operand t (place t (at + 1)) live) s u x h) is)

  pub minus_halts : (l k : ℕ) (t : List ℕ) (at : ℕ) (live : Bool) (s u : State O) (e : Halt) → opening_of (drop at t) ≡ Minus → k + 1 ≡ l
      → Tiered k (Operand t (place t (at + 1)) live) s u (Err e) → Tiered l (Operand t at live) s u (Err e)
  minus_halts l k t at live s u e opens less h =
      halted calls hears (λ (x : ℤ × ℕ). IntegerAt x.0 x.1) (λ (x : ℤ × ℕ). IntegerAt x.0 x.1) k l (Operand t (place t (at + 1)) live) (Operand t at live) s u s u e (λ h out. rules.minus_halts opens less out) h

  pub negates : (l k : ℕ) (t : List ℕ) (at : ℕ) (live : Bool) (s u : State O) (x : ℤ × ℕ) (z : ℤ) → opening_of (drop at t) ≡ Minus → k + 1 ≡ l
      → Tiered k (Operand t (place t (at + 1)) live) s u (Ok x) → IsValue (neg_ℤ x.0) (Ok z) → Tiered l (Operand t at live) s u (Ok (z, x.1))
  negates l k t at live s u x z opens less h is =
      given calls hears (λ (x : ℤ × ℕ). IntegerAt x.0 x.1) l (Operand t at live) s u (z, x.1)
      (rules.negates (Ok z) opens less (got calls hears (λ (x : ℤ × ℕ). IntegerAt x.0 x.1) k (Operand t (place t (at + 1)) live) s u x h) is)

  pub negate_fails : (l k : ℕ) (t : List ℕ) (at : ℕ) (live : Bool) (s u : State O) (x : ℤ × ℕ) (kind : Kind) → opening_of (drop at t) ≡ Minus → k + 1 ≡ l
      → Tiered k (Operand t (place t (at + 1)) live) s u (Ok x) → IsValue (neg_ℤ x.0) (Err kind) → Tiered l (Operand t at live) s u (Err (Fault kind))
  negate_fails l k t at live s u x kind opens less h is =
      faulted calls hears (λ (x : ℤ × ℕ). IntegerAt x.0 x.1) l (Operand t at live) s u kind
      (rules.negates (Err kind) opens less (got calls hears (λ (x : ℤ × ℕ). IntegerAt x.0 x.1) k (Operand t (place t (at + 1)) live) s u x h) is)

  pub inner_halts : (l k : ℕ) (t : List ℕ) (at : ℕ) (live : Bool) (s u : State O) (e : Halt) → opening_of (drop at t) ≡ Parenthesis → k + 1 ≡ l
      → Tiered k (Tier t (at + 1) 0 live) s u (Err e) → Tiered l (Operand t at live) s u (Err e)
  inner_halts l k t at live s u e opens less h =
      halted calls hears (λ (x : ℤ × ℕ). IntegerAt x.0 x.1) (λ (x : ℤ × ℕ). IntegerAt x.0 x.1) k l (Tier t (at + 1) 0 live) (Operand t at live) s u s u e (λ h out. rules.inner_halts opens less out) h

  pub parenthesis : (l k : ℕ) (t : List ℕ) (at : ℕ) (live : Bool) (s u : State O) (x : ℤ × ℕ) → opening_of (drop at t) ≡ Parenthesis → k + 1 ≡ l
      → Tiered k (Tier t (at + 1) 0 live) s u (Ok x) → begins_with 41 (drop (place t x.1) t) ≡ true → Tiered l (Operand t at live) s u (Ok (x.0, place t x.1 + 1))
  parenthesis l k t at live s u x opens less h closed =
      given calls hears (λ (x : ℤ × ℕ). IntegerAt x.0 x.1) l (Operand t at live) s u (x.0, place t x.1 + 1)
      (rules.parenthesis opens less (got calls hears (λ (x : ℤ × ℕ). IntegerAt x.0 x.1) k (Tier t (at + 1) 0 live) s u x h) closed)

  pub not_closed : (l k : ℕ) (t : List ℕ) (at : ℕ) (live : Bool) (s u : State O) (x : ℤ × ℕ) → opening_of (drop at t) ≡ Parenthesis → k + 1 ≡ l
      → Tiered k (Tier t (at + 1) 0 live) s u (Ok x) → begins_with 41 (drop (place t x.1) t) ≡ false → Tiered l (Operand t at live) s u (Err (Fault kinds.Syntax))
  not_closed l k t at live s u x opens less h closed =
      faulted calls hears (λ (x : ℤ × ℕ). IntegerAt x.0 x.1) l (Operand t at live) s u kinds.Syntax
      (rules.not_closed opens less (got calls hears (λ (x : ℤ × ℕ). IntegerAt x.0 x.1) k (Tier t (at + 1) 0 live) s u x h) closed)

  pub written_at : (l : ℕ) (t : List ℕ) (at : ℕ) (live : Bool) (s : State O) (x : ℤ × ℕ) → opening_of (drop at t) ≡ Digits
      → Writes live (take (digits_of (drop at t)) (drop at t)) (Ok x.0) → x.1 ≡ at + digits_of (drop at t) → Tiered l (Operand t at live) s s (Ok x)
  written_at l t at live s x opens is end =
      given calls hears (λ (x : ℤ × ℕ). IntegerAt x.0 x.1) l (Operand t at live) s s x (subst (λ (n : ℕ). Evals calls hears l (Operand t at live) s (Ok (IntegerAt x.0 n)) s) (sym end) (rules.digits (Ok x.0) opens is))

  pub miswritten : (l : ℕ) (t : List ℕ) (at : ℕ) (live : Bool) (s : State O) (kind : Kind) → opening_of (drop at t) ≡ Digits
      → Writes live (take (digits_of (drop at t)) (drop at t)) (Err kind) → Tiered l (Operand t at live) s s (Err (Fault kind))
  miswritten l t at live s kind opens is = faulted calls hears (λ (x : ℤ × ℕ). IntegerAt x.0 x.1) l (Operand t at live) s s kind (rules.digits (Err kind) opens is)

  pub dollar_halts : (l : ℕ) (t : List ℕ) (at : ℕ) (s u : State O) (e : Halt) → opening_of (drop at t) ≡ Dollar
      → Ended calls hears (λ (x : List ℕ × ℕ). ValueAt x.0 x.1) l (Named t at false) s u (Err e) → Tiered l (Operand t at true) s u (Err e)
  dollar_halts l t at s u e opens h =
      halted calls hears (λ (x : List ℕ × ℕ). ValueAt x.0 x.1) (λ (x : ℤ × ℕ). IntegerAt x.0 x.1) l l (Named t at false) (Operand t at true) s u s u e (λ h out. rules.dollar_halts opens out) h

  pub dollar : (l : ℕ) (t : List ℕ) (at : ℕ) (s u : State O) (x : List ℕ × ℕ) (z : ℤ) → opening_of (drop at t) ≡ Dollar
      → Ended calls hears (λ (x : List ℕ × ℕ). ValueAt x.0 x.1) l (Named t at false) s u (Ok x) → Ok z ≡ number_of x.0 → Tiered l (Operand t at true) s u (Ok (z, x.1))
  dollar l t at s u x z opens h is =
      given calls hears (λ (x : ℤ × ℕ). IntegerAt x.0 x.1) l (Operand t at true) s u (z, x.1) (subst (λ (r : Result ℤ Kind). Evals calls hears l (Operand t at true) s (integer_at r x.1) u) (sym is)
      (rules.dollar opens (got calls hears (λ (x : List ℕ × ℕ). ValueAt x.0 x.1) l (Named t at false) s u x h)))

  pub dollar_fails : (l : ℕ) (t : List ℕ) (at : ℕ) (s u : State O) (x : List ℕ × ℕ) (kind : Kind) → opening_of (drop at t) ≡ Dollar
      → Ended calls hears (λ (x : List ℕ × ℕ). ValueAt x.0 x.1) l (Named t at false) s u (Ok x) → Err kind ≡ number_of x.0 → Tiered l (Operand t at true) s u (Err (Fault kind))
  dollar_fails l t at s u x kind opens h is =
      faulted calls hears (λ (x : ℤ × ℕ). IntegerAt x.0 x.1) l (Operand t at true) s u kind (subst (λ (r : Result ℤ Kind). Evals calls hears l (Operand t at true) s (integer_at r x.1) u) (sym is)
      (rules.dollar opens (got calls hears (λ (x : List ℕ × ℕ). ValueAt x.0 x.1) l (Named t at false) s u x h)))

  pub dollar_passed : (l : ℕ) (t : List ℕ) (at : ℕ) (s : State O) (f : Reference) → opening_of (drop at t) ≡ Dollar → ReferenceOf t at (Ok (Some f))
      → Tiered l (Operand t at false) s s (Ok (pos 0, f.end))
  dollar_passed l t at s f opens is = given calls hears (λ (x : ℤ × ℕ). IntegerAt x.0 x.1) l (Operand t at false) s s (pos 0, f.end) (rules.dollar_passed opens is)

  pub dollar_alone : (l : ℕ) (t : List ℕ) (at : ℕ) (s : State O) → opening_of (drop at t) ≡ Dollar → ReferenceOf t at (Ok None)
      → Tiered l (Operand t at false) s s (Err (Fault kinds.Syntax))
  dollar_alone l t at s opens is = faulted calls hears (λ (x : ℤ × ℕ). IntegerAt x.0 x.1) l (Operand t at false) s s kinds.Syntax (rules.dollar_alone opens is)

  pub dollar_refused : (l : ℕ) (t : List ℕ) (at : ℕ) (s : State O) (b : Broken) → opening_of (drop at t) ≡ Dollar → Finds (ReferenceOf t at) (Err b)
      → Tiered l (Operand t at false) s s (Err (broken_halt b))
  dollar_refused l t at s b opens h = found_out calls hears (ReferenceOf t at) (λ (x : ℤ × ℕ). IntegerAt x.0 x.1) l (Operand t at false) s s b (λ f is. rules.dollar_refused opens is) h

  pub bracket_refused : (l : ℕ) (t : List ℕ) (at : ℕ) (live : Bool) (s : State O) (b : Broken) → opening_of (drop at t) ≡ Bracket
      → Finds (λ (o : Result ℕ Flaw). Passes t (frames.Bracket at Start) (at + 1) o) (Err b) → Tiered l (Operand t at live) s s (Err (broken_halt b))
  bracket_refused l t at live s b opens h =
      found_out calls hears (λ (o : Result ℕ Flaw). Passes t (frames.Bracket at Start) (at + 1) o) (λ (x : ℤ × ℕ). IntegerAt x.0 x.1) l (Operand t at live) s s b (λ f is. rules.bracket_refused opens is) h

  pub bracket_passed : (l : ℕ) (t : List ℕ) (at end : ℕ) (s : State O) → opening_of (drop at t) ≡ Bracket
      → Passes t (frames.Bracket at Start) (at + 1) (Ok end) → Tiered l (Operand t at false) s s (Ok (pos 0, end))
  bracket_passed l t at end s opens is = given calls hears (λ (x : ℤ × ℕ). IntegerAt x.0 x.1) l (Operand t at false) s s (pos 0, end) (rules.bracket_passed opens is)

  pub bracket_halts : (l : ℕ) (t : List ℕ) (at end : ℕ) (s u : State O) (e : Halt) → opening_of (drop at t) ≡ Bracket
      → Passes t (frames.Bracket at Start) (at + 1) (Ok end) → Ended calls hears Value l (Nested (slice_range t (at + 1) (end - 1))) s u (Err e)
      → Tiered l (Operand t at true) s u (Err e)
  bracket_halts l t at end s u e opens is h =
      halted calls hears Value (λ (x : ℤ × ℕ). IntegerAt x.0 x.1) l l (Nested (slice_range t (at + 1) (end - 1))) (Operand t at true) s u s u e (λ h out. rules.bracket_halts opens is out) h

  pub bracket : (l : ℕ) (t : List ℕ) (at end : ℕ) (s u : State O) (v : List ℕ) (z : ℤ) → opening_of (drop at t) ≡ Bracket
      → Passes t (frames.Bracket at Start) (at + 1) (Ok end) → Ended calls hears Value l (Nested (slice_range t (at + 1) (end - 1))) s u (Ok v)
      → Ok z ≡ number_of v → Tiered l (Operand t at true) s u (Ok (z, end))
  bracket l t at end s u v z opens is h number =
      given calls hears (λ (x : ℤ × ℕ). IntegerAt x.0 x.1) l (Operand t at true) s u (z, end) (subst (λ (r : Result ℤ Kind). Evals calls hears l (Operand t at true) s (integer_at r end) u) (sym number)
      (rules.bracket opens is (got calls hears Value l (Nested (slice_range t (at + 1) (end - 1))) s u v h)))

  pub bracket_fails : (l : ℕ) (t : List ℕ) (at end : ℕ) (s u : State O) (v : List ℕ) (kind : Kind) → opening_of (drop at t) ≡ Bracket
      → Passes t (frames.Bracket at Start) (at + 1) (Ok end) → Ended calls hears Value l (Nested (slice_range t (at + 1) (end - 1))) s u (Ok v)
      → Err kind ≡ number_of v → Tiered l (Operand t at true) s u (Err (Fault kind))
  bracket_fails l t at end s u v kind opens is h number =
      faulted calls hears (λ (x : ℤ × ℕ). IntegerAt x.0 x.1) l (Operand t at true) s u kind (subst (λ (r : Result ℤ Kind). Evals calls hears l (Operand t at true) s (integer_at r end) u) (sym number)
      (rules.bracket opens is (got calls hears Value l (Nested (slice_range t (at + 1) (end - 1))) s u v h)))
