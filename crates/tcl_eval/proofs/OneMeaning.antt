-- Each job has one end.
use Rattle.std.proofs.Common.{◌≡◌, ◌≢◌, ℕ, ◌<◌, Bool, true, false, arith, inl, inr, List, [], ◌∷◌, Some, None, Result, Ok, Err, length, drop, refl, ap}
use Rattle.lab_base.specs.declared.fault.Kind.{Kind}
use Rattle.lab_base.specs.declared.fault.Kind.TheVariants as kinds
use Rattle.tcl_eval.specs.declared.hosts.Called.{Called}
use Rattle.tcl_eval.specs.declared.hosts.Called.TheVariants as called
use Rattle.tcl_eval.specs.declared.halts.Halt.{Halt}
use Rattle.tcl_eval.specs.declared.openings.Opening.TheVariants.{Not, Minus, Parenthesis, Digits, Dollar, Bracket, Nothing}
use Rattle.tcl_eval.specs.declared.commands.Own.TheVariants as owns
use Rattle.tcl_eval.specs.Operators.{opening_of, IsPrefix}
use Rattle.tcl_eval.specs.State.{State}
use Rattle.tcl_eval.specs.Jobs.{Job, Operand, Gain, fails}
use Rattle.tcl_eval.specs.Evals as rules
use Rattle.tcl_eval.specs.Evals.{Evals}
use Rattle.tcl_eval.specs.Once.{EvalsOnce}
use Rattle.tcl_words.proofs.Plans.{Follows, ends, asks, knows, follows_once}
use Rattle.tcl_eval.proofs.Evaluating.{Course, set_plan, incr_plan, append_plan, lappend_plan, expr_plan, for_plan, foreach_plan, evaluating}

no_level : (l : ℕ) → l ≡ 0 → l < 1
no_level l none = omega (arith, none)

module _ {O : Type 0} (calls : O → List (List ℕ) → Result Called Kind × O) (hears : O → List ℕ → List ℕ → Result (Unit {0}) Kind × O) where
  -- the plan leads to this end
  abbrev By : Course calls hears → Result Gain Halt → State O → Type 1
  By p r u = Follows (evaluating calls hears) p (r, u)

  -- WORDS TOO MANY OR TOO FEW
  set_by : (s : State O) (ws : List (List ℕ)) → length ws ≢ 2 → length ws ≢ 3 → By (set_plan calls hears s ws) (fails kinds.Arity) s
  set_by s [] two three = ends
  set_by s (c ∷ []) two three = ends
  set_by s (c ∷ n ∷ []) two three = absurd (two refl)
  set_by s (c ∷ n ∷ v ∷ []) two three = absurd (three refl)
  set_by s (c ∷ n ∷ v ∷ w ∷ more) two three = ends

  incr_by : (s : State O) (ws : List (List ℕ)) → length ws ≢ 2 → length ws ≢ 3 → By (incr_plan calls hears s ws) (fails kinds.Arity) s
  incr_by s [] two three = ends
  incr_by s (c ∷ []) two three = ends
  incr_by s (c ∷ n ∷ []) two three = absurd (two refl)
  incr_by s (c ∷ n ∷ m ∷ []) two three = absurd (three refl)
  incr_by s (c ∷ n ∷ m ∷ x ∷ more) two three = knows false (omega arith) ends

  append_by : (s : State O) (ws : List (List ℕ)) → length ws < 3 → By (append_plan calls hears s ws) (fails kinds.Arity) s
  append_by s [] few = ends
  append_by s (c ∷ []) few = ends
  append_by s (c ∷ n ∷ []) few = knows false refl ends
  append_by s (c ∷ n ∷ m ∷ more) few = absurd (omega (arith, few))

  lappend_by : (s : State O) (ws : List (List ℕ)) → length ws < 3 → By (lappend_plan calls hears s ws) (fails kinds.Arity) s
  lappend_by s [] few = ends
  lappend_by s (c ∷ []) few = ends
  lappend_by s (c ∷ n ∷ []) few = knows false refl ends
  lappend_by s (c ∷ n ∷ m ∷ more) few = absurd (omega (arith, few))

  expr_by : (l : ℕ) (s : State O) (ws : List (List ℕ)) → length ws < 2 → By (expr_plan calls hears l s ws) (fails kinds.Arity) s
  expr_by l s [] few = ends
  expr_by l s (c ∷ []) few = knows false refl ends
  expr_by l s (c ∷ m ∷ more) few = absurd (omega (arith, few))

  for_by : (l : ℕ) (s : State O) (ws : List (List ℕ)) → length ws ≢ 5 → By (for_plan calls hears l s ws) (fails kinds.Arity) s
  for_by l s [] other = ends
  for_by l s (a ∷ []) other = ends
  for_by l s (a ∷ b ∷ []) other = ends
  for_by l s (a ∷ b ∷ c ∷ []) other = ends
  for_by l s (a ∷ b ∷ c ∷ d ∷ []) other = ends
  for_by l s (a ∷ b ∷ c ∷ d ∷ e ∷ []) other = absurd (other refl)
  for_by l s (a ∷ b ∷ c ∷ d ∷ e ∷ f ∷ more) other = ends

  foreach_by : (l : ℕ) (s : State O) (ws : List (List ℕ)) → length ws ≢ 4 → By (foreach_plan calls hears l s ws) (fails kinds.Arity) s
  foreach_by l s [] other = ends
  foreach_by l s (a ∷ []) other = ends
  foreach_by l s (a ∷ b ∷ []) other = ends
  foreach_by l s (a ∷ b ∷ c ∷ []) other = ends
  foreach_by l s (a ∷ b ∷ c ∷ d ∷ []) other = absurd (other refl)
  foreach_by l s (a ∷ b ∷ c ∷ d ∷ e ∷ more) other = ends

  prefix_by : (l : ℕ) (t : List ℕ) (at : ℕ) (live : Bool) (s : State O) → IsPrefix (opening_of (drop at t)) → l ≡ 0 → By (evaluating calls hears (l, Operand t at live, s)) (fails kinds.Deep) s
  prefix_by l t at live s (inl is) none = knows Not is (knows None (no_level l none) ends)
  prefix_by l t at live s (inr (inl is)) none = knows Minus is (knows None (no_level l none) ends)
  prefix_by l t at live s (inr (inr is)) none = knows Parenthesis is (knows None (no_level l none) ends)

  -- EACH RULE
  evals_by : {l : ℕ} {j : Job} {s u : State O} {r : Result Gain Halt} → Evals calls hears l j s r u → By (evaluating calls hears (l, j, s)) r u
  evals_by (rules.deep {l = l} none) = knows None (no_level l none) ends
  evals_by (rules.deeper {k = k} less h) = knows (Some k) less (asks (evals_by h) ends)
  evals_by (rules.refused {e = e} of) = knows (Err e) of ends
  evals_by (rules.whole {cs = cs} of h) = knows (Ok cs) of (asks (evals_by h) ends)
  evals_by rules.ended = ends
  evals_by (rules.next h g) = asks (evals_by h) (asks (evals_by g) ends)
  evals_by (rules.halts h) = asks (evals_by h) ends
  evals_by (rules.many none) = knows false none ends
  evals_by (rules.words_halt some h) = knows true some (asks (evals_by h) ends)
  evals_by (rules.call_halts some h g) = knows true some (asks (evals_by h) (asks (evals_by g) ends))
  evals_by (rules.long_result some h g long) = knows true some (asks (evals_by h) (asks (evals_by g) (knows false long ends)))
  evals_by (rules.one some h g short) = knows true some (asks (evals_by h) (asks (evals_by g) (knows true short ends)))
  evals_by rules.no_words = ends
  evals_by (rules.word h g) = asks (evals_by h) (asks (evals_by g) ends)
  evals_by (rules.word_halts h) = asks (evals_by h) ends
  evals_by (rules.long_value long) = knows false long ends
  evals_by (rules.no_parts short) = knows true short ends
  evals_by (rules.plain h) = asks (evals_by h) ends
  evals_by (rules.escape h) = asks (evals_by h) ends
  evals_by (rules.variable h g) = asks (evals_by h) (asks (evals_by g) ends)
  evals_by (rules.variable_halts h) = asks (evals_by h) ends
  evals_by (rules.script h g) = asks (evals_by h) (asks (evals_by g) ends)
  evals_by (rules.script_halts h) = asks (evals_by h) ends
  evals_by (rules.index_refused {e = e} of) = knows (Err e) of ends
  evals_by (rules.no_variable of) = knows (Ok None) of ends
  evals_by (rules.named {f = f} of none) = knows (Ok (Some f)) of (knows None none ends)
  evals_by (rules.index_deep {l = l} {f = f} {ps = ps} of some none) = knows (Ok (Some f)) of (knows (Some ps) some (knows None (no_level l none) ends))
  evals_by (rules.index_halts {k = k} {f = f} {ps = ps} of some less h) = knows (Ok (Some f)) of (knows (Some ps) some (knows (Some k) less (asks (evals_by h) ends)))
  evals_by (rules.index_long {k = k} {f = f} {ps = ps} of some less h long) =
      knows (Ok (Some f)) of (knows (Some ps) some (knows (Some k) less (asks (evals_by h) (knows false long ends))))
  evals_by (rules.indexed {k = k} {f = f} {ps = ps} of some less h short) =
      knows (Ok (Some f)) of (knows (Some ps) some (knows (Some k) less (asks (evals_by h) (knows true short ends))))
  evals_by (rules.answered {v = v} {o = o} mine is) = knows None mine (knows (Ok (called.Value v), o) is ends)
  evals_by (rules.stops {o = o} mine is) = knows None mine (knows (Ok called.Stop, o) is ends)
  evals_by (rules.unknown {o = o} mine is) = knows None mine (knows (Ok called.NotMine, o) is ends)
  evals_by (rules.host_fails {kind = kind} {o = o} mine is) = knows None mine (knows (Err kind, o) is ends)
  evals_by (rules.set_arity {s = s} {ws = ws} own two three) = knows (Some owns.Set) own (set_by s ws two three)
  evals_by (rules.gets own) = knows (Some owns.Set) own ends
  evals_by (rules.sets {o = o} own is) = knows (Some owns.Set) own (knows (Ok tt, o) is ends)
  evals_by (rules.set_fails {kind = kind} {o = o} own is) = knows (Some owns.Set) own (knows (Err kind, o) is ends)
  evals_by (rules.incr_arity {s = s} {ws = ws} own two three) = knows (Some owns.Incr) own (incr_by s ws two three)
  evals_by (rules.incr_fails {kind = kind} own few sum) = knows (Some owns.Incr) own (knows true few (knows (Err kind) sum ends))
  evals_by (rules.incr_adds z own few sum) = knows (Some owns.Incr) own (knows true few (knows (Ok z) sum ends))
  evals_by (rules.append_arity {s = s} {ws = ws} own few) = knows (Some owns.Append) own (append_by s ws few)
  evals_by (rules.append_long own some long) = knows (Some owns.Append) own (knows true some (knows false long ends))
  evals_by (rules.appends own some short) = knows (Some owns.Append) own (knows true some (knows true short ends))
  evals_by (rules.lappend_arity {s = s} {ws = ws} own few) = knows (Some owns.Lappend) own (lappend_by s ws few)
  evals_by (rules.lappend_fails {kind = kind} own some is) = knows (Some owns.Lappend) own (knows true some (knows (Err kind) is ends))
  evals_by (rules.lappends {v = v} own some is) = knows (Some owns.Lappend) own (knows true some (knows (Ok v) is ends))
  evals_by (rules.expr_arity {l = l} {s = s} {ws = ws} own few) = knows (Some owns.Expr) own (expr_by l s ws few)
  evals_by (rules.expr_long own some long) = knows (Some owns.Expr) own (knows true some (knows false long ends))
  evals_by (rules.expr_halts own some short h) = knows (Some owns.Expr) own (knows true some (knows true short (asks (evals_by h) ends)))
  evals_by (rules.computes own some short h) = knows (Some owns.Expr) own (knows true some (knows true short (asks (evals_by h) ends)))
  evals_by (rules.if_arity own none) = knows (Some owns.If) own (knows None none ends)
  evals_by (rules.branches {bs = bs} own some h) = knows (Some owns.If) own (knows (Some bs) some (asks (evals_by h) ends))
  evals_by rules.no_branch = ends
  evals_by (rules.otherwise h) = asks (evals_by h) ends
  evals_by (rules.branch_halts h) = asks (evals_by h) ends
  evals_by (rules.taken h g) = asks (evals_by h) (asks (evals_by g) ends)
  evals_by (rules.not_taken h g) = asks (evals_by h) (asks (evals_by g) ends)
  evals_by (rules.for_arity {l = l} {s = s} {ws = ws} own other) = knows (Some owns.For) own (for_by l s ws other)
  evals_by (rules.start_halts own h) = knows (Some owns.For) own (asks (evals_by h) ends)
  evals_by (rules.starts own h g) = knows (Some owns.For) own (asks (evals_by h) (asks (evals_by g) ends))
  evals_by (rules.condition_halts h) = asks (evals_by h) ends
  evals_by (rules.for_ends h) = asks (evals_by h) ends
  evals_by (rules.body_halts h g) = asks (evals_by h) (asks (evals_by g) ends)
  evals_by (rules.next_halts h g f) = asks (evals_by h) (asks (evals_by g) (asks (evals_by f) ends))
  evals_by (rules.turns h g f e) = asks (evals_by h) (asks (evals_by g) (asks (evals_by f) (asks (evals_by e) ends)))
  evals_by (rules.each_arity {l = l} {s = s} {ws = ws} own other) = knows (Some owns.Foreach) own (foreach_by l s ws other)
  evals_by (rules.goes_over own h) = knows (Some owns.Foreach) own (asks (evals_by h) ends)
  evals_by (rules.each_ends none) = knows None none ends
  evals_by (rules.each_halts {from = from} {end = end} some h) = knows (Some (from, end)) some (asks (evals_by h) ends)
  evals_by (rules.each {from = from} {end = end} some h g) = knows (Some (from, end)) some (asks (evals_by h) (asks (evals_by g) ends))
  evals_by (rules.condition_many none) = knows false none ends
  evals_by (rules.expression_halts some h) = knows true some (asks (evals_by h) ends)
  evals_by (rules.holds some h is) = knows true some (asks (evals_by h) (knows true is ends))
  evals_by (rules.holds_not some h is) = knows true some (asks (evals_by h) (knows false is ends))
  evals_by (rules.malformed h) = asks (evals_by h) ends
  evals_by (rules.expression h g) = asks (evals_by h) (asks (evals_by g) ends)
  evals_by (rules.tier_halts h) = asks (evals_by h) ends
  evals_by (rules.text_left h more) = asks (evals_by h) (knows false more ends)
  evals_by (rules.passed h all) = asks (evals_by h) (knows true all ends)
  evals_by (rules.tightest is h) = knows true is (asks (evals_by h) ends)
  evals_by (rules.left_halts less h) = knows false less (asks (evals_by h) ends)
  evals_by (rules.left less h g) = knows false less (asks (evals_by h) (asks (evals_by g) ends))
  evals_by (rules.chain_ends none) = knows None none ends
  evals_by (rules.right_halts {from = from} {needed = needed} {op = op} is need h) = knows (Some (op, from)) is (knows needed need (asks (evals_by h) ends))
  evals_by (rules.not_live {from = from} {op = op} is h g) = knows (Some (op, from)) is (knows false refl (asks (evals_by h) (asks (evals_by g) ends)))
  evals_by (rules.applies {from = from} {needed = needed} {z2 = z2} {op = op} is need h value g) =
      knows (Some (op, from)) is (knows needed need (asks (evals_by h) (knows (Ok z2) value (asks (evals_by g) ends))))
  evals_by (rules.apply_fails {from = from} {needed = needed} {op = op} {kind = kind} is need h value) =
      knows (Some (op, from)) is (knows needed need (asks (evals_by h) (knows (Err kind) value ends)))
  evals_by (rules.no_operand is) = knows Nothing is ends
  evals_by (rules.prefix_deep {l = l} {t = t} {at = at} {live = live} {s = s} is none) = prefix_by l t at live s is none
  evals_by (rules.not_halts {k = k} is less h) = knows Not is (knows (Some k) less (asks (evals_by h) ends))
  evals_by (rules.turns_round {k = k} z1 is less h value) = knows Not is (knows (Some k) less (asks (evals_by h) (knows z1 value ends)))
  evals_by (rules.minus_halts {k = k} is less h) = knows Minus is (knows (Some k) less (asks (evals_by h) ends))
  evals_by (rules.negates {k = k} number is less h value) = knows Minus is (knows (Some k) less (asks (evals_by h) (knows number value ends)))
  evals_by (rules.inner_halts {k = k} is less h) = knows Parenthesis is (knows (Some k) less (asks (evals_by h) ends))
  evals_by (rules.parenthesis {k = k} is less h closed) = knows Parenthesis is (knows (Some k) less (asks (evals_by h) (knows true closed ends)))
  evals_by (rules.not_closed {k = k} is less h closed) = knows Parenthesis is (knows (Some k) less (asks (evals_by h) (knows false closed ends)))
  evals_by (rules.digits number is value) = knows Digits is (knows number value ends)
  evals_by (rules.dollar_halts is h) = knows Dollar is (asks (evals_by h) ends)
  evals_by (rules.dollar is h) = knows Dollar is (asks (evals_by h) ends)
  evals_by (rules.dollar_passed {f = f} is of) = knows Dollar is (knows (Ok (Some f)) of ends)
  evals_by (rules.dollar_alone is of) = knows Dollar is (knows (Ok None) of ends)
  evals_by (rules.dollar_refused {e = e} is of) = knows Dollar is (knows (Err e) of ends)
  evals_by (rules.bracket_refused {e = e} is of) = knows Bracket is (knows (Err e) of ends)
  evals_by (rules.bracket_passed {end = end} is of) = knows Bracket is (knows (Ok end) of ends)
  evals_by (rules.bracket_halts {end = end} is of h) = knows Bracket is (knows (Ok end) of (asks (evals_by h) ends))
  evals_by (rules.bracket {end = end} is of h) = knows Bracket is (knows (Ok end) of (asks (evals_by h) ends))

  pub evals_once : EvalsOnce calls hears
  evals_once l j s r q u w h g =
      let same : (r, u) ≡ (q, w) = follows_once (evaluating calls hears) (evals_by h) (evals_by g) in
      (ap (λ x. x.0) same, ap (λ x. x.1) same)
