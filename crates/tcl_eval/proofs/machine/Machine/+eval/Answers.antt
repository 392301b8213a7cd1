use Rattle.std.proofs.Common.{refl, rules, ◌≡◌, ◌≢◌, ℕ, ◌+◌, ◌-◌, ◌≤◌, length, get_or, drop, map, slice_index_or, Some, None, Ok, Err, [], ◌∷◌, true, false, List, w64, ℤ, pos, to_z, sym, ap, subst, ◌∙◌, inl, inr, arith}
use mir.Val.{SFits}
use Rattle.std.proofs.lemmas.Result.{err_from_is_err_and}
use Rattle.std.proofs.lemmas.Int.{to_z-of_z}
use Rattle.std.proofs.lemmas.List.{drop_all}
use Rattle.std.proofs.lemmas.List.Elements.{All-push}
use Rattle.std.specs.Fmt.{signed_decimal}
use Rattle.std.specs.Prelude.{MatchBool, neg_ℤ, slice_range}
use Rattle.tcl_words.specs.declared.word.Part.TheVariants.{Plain, Escape, Variable, Script}
use Rattle.tcl_eval.specs.declared.branches.Branch.{Branch}
use Rattle.tcl_eval.specs.Short.{AllShort, BranchLies, branching_of}
use Rattle.tcl_eval.specs.Numbers.{IsValue, IsNot, Applies}
use Rattle.tcl_eval.specs.Forms.{Branching, branches_of}
use Rattle.tcl_eval.proofs.Branching.{next_branch, with_condition, no_condition, body_of}
use Rattle.tcl_eval.specs.State.{spent}
use Rattle.tcl_eval.specs.Machines.{seen}
use Rattle.tcl_eval.specs.Jobs.{Value, ValueAt, Whole, One, Parts, Named, Call, Tier}
use Rattle.tcl_eval.specs.Evals as rules_of
use Rattle.tcl_eval.proofs.Ended as ended
use Rattle.tcl_eval.proofs.Scripts as scripts
use Rattle.tcl_eval.proofs.Expressions as expressions
use Rattle.tcl_eval.proofs.Ended.{none_of}
use Rattle.tcl_eval.proofs.Parts as parts
use Rattle.tcl_eval.proofs.Controls as controls
use Rattle.tcl_eval.proofs.machine.Machine.+eval.Goals as goal
use Rattle.tcl_eval.proofs.machine.Machine.+eval.Goals.{run_if-in-Some-condition+in_ok-taken-in-Some-condition, run_if-in-None, substitute-in-Plain+in_ok-push_bytes-in-Plain, substitute-in-Escape+in_ok-push-in-Escape, substitute-in-Variable+in_ok-more-in-Variable+in_ok-push_bytes-in-Variable, substitute-in-Script+in_ok-more-in-Script+in_ok-push_bytes-in-Script}

pub bracket_operand-returns-in_err-end-clause-evals : goal.bracket_operand-returns-in_err-end-clause-evals
bracket_operand-returns-in_err-end-clause-evals g t c =
    let p = err_from_is_err_and c.from_residual.result c.from_residual.ensures.1 in
    rw (p.1, p.2) (expressions.bracket_refused (g.H.Host.calls c.args.line) g.H.Host.hears c.args.levels c.args.text.now c.args.at c.args.live (seen g.H.Host.objects c.args.self.now) c.in_err-end.field-0.0 c.requires.opening c.in_err-end.ensures.passes)

pub bracket_operand-returns-then-not-live-clause-evals : goal.bracket_operand-returns-then-not-live-clause-evals
bracket_operand-returns-then-not-live-clause-evals g t c =
    rw c.if-not-live.true (expressions.bracket_passed (g.H.Host.calls c.args.line) g.H.Host.hears c.args.levels c.args.text.now c.args.at c.in_ok-end.end (seen g.H.Host.objects c.args.self.now) c.requires.opening c.in_ok-end.ensures.passes)

pub bracket_operand-returns-in_err-value-clause-evals : goal.bracket_operand-returns-in_err-value-clause-evals
bracket_operand-returns-in_err-value-clause-evals g t c =
    let p = err_from_is_err_and c.from_residual-in_err-value.result c.from_residual-in_err-value.ensures.1 in
    rw (p.1, p.2) (rw c.if-not-live.false (expressions.bracket_halts (g.H.Host.calls c.args.line) g.H.Host.hears c.args.levels c.args.text.now c.args.at c.in_ok-end.end (seen g.H.Host.objects c.args.self.now) (seen g.H.Host.objects c.nested.new.self) c.in_err-value.field-0.0 c.requires.opening c.in_ok-end.ensures.passes c.in_err-value.ensures.evals))

pub bracket_operand-returns-in_err-number_in-clause-evals : goal.bracket_operand-returns-in_err-number_in-clause-evals
bracket_operand-returns-in_err-number_in-clause-evals g t c =
    let p = err_from_is_err_and c.from_residual-in_err-number_in.result c.from_residual-in_err-number_in.ensures.1 in
    rw (p.1, p.2) (rw c.if-not-live.false (expressions.bracket_fails (g.H.Host.calls c.args.line) g.H.Host.hears c.args.levels c.args.text.now c.args.at c.in_ok-end.end (seen g.H.Host.objects c.args.self.now) (seen g.H.Host.objects c.nested.new.self) c.in_ok-value.value c.in_err-number_in.field-0.0 c.requires.opening c.in_ok-end.ensures.passes c.in_ok-value.ensures.evals c.in_err-number_in.ensures))

pub bracket_operand-returns-clause-evals : goal.bracket_operand-returns-clause-evals
bracket_operand-returns-clause-evals g t c =
    let f : SFits w64 c.in_ok-number_in.field-0 = search rules in
    rw (to_z-of_z w64 c.in_ok-number_in.field-0 f) (rw c.if-not-live.false (expressions.bracket (g.H.Host.calls c.args.line) g.H.Host.hears c.args.levels c.args.text.now c.args.at c.in_ok-end.end (seen g.H.Host.objects c.args.self.now) (seen g.H.Host.objects c.nested.new.self) c.in_ok-value.value c.in_ok-number_in.field-0 c.requires.opening c.in_ok-end.ensures.passes c.in_ok-value.ensures.evals c.in_ok-number_in.ensures))

pub command-returns-then-self-eq0-clause-evals : goal.command-returns-then-self-eq0-clause-evals
command-returns-then-self-eq0-clause-evals g t c =
    scripts.many_ends (g.H.Host.calls c.args.line) g.H.Host.hears c.args.levels c.args.text.now c.args.command.now (seen g.H.Host.objects c.args.self.now) (ended.left_is (g.H.Host.calls c.args.line) g.H.Host.hears g.H.Host.objects c.args.self.now ∙ c.if-self-eq0.true)

pub command-loop-word-init : goal.command-loop-word-init
command-loop-word-init g t c =
    record {
      left = omega arith;
      short = λ k d h. absurd (omega (arith, ap (λ (xs : List (List ℕ)). length xs) c.new-words.ensures.items));
      rest = scripts.words_start (g.H.Host.calls c.args.line) g.H.Host.hears c.args.levels c.args.text.now c.args.command.now.words c.new-words.result.items (spent (seen g.H.Host.objects c.args.self.now)) (seen g.H.Host.objects (record c.args.self.now { left = c.args.self.now.left - 1 })) c.new-words.ensures.items (ended.spent_is (g.H.Host.calls c.args.line) g.H.Host.hears g.H.Host.objects c.args.self.now);
    }

pub command-returns-in_err-substitute-clause-evals : goal.command-returns-in_err-substitute-clause-evals
command-returns-in_err-substitute-clause-evals g t c =
    let p = err_from_is_err_and c.from_residual.result c.from_residual.ensures.1 in
    rw (p.1, p.2) (scripts.word_halts (g.H.Host.calls c.args.line) g.H.Host.hears c.args.levels c.args.text.now (seen g.H.Host.objects c.loop-word.self) (seen g.H.Host.objects c.substitute.new.self) (seen g.H.Host.objects c.args.self.now) c.args.command.now c.loop-word.words.items c.loop-word.word-index c.word-item.result c.in_err-substitute.field-0.0 (ended.some_left (g.H.Host.calls c.args.line) g.H.Host.hears g.H.Host.objects c.args.self.now c.if-self-eq0.false) (rw c.as_slice-word-items.ensures at c.loop-word-test.true) (rw c.as_slice-word-items.ensures at c.word-item.is) c.loop-word.invariant.rest (rw c.as_slice.ensures at c.in_err-substitute.ensures.evals))

pub command-returns-in_err-push-clause-evals : goal.command-returns-in_err-push-clause-evals
command-returns-in_err-push-clause-evals g t c =
    let p = err_from_is_err_and c.from_residual-in_err-push.result c.from_residual-in_err-push.ensures.1 in
    rw (p.1, p.2) (ended.free (g.H.Host.calls c.args.line) g.H.Host.hears Value c.args.levels (One c.args.text.now c.args.command.now) (seen g.H.Host.objects c.args.self.now) (seen g.H.Host.objects c.substitute.new.self))

pub command-loop-word-preserved : goal.command-loop-word-preserved
command-loop-word-preserved g t c =
    record {
      left = omega arith;
      short = subst (λ (xs : List (List ℕ)). AllShort xs) (sym c.in_ok-push.ensures.items) (All-push (λ (w : List ℕ). length w ≤ 65536) c.loop-word.words.items c.in_ok-substitute.field-0 c.loop-word.invariant.short c.in_ok-substitute.ensures.value);
      rest = scripts.word_done (g.H.Host.calls c.args.line) g.H.Host.hears c.args.levels c.args.text.now (seen g.H.Host.objects c.loop-word.self) (seen g.H.Host.objects c.substitute.new.self) (spent (seen g.H.Host.objects c.args.self.now)) c.args.command.now.words c.loop-word.words.items c.push.new.self.items c.loop-word.word-index c.word-item.result c.in_ok-substitute.field-0 (rw c.as_slice-word-items.ensures at c.loop-word-test.true) (rw c.as_slice-word-items.ensures at c.word-item.is) c.in_ok-push.ensures.items c.loop-word.invariant.rest (rw c.as_slice.ensures at c.in_ok-substitute.ensures.evals);
    }

pub command-returns-in_err-value-clause-evals : goal.command-returns-in_err-value-clause-evals
command-returns-in_err-value-clause-evals g t c =
    let p = err_from_is_err_and c.from_residual-in_err-value.result c.from_residual-in_err-value.ensures.1 in
    rw (p.1, p.2) (scripts.call_halts (g.H.Host.calls c.args.line) g.H.Host.hears c.args.levels c.args.text.now c.args.command.now c.loop-word.words.items (seen g.H.Host.objects c.loop-word.self) (seen g.H.Host.objects c.invoke.new.self) (seen g.H.Host.objects c.args.self.now) c.in_err-value.field-0.0 (ended.some_left (g.H.Host.calls c.args.line) g.H.Host.hears g.H.Host.objects c.args.self.now c.if-self-eq0.false) (scripts.words_end (g.H.Host.calls c.args.line) g.H.Host.hears c.args.levels c.args.text.now c.args.command.now.words c.loop-word.words.items (seen g.H.Host.objects c.loop-word.self) (spent (seen g.H.Host.objects c.args.self.now)) c.loop-word.word-index (drop_all c.loop-word.word-index c.args.command.now.words (rw c.as_slice-word-items.ensures at c.loop-word-test.false)) c.loop-word.invariant.rest) (rw c.deref.ensures.value at c.in_err-value.ensures.evals))

pub command-returns-clause-evals : goal.command-returns-clause-evals
command-returns-clause-evals g t c =
    scripts.command_ends (g.H.Host.calls c.args.line) g.H.Host.hears c.args.levels c.args.text.now c.args.command.now c.loop-word.words.items (seen g.H.Host.objects c.loop-word.self) (seen g.H.Host.objects c.invoke.new.self) (seen g.H.Host.objects c.args.self.now) c.in_ok-value.value c.short.result (ended.some_left (g.H.Host.calls c.args.line) g.H.Host.hears g.H.Host.objects c.args.self.now c.if-self-eq0.false) (scripts.words_end (g.H.Host.calls c.args.line) g.H.Host.hears c.args.levels c.args.text.now c.args.command.now.words c.loop-word.words.items (seen g.H.Host.objects c.loop-word.self) (spent (seen g.H.Host.objects c.args.self.now)) c.loop-word.word-index (drop_all c.loop-word.word-index c.args.command.now.words (rw c.as_slice-word-items.ensures at c.loop-word-test.false)) c.loop-word.invariant.rest) (rw c.deref.ensures.value at c.in_ok-value.ensures.evals) c.short.ensures.value c.short.ensures.long

pub condition-returns-then-self-eq0-clause-evals : goal.condition-returns-then-self-eq0-clause-evals
condition-returns-then-self-eq0-clause-evals g t c =
    expressions.condition_many (g.H.Host.calls c.args.line) g.H.Host.hears c.args.levels c.args.text.now (seen g.H.Host.objects c.args.self.now) (ended.left_is (g.H.Host.calls c.args.line) g.H.Host.hears g.H.Host.objects c.args.self.now ∙ c.if-self-eq0.true)

pub condition-returns-in_err-value-clause-evals : goal.condition-returns-in_err-value-clause-evals
condition-returns-in_err-value-clause-evals g t c =
    let p = err_from_is_err_and c.from_residual.result c.from_residual.ensures.1 in
    rw (p.1, p.2) (expressions.condition_halts (g.H.Host.calls c.args.line) g.H.Host.hears c.args.levels c.args.text.now (seen g.H.Host.objects c.args.self.now) (seen g.H.Host.objects (record c.args.self.now { left = c.args.self.now.left - 1 })) (seen g.H.Host.objects c.expression.new.self) c.in_err-value.field-0.0 (ended.some_left (g.H.Host.calls c.args.line) g.H.Host.hears g.H.Host.objects c.args.self.now c.if-self-eq0.false) (ended.spent_is (g.H.Host.calls c.args.line) g.H.Host.hears g.H.Host.objects c.args.self.now) c.in_err-value.ensures.evals)

pub condition-returns-clause-evals : goal.condition-returns-clause-evals
condition-returns-clause-evals g t c =
    let f : SFits w64 c.in_ok-value.value = search rules in
    expressions.condition_ends (g.H.Host.calls c.args.line) g.H.Host.hears c.args.levels c.args.text.now (seen g.H.Host.objects c.args.self.now) (seen g.H.Host.objects (record c.args.self.now { left = c.args.self.now.left - 1 })) (seen g.H.Host.objects c.expression.new.self) c.in_ok-value.value c.holds.result (ended.some_left (g.H.Host.calls c.args.line) g.H.Host.hears g.H.Host.objects c.args.self.now c.if-self-eq0.false) (ended.spent_is (g.H.Host.calls c.args.line) g.H.Host.hears g.H.Host.objects c.args.self.now) (subst (λ (z : ℤ). MatchBool c.holds.result (z ≢ pos 0) (z ≡ pos 0)) (to_z-of_z w64 c.in_ok-value.value f) c.holds.ensures) c.in_ok-value.ensures.evals

pub dollar_operand-returns-in_err-value-clause-evals : goal.dollar_operand-returns-in_err-value-clause-evals
dollar_operand-returns-in_err-value-clause-evals g t c =
    let p = err_from_is_err_and c.from_residual.result c.from_residual.ensures.1 in
    rw (p.1, p.2) (rw c.if-live.true (expressions.dollar_halts (g.H.Host.calls c.args.line) g.H.Host.hears c.args.levels c.args.text.now c.args.at (seen g.H.Host.objects c.args.self.now) (seen g.H.Host.objects c.variable.new.self) c.in_err-value.field-0.0 c.requires.opening c.in_err-value.ensures.evals))

pub dollar_operand-returns-in_err-number_in-clause-evals : goal.dollar_operand-returns-in_err-number_in-clause-evals
dollar_operand-returns-in_err-number_in-clause-evals g t c =
    let p = err_from_is_err_and c.from_residual-in_err-number_in.result c.from_residual-in_err-number_in.ensures.1 in
    rw (p.1, p.2) (rw c.if-live.true (expressions.dollar_fails (g.H.Host.calls c.args.line) g.H.Host.hears c.args.levels c.args.text.now c.args.at (seen g.H.Host.objects c.args.self.now) (seen g.H.Host.objects c.variable.new.self) (c.in_ok-value.value, c.in_ok-value.end) c.in_err-number_in.field-0.0 c.requires.opening c.in_ok-value.ensures.evals c.in_err-number_in.ensures))

pub dollar_operand-returns-then-live-clause-evals : goal.dollar_operand-returns-then-live-clause-evals
dollar_operand-returns-then-live-clause-evals g t c =
    let f : SFits w64 c.in_ok-number_in.field-0 = search rules in
    rw (to_z-of_z w64 c.in_ok-number_in.field-0 f) (rw c.if-live.true (expressions.dollar (g.H.Host.calls c.args.line) g.H.Host.hears c.args.levels c.args.text.now c.args.at (seen g.H.Host.objects c.args.self.now) (seen g.H.Host.objects c.variable.new.self) (c.in_ok-value.value, c.in_ok-value.end) c.in_ok-number_in.field-0 c.requires.opening c.in_ok-value.ensures.evals c.in_ok-number_in.ensures))

pub dollar_operand-returns-in_err-found-clause-evals : goal.dollar_operand-returns-in_err-found-clause-evals
dollar_operand-returns-in_err-found-clause-evals g t c =
    let p = err_from_is_err_and c.from_residual-in_err-found.result c.from_residual-in_err-found.ensures.1 in
    rw (p.1, p.2) (rw c.if-live.false (expressions.dollar_refused (g.H.Host.calls c.args.line) g.H.Host.hears c.args.levels c.args.text.now c.args.at (seen g.H.Host.objects c.args.self.now) c.in_err-found.field-0.0 c.requires.opening c.in_err-found.ensures.reference))

pub dollar_operand-returns-in-Some-clause-evals : goal.dollar_operand-returns-in-Some-clause-evals
dollar_operand-returns-in-Some-clause-evals g t c =
    rw c.if-live.false (expressions.dollar_passed (g.H.Host.calls c.args.line) g.H.Host.hears c.args.levels c.args.text.now c.args.at (seen g.H.Host.objects c.args.self.now) c.in-Some.found c.requires.opening (rw c.in-Some.is at c.in_ok-found.ensures.reference))

pub dollar_operand-returns-in-None-clause-evals : goal.dollar_operand-returns-in-None-clause-evals
dollar_operand-returns-in-None-clause-evals g t c =
    rw c.if-live.false (expressions.dollar_alone (g.H.Host.calls c.args.line) g.H.Host.hears c.args.levels c.args.text.now c.args.at (seen g.H.Host.objects c.args.self.now) c.requires.opening (rw c.in-None.is at c.in_ok-found.ensures.reference))

pub expression-returns-in_err-whole-clause-evals : goal.expression-returns-in_err-whole-clause-evals
expression-returns-in_err-whole-clause-evals g t c =
    let p = err_from_is_err_and c.from_residual.result c.from_residual.ensures.1 in
    rw (p.1, p.2) (expressions.malformed_ends (g.H.Host.calls c.args.line) g.H.Host.hears c.args.levels c.args.text.now (seen g.H.Host.objects c.args.self.now) (seen g.H.Host.objects c.whole.new.self) c.in_err-whole.field-0.0 c.in_err-whole.ensures.evals)

pub expression-returns-clause-evals : goal.expression-returns-clause-evals
expression-returns-clause-evals g t c =
    expressions.expression_ends (g.H.Host.calls c.args.line) g.H.Host.hears c.args.levels c.args.text.now (seen g.H.Host.objects c.args.self.now) (seen g.H.Host.objects c.whole.new.self) (seen g.H.Host.objects c.whole-2.new.self) c.in_ok-whole.field-0 c.whole-2.result c.in_ok-whole.ensures.evals c.whole-2.ensures.evals

pub inner_operand-returns-in_err-levels-clause-evals : goal.inner_operand-returns-in_err-levels-clause-evals
inner_operand-returns-in_err-levels-clause-evals g t c =
    let p = err_from_is_err_and c.from_residual.result c.from_residual.ensures.1 in
    rw (p.1, p.2) (expressions.prefix_deep (g.H.Host.calls c.args.line) g.H.Host.hears c.args.levels c.args.text.now c.args.at c.args.live (seen g.H.Host.objects c.args.self.now) c.in_err-levels.field-0.0 (inr (inr c.requires.opening)) c.in_err-levels.ensures.deep)

pub inner_operand-returns-in_err-value-clause-evals : goal.inner_operand-returns-in_err-value-clause-evals
inner_operand-returns-in_err-value-clause-evals g t c =
    let p = err_from_is_err_and c.from_residual-in_err-value.result c.from_residual-in_err-value.ensures.1 in
    rw (p.1, p.2) (expressions.inner_halts (g.H.Host.calls c.args.line) g.H.Host.hears c.args.levels c.in_ok-levels.levels c.args.text.now c.args.at c.args.live (seen g.H.Host.objects c.args.self.now) (seen g.H.Host.objects c.tier.new.self) c.in_err-value.field-0.0 c.requires.opening c.in_ok-levels.ensures.deeper c.in_err-value.ensures.evals)

pub inner_operand-returns-then-not-closes_at-clause-evals : goal.inner_operand-returns-then-not-closes_at-clause-evals
inner_operand-returns-then-not-closes_at-clause-evals g t c =
    expressions.not_closed (g.H.Host.calls c.args.line) g.H.Host.hears c.args.levels c.in_ok-levels.levels c.args.text.now c.args.at c.args.live (seen g.H.Host.objects c.args.self.now) (seen g.H.Host.objects c.tier.new.self) (c.in_ok-value.value, c.in_ok-value.end) c.requires.opening c.in_ok-levels.ensures.deeper c.in_ok-value.ensures.evals (sym (rw c.after_blanks-end.ensures.place at c.closes_at.ensures.closes) ∙ c.if-not-closes_at.true)

pub inner_operand-returns-clause-evals : goal.inner_operand-returns-clause-evals
inner_operand-returns-clause-evals g t c =
    let f : SFits w64 c.in_ok-value.value = search rules in
    rw (to_z-of_z w64 c.in_ok-value.value f) (rw c.after_blanks-end.ensures.place (expressions.parenthesis (g.H.Host.calls c.args.line) g.H.Host.hears c.args.levels c.in_ok-levels.levels c.args.text.now c.args.at c.args.live (seen g.H.Host.objects c.args.self.now) (seen g.H.Host.objects c.tier.new.self) (c.in_ok-value.value, c.in_ok-value.end) c.requires.opening c.in_ok-levels.ensures.deeper c.in_ok-value.ensures.evals (sym (rw c.after_blanks-end.ensures.place at c.closes_at.ensures.closes) ∙ c.if-not-closes_at.false)))

pub invoke-returns-in-None-clause-evals : goal.invoke-returns-in-None-clause-evals
invoke-returns-in-None-clause-evals g t c =
    ended.outer (g.H.Host.calls c.args.line) g.H.Host.hears g.H.Host.objects Value c.args.levels (Call c.args.words.now) c.args.self.now c.run_host.new.self c.run_host.result (c.run_host.ensures.evals c.args.levels)

pub invoke-returns-in-Some-Set-clause-evals : goal.invoke-returns-in-Some-Set-clause-evals
invoke-returns-in-Some-Set-clause-evals g t c =
    ended.outer (g.H.Host.calls c.args.line) g.H.Host.hears g.H.Host.objects Value c.args.levels (Call c.args.words.now) c.args.self.now c.run_set.new.self c.run_set.result (c.run_set.ensures.evals c.args.line c.args.levels)

pub invoke-returns-in-Some-Incr-clause-evals : goal.invoke-returns-in-Some-Incr-clause-evals
invoke-returns-in-Some-Incr-clause-evals g t c =
    ended.outer (g.H.Host.calls c.args.line) g.H.Host.hears g.H.Host.objects Value c.args.levels (Call c.args.words.now) c.args.self.now c.run_incr.new.self c.run_incr.result (c.run_incr.ensures.evals c.args.line c.args.levels)

pub invoke-returns-in-Some-Append-clause-evals : goal.invoke-returns-in-Some-Append-clause-evals
invoke-returns-in-Some-Append-clause-evals g t c =
    ended.outer (g.H.Host.calls c.args.line) g.H.Host.hears g.H.Host.objects Value c.args.levels (Call c.args.words.now) c.args.self.now c.run_append.new.self c.run_append.result (c.run_append.ensures.evals c.args.line c.args.levels)

pub invoke-returns-in-Some-Lappend-clause-evals : goal.invoke-returns-in-Some-Lappend-clause-evals
invoke-returns-in-Some-Lappend-clause-evals g t c =
    ended.outer (g.H.Host.calls c.args.line) g.H.Host.hears g.H.Host.objects Value c.args.levels (Call c.args.words.now) c.args.self.now c.run_lappend.new.self c.run_lappend.result (c.run_lappend.ensures.evals c.args.line c.args.levels)

pub minus_operand-returns-in_err-levels-clause-evals : goal.minus_operand-returns-in_err-levels-clause-evals
minus_operand-returns-in_err-levels-clause-evals g t c =
    let p = err_from_is_err_and c.from_residual.result c.from_residual.ensures.1 in
    rw (p.1, p.2) (expressions.prefix_deep (g.H.Host.calls c.args.line) g.H.Host.hears c.args.levels c.args.text.now c.args.at c.args.live (seen g.H.Host.objects c.args.self.now) c.in_err-levels.field-0.0 (inr (inl c.requires.opening)) c.in_err-levels.ensures.deep)

pub minus_operand-returns-in_err-value-clause-evals : goal.minus_operand-returns-in_err-value-clause-evals
minus_operand-returns-in_err-value-clause-evals g t c =
    let p = err_from_is_err_and c.from_residual-in_err-value.result c.from_residual-in_err-value.ensures.1 in
    rw (p.1, p.2) (expressions.minus_halts (g.H.Host.calls c.args.line) g.H.Host.hears c.args.levels c.in_ok-levels.levels c.args.text.now c.args.at c.args.live (seen g.H.Host.objects c.args.self.now) (seen g.H.Host.objects c.operand.new.self) c.in_err-value.field-0.0 c.requires.opening c.in_ok-levels.ensures.deeper (rw c.after_blanks.ensures.place at c.in_err-value.ensures.evals))

pub minus_operand-returns-in_err-negated-clause-evals : goal.minus_operand-returns-in_err-negated-clause-evals
minus_operand-returns-in_err-negated-clause-evals g t c =
    let p = err_from_is_err_and c.from_residual-in_err-negated.result c.from_residual-in_err-negated.ensures.1 in
    let f : SFits w64 c.in_ok-value.value = search rules in
    rw (p.1, p.2) (expressions.negate_fails (g.H.Host.calls c.args.line) g.H.Host.hears c.args.levels c.in_ok-levels.levels c.args.text.now c.args.at c.args.live (seen g.H.Host.objects c.args.self.now) (seen g.H.Host.objects c.operand.new.self) (c.in_ok-value.value, c.in_ok-value.end) c.in_err-negated.field-0.0 c.requires.opening c.in_ok-levels.ensures.deeper (rw c.after_blanks.ensures.place at c.in_ok-value.ensures.evals) (subst (λ (z : ℤ). IsValue (neg_ℤ z) (Err c.in_err-negated.field-0.0)) (to_z-of_z w64 c.in_ok-value.value f) c.in_err-negated.ensures))

pub minus_operand-returns-clause-evals : goal.minus_operand-returns-clause-evals
minus_operand-returns-clause-evals g t c =
    let f : SFits w64 c.in_ok-value.value = search rules in
    let n : SFits w64 c.in_ok-negated.field-0 = search rules in
    rw (to_z-of_z w64 c.in_ok-negated.field-0 n) (expressions.negates (g.H.Host.calls c.args.line) g.H.Host.hears c.args.levels c.in_ok-levels.levels c.args.text.now c.args.at c.args.live (seen g.H.Host.objects c.args.self.now) (seen g.H.Host.objects c.operand.new.self) (c.in_ok-value.value, c.in_ok-value.end) c.in_ok-negated.field-0 c.requires.opening c.in_ok-levels.ensures.deeper (rw c.after_blanks.ensures.place at c.in_ok-value.ensures.evals) (subst (λ (z : ℤ). IsValue (neg_ℤ z) (Ok c.in_ok-negated.field-0)) (to_z-of_z w64 c.in_ok-value.value f) c.in_ok-negated.ensures))

pub nested-returns-in_err-levels-clause-evals : goal.nested-returns-in_err-levels-clause-evals
nested-returns-in_err-levels-clause-evals g t c =
    let p = err_from_is_err_and c.from_residual.result c.from_residual.ensures.1 in
    rw (p.1, p.2) (scripts.nested_deep (g.H.Host.calls c.args.line) g.H.Host.hears c.args.levels c.args.text.now (seen g.H.Host.objects c.args.self.now) c.in_err-levels.field-0.0 c.in_err-levels.ensures.deep)

pub nested-returns-clause-evals : goal.nested-returns-clause-evals
nested-returns-clause-evals g t c =
    scripts.nested_ends (g.H.Host.calls c.args.line) g.H.Host.hears c.args.levels c.in_ok-levels.levels c.args.text.now (seen g.H.Host.objects c.args.self.now) (seen g.H.Host.objects c.script.new.self) c.script.result c.in_ok-levels.ensures.deeper c.script.ensures.evals

pub not_operand-returns-in_err-levels-clause-evals : goal.not_operand-returns-in_err-levels-clause-evals
not_operand-returns-in_err-levels-clause-evals g t c =
    let p = err_from_is_err_and c.from_residual.result c.from_residual.ensures.1 in
    rw (p.1, p.2) (expressions.prefix_deep (g.H.Host.calls c.args.line) g.H.Host.hears c.args.levels c.args.text.now c.args.at c.args.live (seen g.H.Host.objects c.args.self.now) c.in_err-levels.field-0.0 (inl c.requires.opening) c.in_err-levels.ensures.deep)

pub not_operand-returns-in_err-value-clause-evals : goal.not_operand-returns-in_err-value-clause-evals
not_operand-returns-in_err-value-clause-evals g t c =
    let p = err_from_is_err_and c.from_residual-in_err-value.result c.from_residual-in_err-value.ensures.1 in
    rw (p.1, p.2) (expressions.not_halts (g.H.Host.calls c.args.line) g.H.Host.hears c.args.levels c.in_ok-levels.levels c.args.text.now c.args.at c.args.live (seen g.H.Host.objects c.args.self.now) (seen g.H.Host.objects c.operand.new.self) c.in_err-value.field-0.0 c.requires.opening c.in_ok-levels.ensures.deeper (rw c.after_blanks.ensures.place at c.in_err-value.ensures.evals))

pub not_operand-returns-clause-evals : goal.not_operand-returns-clause-evals
not_operand-returns-clause-evals g t c =
    let f : SFits w64 c.in_ok-value.value = search rules in
    let n : SFits w64 c.alive.result = search rules in
    let k : SFits w64 c.turned.result = search rules in
    rw (to_z-of_z w64 c.alive.result n, c.alive.ensures, to_z-of_z w64 c.turned.result k) (expressions.not_ends (g.H.Host.calls c.args.line) g.H.Host.hears c.args.levels c.in_ok-levels.levels c.args.text.now c.args.at c.args.live (seen g.H.Host.objects c.args.self.now) (seen g.H.Host.objects c.operand.new.self) (c.in_ok-value.value, c.in_ok-value.end) c.turned.result c.requires.opening c.in_ok-levels.ensures.deeper (rw c.after_blanks.ensures.place at c.in_ok-value.ensures.evals) (subst (λ (z : ℤ). IsNot z c.turned.result) (to_z-of_z w64 c.in_ok-value.value f) c.turned.ensures))

pub operand-returns-in_err-literal-in-Digits-clause-evals : goal.operand-returns-in_err-literal-in-Digits-clause-evals
operand-returns-in_err-literal-in-Digits-clause-evals g t c =
    let p = err_from_is_err_and c.from_residual.result c.from_residual.ensures.1 in
    rw (p.1, p.2) (expressions.miswritten (g.H.Host.calls c.args.line) g.H.Host.hears c.args.levels c.args.text.now c.args.at c.args.live (seen g.H.Host.objects c.args.self.now) c.in_err-literal-in-Digits.field-0.0 (sym c.opening_at.ensures.opening ∙ c.in-Digits.is) c.in_err-literal-in-Digits.ensures.refused)

pub operand-returns-in_ok-literal-in-Digits-clause-evals : goal.operand-returns-in_ok-literal-in-Digits-clause-evals
operand-returns-in_ok-literal-in-Digits-clause-evals g t c =
    expressions.written_at (g.H.Host.calls c.args.line) g.H.Host.hears c.args.levels c.args.text.now c.args.at c.args.live (seen g.H.Host.objects c.args.self.now) c.in_ok-literal-in-Digits.field-0 (sym c.opening_at.ensures.opening ∙ c.in-Digits.is) c.in_ok-literal-in-Digits.ensures.written c.in_ok-literal-in-Digits.ensures.end

pub operand-returns-in-Nothing-clause-evals : goal.operand-returns-in-Nothing-clause-evals
operand-returns-in-Nothing-clause-evals g t c =
    expressions.no_operand (g.H.Host.calls c.args.line) g.H.Host.hears c.args.levels c.args.text.now c.args.at c.args.live (seen g.H.Host.objects c.args.self.now) (sym c.opening_at.ensures.opening ∙ c.in-Nothing.is)

pub run_expr-returns-then-words-lt2-clause-evals : goal.run_expr-returns-then-words-lt2-clause-evals
run_expr-returns-then-words-lt2-clause-evals g t c =
    controls.expr_arity (g.H.Host.calls c.args.line) g.H.Host.hears c.args.levels c.args.words.now (seen g.H.Host.objects c.args.self.now) c.requires.own c.if-words-lt2.true

pub run_expr-returns-in_err-joined-clause-evals : goal.run_expr-returns-in_err-joined-clause-evals
run_expr-returns-in_err-joined-clause-evals g t c =
    let p = err_from_is_err_and c.from_residual.result c.from_residual.ensures.1 in
    rw (p.1, p.2) (ended.free (g.H.Host.calls c.args.line) g.H.Host.hears Value c.args.levels (Call c.args.words.now) (seen g.H.Host.objects c.args.self.now) (seen g.H.Host.objects c.args.self.now))

pub run_expr-returns-in_err-text-clause-evals : goal.run_expr-returns-in_err-text-clause-evals
run_expr-returns-in_err-text-clause-evals g t c =
    let p = err_from_is_err_and c.from_residual-in_err-text.result c.from_residual-in_err-text.ensures.1 in
    rw (p.1, p.2) (controls.expr_long (g.H.Host.calls c.args.line) g.H.Host.hears c.args.levels c.args.words.now c.in_ok-joined.field-0 (seen g.H.Host.objects c.args.self.now) c.in_err-text.field-0.0 c.requires.own c.if-words-lt2.false (rw c.words_from.ensures at c.in_ok-joined.ensures) c.in_err-text.ensures.long)

pub run_expr-returns-in_err-number-clause-evals : goal.run_expr-returns-in_err-number-clause-evals
run_expr-returns-in_err-number-clause-evals g t c =
    let p = err_from_is_err_and c.from_residual-in_err-number.result c.from_residual-in_err-number.ensures.1 in
    rw (p.1, p.2) (controls.expr_halts (g.H.Host.calls c.args.line) g.H.Host.hears c.args.levels c.args.words.now c.in_ok-text.text (seen g.H.Host.objects c.args.self.now) (seen g.H.Host.objects c.expression.new.self) c.in_err-number.field-0.0 c.requires.own c.if-words-lt2.false (c.in_ok-text.ensures.value.0 ∙ (rw c.words_from.ensures at c.in_ok-joined.ensures)) (subst (λ (x : List ℕ). length x ≤ 65536) (sym c.in_ok-text.ensures.value.0) c.in_ok-text.ensures.value.1) (rw c.bytes.ensures at c.in_err-number.ensures.evals))

pub run_expr-returns-in_err-number_text-clause-evals : goal.run_expr-returns-in_err-number_text-clause-evals
run_expr-returns-in_err-number_text-clause-evals g t c =
    let p = err_from_is_err_and c.from_residual-in_err-number_text.result c.from_residual-in_err-number_text.ensures.1 in
    rw (p.1, p.2) (ended.free (g.H.Host.calls c.args.line) g.H.Host.hears Value c.args.levels (Call c.args.words.now) (seen g.H.Host.objects c.args.self.now) (seen g.H.Host.objects c.expression.new.self))

pub run_expr-returns-clause-evals : goal.run_expr-returns-clause-evals
run_expr-returns-clause-evals g t c =
    let f : SFits w64 c.in_ok-number.number = search rules in
    let v : c.in_ok-number_text.field-0 ≡ signed_decimal c.in_ok-number.number = c.in_ok-number_text.ensures ∙ ap signed_decimal (to_z-of_z w64 c.in_ok-number.number f) in
    controls.computes (g.H.Host.calls c.args.line) g.H.Host.hears c.args.levels c.args.words.now c.in_ok-text.text c.in_ok-number_text.field-0 (seen g.H.Host.objects c.args.self.now) (seen g.H.Host.objects c.expression.new.self) c.in_ok-number.number c.requires.own c.if-words-lt2.false (c.in_ok-text.ensures.value.0 ∙ (rw c.words_from.ensures at c.in_ok-joined.ensures)) (subst (λ (x : List ℕ). length x ≤ 65536) (sym c.in_ok-text.ensures.value.0) c.in_ok-text.ensures.value.1) (rw c.bytes.ensures at c.in_ok-number.ensures.evals) v

pub run_for-returns-then-words-ne5-clause-evals : goal.run_for-returns-then-words-ne5-clause-evals
run_for-returns-then-words-ne5-clause-evals g t c =
    controls.for_arity (g.H.Host.calls c.args.line) g.H.Host.hears c.args.levels c.args.words.now (seen g.H.Host.objects c.args.self.now) c.requires.own c.if-words-ne5.true

pub run_for-returns-in_err-nested-clause-evals : goal.run_for-returns-in_err-nested-clause-evals
run_for-returns-in_err-nested-clause-evals g t c =
    let p = err_from_is_err_and c.from_residual.result c.from_residual.ensures.1 in
    rw (p.1, p.2) (controls.start_halts (g.H.Host.calls c.args.line) g.H.Host.hears c.args.levels c.args.words.now c.index-words-1.result c.index-words-2.result c.index-words-3.result c.index-words-4.result (seen g.H.Host.objects c.args.self.now) (seen g.H.Host.objects c.nested.new.self) c.in_err-nested.field-0.0 c.requires.own c.index-words-1.is c.index-words-2.is c.index-words-3.is c.index-words-4.is c.if-words-ne5.false (rw c.bytes.ensures at c.in_err-nested.ensures.evals))

pub run_for-loop-self-init : goal.run_for-loop-self-init
run_for-loop-self-init g t c =
    record {
      left = omega arith;
      condition = subst (λ (x : List ℕ). length x ≤ 65536) (sym c.index-words-2.is) (c.requires.words 2 c.index-words-2.result (omega arith));
      next = subst (λ (x : List ℕ). length x ≤ 65536) (sym c.index-words-3.is) (c.requires.words 3 c.index-words-3.result (omega arith));
      body = subst (λ (x : List ℕ). length x ≤ 65536) (sym c.index-words-4.is) (c.requires.words 4 c.index-words-4.result (omega arith));
      rest = controls.for_starts (g.H.Host.calls c.args.line) g.H.Host.hears c.args.levels c.args.words.now c.index-words-1.result c.index-words-2.result c.index-words-3.result c.index-words-4.result c.in_ok-nested.field-0 (seen g.H.Host.objects c.args.self.now) (seen g.H.Host.objects c.nested.new.self) c.requires.own c.index-words-1.is c.index-words-2.is c.index-words-3.is c.index-words-4.is c.if-words-ne5.false (rw c.bytes.ensures at c.in_ok-nested.ensures.evals);
    }

pub run_for-returns-in_err-condition-clause-evals : goal.run_for-returns-in_err-condition-clause-evals
run_for-returns-in_err-condition-clause-evals g t c =
    let p = err_from_is_err_and c.from_residual-in_err-condition.result c.from_residual-in_err-condition.ensures.1 in
    rw (p.1, p.2) (controls.for_condition (g.H.Host.calls c.args.line) g.H.Host.hears c.args.levels c.index-words-2.result c.index-words-3.result c.index-words-4.result (seen g.H.Host.objects c.loop-self.self) (seen g.H.Host.objects c.condition.new.self) (seen g.H.Host.objects c.args.self.now) (Call c.args.words.now) c.in_err-condition.field-0.0 c.loop-self.invariant.rest (rw c.bytes-in-loop-self.ensures at c.in_err-condition.ensures.evals))

pub run_for-returns-in_err-nested-2-clause-evals : goal.run_for-returns-in_err-nested-2-clause-evals
run_for-returns-in_err-nested-2-clause-evals g t c =
    let p = err_from_is_err_and c.from_residual-in_err-nested-2.result c.from_residual-in_err-nested-2.ensures.1 in
    rw (p.1, p.2) (controls.body_halts (g.H.Host.calls c.args.line) g.H.Host.hears c.args.levels c.index-words-2.result c.index-words-3.result c.index-words-4.result (seen g.H.Host.objects c.loop-self.self) (seen g.H.Host.objects c.condition.new.self) (seen g.H.Host.objects c.nested-in-loop-self.new.self) (seen g.H.Host.objects c.args.self.now) (Call c.args.words.now) c.in_err-nested-2.field-0.0 c.loop-self.invariant.rest (rw c.if-branch.true at (rw c.bytes-in-loop-self.ensures at c.in_ok-condition.ensures.evals)) (rw c.bytes-in-loop-self-2.ensures at c.in_err-nested-2.ensures.evals))

pub run_for-returns-in_err-nested-3-clause-evals : goal.run_for-returns-in_err-nested-3-clause-evals
run_for-returns-in_err-nested-3-clause-evals g t c =
    let p = err_from_is_err_and c.from_residual-in_err-nested-3.result c.from_residual-in_err-nested-3.ensures.1 in
    rw (p.1, p.2) (controls.next_halts (g.H.Host.calls c.args.line) g.H.Host.hears c.args.levels c.index-words-2.result c.index-words-3.result c.index-words-4.result c.in_ok-nested-2.field-0 (seen g.H.Host.objects c.loop-self.self) (seen g.H.Host.objects c.condition.new.self) (seen g.H.Host.objects c.nested-in-loop-self.new.self) (seen g.H.Host.objects c.nested-in-loop-self-2.new.self) (seen g.H.Host.objects c.args.self.now) (Call c.args.words.now) c.in_err-nested-3.field-0.0 c.loop-self.invariant.rest (rw c.if-branch.true at (rw c.bytes-in-loop-self.ensures at c.in_ok-condition.ensures.evals)) (rw c.bytes-in-loop-self-2.ensures at c.in_ok-nested-2.ensures.evals) (rw c.bytes-in-loop-self-3.ensures at c.in_err-nested-3.ensures.evals))

pub run_for-loop-self-preserved : goal.run_for-loop-self-preserved
run_for-loop-self-preserved g t c =
    record {
      left = omega arith;
      condition = c.loop-self.invariant.condition;
      next = c.loop-self.invariant.next;
      body = c.loop-self.invariant.body;
      rest = controls.turns (g.H.Host.calls c.args.line) g.H.Host.hears c.args.levels c.index-words-2.result c.index-words-3.result c.index-words-4.result c.in_ok-nested-2.field-0 c.in_ok-nested-3.field-0 (seen g.H.Host.objects c.loop-self.self) (seen g.H.Host.objects c.condition.new.self) (seen g.H.Host.objects c.nested-in-loop-self.new.self) (seen g.H.Host.objects c.nested-in-loop-self-2.new.self) (seen g.H.Host.objects c.args.self.now) (Call c.args.words.now) c.loop-self.invariant.rest (rw c.if-branch.true at (rw c.bytes-in-loop-self.ensures at c.in_ok-condition.ensures.evals)) (rw c.bytes-in-loop-self-2.ensures at c.in_ok-nested-2.ensures.evals) (rw c.bytes-in-loop-self-3.ensures at c.in_ok-nested-3.ensures.evals);
    }

pub run_for-returns-clause-evals : goal.run_for-returns-clause-evals
run_for-returns-clause-evals g t c =
    controls.for_ends (g.H.Host.calls c.args.line) g.H.Host.hears c.args.levels c.index-words-2.result c.index-words-3.result c.index-words-4.result c.new.result (seen g.H.Host.objects c.loop-self.self) (seen g.H.Host.objects c.condition.new.self) (seen g.H.Host.objects c.args.self.now) (Call c.args.words.now) c.new.ensures c.loop-self.invariant.rest (rw c.if-branch.false at (rw c.bytes-in-loop-self.ensures at c.in_ok-condition.ensures.evals))

pub run_foreach-returns-then-words-ne4-clause-evals : goal.run_foreach-returns-then-words-ne4-clause-evals
run_foreach-returns-then-words-ne4-clause-evals g t c =
    controls.each_arity (g.H.Host.calls c.args.line) g.H.Host.hears c.args.levels c.args.words.now (seen g.H.Host.objects c.args.self.now) c.requires.own c.if-words-ne4.true

pub run_foreach-loop-start-init : goal.run_foreach-loop-start-init
run_foreach-loop-start-init g t c =
    record {
      left = omega arith;
      at = omega arith;
      body = subst (λ (x : List ℕ). length x ≤ 65536) (sym c.index-words-3.is) (c.requires.words 3 c.index-words-3.result (omega arith));
      rest = controls.goes_over (g.H.Host.calls c.args.line) g.H.Host.hears c.args.levels c.args.words.now c.index-words-1.result c.index-words-2.result c.index-words-3.result (seen g.H.Host.objects c.args.self.now) c.requires.own c.index-words-1.is c.index-words-2.is c.index-words-3.is c.if-words-ne4.false;
    }

pub run_foreach-returns-in_err-element-clause-evals : goal.run_foreach-returns-in_err-element-clause-evals
run_foreach-returns-in_err-element-clause-evals g t c =
    let p = err_from_is_err_and c.from_residual.result c.from_residual.ensures.1 in
    rw (p.1, p.2) (ended.free (g.H.Host.calls c.args.line) g.H.Host.hears Value c.args.levels (Call c.args.words.now) (seen g.H.Host.objects c.args.self.now) (seen g.H.Host.objects c.loop-start.self))

pub run_foreach-returns-in_err-write-clause-evals : goal.run_foreach-returns-in_err-write-clause-evals
run_foreach-returns-in_err-write-clause-evals g t c =
    let p = err_from_is_err_and c.from_residual-in_err-write.result c.from_residual-in_err-write.ensures.1 in
    rw (p.1, p.2) (ended.free (g.H.Host.calls c.args.line) g.H.Host.hears Value c.args.levels (Call c.args.words.now) (seen g.H.Host.objects c.args.self.now) (seen g.H.Host.objects c.write.new.self))

pub run_foreach-returns-in_err-nested-clause-evals : goal.run_foreach-returns-in_err-nested-clause-evals
run_foreach-returns-in_err-nested-clause-evals g t c =
    let p = err_from_is_err_and c.from_residual-in_err-nested.result c.from_residual-in_err-nested.ensures.1 in
    rw (p.1, p.2) (controls.each_halts (g.H.Host.calls c.args.line) g.H.Host.hears c.args.levels c.index-words-1.result c.index-words-2.result c.index-words-3.result c.in_ok-element.element c.loop-start.at c.in-Some.start c.in-Some.end (seen g.H.Host.objects c.loop-start.self) (seen g.H.Host.objects c.write.new.self) (seen g.H.Host.objects c.nested.new.self) (seen g.H.Host.objects c.args.self.now) (Call c.args.words.now) c.in_err-nested.field-0.0 (sym (rw c.bytes.ensures at c.element_at.ensures.element) ∙ c.in-Some.is) (rw c.bytes-in-Some.ensures at c.in_ok-element.ensures) (controls.written g.H.Host.objects c.loop-start.self c.write.new.self c.index-words-1.result c.in_ok-element.element c.in_ok-write.ensures.written) c.loop-start.invariant.rest (rw c.bytes-in-Some-2.ensures at c.in_err-nested.ensures.evals))

pub run_foreach-loop-start-preserved : goal.run_foreach-loop-start-preserved
run_foreach-loop-start-preserved g t c =
    record {
      left = omega arith;
      at = rw c.bytes.ensures at c.in-Some.ensures.lies.2;
      body = c.loop-start.invariant.body;
      rest = controls.each_done (g.H.Host.calls c.args.line) g.H.Host.hears c.args.levels c.index-words-1.result c.index-words-2.result c.index-words-3.result c.in_ok-element.element c.in_ok-nested.field-0 c.loop-start.at c.in-Some.start c.in-Some.end (seen g.H.Host.objects c.loop-start.self) (seen g.H.Host.objects c.write.new.self) (seen g.H.Host.objects c.nested.new.self) (seen g.H.Host.objects c.args.self.now) (Call c.args.words.now) (sym (rw c.bytes.ensures at c.element_at.ensures.element) ∙ c.in-Some.is) (rw c.bytes-in-Some.ensures at c.in_ok-element.ensures) (controls.written g.H.Host.objects c.loop-start.self c.write.new.self c.index-words-1.result c.in_ok-element.element c.in_ok-write.ensures.written) c.loop-start.invariant.rest (rw c.bytes-in-Some-2.ensures at c.in_ok-nested.ensures.evals);
    }

pub run_foreach-returns-clause-evals : goal.run_foreach-returns-clause-evals
run_foreach-returns-clause-evals g t c =
    controls.each_ends (g.H.Host.calls c.args.line) g.H.Host.hears c.args.levels c.index-words-1.result c.index-words-2.result c.index-words-3.result c.new.result c.loop-start.at (seen g.H.Host.objects c.loop-start.self) (seen g.H.Host.objects c.args.self.now) (Call c.args.words.now) (sym (rw c.bytes.ensures at c.element_at.ensures.element) ∙ none_of c.element_at.result c.in_default.not-Some) c.new.ensures c.loop-start.invariant.rest

pub run_if-returns-in_err-branches-clause-evals : goal.run_if-returns-in_err-branches-clause-evals
run_if-returns-in_err-branches-clause-evals g t c =
    let p = err_from_is_err_and c.from_residual.result c.from_residual.ensures.1 in
    rw (p.1, p.2) (ended.free (g.H.Host.calls c.args.line) g.H.Host.hears Value c.args.levels (Call c.args.words.now) (seen g.H.Host.objects c.args.self.now) (seen g.H.Host.objects c.args.self.now))

pub run_if-returns-in_default-clause-evals : goal.run_if-returns-in_default-clause-evals
run_if-returns-in_default-clause-evals g t c =
    controls.if_arity (g.H.Host.calls c.args.line) g.H.Host.hears c.args.levels c.args.words.now (seen g.H.Host.objects c.args.self.now) c.requires.own (sym (rw c.in_default.is at c.in_ok-branches.ensures.branches))

pub run_if-loop-branch-init : goal.run_if-loop-branch-init
run_if-loop-branch-init g t c =
    let b : branches_of c.args.words.now ≡ Some (map (branching_of c.args.words.now) c.in-Some.branches.items) = sym (rw c.in-Some.is at c.in_ok-branches.ensures.branches) in
    record {
      left = omega arith;
      rest = controls.if_starts (g.H.Host.calls c.args.line) g.H.Host.hears c.args.levels c.args.words.now (map (branching_of c.args.words.now) c.deref-branch-items.result.now) (seen g.H.Host.objects c.args.self.now) c.requires.own (rw c.deref-branch-items.ensures.value b);
    }

pub run_if-returns-in_err-taken-in-Some-condition-clause-evals : goal.run_if-returns-in_err-taken-in-Some-condition-clause-evals
run_if-returns-in_err-taken-in-Some-condition-clause-evals g t c =
    let p = err_from_is_err_and c.from_residual-in_err-taken-in-Some-condition.result c.from_residual-in_err-taken-in-Some-condition.ensures.1 in
    let lie = c.in_ok-branches.ensures.lie c.in-Some.branches c.in-Some.is c.loop-branch.branch-index (record { condition = None; body = 0 }) (rw c.deref-branch-items.ensures.value at c.loop-branch-test.true) in
    let lies : BranchLies (length c.args.words.now) (get_or c.deref-branch-items.result.now c.loop-branch.branch-index (record { condition = None; body = 0 })) = rw c.deref-branch-items.ensures.value lie in
    rw (p.1, p.2) (controls.branch_halts (g.H.Host.calls c.args.line) g.H.Host.hears c.args.levels c.index-words-place.result (slice_index_or c.args.words.now (get_or c.deref-branch-items.result.now c.loop-branch.branch-index (record { condition = None; body = 0 })).body []) (map (branching_of c.args.words.now) (drop c.loop-branch.branch-index c.deref-branch-items.result.now)) (map (branching_of c.args.words.now) (drop (c.loop-branch.branch-index + 1) c.deref-branch-items.result.now)) (seen g.H.Host.objects c.loop-branch.self) (seen g.H.Host.objects c.condition.new.self) (seen g.H.Host.objects c.args.self.now) (Call c.args.words.now) c.in_err-taken-in-Some-condition.field-0.0 (next_branch c.args.words.now c.deref-branch-items.result.now c.loop-branch.branch-index (record { condition = None; body = 0 }) c.loop-branch-test.true ∙ ap (λ (x : Branching). x ∷ (map (branching_of c.args.words.now) (drop (c.loop-branch.branch-index + 1) c.deref-branch-items.result.now))) (with_condition c.args.words.now (get_or c.deref-branch-items.result.now c.loop-branch.branch-index (record { condition = None; body = 0 })) c.in-Some-condition.place c.index-words-place.result c.in-Some-condition.is c.index-words-place.is (lies.1 c.in-Some-condition.place c.in-Some-condition.is))) c.loop-branch.invariant.rest (rw c.bytes.ensures at c.in_err-taken-in-Some-condition.ensures.evals))

pub run_if-returns-then-taken-clause-evals : goal.run_if-returns-then-taken-clause-evals
run_if-returns-then-taken-clause-evals g t c =
    let lie = c.in_ok-branches.ensures.lie c.in-Some.branches c.in-Some.is c.loop-branch.branch-index (record { condition = None; body = 0 }) (rw c.deref-branch-items.ensures.value at c.loop-branch-test.true) in
    let lies : BranchLies (length c.args.words.now) (get_or c.deref-branch-items.result.now c.loop-branch.branch-index (record { condition = None; body = 0 })) = rw c.deref-branch-items.ensures.value lie in
    let body : c.bytes-then-taken.result.now ≡ slice_index_or c.args.words.now (get_or c.deref-branch-items.result.now c.loop-branch.branch-index (record { condition = None; body = 0 })).body [] = c.bytes-then-taken.ensures ∙ sym (body_of c.args.words.now (get_or c.deref-branch-items.result.now c.loop-branch.branch-index (record { condition = None; body = 0 })).body c.index-words-branch.result c.index-words-branch.is lies.0) in
    elim c.match-branch-3.branch [
      | run_if-in-Some-condition+in_ok-taken-in-Some-condition w ↦
          controls.taken (g.H.Host.calls c.args.line) g.H.Host.hears c.args.levels w.index-words-place.result (slice_index_or c.args.words.now (get_or c.deref-branch-items.result.now c.loop-branch.branch-index (record { condition = None; body = 0 })).body []) (map (branching_of c.args.words.now) (drop c.loop-branch.branch-index c.deref-branch-items.result.now)) (map (branching_of c.args.words.now) (drop (c.loop-branch.branch-index + 1) c.deref-branch-items.result.now)) (seen g.H.Host.objects c.loop-branch.self) (seen g.H.Host.objects w.condition.new.self) (seen g.H.Host.objects c.nested.new.self) (seen g.H.Host.objects c.args.self.now) (Call c.args.words.now) c.nested.result (next_branch c.args.words.now c.deref-branch-items.result.now c.loop-branch.branch-index (record { condition = None; body = 0 }) c.loop-branch-test.true ∙ ap (λ (x : Branching). x ∷ (map (branching_of c.args.words.now) (drop (c.loop-branch.branch-index + 1) c.deref-branch-items.result.now))) (with_condition c.args.words.now (get_or c.deref-branch-items.result.now c.loop-branch.branch-index (record { condition = None; body = 0 })) w.in-Some-condition.place w.index-words-place.result w.in-Some-condition.is w.index-words-place.is (lies.1 w.in-Some-condition.place w.in-Some-condition.is))) c.loop-branch.invariant.rest
          (rw (← w.taken-is, c.if-taken.true) at (rw w.bytes.ensures at w.in_ok-taken-in-Some-condition.ensures.evals)) (rw (w.self-is, body) at c.nested.ensures.evals)
      | run_if-in-None w ↦
          controls.otherwise (g.H.Host.calls c.args.line) g.H.Host.hears c.args.levels (slice_index_or c.args.words.now (get_or c.deref-branch-items.result.now c.loop-branch.branch-index (record { condition = None; body = 0 })).body []) (map (branching_of c.args.words.now) (drop c.loop-branch.branch-index c.deref-branch-items.result.now)) (map (branching_of c.args.words.now) (drop (c.loop-branch.branch-index + 1) c.deref-branch-items.result.now)) (seen g.H.Host.objects c.loop-branch.self) (seen g.H.Host.objects c.nested.new.self) (seen g.H.Host.objects c.args.self.now) (Call c.args.words.now) c.nested.result (next_branch c.args.words.now c.deref-branch-items.result.now c.loop-branch.branch-index (record { condition = None; body = 0 }) c.loop-branch-test.true ∙ ap (λ (x : Branching). x ∷ (map (branching_of c.args.words.now) (drop (c.loop-branch.branch-index + 1) c.deref-branch-items.result.now))) (no_condition c.args.words.now (get_or c.deref-branch-items.result.now c.loop-branch.branch-index (record { condition = None; body = 0 })) w.in-None.is)) c.loop-branch.invariant.rest
          (rw (w.self-is, body) at c.nested.ensures.evals)
    ]

pub run_if-loop-branch-preserved : goal.run_if-loop-branch-preserved
run_if-loop-branch-preserved g t c =
    let lie = c.in_ok-branches.ensures.lie c.in-Some.branches c.in-Some.is c.loop-branch.branch-index (record { condition = None; body = 0 }) (rw c.deref-branch-items.ensures.value at c.loop-branch-test.true) in
    let lies : BranchLies (length c.args.words.now) (get_or c.deref-branch-items.result.now c.loop-branch.branch-index (record { condition = None; body = 0 })) = rw c.deref-branch-items.ensures.value lie in
    elim c.match-branch-3.branch [
      | run_if-in-Some-condition+in_ok-taken-in-Some-condition w ↦
          record {
            left = rw w.self-is (omega (arith, w.condition.ensures.left, c.loop-branch.invariant.left));
            rest = rw w.self-is (controls.not_taken (g.H.Host.calls c.args.line) g.H.Host.hears c.args.levels w.index-words-place.result (slice_index_or c.args.words.now (get_or c.deref-branch-items.result.now c.loop-branch.branch-index (record { condition = None; body = 0 })).body []) (map (branching_of c.args.words.now) (drop c.loop-branch.branch-index c.deref-branch-items.result.now)) (map (branching_of c.args.words.now) (drop (c.loop-branch.branch-index + 1) c.deref-branch-items.result.now)) (seen g.H.Host.objects c.loop-branch.self) (seen g.H.Host.objects w.condition.new.self) (seen g.H.Host.objects c.args.self.now) (Call c.args.words.now) (next_branch c.args.words.now c.deref-branch-items.result.now c.loop-branch.branch-index (record { condition = None; body = 0 }) c.loop-branch-test.true ∙ ap (λ (x : Branching). x ∷ (map (branching_of c.args.words.now) (drop (c.loop-branch.branch-index + 1) c.deref-branch-items.result.now))) (with_condition c.args.words.now (get_or c.deref-branch-items.result.now c.loop-branch.branch-index (record { condition = None; body = 0 })) w.in-Some-condition.place w.index-words-place.result w.in-Some-condition.is w.index-words-place.is (lies.1 w.in-Some-condition.place w.in-Some-condition.is))) c.loop-branch.invariant.rest
                (rw (← w.taken-is, c.if-taken.false) at (rw w.bytes.ensures at w.in_ok-taken-in-Some-condition.ensures.evals)));
          }
      | run_if-in-None w ↦ absurd (cc (w.taken-is, c.if-taken.false))
    ]

pub run_if-returns-clause-evals : goal.run_if-returns-clause-evals
run_if-returns-clause-evals g t c =
    controls.if_ends (g.H.Host.calls c.args.line) g.H.Host.hears c.args.levels c.new.result (map (branching_of c.args.words.now) (drop c.loop-branch.branch-index c.deref-branch-items.result.now)) (seen g.H.Host.objects c.loop-branch.self) (seen g.H.Host.objects c.args.self.now) (Call c.args.words.now) (ap (λ (bs : List Branch). map (branching_of c.args.words.now) bs) (drop_all c.loop-branch.branch-index c.deref-branch-items.result.now c.loop-branch-test.false)) c.new.ensures c.loop-branch.invariant.rest

pub script-returns-in_err-commands-clause-evals : goal.script-returns-in_err-commands-clause-evals
script-returns-in_err-commands-clause-evals g t c =
    let p = err_from_is_err_and c.from_residual.result c.from_residual.ensures.1 in
    rw (p.1, p.2) (ended.refused_out (g.H.Host.calls c.args.line) g.H.Host.hears c.args.text.now Value c.args.levels (Whole c.args.text.now) (seen g.H.Host.objects c.args.self.now) (seen g.H.Host.objects c.args.self.now) c.in_err-commands.field-0.0 (λ f is. rules_of.refused is) c.in_err-commands.ensures.refused)

pub script-loop-command-init : goal.script-loop-command-init
script-loop-command-init g t c =
    record { left = omega arith; rest = scripts.script_starts (g.H.Host.calls c.args.line) g.H.Host.hears c.args.levels c.args.text.now c.new-value.result (seen g.H.Host.objects c.args.self.now) c.deref-command-items.result.now (rw (← c.deref-command-items.ensures.value) at c.in_ok-commands.ensures.commands) c.new-value.ensures }

pub script-returns-in_err-value-clause-evals : goal.script-returns-in_err-value-clause-evals
script-returns-in_err-value-clause-evals g t c =
    let p = err_from_is_err_and c.from_residual-in_err-value.result c.from_residual-in_err-value.ensures.1 in
    rw (p.1, p.2) (scripts.command_halts (g.H.Host.calls c.args.line) g.H.Host.hears c.args.levels c.args.text.now c.loop-command.value (seen g.H.Host.objects c.loop-command.self) (seen g.H.Host.objects c.command.new.self) (seen g.H.Host.objects c.args.self.now) (Whole c.args.text.now) c.deref-command-items.result.now c.loop-command.command-index c.command-item.result c.in_err-value.field-0.0 c.loop-command-test.true c.command-item.is c.loop-command.invariant.rest c.in_err-value.ensures.evals)

pub script-loop-command-preserved : goal.script-loop-command-preserved
script-loop-command-preserved g t c =
    record { left = omega arith; rest = scripts.command_done (g.H.Host.calls c.args.line) g.H.Host.hears c.args.levels c.args.text.now c.loop-command.value c.in_ok-value.value (seen g.H.Host.objects c.loop-command.self) (seen g.H.Host.objects c.command.new.self) (seen g.H.Host.objects c.args.self.now) (Whole c.args.text.now) c.deref-command-items.result.now c.loop-command.command-index c.command-item.result c.loop-command-test.true c.command-item.is c.loop-command.invariant.rest c.in_ok-value.ensures.evals }

pub script-returns-clause-evals : goal.script-returns-clause-evals
script-returns-clause-evals g t c =
    scripts.script_ends (g.H.Host.calls c.args.line) g.H.Host.hears c.args.levels c.args.text.now c.loop-command.value (seen g.H.Host.objects c.loop-command.self) (seen g.H.Host.objects c.args.self.now) (Whole c.args.text.now) c.deref-command-items.result.now c.loop-command.command-index (drop_all c.loop-command.command-index c.deref-command-items.result.now c.loop-command-test.false) c.loop-command.invariant.rest

pub substitute-loop-part-init : goal.substitute-loop-part-init
substitute-loop-part-init g t c =
    record { left = omega arith; rest = parts.parts_start (g.H.Host.calls c.args.line) g.H.Host.hears c.args.levels c.args.text.now c.new-value.result c.args.in_index (seen g.H.Host.objects c.args.self.now) c.args.parts.now c.new-value.ensures }

pub substitute-returns-in_err-push_bytes-in-Plain-clause-evals : goal.substitute-returns-in_err-push_bytes-in-Plain-clause-evals
substitute-returns-in_err-push_bytes-in-Plain-clause-evals g t c =
    let p = err_from_is_err_and c.from_residual.result c.from_residual.ensures.1 in
    rw (p.1, p.2) (ended.free (g.H.Host.calls c.args.line) g.H.Host.hears Value c.args.levels (Parts c.args.text.now c.args.in_index c.args.parts.now []) (seen g.H.Host.objects c.args.self.now) (seen g.H.Host.objects c.loop-part.self))

pub substitute-returns-in_err-push-in-Escape-clause-evals : goal.substitute-returns-in_err-push-in-Escape-clause-evals
substitute-returns-in_err-push-in-Escape-clause-evals g t c =
    let p = err_from_is_err_and c.from_residual-in_err-push-in-Escape.result c.from_residual-in_err-push-in-Escape.ensures.1 in
    rw (p.1, p.2) (ended.free (g.H.Host.calls c.args.line) g.H.Host.hears Value c.args.levels (Parts c.args.text.now c.args.in_index c.args.parts.now []) (seen g.H.Host.objects c.args.self.now) (seen g.H.Host.objects c.loop-part.self))

pub substitute-returns-in_err-more-in-Variable-clause-evals : goal.substitute-returns-in_err-more-in-Variable-clause-evals
substitute-returns-in_err-more-in-Variable-clause-evals g t c =
    let p = err_from_is_err_and c.from_residual-in_err-more-in-Variable.result c.from_residual-in_err-more-in-Variable.ensures.1 in
    rw (p.1, p.2) (parts.variable_halts (g.H.Host.calls c.args.line) g.H.Host.hears c.args.levels c.args.text.now c.loop-part.value c.args.in_index (seen g.H.Host.objects c.loop-part.self) (seen g.H.Host.objects c.variable.new.self) (seen g.H.Host.objects c.args.self.now) (Parts c.args.text.now c.args.in_index c.args.parts.now []) (drop c.loop-part.part-index c.args.parts.now) (drop (c.loop-part.part-index + 1) c.args.parts.now) c.in-Variable.start c.in-Variable.end c.in_err-more-in-Variable.field-0.0 (parts.part_on c.args.parts.now c.loop-part.part-index (Plain 0 0) (Variable c.in-Variable.start c.in-Variable.end) c.loop-part-test.true c.in-Variable.is) c.in_err-more-in-Variable.ensures.evals c.loop-part.invariant.rest)

pub substitute-returns-in_err-push_bytes-in-Variable-clause-evals : goal.substitute-returns-in_err-push_bytes-in-Variable-clause-evals
substitute-returns-in_err-push_bytes-in-Variable-clause-evals g t c =
    let p = err_from_is_err_and c.from_residual-in_err-push_bytes-in-Variable.result c.from_residual-in_err-push_bytes-in-Variable.ensures.1 in
    rw (p.1, p.2) (ended.free (g.H.Host.calls c.args.line) g.H.Host.hears Value c.args.levels (Parts c.args.text.now c.args.in_index c.args.parts.now []) (seen g.H.Host.objects c.args.self.now) (seen g.H.Host.objects c.variable.new.self))

pub substitute-returns-in_err-more-in-Script-clause-evals : goal.substitute-returns-in_err-more-in-Script-clause-evals
substitute-returns-in_err-more-in-Script-clause-evals g t c =
    let p = err_from_is_err_and c.from_residual-in_err-more-in-Script.result c.from_residual-in_err-more-in-Script.ensures.1 in
    rw (p.1, p.2) (parts.script_halts (g.H.Host.calls c.args.line) g.H.Host.hears c.args.levels c.args.text.now c.loop-part.value c.args.in_index (seen g.H.Host.objects c.loop-part.self) (seen g.H.Host.objects c.nested.new.self) (seen g.H.Host.objects c.args.self.now) (Parts c.args.text.now c.args.in_index c.args.parts.now []) (drop c.loop-part.part-index c.args.parts.now) (drop (c.loop-part.part-index + 1) c.args.parts.now) c.in-Script.start c.in-Script.end c.in_err-more-in-Script.field-0.0 (parts.part_on c.args.parts.now c.loop-part.part-index (Plain 0 0) (Script c.in-Script.start c.in-Script.end) c.loop-part-test.true c.in-Script.is) c.in_err-more-in-Script.ensures.evals c.loop-part.invariant.rest)

pub substitute-returns-in_err-push_bytes-in-Script-clause-evals : goal.substitute-returns-in_err-push_bytes-in-Script-clause-evals
substitute-returns-in_err-push_bytes-in-Script-clause-evals g t c =
    let p = err_from_is_err_and c.from_residual-in_err-push_bytes-in-Script.result c.from_residual-in_err-push_bytes-in-Script.ensures.1 in
    rw (p.1, p.2) (ended.free (g.H.Host.calls c.args.line) g.H.Host.hears Value c.args.levels (Parts c.args.text.now c.args.in_index c.args.parts.now []) (seen g.H.Host.objects c.args.self.now) (seen g.H.Host.objects c.nested.new.self))

pub substitute-loop-part-preserved : goal.substitute-loop-part-preserved
substitute-loop-part-preserved g t c =
    elim c.match-part.branch [
      | substitute-in-Plain+in_ok-push_bytes-in-Plain w ↦
          record { left = rw w.self-is (omega (arith, c.loop-part.invariant.left)); rest = rw (w.self-is, w.value-is) (parts.plain_done (g.H.Host.calls c.args.line) g.H.Host.hears c.args.levels c.args.text.now c.loop-part.value w.push_bytes.new.self c.args.in_index (seen g.H.Host.objects c.loop-part.self) (seen g.H.Host.objects c.args.self.now) (Parts c.args.text.now c.args.in_index c.args.parts.now []) (drop c.loop-part.part-index c.args.parts.now) (drop (c.loop-part.part-index + 1) c.args.parts.now) w.in-Plain.start w.in-Plain.end (parts.part_on c.args.parts.now c.loop-part.part-index (Plain 0 0) (Plain w.in-Plain.start w.in-Plain.end) c.loop-part-test.true w.in-Plain.is) w.in_ok-push_bytes-in-Plain.ensures.ok c.loop-part.invariant.rest) }
      | substitute-in-Escape+in_ok-push-in-Escape w ↦
          record { left = rw w.self-is (omega (arith, c.loop-part.invariant.left)); rest = rw (w.self-is, w.value-is) (parts.escape_done (g.H.Host.calls c.args.line) g.H.Host.hears c.args.levels c.args.text.now c.loop-part.value w.push.new.self c.args.in_index (seen g.H.Host.objects c.loop-part.self) (seen g.H.Host.objects c.args.self.now) (Parts c.args.text.now c.args.in_index c.args.parts.now []) (drop c.loop-part.part-index c.args.parts.now) (drop (c.loop-part.part-index + 1) c.args.parts.now) w.in-Escape.byte (parts.part_on c.args.parts.now c.loop-part.part-index (Plain 0 0) (Escape w.in-Escape.byte) c.loop-part-test.true w.in-Escape.is) w.in_ok-push-in-Escape.ensures.ok c.loop-part.invariant.rest) }
      | substitute-in-Variable+in_ok-more-in-Variable+in_ok-push_bytes-in-Variable w ↦
          record { left = rw w.self-is (omega (arith, w.variable.ensures.left, c.loop-part.invariant.left)); rest = rw (w.self-is, w.value-is) (parts.variable_done (g.H.Host.calls c.args.line) g.H.Host.hears c.args.levels c.args.text.now c.loop-part.value w.push_bytes-in-Variable.new.self c.args.in_index (seen g.H.Host.objects c.loop-part.self) (seen g.H.Host.objects w.variable.new.self) (seen g.H.Host.objects c.args.self.now) (Parts c.args.text.now c.args.in_index c.args.parts.now []) (drop c.loop-part.part-index c.args.parts.now) (drop (c.loop-part.part-index + 1) c.args.parts.now) w.in-Variable.start w.in-Variable.end (w.in_ok-more-in-Variable.more, w.in_ok-more-in-Variable.field-0-1) (parts.part_on c.args.parts.now c.loop-part.part-index (Plain 0 0) (Variable w.in-Variable.start w.in-Variable.end) c.loop-part-test.true w.in-Variable.is) (rw w.bytes.ensures at w.in_ok-push_bytes-in-Variable.ensures.ok) w.in_ok-more-in-Variable.ensures.evals c.loop-part.invariant.rest) }
      | substitute-in-Script+in_ok-more-in-Script+in_ok-push_bytes-in-Script w ↦
          record { left = rw w.self-is (omega (arith, w.nested.ensures.left, c.loop-part.invariant.left)); rest = rw (w.self-is, w.value-is) (parts.script_done (g.H.Host.calls c.args.line) g.H.Host.hears c.args.levels c.args.text.now c.loop-part.value w.push_bytes-in-Script.new.self w.in_ok-more-in-Script.more c.args.in_index (seen g.H.Host.objects c.loop-part.self) (seen g.H.Host.objects w.nested.new.self) (seen g.H.Host.objects c.args.self.now) (Parts c.args.text.now c.args.in_index c.args.parts.now []) (drop c.loop-part.part-index c.args.parts.now) (drop (c.loop-part.part-index + 1) c.args.parts.now) w.in-Script.start w.in-Script.end (parts.part_on c.args.parts.now c.loop-part.part-index (Plain 0 0) (Script w.in-Script.start w.in-Script.end) c.loop-part-test.true w.in-Script.is) (rw w.bytes-in-Script.ensures at w.in_ok-push_bytes-in-Script.ensures.ok) w.in_ok-more-in-Script.ensures.evals c.loop-part.invariant.rest) }
    ]

pub substitute-returns-clause-evals : goal.substitute-returns-clause-evals
substitute-returns-clause-evals g t c =
    parts.parts_end (g.H.Host.calls c.args.line) g.H.Host.hears c.args.levels c.args.text.now c.loop-part.value c.args.in_index (seen g.H.Host.objects c.loop-part.self) (seen g.H.Host.objects c.args.self.now) (Parts c.args.text.now c.args.in_index c.args.parts.now []) (drop c.loop-part.part-index c.args.parts.now) c.short.result (drop_all c.loop-part.part-index c.args.parts.now c.loop-part-test.false) c.loop-part.invariant.rest c.short.ensures.value c.short.ensures.long

pub tier-returns-then-tier-eq-TIERS-clause-evals : goal.tier-returns-then-tier-eq-TIERS-clause-evals
tier-returns-then-tier-eq-TIERS-clause-evals g t c =
    expressions.tightest_ends (g.H.Host.calls c.args.line) g.H.Host.hears c.args.levels c.args.text.now c.args.at c.args.tier c.args.live (seen g.H.Host.objects c.args.self.now) (seen g.H.Host.objects c.operand.new.self) c.operand.result c.if-tier-eq-TIERS.true (rw c.after_blanks.ensures.place at c.operand.ensures.evals)

pub tier-returns-in_err-left-clause-evals : goal.tier-returns-in_err-left-clause-evals
tier-returns-in_err-left-clause-evals g t c =
    let p = err_from_is_err_and c.from_residual.result c.from_residual.ensures.1 in
    rw (p.1, p.2) (expressions.left_halts (g.H.Host.calls c.args.line) g.H.Host.hears c.args.levels c.args.text.now c.args.at c.args.tier c.args.live (seen g.H.Host.objects c.args.self.now) (seen g.H.Host.objects c.tier.new.self) c.in_err-left.field-0.0 (omega arith) c.in_err-left.ensures.evals)

pub tier-loop-operator-init : goal.tier-loop-operator-init
tier-loop-operator-init g t c =
    let f : SFits w64 c.in_ok-left.left = search rules in
    record {
      left = omega arith;
      at = c.in_ok-left.ensures.forward.1;
      forward = c.in_ok-left.ensures.forward.0;
      rest = rw (to_z-of_z w64 c.in_ok-left.left f) (expressions.chain_starts (g.H.Host.calls c.args.line) g.H.Host.hears c.args.levels c.args.text.now c.args.at c.args.tier c.args.live (seen g.H.Host.objects c.args.self.now) (seen g.H.Host.objects c.tier.new.self) (c.in_ok-left.left, c.in_ok-left.at) (omega arith) c.in_ok-left.ensures.evals);
    }

pub tier-returns-in_err-right-clause-evals : goal.tier-returns-in_err-right-clause-evals
tier-returns-in_err-right-clause-evals g t c =
    let p = err_from_is_err_and c.from_residual-in_err-right.result c.from_residual-in_err-right.ensures.1 in
    rw (p.1, p.2) (expressions.right_halts (g.H.Host.calls c.args.line) g.H.Host.hears c.args.levels c.args.text.now c.loop-operator.at c.in-Some.start c.args.tier c.args.live c.is_needed-needed.result (to_z w64 c.loop-operator.left-bits) c.in-Some.operator (seen g.H.Host.objects c.loop-operator.self) (seen g.H.Host.objects c.tier-in-Some.new.self) (seen g.H.Host.objects c.args.self.now) (Tier c.args.text.now c.args.at c.args.tier c.args.live) c.in_err-right.field-0.0 (sym c.operator_at.ensures.operator ∙ c.in-Some.is) c.is_needed-needed.ensures c.loop-operator.invariant.rest c.in_err-right.ensures.evals)

pub tier-returns-in_err-left-2-clause-evals : goal.tier-returns-in_err-left-2-clause-evals
tier-returns-in_err-left-2-clause-evals g t c =
    let f : SFits w64 c.in_ok-right.right = search rules in
    let p = err_from_is_err_and c.from_residual-in_err-left-2.result c.from_residual-in_err-left-2.ensures.1 in
    rw (p.1, p.2) (rw c.if-live.true (expressions.apply_fails (g.H.Host.calls c.args.line) g.H.Host.hears c.args.levels c.args.text.now c.loop-operator.at c.in-Some.start c.args.tier c.is_needed-needed.result (to_z w64 c.loop-operator.left-bits) c.in-Some.operator (seen g.H.Host.objects c.loop-operator.self) (seen g.H.Host.objects c.tier-in-Some.new.self) (seen g.H.Host.objects c.args.self.now) (Tier c.args.text.now c.args.at c.args.tier true) (c.in_ok-right.right, c.in_ok-right.end) c.in_err-left-2.field-0.0 (sym c.operator_at.ensures.operator ∙ c.in-Some.is) (rw c.if-live.true at c.is_needed-needed.ensures) (rw c.if-live.true at c.loop-operator.invariant.rest) c.in_ok-right.ensures.evals (subst (λ (z : ℤ). Applies c.in-Some.operator (to_z w64 c.loop-operator.left-bits) z (Err c.in_err-left-2.field-0.0)) (to_z-of_z w64 c.in_ok-right.right f) c.in_err-left-2.ensures)))

pub tier-loop-operator-preserved-in_ok-left-2 : goal.tier-loop-operator-preserved-in_ok-left-2
tier-loop-operator-preserved-in_ok-left-2 g t c =
    let f : SFits w64 c.in_ok-right.right = search rules in
    let n : SFits w64 c.in_ok-left-2.left = search rules in
    record {
      left = omega arith;
      at = c.in_ok-right.ensures.forward.1;
      forward = omega (arith, c.in-Some.ensures.forward, c.in_ok-right.ensures.forward.0, c.loop-operator.invariant.forward);
      rest = rw (to_z-of_z w64 c.in_ok-left-2.left n, c.if-live.true) (expressions.chain_applies (g.H.Host.calls c.args.line) g.H.Host.hears c.args.levels c.args.text.now c.loop-operator.at c.in-Some.start c.args.tier c.is_needed-needed.result (to_z w64 c.loop-operator.left-bits) c.in_ok-left-2.left c.in-Some.operator (seen g.H.Host.objects c.loop-operator.self) (seen g.H.Host.objects c.tier-in-Some.new.self) (seen g.H.Host.objects c.args.self.now) (Tier c.args.text.now c.args.at c.args.tier true) (c.in_ok-right.right, c.in_ok-right.end) (sym c.operator_at.ensures.operator ∙ c.in-Some.is) (rw c.if-live.true at c.is_needed-needed.ensures) (rw c.if-live.true at c.loop-operator.invariant.rest) c.in_ok-right.ensures.evals (subst (λ (z : ℤ). Applies c.in-Some.operator (to_z w64 c.loop-operator.left-bits) z (Ok c.in_ok-left-2.left)) (to_z-of_z w64 c.in_ok-right.right f) c.in_ok-left-2.ensures));
    }

pub tier-loop-operator-preserved : goal.tier-loop-operator-preserved
tier-loop-operator-preserved g t c =
    let unneeded : c.is_needed-needed.result ≡ false = rw c.if-live.false at c.is_needed-needed.ensures in
    record {
      left = omega arith;
      at = c.in_ok-right.ensures.forward.1;
      forward = omega (arith, c.in-Some.ensures.forward, c.in_ok-right.ensures.forward.0, c.loop-operator.invariant.forward);
      rest = rw c.if-live.false (expressions.chain_passes (g.H.Host.calls c.args.line) g.H.Host.hears c.args.levels c.args.text.now c.loop-operator.at c.in-Some.start c.args.tier (to_z w64 c.loop-operator.left-bits) c.in-Some.operator (seen g.H.Host.objects c.loop-operator.self) (seen g.H.Host.objects c.tier-in-Some.new.self) (seen g.H.Host.objects c.args.self.now) (Tier c.args.text.now c.args.at c.args.tier false) (c.in_ok-right.right, c.in_ok-right.end) (sym c.operator_at.ensures.operator ∙ c.in-Some.is) (rw c.if-live.false at c.loop-operator.invariant.rest) (rw unneeded at c.in_ok-right.ensures.evals));
    }

pub tier-returns-clause-evals : goal.tier-returns-clause-evals
tier-returns-clause-evals g t c =
    expressions.chain_ends (g.H.Host.calls c.args.line) g.H.Host.hears c.args.levels c.args.text.now c.loop-operator.at c.args.tier c.args.live (to_z w64 c.loop-operator.left-bits) (seen g.H.Host.objects c.loop-operator.self) (seen g.H.Host.objects c.args.self.now) (Tier c.args.text.now c.args.at c.args.tier c.args.live) (sym c.operator_at.ensures.operator ∙ none_of c.operator_at.result c.in_default.not-Some) c.loop-operator.invariant.rest

pub variable-returns-in_err-found-clause-evals : goal.variable-returns-in_err-found-clause-evals
variable-returns-in_err-found-clause-evals g t c =
    let p = err_from_is_err_and c.from_residual.result c.from_residual.ensures.1 in
    rw (p.1, p.2) (parts.index_refused (g.H.Host.calls c.args.line) g.H.Host.hears c.args.levels c.args.text.now c.args.at c.args.in_index (seen g.H.Host.objects c.args.self.now) c.in_err-found.field-0.0 c.in_err-found.ensures.reference)

pub variable-returns-in_default-clause-evals : goal.variable-returns-in_default-clause-evals
variable-returns-in_default-clause-evals g t c =
    parts.no_variable (g.H.Host.calls c.args.line) g.H.Host.hears c.args.levels c.args.text.now c.args.at c.args.in_index (seen g.H.Host.objects c.args.self.now) (rw (none_of c.in_ok-found.field-0 c.in_default.not-Some) at c.in_ok-found.ensures.reference)

pub variable-returns-in_err-named-clause-evals : goal.variable-returns-in_err-named-clause-evals
variable-returns-in_err-named-clause-evals g t c =
    let p = err_from_is_err_and c.from_residual-in_err-named.result c.from_residual-in_err-named.ensures.1 in
    rw (p.1, p.2) (parts.named_fails (g.H.Host.calls c.args.line) g.H.Host.hears g.H.Host.objects c.args.self.now c.args.levels c.args.text.now (slice_range c.args.text.now c.in-Some.found.name_start c.in-Some.found.name_end) c.args.at c.args.in_index c.in-Some.found c.in_err-named.field-0.0 (rw c.in-Some.is at c.in_ok-found.ensures.reference) (none_of c.in-Some.found.index c.in_default-index.not-Some) refl c.in_err-named.ensures)

pub variable-returns-in_default-index-clause-evals : goal.variable-returns-in_default-index-clause-evals
variable-returns-in_default-index-clause-evals g t c =
    parts.named_ends (g.H.Host.calls c.args.line) g.H.Host.hears g.H.Host.objects c.args.self.now c.args.levels c.args.text.now (slice_range c.args.text.now c.in-Some.found.name_start c.in-Some.found.name_end) c.in_ok-named.field-0 c.args.at c.args.in_index c.in-Some.found (rw c.in-Some.is at c.in_ok-found.ensures.reference) (none_of c.in-Some.found.index c.in_default-index.not-Some) refl c.in_ok-named.ensures

pub variable-returns-in_err-levels-clause-evals : goal.variable-returns-in_err-levels-clause-evals
variable-returns-in_err-levels-clause-evals g t c =
    let p = err_from_is_err_and c.from_residual-in_err-levels.result c.from_residual-in_err-levels.ensures.1 in
    rw (p.1, p.2) (parts.index_deep (g.H.Host.calls c.args.line) g.H.Host.hears c.args.levels c.args.text.now c.args.at c.args.in_index (seen g.H.Host.objects c.args.self.now) c.in-Some.found c.in-Some-index.index c.in_err-levels.field-0.0 (rw c.in-Some.is at c.in_ok-found.ensures.reference) c.in-Some-index.is c.in_err-levels.ensures.deep)

pub variable-returns-in_err-index-clause-evals : goal.variable-returns-in_err-index-clause-evals
variable-returns-in_err-index-clause-evals g t c =
    let p = err_from_is_err_and c.from_residual-in_err-index.result c.from_residual-in_err-index.ensures.1 in
    rw (p.1, p.2) (parts.index_halts (g.H.Host.calls c.args.line) g.H.Host.hears c.args.levels c.in_ok-levels.levels c.args.text.now c.args.at c.args.in_index (seen g.H.Host.objects c.args.self.now) (seen g.H.Host.objects c.substitute.new.self) c.in-Some.found c.in-Some-index.index c.in_err-index.field-0.0 (rw c.in-Some.is at c.in_ok-found.ensures.reference) c.in-Some-index.is c.in_ok-levels.ensures.deeper (rw c.as_slice.ensures at c.in_err-index.ensures.evals))

pub variable-returns-in_err-indexed_name-clause-evals : goal.variable-returns-in_err-indexed_name-clause-evals
variable-returns-in_err-indexed_name-clause-evals g t c =
    let p = err_from_is_err_and c.from_residual-in_err-indexed_name.result c.from_residual-in_err-indexed_name.ensures.1 in
    rw (p.1, p.2) (ended.free (g.H.Host.calls c.args.line) g.H.Host.hears (λ (x : List ℕ × ℕ). ValueAt x.0 x.1) c.args.levels (Named c.args.text.now c.args.at c.args.in_index) (seen g.H.Host.objects c.args.self.now) (seen g.H.Host.objects c.substitute.new.self))

pub variable-returns-in_err-name-clause-evals : goal.variable-returns-in_err-name-clause-evals
variable-returns-in_err-name-clause-evals g t c =
    let p = err_from_is_err_and c.from_residual-in_err-name.result c.from_residual-in_err-name.ensures.1 in
    rw (p.1, p.2) (parts.index_long (g.H.Host.calls c.args.line) g.H.Host.hears c.args.levels c.in_ok-levels.levels c.args.text.now c.in_ok-index.index c.in_ok-indexed_name.field-0 c.args.at c.args.in_index (seen g.H.Host.objects c.args.self.now) (seen g.H.Host.objects c.substitute.new.self) c.in-Some.found c.in-Some-index.index c.in_err-name.field-0.0 (rw c.in-Some.is at c.in_ok-found.ensures.reference) c.in-Some-index.is c.in_ok-levels.ensures.deeper (rw c.as_slice.ensures at c.in_ok-index.ensures.evals) (rw c.bytes.ensures at c.in_ok-indexed_name.ensures.name) c.in_err-name.ensures.long)

pub variable-returns-in_err-read-clause-evals : goal.variable-returns-in_err-read-clause-evals
variable-returns-in_err-read-clause-evals g t c =
    let p = err_from_is_err_and c.from_residual-in_err-read.result c.from_residual-in_err-read.ensures.1 in
    rw (p.1, p.2) (parts.indexed_fails (g.H.Host.calls c.args.line) g.H.Host.hears g.H.Host.objects c.substitute.new.self c.args.levels c.in_ok-levels.levels c.args.text.now c.in_ok-index.index c.in_ok-name.name c.args.at c.args.in_index (seen g.H.Host.objects c.args.self.now) c.in-Some.found c.in-Some-index.index c.in_err-read.field-0.0 (rw c.in-Some.is at c.in_ok-found.ensures.reference) c.in-Some-index.is c.in_ok-levels.ensures.deeper (rw c.as_slice.ensures at c.in_ok-index.ensures.evals) (c.in_ok-name.ensures.value.0 ∙ (rw c.bytes.ensures at c.in_ok-indexed_name.ensures.name)) (subst (λ (x : List ℕ). length x ≤ 65536) (sym c.in_ok-name.ensures.value.0) c.in_ok-name.ensures.value.1) c.in_err-read.ensures)

pub variable-returns-clause-evals : goal.variable-returns-clause-evals
variable-returns-clause-evals g t c =
    parts.indexed_ends (g.H.Host.calls c.args.line) g.H.Host.hears g.H.Host.objects c.substitute.new.self c.args.levels c.in_ok-levels.levels c.args.text.now c.in_ok-index.index c.in_ok-name.name c.in_ok-read.field-0 c.args.at c.args.in_index (seen g.H.Host.objects c.args.self.now) c.in-Some.found c.in-Some-index.index (rw c.in-Some.is at c.in_ok-found.ensures.reference) c.in-Some-index.is c.in_ok-levels.ensures.deeper (rw c.as_slice.ensures at c.in_ok-index.ensures.evals) (c.in_ok-name.ensures.value.0 ∙ (rw c.bytes.ensures at c.in_ok-indexed_name.ensures.name)) (subst (λ (x : List ℕ). length x ≤ 65536) (sym c.in_ok-name.ensures.value.0) c.in_ok-name.ensures.value.1) c.in_ok-read.ensures

pub whole-returns-in_err-value-clause-evals : goal.whole-returns-in_err-value-clause-evals
whole-returns-in_err-value-clause-evals g t c =
    let p = err_from_is_err_and c.from_residual.result c.from_residual.ensures.1 in
    rw (p.1, p.2) (expressions.tier_halts (g.H.Host.calls c.args.line) g.H.Host.hears c.args.levels c.args.text.now c.args.live (seen g.H.Host.objects c.args.self.now) (seen g.H.Host.objects c.tier.new.self) c.in_err-value.field-0.0 c.in_err-value.ensures.evals)

pub whole-returns-then-after_blanks-text-clause-evals : goal.whole-returns-then-after_blanks-text-clause-evals
whole-returns-then-after_blanks-text-clause-evals g t c =
    expressions.text_left (g.H.Host.calls c.args.line) g.H.Host.hears c.args.levels c.args.text.now c.args.live (seen g.H.Host.objects c.args.self.now) (seen g.H.Host.objects c.tier.new.self) (c.in_ok-value.value, c.in_ok-value.end) c.in_ok-value.ensures.evals (rw c.after_blanks.ensures.place at c.if-after_blanks-text.true)

pub whole-returns-clause-evals : goal.whole-returns-clause-evals
whole-returns-clause-evals g t c =
    let f : SFits w64 c.in_ok-value.value = search rules in
    rw (to_z-of_z w64 c.in_ok-value.value f) (expressions.passed (g.H.Host.calls c.args.line) g.H.Host.hears c.args.levels c.args.text.now c.args.live (seen g.H.Host.objects c.args.self.now) (seen g.H.Host.objects c.tier.new.self) (c.in_ok-value.value, c.in_ok-value.end) c.in_ok-value.ensures.evals (rw c.after_blanks.ensures.place at c.if-after_blanks-text.false))
