use Rattle.std.proofs.Common.{◌≡◌, ℕ, List, drop, Result, Ok, sym, arith}
use Rattle.std.proofs.lemmas.Result.{err_from_is_err_and}
use Rattle.lab_base.specs.declared.fault.Kind.{Kind}
use Rattle.tcl_eval.specs.declared.commands.Own.TheVariants as owns
use Rattle.tcl_eval.specs.Forms.{listed}
use Rattle.tcl_eval.specs.Jobs.{Call, Value, fails}
use Rattle.tcl_eval.specs.State.{state, old_or_empty, with_value}
use Rattle.tcl_eval.specs.Evals.{Evals, lappend_arity, lappend_fails, lappends}
use Rattle.tcl_eval.proofs.Exits.{gives_ends}
use Rattle.tcl_eval.proofs.Rules.{value_on}
use Rattle.tcl_eval.proofs.WordLists.{first_word}
use Rattle.tcl_eval.proofs.machine.Machine.run_lappend.Goals as goal

pub returns-then-words-lt3-clause-evals : goal.returns-then-words-lt3-clause-evals
returns-then-words-lt3-clause-evals g c = λ line l. lappend_arity c.requires.own (omega arith)

pub returns-in_err-value-clause-evals : goal.returns-in_err-value-clause-evals
returns-in_err-value-clause-evals g c = λ line l.
    let s = state c.args.self.now.variables.entries (g.H.Host.objects c.args.self.now.host) c.args.self.now.left in
    let n = c.index-words-1.result in
    let p = err_from_is_err_and c.from_residual-in_err-value.result c.from_residual-in_err-value.ensures.1 in
    rw (p.1, p.2) (gives_ends (g.H.Host.calls line) g.H.Host.hears (λ (r : Result (List ℕ) Kind). r ≡ listed c.in_ok-old.old c.words_from.result.now) Value l (Call c.args.words.now) s s
    c.in_err-value.field-0.0 (λ k h. first_word (λ (ws : List (List ℕ)). Evals (g.H.Host.calls line) g.H.Host.hears l (Call ws) s (fails k) s) owns.Lappend n c.args.words.now
    c.index-words-1.is (omega arith) c.requires.own (λ cmd mine some. lappend_fails mine some (sym (rw (c.in_ok-old.ensures, c.words_from.ensures) at h))))
    c.in_err-value.ensures)

pub returns-clause-evals : goal.returns-clause-evals
returns-clause-evals g c = λ line l.
    let s = state c.args.self.now.variables.entries (g.H.Host.objects c.args.self.now.host) c.args.self.now.left in
    let n = c.index-words-1.result in
    let h : Ok c.in_ok-value.value ≡ listed (old_or_empty s n) (drop 2 c.args.words.now) = rw (c.in_ok-old.ensures, c.words_from.ensures) at c.in_ok-value.ensures in
    value_on (g.H.Host.calls line) g.H.Host.hears l s (state c.write.new.self.variables.entries (g.H.Host.objects c.write.new.self.host) c.write.new.self.left) (Call c.args.words.now) n
    c.in_ok-value.value c.in_ok-write.ensures.written
    (first_word (λ (ws : List (List ℕ)). Evals (g.H.Host.calls line) g.H.Host.hears l (Call ws) s (Ok (Value c.in_ok-value.value)) (with_value s n c.in_ok-value.value)) owns.Lappend n c.args.words.now
    c.index-words-1.is (omega arith) c.requires.own (λ cmd mine some. lappends mine some (sym h)))
