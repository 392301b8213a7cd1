use Rattle.std.proofs.Common.{◌≡◌, ◌++◌, ◌≤◌, ℕ, [], ◌∷◌, List, length, drop, Ok, sym, subst, arith}
use Rattle.std.proofs.lemmas.Result.{err_from_is_err_and}
use Rattle.lab_base.specs.declared.fault.Kind.TheVariants as kinds
use Rattle.tcl_eval.specs.declared.commands.Own.TheVariants as owns
use Rattle.tcl_eval.specs.Forms.{joined_by}
use Rattle.tcl_eval.specs.Jobs.{Call, Value, fails}
use Rattle.tcl_eval.specs.State.{state, old_or_empty, with_value}
use Rattle.tcl_eval.specs.Evals.{Evals, append_arity, append_long, appends}
use Rattle.tcl_eval.proofs.Exits.{long_ends}
use Rattle.tcl_eval.proofs.Rules.{value_on}
use Rattle.tcl_eval.proofs.WordLists.{first_word}
use Rattle.tcl_eval.proofs.machine.Machine.run_append.Goals as goal

pub returns-then-words-lt3-clause-evals : goal.returns-then-words-lt3-clause-evals
returns-then-words-lt3-clause-evals g c = λ line l. append_arity c.requires.own (omega arith)

pub returns-in_err-value-clause-evals : goal.returns-in_err-value-clause-evals
returns-in_err-value-clause-evals g c = λ line l.
    let s = state c.args.self.now.variables.entries (g.H.Host.objects c.args.self.now.host) c.args.self.now.left in
    let n = c.index-words-1.result in
    let p = err_from_is_err_and c.from_residual-in_err-value.result c.from_residual-in_err-value.ensures.1 in
    rw (p.1, p.2) (long_ends (g.H.Host.calls line) g.H.Host.hears (c.in_ok-old.old ++ joined_by [] c.words_from.result.now) Value l (Call c.args.words.now) s s
    c.in_err-value.field-0.0 (λ long. first_word (λ (ws : List (List ℕ)). Evals (g.H.Host.calls line) g.H.Host.hears l (Call ws) s (fails kinds.Long) s) owns.Append n c.args.words.now
    c.index-words-1.is (omega arith) c.requires.own (λ cmd mine some. append_long mine some (rw (c.in_ok-old.ensures, c.words_from.ensures) at long)))
    c.in_err-value.ensures.fails)

pub returns-clause-evals : goal.returns-clause-evals
returns-clause-evals g c = λ line l.
    let s = state c.args.self.now.variables.entries (g.H.Host.objects c.args.self.now.host) c.args.self.now.left in
    let n = c.index-words-1.result in
    let h : (c.in_ok-value.value ≡ old_or_empty s n ++ joined_by [] (drop 2 c.args.words.now)) × (length (old_or_empty s n ++ joined_by [] (drop 2 c.args.words.now)) ≤ 65536) =
    rw (c.in_ok-old.ensures, c.words_from.ensures) at c.in_ok-value.ensures.value in
    value_on (g.H.Host.calls line) g.H.Host.hears l s (state c.write.new.self.variables.entries (g.H.Host.objects c.write.new.self.host) c.write.new.self.left) (Call c.args.words.now) n
    c.in_ok-value.value c.in_ok-write.ensures.written
    (first_word (λ (ws : List (List ℕ)). Evals (g.H.Host.calls line) g.H.Host.hears l (Call ws) s (Ok (Value c.in_ok-value.value)) (with_value s n c.in_ok-value.value)) owns.Append n c.args.words.now
    c.index-words-1.is (omega arith) c.requires.own (λ cmd mine some. subst (λ (x : List ℕ). Evals (g.H.Host.calls line) g.H.Host.hears l (Call (cmd ∷ n ∷ drop 2 c.args.words.now)) s (Ok (Value x)) (with_value s n x)) (sym h.0)
    (appends mine some h.1)))
