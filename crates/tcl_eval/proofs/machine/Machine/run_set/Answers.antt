use Rattle.std.proofs.Common.{ℕ, List, arith}
use Rattle.tcl_eval.specs.declared.commands.Own.TheVariants as owns
use Rattle.tcl_eval.specs.Jobs.{Call, Value}
use Rattle.tcl_eval.specs.State.{state}
use Rattle.tcl_eval.specs.Evals.{set_arity}
use Rattle.tcl_eval.specs.Ends.{Ends}
use Rattle.tcl_eval.proofs.Rules.{read_ends}
use Rattle.tcl_eval.proofs.WordLists.{two_words, three_words}
use Rattle.tcl_eval.proofs.machine.Machine.run_set.Goals as goal

pub returns-then-words-eq2-clause-evals : goal.returns-then-words-eq2-clause-evals
returns-then-words-eq2-clause-evals g c = λ line l.
    let s = state c.args.self.now.variables.entries (g.H.Host.objects c.args.self.now.host) c.args.self.now.left in
    two_words (λ (ws : List (List ℕ)). Ends (g.H.Host.calls line) g.H.Host.hears Value l (Call ws) s s c.read.result) owns.Set c.index-words-1.result c.args.words.now
    c.index-words-1.is (omega arith) (omega arith) c.requires.own
    (λ cmd mine. read_ends (g.H.Host.calls line) g.H.Host.hears l s cmd c.index-words-1.result c.read.result mine c.read.ensures)

pub returns-then-words-eq3-clause-evals : goal.returns-then-words-eq3-clause-evals
returns-then-words-eq3-clause-evals g c = λ line l.
    three_words (λ (ws : List (List ℕ)). Ends (g.H.Host.calls line) g.H.Host.hears Value l (Call ws)
    (state c.args.self.now.variables.entries (g.H.Host.objects c.args.self.now.host) c.args.self.now.left)
    (state c.assign.new.self.variables.entries (g.H.Host.objects c.assign.new.self.host) c.assign.new.self.left) c.assign.result)
    owns.Set c.index-words-1-then-words-eq3.result c.index-words-2.result c.args.words.now
    c.index-words-1-then-words-eq3.is c.index-words-2.is (omega arith) (omega arith) c.requires.own (λ cmd mine. c.assign.ensures.evals line l cmd mine)

pub returns-else-words-eq3-clause-evals : goal.returns-else-words-eq3-clause-evals
returns-else-words-eq3-clause-evals g c = λ line l.
    set_arity c.requires.own c.if-words-eq2.false c.if-words-eq3.false
