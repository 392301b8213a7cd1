use Rattle.std.proofs.Common.{ℕ, [], ◌∷◌, List, refl, arith}
use Rattle.tcl_eval.specs.declared.commands.Own.TheVariants as owns
use Rattle.tcl_eval.specs.Jobs.{Call, Value}
use Rattle.tcl_eval.specs.State.{state}
use Rattle.tcl_eval.specs.Evals.{incr_arity}
use Rattle.tcl_eval.specs.Ends.{Ends}
use Rattle.tcl_eval.proofs.WordLists.{two_words, three_words}
use Rattle.tcl_eval.proofs.machine.Machine.run_incr.Goals as goal

pub returns-then-words-eq2-clause-evals : goal.returns-then-words-eq2-clause-evals
returns-then-words-eq2-clause-evals g c = λ line l.
    two_words (λ (ws : List (List ℕ)). Ends (g.H.Host.calls line) g.H.Host.hears Value l (Call ws)
    (state c.args.self.now.variables.entries (g.H.Host.objects c.args.self.now.host) c.args.self.now.left)
    (state c.add.new.self.variables.entries (g.H.Host.objects c.add.new.self.host) c.add.new.self.left) c.add.result) owns.Incr c.index-words-1.result c.args.words.now
    c.index-words-1.is (omega arith) (omega arith) c.requires.own
    (λ cmd mine. c.add.ensures.evals line l cmd [] mine (omega arith) refl)

pub returns-then-words-eq3-clause-evals : goal.returns-then-words-eq3-clause-evals
returns-then-words-eq3-clause-evals g c = λ line l.
    three_words (λ (ws : List (List ℕ)). Ends (g.H.Host.calls line) g.H.Host.hears Value l (Call ws)
    (state c.args.self.now.variables.entries (g.H.Host.objects c.args.self.now.host) c.args.self.now.left)
    (state c.add-then-words-eq3.new.self.variables.entries (g.H.Host.objects c.add-then-words-eq3.new.self.host) c.add-then-words-eq3.new.self.left) c.add-then-words-eq3.result)
    owns.Incr c.index-words-1-then-words-eq3.result c.index-words-2.result c.args.words.now
    c.index-words-1-then-words-eq3.is c.index-words-2.is (omega arith) (omega arith) c.requires.own
    (λ cmd mine. c.add-then-words-eq3.ensures.evals line l cmd (c.index-words-2.result ∷ []) mine (omega arith) (rw c.bytes.ensures at c.read_number.ensures))

pub returns-else-words-eq3-clause-evals : goal.returns-else-words-eq3-clause-evals
returns-else-words-eq3-clause-evals g c = λ line l.
    incr_arity c.requires.own c.if-words-eq2.false c.if-words-eq3.false
