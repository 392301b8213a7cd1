use Rattle.std.proofs.Common.{◌∙◌, ℕ, List, [], Option, Some, ap, subst}
use Rattle.script_text.specs.Commands.{AtEnd, IsScript}
use Rattle.lab_top.specs.declared.reply_takers.Counter.{Counter}
use Rattle.lab_top.specs.Ran.{Numbered}
use Rattle.lab_top.specs.ReplyTakers.{replies_of}
use Rattle.lab_top.proofs.RepliesTaken.{counted}
use Rattle.lab_top.proofs.Wording.{broken_off, finished, never_rose, unbegun}
use Rattle.lab_top.proofs.generated.run_generated.Goals as goal

pub returns-in_default-clause-ran : goal.returns-in_default-clause-ran
returns-in_default-clause-ran g c = λ left. ([], unbegun _ (Some (Numbered (Some c.args.seed))) _)

pub returns-in-Done-clause-ran : goal.returns-in-Done-clause-ran
returns-in-Done-clause-ran g c = λ left.
    let r = c.obey_script.ensures.ran in
    let source = ap (λ (bytes : List ℕ). let o : Option (List ℕ) = Some bytes in o) (c.new-source.ensures ∙ c.in-Ok.ensures.text) in
    let first : Counter = record { tally = c.new.result } in
    let tally = counted (replies_of r.0) [] first c.obey_script.new.taker c.new.ensures (r.2 c.in-Done.is) in
    (r.0, finished _ c.args.seed _ _ _ r.0 source r.1 c.in-Done.is left _ _ c.write_summary.result c.write_summary.ensures.finishes (c.write_summary.ensures.wrote (replies_of r.0) tally))

pub returns-clause-ran : goal.returns-clause-ran
returns-clause-ran g c = λ left.
    let r = c.obey_script.ensures.ran in
    let source = ap (λ (bytes : List ℕ). let o : Option (List ℕ) = Some bytes in o) (c.new-source.ensures ∙ c.in-Ok.ensures.text) in
    let script = c.in-Ok.ensures.script in
    (r.0, broken_off _ c.args.seed _ _ _ r.0 source r.1 script.0 (subst (λ (bytes : List ℕ). IsScript bytes script.0 AtEnd) c.in-Ok.ensures.text script.1) left _ (λ is. c.in_default-obey_script.not-Done is) (λ is. never_rose (c.obey_script.ensures.read is)) (λ is. never_rose (c.obey_script.ensures.write is)))

pub returns-clause-write : goal.returns-clause-write
returns-clause-write g c = λ is. absurd (never_rose (c.obey_script.ensures.write is))
