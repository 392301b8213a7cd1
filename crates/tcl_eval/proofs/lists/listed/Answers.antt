use Rattle.std.proofs.Common.{◌≡◌, ℕ, List, Result, ◌∙◌}
use Rattle.std.proofs.lemmas.Result.{err_from_is_err_and}
use Rattle.lab_base.specs.declared.fault.Kind.{Kind}
use Rattle.tcl_eval.specs.Forms.{with_element, listed}
use Rattle.tcl_eval.proofs.Elements.{listed_fails}
use Rattle.tcl_eval.proofs.Exits.{gives_on}
use Rattle.tcl_eval.proofs.lists.listed.Goals as goal

pub returns-in_err-list : goal.returns-in_err-list
returns-in_err-list c =
    let p = err_from_is_err_and c.from_residual.result c.from_residual.ensures.1 in
    rw (p.1, p.2) (gives_on (λ (r : Result (List ℕ) Kind). r ≡ with_element c.loop-word.list c.bytes.result.now) (λ (r : Result (List ℕ) Kind). r ≡ listed c.args.list c.args.words.now)
    c.in_err-list.field-0.0 (λ k h. listed_fails c.loop-word.list c.args.words.now c.loop-word.word-index c.word-item.result k c.loop-word-test.true c.word-item.is (rw c.bytes.ensures at h) ∙ c.loop-word.invariant) c.in_err-list.ensures)
