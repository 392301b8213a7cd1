use Rattle.std.proofs.Common.{◌≡◌, ◌∷◌, [], List, reverse, arith, subst, ◌∙◌, ap}
use Rattle.std.proofs.lemmas.List.{reverse-append}
use Rattle.std.proofs.lemmas.Result.{err_from_is_err_and}
use Rattle.tcl_words.specs.declared.frame.Frame.{Frame}
use Rattle.tcl_words.specs.Passes.{unclosed}
use Rattle.tcl_words.proofs.Nest.{Finishes, goes_on, opens, fails}
use Rattle.tcl_words.proofs.nesting.pass.Goals as goal

pub loop-at-preserved-in-Goes : goal.loop-at-preserved-in-Goes
loop-at-preserved-in-Goes c = record {
  rest = λ o h. c.loop-at.invariant.rest o (goes_on c.args.text.now _ c.loop-at.frame c.in-Goes.same c.loop-at.at c.in-Goes.next o c.in-Goes.ensures.leads h);
  fits = omega (arith, c.in-Goes.ensures.forward);
  forward = omega (arith, c.in-Goes.ensures.forward);
}

pub returns-in_err-push-in-Opens-clause-passes : goal.returns-in_err-push-in-Opens-clause-passes
returns-in_err-push-in-Opens-clause-passes c =
    let p = err_from_is_err_and c.from_residual.result c.from_residual.ensures.1 in rw (p.1, p.2) tt

pub loop-at-preserved-in-Opens : goal.loop-at-preserved-in-Opens
loop-at-preserved-in-Opens c =
    let pushed : reverse c.push.new.self.items ≡ c.in-Opens.kept ∷ reverse c.loop-at.outer.items =
    ap (λ (xs : List Frame). reverse xs) c.in_ok-push-in-Opens.ensures.items ∙ reverse-append c.loop-at.outer.items (c.in-Opens.kept ∷ []) in
    record {
      rest = λ o h. c.loop-at.invariant.rest o (opens c.args.text.now _ c.loop-at.frame c.in-Opens.inner c.in-Opens.kept c.loop-at.at c.in-Opens.next o c.in-Opens.ensures.leads (subst (λ (xs : List Frame). Finishes c.args.text.now xs c.in-Opens.inner c.in-Opens.next o) pushed h));
      fits = omega (arith, c.in-Opens.ensures.forward);
      forward = omega (arith, c.in-Opens.ensures.forward);
    }

pub returns-in-Fails-clause-passes : goal.returns-in-Fails-clause-passes
returns-in-Fails-clause-passes c =
    c.loop-at.invariant.rest _ (fails c.args.text.now _ c.loop-at.frame c.loop-at.at c.in-Fails.flaw c.in-Fails.ensures.leads)

pub returns-clause-passes : goal.returns-clause-passes
returns-clause-passes c =
    rw c.unclosed.ensures (c.loop-at.invariant.rest _ (fails c.args.text.now _ c.loop-at.frame c.loop-at.at _ (unclosed c.loop-at.frame c.loop-at.at c.loop-at-test.false)))
