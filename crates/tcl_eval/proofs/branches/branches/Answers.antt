use Rattle.std.proofs.Common.{All, List, length, sym, subst, arith}
use Rattle.std.proofs.lemmas.List.Elements.{All-push}
use Rattle.tcl_eval.specs.declared.branches.Branch.{Branch}
use Rattle.tcl_eval.specs.Short.{BranchLies}
use Rattle.tcl_eval.proofs.Branching.{pushed_on}
use Rattle.tcl_eval.proofs.branches.branches.Goals as goal

pub loop-at-preserved : goal.loop-at-preserved
loop-at-preserved c = record {
  at = omega (arith, c.in-Some.ensures.lies.1.0);
  lie = subst (λ (bs : List Branch). All (BranchLies (length c.args.words.now)) bs) (sym c.in_ok-push-2.ensures.items)
      (All-push (BranchLies (length c.args.words.now)) c.loop-at.branches.items c.in-Some.branch c.loop-at.invariant.lie c.in-Some.ensures.lies.1);
  so_far = pushed_on c.args.words.now c.loop-at.branches.items c.push-in-loop-at.new.self.items c.in-Some.branch c.loop-at.at c.in_ok-push-2.ensures.items c.in-Some.ensures.branch
      c.loop-at.invariant.so_far;
}
