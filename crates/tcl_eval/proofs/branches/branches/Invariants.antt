use Rattle.std.proofs.Common.{◌≡◌, ◌-◌, ◌≤◌, All, length, drop, map}
use Rattle.tcl_eval.specs.Forms.{branches_of, more_branches}
use Rattle.tcl_eval.specs.Short.{BranchLies, branching_of}
use Rattle.tcl_eval.proofs.Branching.{behind}
use Rattle.tcl_eval.proofs.branches.branches.Given as goal

abbrev pub invariant-loop-at : goal.invariant-loop-at
invariant-loop-at l = record {
  at : l.at ≤ length l.words;
  lie : All (BranchLies (length l.words)) l.branches.items;
  so_far : behind (map (branching_of l.words) l.branches.items) (more_branches (drop l.at l.words)) ≡ branches_of l.words;
}

abbrev pub decreases-loop-at : goal.decreases-loop-at
decreases-loop-at l = length l.words - l.at
