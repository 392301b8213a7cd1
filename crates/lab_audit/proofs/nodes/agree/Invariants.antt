use Rattle.std.proofs.Common.{◌≡◌, drop, length}
use Rattle.lab_audit.specs.Nodes.{agree}
use Rattle.lab_audit.proofs.nodes.agree.Given as goal

abbrev pub invariant-loop-k : goal.invariant-loop-k
invariant-loop-k l = record {
  rest : agree 0 l.found l.wanted ≡ agree l.k (drop l.k l.found) (drop l.k l.wanted);
  long : length l.found ≡ length l.wanted;
}
