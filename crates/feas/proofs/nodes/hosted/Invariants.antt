use Rattle.std.proofs.Common.{◌≡◌, ◌++◌, drop}
use Rattle.lab_model.specs.Rules.{hosted}
use Rattle.feas.proofs.nodes.hosted.Given as goal

abbrev pub invariant-loop-virt : goal.invariant-loop-virt
invariant-loop-virt l = l.listed.items ++ hosted (drop l.virt l.nodes) (drop l.virt l.places) l.node ≡ hosted l.nodes l.places l.node
