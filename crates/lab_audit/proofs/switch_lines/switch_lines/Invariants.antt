use Rattle.std.proofs.Common.{List, None, take}
use Rattle.std.specs.Prelude.{IfSome}
use Rattle.virt_topo.specs.declared.experiment.Experiment.{Experiment}
use Rattle.plant.specs.Worlds.{world_of}
use Rattle.lab_audit.specs.Diff.{AreLines}
use Rattle.lab_audit.specs.Lines.{AreAllWanted}
use Rattle.lab_audit.specs.Reads.{Reads}
use Rattle.lab_audit.proofs.switch_lines.switch_lines.Given as goal

abbrev pub invariant-loop-switch : goal.invariant-loop-switch
invariant-loop-switch g l = record {
  so_far : Reads (g.P.Plant.seen l.fn.plant) (g.P.Plant.seen l.plant) None;
  lines : IfSome (g.P.Plant.seen l.fn.plant).told (λ t. (es : List Experiment) → AreAllWanted l.lab es l.wanted → AreLines l.lab es (world_of t.trace) (take l.switch-index l.switches) l.lines);
}
