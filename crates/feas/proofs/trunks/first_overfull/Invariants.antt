use Rattle.lab_model.specs.Rules.{keeps_f6}
use Rattle.lab_model.specs.Feasible.{AllPass}
use Rattle.feas.proofs.trunks.first_overfull.Given as goal

abbrev pub invariant-loop-trunk : goal.invariant-loop-trunk
invariant-loop-trunk l = AllPass l.trunk (keeps_f6 l.lab l.free l.wiring l.mapping)
