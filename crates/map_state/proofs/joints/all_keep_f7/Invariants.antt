use Rattle.lab_model.specs.Rules.{keeps_f7}
use Rattle.lab_model.specs.Feasible.{AllPass}
use Rattle.map_state.proofs.joints.all_keep_f7.Given as goal

abbrev pub invariant-loop-segment : goal.invariant-loop-segment
invariant-loop-segment l = record { kept : AllPass l.segment (keeps_f7 l.search.mapper.lab.now l.search.mapper.wiring.now l.mapping) }
