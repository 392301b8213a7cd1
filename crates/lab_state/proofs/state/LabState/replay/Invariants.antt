use Rattle.std.proofs.Common.{take}
use Rattle.records_model.specs.Labs.{LabOf}
use Rattle.lab_state.specs.Texts.{the_texts}
use Rattle.lab_state.specs.Replays.{records_of}
use Rattle.lab_state.proofs.state.LabState.replay.Given as goal

-- the lab is that of the records so far
abbrev pub invariant-loop-index : goal.invariant-loop-index
invariant-loop-index l = LabOf the_texts (records_of (take l.index l.records)) l.lab.state
