use Rattle.lab_state.proofs.BeginLaws.{standing_suits}
use Rattle.lab_state.proofs.claimed_lab.ClaimedLab.take.Goals as goal

pub begin-requires-clause-old : goal.begin-requires-clause-old
begin-requires-clause-old c =
    let k = c.requires.kept in
    standing_suits c.args.self.now k.0 c.args.experiment.now.name c.args.experiment.now k.1 k.2
