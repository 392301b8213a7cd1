use Rattle.std.proofs.Common.{◌≡◌, Some, rules}
use Rattle.std.specs.Prelude.{slice_get}
use Rattle.lab_audit.proofs.Owners.{suits_all}
use Rattle.lab_audit.proofs.gather.push_nth.Goals as goal

pub push_wanted-requires : goal.push_wanted-requires
push_wanted-requires c =
    let at : slice_get c.args.state.now.state.experiments c.args.number ≡ Some c.in-Some.experiment.now = search rules in
    suits_all c.args.state.now.state c.args.lab.now c.args.number c.in-Some.experiment.now c.requires.sane c.requires.lab at
