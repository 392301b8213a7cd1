use Rattle.std.proofs.Common.{Bool, sym, arith}
use Rattle.virt_topo.specs.declared.experiment.Experiment.{Experiment}
use Rattle.lab_model.specs.Claims.{claims_it}
use Rattle.lab_look.proofs.Firsts.{first_within}
use Rattle.lab_look.proofs.seats.seat_of.Goals as goal

pub seat_by-requires : goal.seat_by-requires
seat_by-requires c =
    let p : Experiment → Bool = λ e. claims_it c.args.lab.now e c.args.name.now in
    omega (arith, first_within p c.in-Some.number c.args.state.now.state.experiments (sym c.in-Some.ensures), c.requires)
