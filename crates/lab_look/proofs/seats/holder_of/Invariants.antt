use Rattle.std.proofs.Common.{◌≡◌, drop}
use Rattle.lab_model.specs.Claims.{claims_it}
use Rattle.lab_look.specs.Seats.{first_from}
use Rattle.lab_look.proofs.seats.holder_of.Given as goal

abbrev pub invariant-loop-number : goal.invariant-loop-number
invariant-loop-number l = first_from (λ e. claims_it l.lab e l.name) 0 l.state.state.experiments ≡ first_from (λ e. claims_it l.lab e l.name) l.number (drop l.number l.state.state.experiments)
