use Rattle.std.proofs.Common.{◌≡◌, drop}
use Rattle.lab_seen.specs.Claimed.{has_tag}
use Rattle.lab_look.specs.Seats.{first_from}
use Rattle.lab_look.proofs.seats.owner_of.Given as goal

abbrev pub invariant-loop-number : goal.invariant-loop-number
invariant-loop-number l = first_from (λ e. has_tag e l.id) 0 l.state.state.experiments ≡ first_from (λ e. has_tag e l.id) l.number (drop l.number l.state.state.experiments)
