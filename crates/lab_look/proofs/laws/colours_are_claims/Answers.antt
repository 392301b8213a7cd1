use Rattle.lab_look.proofs.Colours.{seat_is_claim}
use Rattle.lab_look.proofs.laws.colours_are_claims.Goals as goal

pub returns : goal.returns
returns c = λ s lab n e name sane is_lab is. seat_is_claim s lab n e name sane is_lab is
