use Rattle.lab_look.proofs.Beginning.{Tried}
use Rattle.lab_look.proofs.beside.begun_or_lost.Given as goal

abbrev pub invariant-fronts : goal.invariant-fronts
invariant-fronts l = Tried l.live l.other l.found l.count

abbrev pub decreases-fronts : goal.decreases-fronts
decreases-fronts l = l.count
