-- A session that is closed isn't open.
use Rattle.std.proofs.Common.{◌≡◌, List}
use Rattle.lab_core.specs.Sessions.{OpenSwap, Closed, Open}

pub not_shut : {X : Type 0} (to : List OpenSwap) → Closed ≡ Open to → X
not_shut to is = absurd (cc is)
