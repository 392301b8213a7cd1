-- An owner, and a row with its link, as contracts see them.
use Rattle.std.specs.Prelude.{Bool, true, false}
use Rattle.lab_model.specs.Claims.{Which, Old, New}
use Rattle.lab_model.specs.Isolated.{Owner}
use Rattle.lab_model.specs.Wants.{Owned}
use Rattle.plain_model.specs.declared.owner.Owner.TheInside.{Inside}
use Rattle.plain_model.specs.declared.owned.Owned.TheInside.{Inside as OwnedInside}

abbrev pub half_of : Bool → Which
half_of true = New
half_of false = Old

abbrev pub owner_of : Inside → Owner
owner_of o = record { exp = o.exp; which = half_of o.new; link = o.link }

abbrev pub owned_of : OwnedInside → Owned
owned_of o = record { row = o.row; owner = o.link }
