-- A wanted row as contracts see it.
use Rattle.plain_model.specs.Isolation.{Wanted}
use Rattle.plain_model.specs.declared.wanted.Wanted.TheInside.{Inside}

abbrev pub wanted_of : Inside → Wanted
wanted_of w = record { row = w.row; owner = w.owner }
