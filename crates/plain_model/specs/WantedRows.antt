-- The rows that mappings want, as they are listed.
use Rattle.std.specs.Prelude.{ℕ, List}
use Rattle.lab_base.specs.declared.ids.IfaceId.{IfaceId}
use Rattle.virt_topo.specs.declared.wiring.Segment.{Segment}
use Rattle.virt_topo.specs.Cables.{Cable}
use Rattle.plant.specs.Worlds.{Row}
use Rattle.lab_model.specs.Wants.{Owned}
use Rattle.lab_model.specs.Claims.{Which}
use Rattle.plain_model.specs.Isolation.{Wanted}

abbrev pub cable : Segment → List IfaceId → Cable
cable segment plugs = record { segment = segment; plugs = plugs }

abbrev pub of_link : List ℕ → Row → Owned
of_link link row = record { row = row; owner = link }

-- a row of an experiment's old or new mapping
abbrev pub owned_as : List ℕ → Which → Owned → Wanted
owned_as exp which o = record { row = o.row; owner = record { exp = exp; which = which; link = o.owner } }
