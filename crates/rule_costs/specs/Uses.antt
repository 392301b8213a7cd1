-- The uses of all trunks by cables.
use Rattle.std.specs.Prelude.{ℕ, List, length}
use Rattle.phys_lab.specs.Labs.{Lab}
use Rattle.phys_lab.specs.Forests.{first_side_of}
use Rattle.virt_topo.specs.Cables.{Cable, cable_use, cut_use}
use Rattle.cost_rule.specs.Cost.{sum_below}

-- what one cable uses of all trunks
abbrev pub uses_of : Lab → Cable → ℕ
uses_of lab c = sum_below (length lab.trunks) (λ t. cable_use (first_side_of lab.ifaces lab.trunks t) c)

-- what cables use of all trunks
abbrev pub uses_of_all : Lab → List Cable → ℕ
uses_of_all lab cs = sum_below (length lab.trunks) (λ t. cut_use (first_side_of lab.ifaces lab.trunks t) cs)
