-- The segments of a wiring with the plugs of their ends, and what they use of a cut.
use Rattle.std.specs.Prelude.{◌-◌, ◌*◌, ℕ, min, Bool, false, List, [], ◌∷◌, length, take, drop, slice_index_or, count_by, sum_by}
use Rattle.lab_base.specs.declared.ids.IfaceId.{IfaceId}
use Rattle.virt_topo.specs.declared.wiring.Segment.{Segment}

-- a segment with the plugs of its ends
pub record Cable : Type 0 where
  pub segment : Segment
  pub plugs : List IfaceId

-- the segments with their plugs, which are one list in the order of ends
abbrev pub cables : List Segment → List IfaceId → List Cable
cables [] plugs = []
cables (s ∷ segments) plugs = record { segment = s; plugs = take (length s.ends) plugs } ∷ cables segments (drop (length s.ends) plugs)

-- how many of the plugs are on a side, which is a test by interface
abbrev pub plugs_on : List Bool → List IfaceId → ℕ
plugs_on side plugs = count_by (λ i. slice_index_or side i.0 false) plugs

-- what a cable uses of the cut that parts a side from the rest
abbrev pub cable_use : List Bool → Cable → ℕ
cable_use side c = min (plugs_on side c.plugs) (length c.plugs - plugs_on side c.plugs) * c.segment.kbps

-- what all cables use of it
abbrev pub cut_use : List Bool → List Cable → ℕ
cut_use side cs = sum_by (cable_use side) cs
