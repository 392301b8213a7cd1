-- Plugs after changes.
use Rattle.std.specs.Prelude.{◌<◌, List, [], ◌∷◌, ◌++◌, length, All, slice_set, slice_index_or}
use Rattle.lab_base.specs.declared.ids.IfaceId.{IfaceId}
use Rattle.phys_lab.specs.Labs.{Lab}
use Rattle.virt_topo.specs.declared.wiring.Wiring.{Wiring}
use Rattle.trunk_sums.specs.declared.made.Change.{Change}
use Rattle.trunk_sums.specs.Summed.{IsRow}

-- the plugs with each end's plug set anew, in order
abbrev pub remade : List IfaceId → List Change → List IfaceId
remade plugs [] = plugs
remade plugs (c ∷ cs) = remade (slice_set plugs c.end c.to) cs

-- the changes are of ends of the wiring, to interfaces of the lab
pub record AreChanges (lab : Lab) (w : Wiring) (cs : List Change) : Type 0 where
  pub rows : All (λ c. IsRow w c.end c.row) cs
  pub within : All (λ c. c.to.0 < length lab.ifaces) cs

-- the changes that take these back, the last one first: each end gets the plug that it had
abbrev pub undone : List IfaceId → List Change → List Change
undone plugs [] = []
undone plugs (c ∷ cs) = undone (slice_set plugs c.end c.to) cs ++ record { end = c.end; row = c.row; to = slice_index_or plugs c.end (record { 0 = 0 }) } ∷ []
