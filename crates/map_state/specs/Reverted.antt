-- Changes that take others back.
use Rattle.std.specs.Prelude.{List, [], ◌∷◌, slice_set}
use Rattle.lab_base.specs.declared.ids.IfaceId.{IfaceId}
use Rattle.trunk_sums.specs.declared.made.Change.{Change}

-- the plugs with each end's plug set anew, the last one first
abbrev pub reverted : List IfaceId → List Change → List IfaceId
reverted plugs [] = plugs
reverted plugs (c ∷ cs) = slice_set (reverted plugs cs) c.end c.to
