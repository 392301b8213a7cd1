-- The loads of a wiring's ends on their interfaces.
use Rattle.std.specs.Prelude.{ℕ, ◌+◌, List, [], ◌∷◌, ◌++◌, length, replicate}
use Rattle.virt_topo.specs.declared.loads.Load.{Load}
use Rattle.virt_topo.specs.declared.wiring.Segment.{Segment}
use Rattle.virt_topo.specs.declared.wiring.Wiring.{Wiring}

-- what each end of the segment of that number puts there
abbrev pub load_of : ℕ → Segment → Load
load_of n s = record { segment = n; kbps = s.kbps; multiplexed = s.multiplexed }

-- by end what it puts there, where the first segment has number n
abbrev pub loads_from : ℕ → List Segment → List Load
loads_from n [] = []
loads_from n (s ∷ segments) = replicate (length s.ends) (load_of n s) ++ loads_from (n + 1) segments

abbrev pub loads_of : Wiring → List Load
loads_of w = loads_from 0 w.segments
