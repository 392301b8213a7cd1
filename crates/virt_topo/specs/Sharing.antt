-- Whether segments of a wiring may share interfaces.
use Rattle.std.specs.Prelude.{Bool}
use Rattle.std.specs.List.{list_any}
use Rattle.virt_topo.specs.declared.wiring.Wiring.{Wiring}

-- some segment is multiplexed
abbrev pub has_multiplexed : Wiring → Bool
has_multiplexed w = list_any (λ s. s.multiplexed) w.segments
