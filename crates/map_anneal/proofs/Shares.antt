-- Uses of a trunk by one segment, and two mappings with the try made of each.
use Rattle.std.specs.Prelude.{◌<◌, ◌⊎◌, ◌-◌, ◌*◌, ℕ, min, length}
use Rattle.phys_lab.specs.Labs.{Lab}
use Rattle.virt_topo.specs.Cables.{Cable}
use Rattle.virt_topo.specs.declared.wiring.Wiring.{Wiring}
use Rattle.virt_topo.specs.declared.mapping.Mapping.{Mapping}
use Rattle.lab_model.specs.Uses.{on_first}
use Rattle.lab_model.specs.Rules.{cable_at}
use Rattle.map_anneal.proofs.Switches.{AreAlikeAt}

-- what a cable uses of trunk t
abbrev pub cable_share : Lab → ℕ → Cable → ℕ
cable_share lab t c = min (on_first lab t c) (length c.plugs - on_first lab t c) * c.segment.kbps

-- what segment s uses of trunk t
abbrev pub share_at : Lab → Wiring → Mapping → (t s : ℕ) → ℕ
share_at lab w m t s = cable_share lab t (cable_at w m s)

-- ONE TRY ON TWO MAPPINGS, m to n and k to l: each segment sits alike before and after in both, or is as it was in each
pub record OneTry (lab : Lab) (w : Wiring) (m n k l : Mapping) : Type 0 where
  pub each : (s : ℕ) → s < length w.segments → (AreAlikeAt lab w m k s × AreAlikeAt lab w n l s) ⊎ (AreAlikeAt lab w m n s × AreAlikeAt lab w k l s)
