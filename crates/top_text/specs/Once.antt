-- Canonical texts are of one value.
use Rattle.std.specs.Prelude.{◌≡◌, true}
use Rattle.virt_topo.specs.Soundness.{IsSound}
use Rattle.virt_topo.specs.declared.wiring.Wiring.{Wiring}
use Rattle.top_text.specs.Printable.{is_printable}
use Rattle.top_text.specs.Canonical.{canonical_top}

-- two sound wirings whose names are names have one text only where they are one
abbrev pub TopsOnce : Type 0
TopsOnce = (w v : Wiring) → IsSound w → IsSound v → is_printable w ≡ true → is_printable v ≡ true → canonical_top w ≡ canonical_top v → w ≡ v
