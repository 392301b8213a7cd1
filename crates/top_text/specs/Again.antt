-- Canonical texts are read back.
use Rattle.std.specs.Prelude.{◌≡◌, true, Ok}
use Rattle.virt_topo.specs.Soundness.{IsSound}
use Rattle.virt_topo.specs.declared.wiring.Wiring.{Wiring}
use Rattle.top_text.specs.Adding.{wiring_of_text}
use Rattle.top_text.specs.Printable.{is_printable}
use Rattle.top_text.specs.Canonical.{canonical_top}

-- the text of a sound wiring whose names are names is of that wiring
abbrev pub TopsAgain : Type 0
TopsAgain = (w : Wiring) → IsSound w → is_printable w ≡ true → wiring_of_text (canonical_top w) ≡ Ok w
