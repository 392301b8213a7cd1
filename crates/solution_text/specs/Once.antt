-- Canonical texts are of one value.
use Rattle.std.specs.Prelude.{◌≡◌, true}
use Rattle.phys_lab.specs.Labs.{Lab}
use Rattle.phys_lab.specs.Kept.{IsLab}
use Rattle.virt_topo.specs.Soundness.{IsSound}
use Rattle.virt_topo.specs.declared.wiring.Wiring.{Wiring}
use Rattle.virt_topo.specs.declared.mapping.Mapping.{Mapping}
use Rattle.lab_model.specs.Shapes.{IsShaped}
use Rattle.top_text.specs.Printable.{are_named}
use Rattle.solution_text.specs.CanonicalSolution.{canonical_solution}

-- two shaped mappings have one text only where they are one
abbrev pub SolutionsOnce : Type 0
SolutionsOnce = (lab : Lab) (w : Wiring) (m n : Mapping) → IsLab lab → IsSound w → are_named w.nodes ≡ true → IsShaped lab w m → IsShaped lab w n → canonical_solution lab w m ≡ canonical_solution lab w n → m ≡ n
