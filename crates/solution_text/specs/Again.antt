-- Canonical texts are read back.
use Rattle.std.specs.Prelude.{◌≡◌, true, Ok}
use Rattle.phys_lab.specs.Labs.{Lab}
use Rattle.phys_lab.specs.Kept.{IsLab}
use Rattle.virt_topo.specs.Soundness.{IsSound}
use Rattle.virt_topo.specs.declared.wiring.Wiring.{Wiring}
use Rattle.virt_topo.specs.declared.mapping.Mapping.{Mapping}
use Rattle.lab_model.specs.Shapes.{IsShaped}
use Rattle.top_text.specs.Printable.{are_named}
use Rattle.solution_text.specs.CanonicalSolution.{canonical_solution}
use Rattle.solution_text.specs.Solutions.{mapping_of_text}

-- the text of a shaped mapping is of that mapping
abbrev pub SolutionsAgain : Type 0
SolutionsAgain = (lab : Lab) (w : Wiring) (m : Mapping) → IsLab lab → IsSound w → are_named w.nodes ≡ true → IsShaped lab w m → mapping_of_text lab w (canonical_solution lab w m) ≡ Ok m
