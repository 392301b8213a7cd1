-- The canonical texts of this project.
use Rattle.records_model.specs.Labs.{Texts}
use Rattle.ptop_text.specs.Canonical.{canonical}
use Rattle.top_text.specs.Canonical.{canonical_top}
use Rattle.solution_text.specs.CanonicalSolution.{canonical_solution}
use Rattle.top_text.specs.Printable.{is_printable}

-- THE TEXTS of labs, wirings and mappings, and the test that the names of a wiring are names
abbrev pub the_texts : Texts
the_texts = record { ptop = canonical; top = canonical_top; solution = canonical_solution; is_printable = is_printable }
