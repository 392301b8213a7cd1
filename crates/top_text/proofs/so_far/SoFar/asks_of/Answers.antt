use Rattle.std.proofs.Common.{List, ℕ, length, arith, sym, ap, ◌∙◌}
use Rattle.std.specs.List.{position}
use Rattle.std.proofs.lemmas.List.{length-map}
use Rattle.lab_base.specs.Names.{same_name}
use Rattle.line_text.proofs.SliceLaws.{position-map}
use Rattle.virt_topo.specs.declared.wiring.Class.{Class}
use Rattle.virt_topo.proofs.CableLaws.{limits_of}
use Rattle.top_text.specs.Adding.{asks_at}
use Rattle.top_text.proofs.KeptLaws.{tests_of}
use Rattle.top_text.proofs.so_far.SoFar.asks_of.Goals as goal

pub overflow_cast-result : goal.overflow_cast-result
overflow_cast-result c =
    let w = c.args.self.now.wiring in
    omega (arith, c.in-Some.ensures.within, ap (λ (l : List (List ℕ)). length l) c.requires.tables.classes, length-map w.classes (λ (d : Class). d.name), (limits_of w (tests_of w c.requires.kept).limits).classes)

pub returns-in-Some : goal.returns-in-Some
returns-in-Some c =
    ap (asks_at c.args.name)
    (sym c.in-Some.is ∙ c.class_named.ensures.place ∙ ap (λ (l : List (List ℕ)). position (same_name c.args.name) l) c.requires.tables.classes
    ∙ position-map (same_name c.args.name) (λ (d : Class). d.name) c.args.self.now.wiring.classes)

pub returns-in-None : goal.returns-in-None
returns-in-None c =
    ap (asks_at c.args.name)
    (sym c.in-None.is ∙ c.class_named.ensures.place ∙ ap (λ (l : List (List ℕ)). position (same_name c.args.name) l) c.requires.tables.classes
    ∙ position-map (same_name c.args.name) (λ (d : Class). d.name) c.args.self.now.wiring.classes)
