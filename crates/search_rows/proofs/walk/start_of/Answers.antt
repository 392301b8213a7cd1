use Rattle.std.proofs.Common.{◌∙◌, Option, IfSome, sym, subst}
use Rattle.virt_topo.specs.declared.mapping.Mapping.{Mapping}
use Rattle.node_maps.specs.NodeMaps.{candidates, IsChoice}
use Rattle.node_maps.proofs.MapLaws.{choice_within, mapped_shaped}
use Rattle.assign_core.proofs.Firsts.{first_fit_mapped}
use Rattle.search_rows.proofs.walk.start_of.Goals as goal

pub returns-in-Ok-Some-clause-shaped : goal.returns-in-Ok-Some-clause-shaped
returns-in-Ok-Some-clause-shaped g c =
    let lab = c.args.problem.now.lab.now in
    let free = c.args.problem.now.free.now in
    let w = c.args.problem.now.wiring.now in
    let start = c.in-Ok-Some.start in
    let P : Option Mapping → Type 0 = λ o. IfSome o (λ m. IsChoice (candidates lab free w) m.places) in
    let is = choice_within lab free w start.places (subst P c.in-Ok-Some.field-0-is c.in-Ok-Some.ensures.choice) in
    mapped_shaped lab free w start.places start c.requires.sound is.placed is.are (first_fit_mapped lab free w start (sym c.in-Ok-Some.ensures.found ∙ c.in-Ok-Some.field-0-is))

pub returns-in-Ok-Some-clause-start : goal.returns-in-Ok-Some-clause-start
returns-in-Ok-Some-clause-start g c =
    let lab = c.args.problem.now.lab.now in
    let free = c.args.problem.now.free.now in
    let w = c.args.problem.now.wiring.now in
    let P : Option Mapping → Type 0 = λ o. IfSome o (λ m. IsChoice (candidates lab free w) m.places) in
    record {
      choice = subst P c.in-Ok-Some.field-0-is c.in-Ok-Some.ensures.choice;
      feasible = first_fit_mapped lab free w c.in-Ok-Some.start (sym c.in-Ok-Some.ensures.found ∙ c.in-Ok-Some.field-0-is);
    }
