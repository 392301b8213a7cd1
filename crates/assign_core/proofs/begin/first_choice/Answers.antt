use Rattle.std.proofs.Common.{◌≡◌, ◌<◌, ◌∙◌, List, length, Option, All, IfSome, ap, subst, arith}
use Rattle.lab_base.specs.declared.ids.IfaceId.{IfaceId}
use Rattle.lab_model.specs.Shapes.{Place}
use Rattle.node_maps.specs.NodeMaps.{IsChoice}
use Rattle.node_maps.proofs.EndLists.{same_length}
use Rattle.node_maps.proofs.MapLaws.{choice_within}
use Rattle.map_anneal.specs.Searches.{sought_of}
use Rattle.assign_core.specs.Begun.{HasNone}
use Rattle.assign_core.proofs.Begins.{no_candidate, no_interface}
use Rattle.assign_core.proofs.begin.first_choice.Goals as goal

pub returns-clause-choice : goal.returns-clause-choice
returns-clause-choice c =
    let cs = c.args.search.now.candidates.now in
    let own : IsChoice cs c.in-Some.places = subst (λ (o : Option (List Place)). IfSome o (IsChoice cs)) c.in-Some.is c.in_ok-places.ensures.choice in
    subst (λ xs. IsChoice xs c.in-Some.places) c.requires.search.listed own

pub returns-clause-shaped : goal.returns-clause-shaped
returns-clause-shaped c =
    let x = c.args.search.now.mapper in
    let lab = x.lab.now in
    let w = x.wiring.now in
    let cs = c.args.search.now.candidates.now in
    let own : IsChoice cs c.in-Some.places = subst (λ (o : Option (List Place)). IfSome o (IsChoice cs)) c.in-Some.is c.in_ok-places.ensures.choice in
    let is = choice_within lab x.free.now w c.in-Some.places (subst (λ xs. IsChoice xs c.in-Some.places) c.requires.search.listed own) in
    let plugs = c.in-Some-2.plugs in
    let count = subst (λ (o : Option (List IfaceId)). IfSome o (λ ps. length ps ≡ length x.ends.now)) c.in-Some-2.is c.in_ok-plugs.ensures.one_each in
    let within = subst (λ (o : Option (List IfaceId)). IfSome o (λ ps. All (λ i. i.0 < length lab.ifaces) ps)) c.in-Some-2.is c.in_ok-plugs.ensures.in_lab in
    record {
      places = is.placed;
      plugs = count ∙ ap length c.requires.search.mapper.ends ∙ same_length w.segments;
      in_nodes = is.are.in_nodes;
      in_lab = within;
      of_node = is.are.of_node;
    }

pub returns-in_default-clause-none : goal.returns-in_default-clause-none
returns-in_default-clause-none c = λ is number.
    no_candidate (sought_of c.args.search.now number) (subst (λ xs. HasNone xs) c.requires.search.listed (c.in_ok-places.ensures.none c.in_default.is))

pub returns-in_default-2-clause-none : goal.returns-in_default-2-clause-none
returns-in_default-2-clause-none c = λ is number.
    let ends = ap length c.requires.search.mapper.ends in
    no_interface (sought_of c.args.search.now number) c.requires.search.mapper.sound (c.in_ok-plugs.ensures.none c.in_default-2.is)
    (let some = c.in_ok-plugs.ensures.some c.in_default-2.is in omega (arith, some, ends))
