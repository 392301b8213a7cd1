use Rattle.std.proofs.Common.{◌≡◌, ◌∙◌, [], ℕ, List, length, replicate, get_or, ap, sym, subst, arith}
use Rattle.std.proofs.lemmas.List.{length-replicate, get_or-replicate}
use Rattle.lab_model.specs.Shapes.{Place}
use Rattle.node_maps.specs.NodeMaps.{ArePlaces}
use Rattle.map_state.specs.Hosted.{hosted_at}
use Rattle.assign_core.specs.Prefixes.{first_parts}
use Rattle.assign_core.proofs.prefix.Prefix.nothing.Goals as goal

pub returns-clause-prefix : goal.returns-clause-prefix
returns-clause-prefix c =
    let lab = c.args.search.now.mapper.lab.now in
    let w = c.args.search.now.mapper.wiring.now in
    let empty : ◌≡◌ {A = List Place} c.new.result.items [] = c.new.ensures.items in
    let nodes = ap length c.nodes.ensures in
    let zeros : ◌≡◌ {A = List ℕ} c.in_ok-hosted.hosted.items (replicate (length lab.nodes) 0) = c.in_ok-hosted.ensures.items_if_clones_equal (λ y e. e) ∙ ap (λ (k : ℕ). replicate k 0) nodes in
    record {
      within = (let none = ap length empty in omega (arith, none));
      are = subst (λ (ps : List Place). ArePlaces lab ps) (sym empty) (record { in_nodes = λ k d lt. absurd (omega (arith, lt)); of_node = λ k d lt. absurd (omega (arith, lt)) });
      one_each = ap length zeros ∙ length-replicate (length lab.nodes) 0;
      hosted = λ n lt. ap (λ (l : List ℕ). get_or l n 0) zeros ∙ get_or-replicate (length lab.nodes) n 0 0 lt ∙ ap (λ (ps : List Place). hosted_at ps n) (sym empty);
      parts = ap (first_parts lab w) (sym empty);
    }
