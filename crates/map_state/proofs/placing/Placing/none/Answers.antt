use Rattle.std.proofs.Common.{◌≡◌, ◌∙◌, [], ℕ, List, length, map, replicate, get_or, ap, sym, arith}
use Rattle.std.specs.Prelude.{is_some}
use Rattle.std.proofs.lemmas.List.{length-replicate, get_or-replicate}
use Rattle.lab_model.specs.Shapes.{Place}
use Rattle.node_maps.specs.NodeMaps.{plugs_of, ends_of}
use Rattle.map_state.specs.Hosted.{hosted_at}
use Rattle.map_state.proofs.Served.{none_served}
use Rattle.map_state.proofs.placing.Placing.none.Goals as goal

pub returns-clause-placing : goal.returns-clause-placing
returns-clause-placing c =
    let x = c.args.search.now.mapper in
    let lab = x.lab.now in
    let w = x.wiring.now in
    let empty : ◌≡◌ {A = List Place} c.new.result.items [] = c.new.ensures.items in
    let nodes = ap length c.nodes.ensures in
    let zeros : ◌≡◌ {A = List ℕ} c.in_ok-vec.field-0.items (replicate (length lab.nodes) 0) = c.in_ok-vec.ensures.items_if_clones_equal (λ y e. e) ∙ ap (λ (k : ℕ). replicate k 0) nodes in
    record {
      within = (let none = ap length empty in omega (arith, none));
      hosts = c.new-2.ensures.items ∙ ap (λ (ps : List Place). map (λ (q : Place). q.0.0) ps) (sym empty);
      one_each = ap length zeros ∙ length-replicate (length lab.nodes) 0;
      hosted = λ n lt. ap (λ (l : List ℕ). get_or l n 0) zeros ∙ get_or-replicate (length lab.nodes) n 0 0 lt ∙ ap (λ (ps : List Place). hosted_at ps n) (sym empty);
      served = ap (λ (ps : List Place). is_some (plugs_of lab w ps)) empty ∙ none_served lab (ends_of w.segments);
      idle = record { marks = c.in_ok-nothing.ensures };
    }
