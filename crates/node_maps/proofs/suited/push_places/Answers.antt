use Rattle.std.proofs.Common.{◌∙◌, ◌++◌, ◌∷◌, [], ℕ, List, ap, map, take, sym, append_assoc}
use Rattle.std.proofs.lemmas.List.{map_more}
use Rattle.lab_model.specs.Shapes.{Place}
use Rattle.node_maps.proofs.suited.push_places.Goals as goal

pub loop-kind-preserved : goal.loop-kind-preserved
loop-kind-preserved c =
    let items = c.as_slice-kind-items.result.now in
    let n = c.loop-kind.kind-index in
    let x = c.kind-item.result in
    let of : List ℕ × ℕ → Place = λ t. (c.args.id, t.0) in
    let more = map_more of items n x c.loop-kind-test.true ∙ ap (λ (t : List ℕ × ℕ). map of (take n items) ++ of t ∷ []) (sym c.kind-item.is) in
    c.in_ok-push.ensures.items
    ∙ ap (λ (l : List Place). l ++ of x ∷ []) c.loop-kind.invariant
    ∙ append_assoc c.args.listed.now.items (map of (take n items)) (of x ∷ [])
    ∙ ap (λ (l : List Place). c.args.listed.now.items ++ l) (sym more)
