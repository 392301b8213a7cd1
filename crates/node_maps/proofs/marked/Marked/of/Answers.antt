use Rattle.std.proofs.Common.{◌≡◌, ◌∙◌, ◌<◌, [], ℕ, List, length, get_or, ap, sym, arith}
use Rattle.std.proofs.lemmas.List.{length-map, get_or-map, get_or_default}
use Rattle.node_maps.proofs.marked.Marked.of.Goals as goal

pub index-requires : goal.index-requires
index-requires c =
    let x = c.self.inside in
    omega (arith, c.requires, ap length c.self.view_is, length-map x.kinds.items (λ (k : ℕ). get_or x.lists.items k []))

pub returns : goal.returns
returns c =
    let x = c.self.inside in
    let v = c.args.virt in
    let lt : v < length x.kinds.items = omega (arith, c.requires, ap length c.self.view_is, length-map x.kinds.items (λ (k : ℕ). get_or x.lists.items k [])) in
    let kind : ◌≡◌ {A = ℕ} c.index.result.now (get_or x.kinds.items v 0) = c.index.ensures ∙ get_or_default x.kinds.items v c.index.result.now 0 lt in
    c.list_of.ensures
    ∙ (λ j. get_or (c.deref.ensures.value j) (kind j) [])
    ∙ sym (get_or-map (λ (k : ℕ). get_or x.lists.items k []) x.kinds.items v 0 [] lt)
    ∙ ap (λ (l : List (List ℕ)). get_or l v []) c.self.view_is
