use Rattle.std.proofs.Common.{◌<◌, List, length, get_or, sym, subst, arith}
use Rattle.lab_model.specs.Shapes.{Place}
use Rattle.map_state.proofs.chosen.Chosen.refresh.Goals as goal

pub index-requires : goal.index-requires
index-requires c =
    let x = c.args.search.now.mapper in
    let v = c.args.virt in
    let d : Place = c.index-as_slice-virt.result in
    let all = c.requires.chosen.state.shaped.places in
    let lt : v < length c.args.self.now.state.mapping.places = (let virt = c.requires.virt in omega (arith, virt, all)) in
    let node = subst (λ (l : List Place). (get_or l v d).0.0 < length x.lab.now.nodes) (sym c.as_slice.ensures) (c.requires.chosen.state.shaped.in_nodes v d lt) in
    let each = c.requires.chosen.one_each in
    let len = c.args.self.now.unserved.ok.0 in
    omega (arith, node, each, len)

pub serve_anew-requires-clause-node : goal.serve_anew-requires-clause-node
serve_anew-requires-clause-node c =
    let x = c.args.search.now.mapper in
    let v = c.args.virt in
    let d : Place = c.index-as_slice-virt.result in
    let all = c.requires.chosen.state.shaped.places in
    let lt : v < length c.args.self.now.state.mapping.places = (let virt = c.requires.virt in omega (arith, virt, all)) in
    subst (λ (l : List Place). (get_or l v d).0.0 < length x.lab.now.nodes) (sym c.as_slice.ensures) (c.requires.chosen.state.shaped.in_nodes v d lt)

pub index_mut-requires : goal.index_mut-requires
index_mut-requires c =
    let x = c.args.search.now.mapper in
    let v = c.args.virt in
    let d : Place = c.index-as_slice-virt.result in
    let all = c.requires.chosen.state.shaped.places in
    let lt : v < length c.args.self.now.state.mapping.places = (let virt = c.requires.virt in omega (arith, virt, all)) in
    let node = subst (λ (l : List Place). (get_or l v d).0.0 < length x.lab.now.nodes) (sym c.as_slice.ensures) (c.requires.chosen.state.shaped.in_nodes v d lt) in
    let each = c.requires.chosen.one_each in
    let len = c.args.self.now.unserved.ok.0 in
    omega (arith, node, each, len)
