use Rattle.std.proofs.Common.{◌<◌, ◌∙◌, ◌++◌, ℕ, List, length, map, get_or, All, ap, sym, subst, arith}
use Rattle.std.proofs.lemmas.List.{length-map}
use Rattle.trunk_sums.specs.declared.sums.EndRow.{EndRow}
use Rattle.node_maps.specs.declared.ends.End.{End}
use Rattle.node_maps.proofs.InOrder.{in_order_few}
use Rattle.map_state.specs.Nodes.{is_on, changes_of, no_end}
use Rattle.map_state.proofs.StateLaws.{numbers_in}
use Rattle.map_state.proofs.OrderedPlans.{noted_in_order}
use Rattle.map_state.proofs.give.give_listed.Goals as goal

pub are_in_order-requires : goal.are_in_order-requires
are_in_order-requires c =
    let es = c.args.search.now.mapper.ends.now in
    subst (λ (l : List ℕ). All (λ (k : ℕ). k < length es) l) (sym c.requires.listed) (numbers_in (is_on c.args.places.now c.args.node.0) es)

pub note_in_order-requires-clause-few : goal.note_in_order-requires-clause-few
note_in_order-requires-clause-few c =
    let at : ℕ → End = λ k. get_or c.args.search.now.mapper.ends.now k no_end in
    let few = in_order_few (map at c.args.listed.now) c.of-ifaces.result.now (sym c.are_in_order.ensures ∙ c.if-are_in_order.true) in
    let all = length-map c.args.listed.now at in
    omega (arith, few, all)

pub note_in_order-requires-clause-within : goal.note_in_order-requires-clause-within
note_in_order-requires-clause-within c = λ k d lt.
    let es = c.args.search.now.mapper.ends.now in
    let less = subst (λ (l : List ℕ). All (λ (j : ℕ). j < length es) l) (sym c.requires.listed) (numbers_in (is_on c.args.places.now c.args.node.0) es) k d lt in
    let ends = ap length c.requires.search.mapper.ends in
    let all = c.requires.search.table.rows.one_each in
    let rows = ap length c.deref.ensures.value in
    omega (arith, less, ends, all, rows)

pub returns-then-are_in_order-clause-given : goal.returns-then-are_in_order-clause-given
returns-then-are_in_order-clause-given c = λ is.
    let x = c.args.search.now in
    let xs = c.of-ifaces.result.now in
    noted_in_order x c.args.places.now c.args.node.0 c.args.listed.now xs c.args.changes.now.items c.note_in_order.new.changes.items c.requires.search c.requires.placed c.requires.listed
    (c.of-ifaces.ensures ∙ c.requires.search.mapper.ifaces.each c.args.node.0) (sym c.are_in_order.ensures ∙ c.if-are_in_order.true)
    (c.in_ok-note_in_order.ensures ∙ ap (λ (l : List EndRow). c.args.changes.now.items ++ changes_of l c.args.listed.now (map (λ y. y.id) xs)) c.deref.ensures.value)
