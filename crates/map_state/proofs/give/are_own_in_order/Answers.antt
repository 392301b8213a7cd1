use Rattle.std.proofs.Common.{◌≡◌, ◌<◌, ◌≤◌, ◌∙◌, ◌==◌, ℕ, List, length, map, get_or, Bool, true, false, All, ap, sym, subst, arith}
use Rattle.std.proofs.lemmas.Bool.{leb-true}
use Rattle.std.proofs.lemmas.List.{length-map}
use Rattle.node_maps.specs.declared.ends.End.{End}
use Rattle.node_maps.specs.declared.index.NodeIface.{NodeIface}
use Rattle.node_maps.specs.Indexed.{ifaces_of, are_in_order}
use Rattle.node_maps.proofs.InOrder.{in_order_few}
use Rattle.map_state.specs.Nodes.{numbers_of, no_end}
use Rattle.map_state.proofs.StateLaws.{numbers_in}
use Rattle.map_state.proofs.LoneLaws.{own_listed}
use Rattle.map_state.proofs.SpeedLaws.{own_in_order}
use Rattle.map_state.proofs.give.are_own_in_order.Goals as goal

-- more ends than interfaces
too_many : (es : List End) (xs : List NodeIface) → length xs < length es → are_in_order es xs ≡ false
too_many es xs many = by (are_in_order es xs) (in_order_few es xs)
  where
    by : (b : Bool) → (b ≡ true → length es ≤ length xs) → b ≡ false
    by true few = absurd (let le = few (λ j. true) in omega (arith, le, many))
    by false few = (λ j. false)

pub index-requires : goal.index-requires
index-requires c =
    let each = c.requires.search.table.own.one_each in
    omega (arith, c.requires.virt, each)

pub returns-then-own-ifaces : goal.returns-then-own-ifaces
returns-then-own-ifaces c =
    let x = c.args.search.now in
    let n = c.args.node.0 in
    let own = own_listed x c.args.virt c.as_slice-own.result.now c.index.result.now c.requires.search c.requires.virt c.as_slice-own.ensures c.index.ensures in
    let ifaces = c.of-ifaces.ensures ∙ c.requires.search.mapper.ifaces.each n in
    let ends = numbers_of 0 (λ e. e.node == c.args.virt) x.mapper.ends.now in
    let count = length-map ends (λ (k : ℕ). get_or x.mapper.ends.now k no_end) in
    let long = ap length own in
    let room = ap length ifaces in
    sym (too_many (map (λ k. get_or x.mapper.ends.now k no_end) ends) (ifaces_of 0 x.mapper.lab.now.ifaces n) (omega (arith, c.if-own-ifaces.true, count, long, room)))

pub suffice-requires-clause-virt : goal.suffice-requires-clause-virt
suffice-requires-clause-virt c = omega (arith, c.requires.virt, c.requires.search.table.speeds.wanted_each)

pub suffice-requires-clause-node : goal.suffice-requires-clause-node
suffice-requires-clause-node c = omega (arith, c.requires.node, c.requires.search.table.speeds.least_each)

pub returns-then-suffice : goal.returns-then-suffice
returns-then-suffice c =
    let x = c.args.search.now in
    let n = c.args.node.0 in
    let own = own_listed x c.args.virt c.as_slice-own.result.now c.index.result.now c.requires.search c.requires.virt c.as_slice-own.ensures c.index.ensures in
    let ifaces = c.of-ifaces.ensures ∙ c.requires.search.mapper.ifaces.each n in
    let long = ap length own in
    let room = ap length ifaces in
    let slow = leb-true (get_or x.table.now.speeds.wanted.items c.args.virt 0) (get_or x.table.now.speeds.least.items n 0) (sym c.suffice.ensures ∙ c.if-suffice.true) in
    sym (own_in_order x c.args.virt n c.requires.search c.requires.node (omega (arith, c.if-own-ifaces.false, long, room)) slow)

pub are_in_order-requires : goal.are_in_order-requires
are_in_order-requires c =
    let x = c.args.search.now in
    let own = own_listed x c.args.virt c.as_slice-own.result.now c.index.result.now c.requires.search c.requires.virt c.as_slice-own.ensures c.index.ensures in
    subst (λ (l : List ℕ). All (λ (k : ℕ). k < length x.mapper.ends.now) l) (sym own) (numbers_in (λ e. e.node == c.args.virt) x.mapper.ends.now)

pub returns : goal.returns
returns c =
    let x = c.args.search.now in
    let n = c.args.node.0 in
    let end : ℕ → End = λ k. get_or x.mapper.ends.now k no_end in
    let own = own_listed x c.args.virt c.as_slice-own.result.now c.index.result.now c.requires.search c.requires.virt c.as_slice-own.ensures c.index.ensures in
    let ifaces = c.of-ifaces.ensures ∙ c.requires.search.mapper.ifaces.each n in
    c.are_in_order.ensures ∙ (λ j. are_in_order (map end (own j)) (ifaces j))
