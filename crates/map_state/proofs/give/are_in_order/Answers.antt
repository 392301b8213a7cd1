use Rattle.std.proofs.Common.{◌<◌, ◌∙◌, ℕ, suc, length, get_or, sym, arith}
use Rattle.std.proofs.lemmas.Bool.{leb-false}
use Rattle.node_maps.specs.declared.ends.End.{End}
use Rattle.map_state.specs.Nodes.{no_end}
use Rattle.map_state.proofs.OrderedPlans.{order_end}
use Rattle.map_state.proofs.give.are_in_order.Goals as goal

pub returns-in_default : goal.returns-in_default
returns-in_default c =
    let at : ℕ → End = λ k. get_or c.args.ends.now k no_end in
    let n = c.loop-number.number in
    let past : length c.args.ifaces.now < suc n = leb-false (suc n) (length c.args.ifaces.now) (sym c.in_default.ensures.lookup.0) in
    sym (order_end at c.args.listed.now c.args.ifaces.now n 0 c.loop-number-test.true (omega (arith, past))) ∙ c.loop-number.invariant
