use Rattle.std.proofs.Common.{◌≡◌, ◌∙◌, ℕ, List, Bool, length, ap, arith}
use Rattle.phys_lab.proofs.TrunkCount.{few_trunks}
use Rattle.phys_lab.specs.Forests.{first_side_of}
use Rattle.virt_topo.specs.Cables.{Cable, cable_use}
use Rattle.cost_rule.proofs.Sums.{sum_more}
use Rattle.rule_costs.proofs.uses.segment_uses.Goals as goal

pub overflow_cast-trunk : goal.overflow_cast-trunk
overflow_cast-trunk c = omega (arith, few_trunks c.args.lab.now c.range-kept.ensures.lab, ap length c.trunks-trunk-end.ensures.list)

pub overflow_add-total : goal.overflow_add-total
overflow_add-total c = omega (arith, few_trunks c.args.lab.now c.range-kept.ensures.lab, ap length c.trunks-trunk-end.ensures.list)

pub loop-trunk-preserved : goal.loop-trunk-preserved
loop-trunk-preserved c =
    let lab = c.args.lab.now in
    let cable : Cable = record { segment = c.args.segment.now; plugs = c.args.plugs.now } in
    let own : ℕ → ℕ = λ t. cable_use (first_side_of lab.ifaces lab.trunks t) cable in
    let here : ◌≡◌ {A = ℕ} c.segment_use-total.result (own c.loop-trunk.trunk) = c.segment_use-total.ensures.is ∙ ap (λ (side : List Bool). cable_use side cable) c.first_side-side.ensures in
    let more = sum_more c.loop-trunk.trunk own in
    record { so_far = omega (arith, here, more, c.loop-trunk.invariant.so_far); small = omega arith }
