use Rattle.std.proofs.Common.{◌≡◌, ◌+◌, ◌∙◌, inl, inr, ℕ, Bool, List, length, get_or, ap, sym, arith, get_or-set_same, get_or-set_other}
use Rattle.std.proofs.Math.ListN.{set as set_in}
use Rattle.std.proofs.lemmas.Bool.{cases_lt}
use Rattle.std.proofs.lemmas.List.{length-set}
use Rattle.phys_lab.proofs.TrunkCount.{few_trunks}
use Rattle.virt_topo.specs.Cables.{plugs_on}
use Rattle.trunk_sums.specs.Crossed.{side_of}
use Rattle.trunk_sums.proofs.start.count_row.Goals as goal

pub overflow_cast-trunk : goal.overflow_cast-trunk
overflow_cast-trunk c = omega (arith, few_trunks c.args.lab.now c.range-kept.ensures.lab, ap length c.trunks-trunk-end.ensures.list, c.loop-trunk-test.true)

pub index_mut-requires : goal.index_mut-requires
index_mut-requires c =
    omega (arith, few_trunks c.args.lab.now c.range-kept.ensures.lab, ap length c.trunks-trunk-end.ensures.list, c.loop-trunk-test.true, c.loop-trunk.invariant.room, c.loop-trunk.counts.ok.0, c.requires.room)

pub loop-trunk-preserved : goal.loop-trunk-preserved
loop-trunk-preserved c =
    let items = c.loop-trunk.counts.items in
    let place = c.args.place in
    let trunk = c.loop-trunk.trunk in
    let inv = c.loop-trunk.invariant in
    let few = few_trunks c.args.lab.now c.range-kept.ensures.lab in
    let count = ap length c.trunks-trunk-end.ensures.list in
    record {
      room = length-set items (place + trunk) c.plugs_on.result ∙ inv.room;
      row = λ t lt. elim (cases_lt t trunk) [
        | inl below ↦ get_or-set_other items (place + trunk) (place + t) c.plugs_on.result 0 (omega (arith, below)) ∙ inv.row t below
        | inr above ↦ (
            let here : t ≡ trunk = omega (arith, above, lt) in
            ap (λ (k : ℕ). get_or (set_in items (place + trunk) c.plugs_on.result) (place + k) 0) here
            ∙ get_or-set_same items (place + trunk) c.plugs_on.result 0 (omega (arith, few, count, c.loop-trunk-test.true, inv.room, c.requires.room))
            ∙ c.plugs_on.ensures.is ∙ ap (λ (side : List Bool). plugs_on side c.args.plugs.now) c.first_side-side.ensures
            ∙ ap (λ (k : ℕ). plugs_on (side_of c.args.lab.now k) c.args.plugs.now) (sym here))
      ];
      earlier = λ k lt. get_or-set_other items (place + trunk) k c.plugs_on.result 0 (omega (arith, lt)) ∙ inv.earlier k lt;
    }
