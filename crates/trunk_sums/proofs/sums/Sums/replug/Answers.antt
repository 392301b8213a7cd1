use Rattle.std.proofs.Common.{◌≡◌, ◌<◌, ◌∙◌, ◌∷◌, [], ℕ, List, length, get_or, true, refl, ap, sym, subst, arith}
use Rattle.std.proofs.lemmas.List.{get_or_read}
use Rattle.std.specs.Int.{bit_at}
use Rattle.lab_base.specs.declared.ids.IfaceId.{IfaceId}
use Rattle.phys_lab.specs.Labs.{Lab}
use Rattle.phys_lab.proofs.TrunkCount.{few_trunks}
use Rattle.virt_topo.specs.declared.wiring.Wiring.{Wiring}
use Rattle.virt_topo.specs.Ends.{end_nodes}
use Rattle.virt_topo.specs.Soundness.{keeps_limits}
use Rattle.trunk_sums.specs.declared.crossing.Crossing.{Crossing}
use Rattle.trunk_sums.specs.declared.gains.Gains.{Gains}
use Rattle.trunk_sums.specs.declared.made.Change.{Change}
use Rattle.trunk_sums.specs.declared.sums.Sums.{Sums}
use Rattle.trunk_sums.specs.Crossed.{AreCrossed}
use Rattle.trunk_sums.specs.Summed.{IsRow, IsSummed}
use Rattle.trunk_sums.proofs.BetweenLaws.{side_is}
use Rattle.trunk_sums.proofs.Replugged.{in_ends, sum_le}
use Rattle.trunk_sums.proofs.SummedLaws.{AreOn, Going, Crossed, Marked, trunk_at, is_in, counted_at, small_at, summed_after, summed_stays}
use Rattle.trunk_sums.proofs.sums.Sums.replug.Goals as goal

-- the end of a change has a plug
there : (w : Wiring) (plugs : List IfaceId) (x : Change) → IsRow w x.end x.row → length plugs ≡ length (end_nodes w.segments) → x.end < length plugs
there w plugs x row plugged = omega (arith, in_ends w.segments x.row.segment x.end (is_in w x.end x.row row), plugged)

-- a change, as the plug of its end was read
going : (lab : Lab) (w : Wiring) (plugs : List IfaceId) (x : Change) (plug : IfaceId) (cs : List Crossing) (s : Sums)
    → keeps_limits w ≡ true → length plugs ≡ length (end_nodes w.segments) → IsRow w x.end x.row → IsSummed lab w plugs s
    → plug ≡ get_or plugs x.end plug → AreCrossed lab plug x.to cs → Going lab w plugs x.end x.row x.to cs s
going lab w plugs x plug cs s limits plugged row summed read crossed = record {
  limits = limits;
  plugged = plugged;
  of_row = row;
  crossed = subst (λ (i : IfaceId). AreCrossed lab i x.to cs) (get_or_read plugs x.end plug (there w plugs x row plugged) read (record { 0 = 0 })) crossed;
  summed = summed;
}

pub index-plug-requires : goal.index-plug-requires
index-plug-requires c = omega (arith, there c.args.wiring.now c.args.plugs.now.items c.args.change c.requires.row c.requires.plugged)

pub between-crossed-requires-clause-from : goal.between-crossed-requires-clause-from
between-crossed-requires-clause-from c =
    subst (λ (i : IfaceId). i.0 < length c.args.lab.now.ifaces) (sym c.index-plug.ensures)
    (c.requires.in_lab c.args.change.end c.index-plug.result.now (there c.args.wiring.now c.args.plugs.now.items c.args.change c.requires.row c.requires.plugged))

pub sides-from-requires-clause-plug : goal.sides-from-requires-clause-plug
sides-from-requires-clause-plug c =
    subst (λ (i : IfaceId). i.0 < length c.args.lab.now.ifaces) (sym c.index-plug.ensures)
    (c.requires.in_lab c.args.change.end c.index-plug.result.now (there c.args.wiring.now c.args.plugs.now.items c.args.change c.requires.row c.requires.plugged))

pub cross-requires-clause-one_each : goal.cross-requires-clause-one_each
cross-requires-clause-one_each c = omega (arith, few_trunks c.args.lab.now c.range-kept.ensures.lab, c.requires.summed.one_each)

pub cross-requires-clause-short : goal.cross-requires-clause-short
cross-requires-clause-short c = omega (arith, few_trunks c.args.lab.now c.range-kept.ensures.lab, c.between-crossed.ensures.few)

pub index_mut-requires-2 : goal.index_mut-requires-2
index_mut-requires-2 c = omega (arith, there c.args.wiring.now c.args.plugs.now.items c.args.change c.requires.row c.requires.plugged)

pub index_mut-requires : goal.index_mut-requires
index_mut-requires c = omega (arith, there c.args.wiring.now c.args.plugs.now.items c.args.change c.requires.row c.requires.plugged)

pub cross-requires-clause-come : goal.cross-requires-clause-come
cross-requires-clause-come c t lt =
    let g : Going c.args.lab.now c.args.wiring.now c.args.plugs.now.items c.args.change.end c.args.change.row c.args.change.to c.between-crossed.result.now c.args.self.now =
    going c.args.lab.now c.args.wiring.now c.args.plugs.now.items c.args.change c.index-plug.result.now c.between-crossed.result.now c.args.self.now c.requires.limits c.requires.plugged c.requires.row c.requires.summed c.index-plug.ensures c.between-crossed.ensures in
    let in_lab : t < length c.args.lab.now.trunks = omega (arith, lt, c.requires.summed.one_each) in
    let k = trunk_at c.args.lab.now c.args.wiring.now c.args.plugs.now.items c.args.change.end c.args.change.row c.args.change.to c.between-crossed.result.now c.args.self.now t g in_lab in
    let counts = c.requires.summed.counts c.args.change.row.segment t c.requires.row.segment in_lab in
    omega (arith, counts, k.moved, k.crossed, k.gone, k.come, k.before, k.after)

pub cross-requires-clause-gone : goal.cross-requires-clause-gone
cross-requires-clause-gone c t lt =
    let g : Going c.args.lab.now c.args.wiring.now c.args.plugs.now.items c.args.change.end c.args.change.row c.args.change.to c.between-crossed.result.now c.args.self.now =
    going c.args.lab.now c.args.wiring.now c.args.plugs.now.items c.args.change c.index-plug.result.now c.between-crossed.result.now c.args.self.now c.requires.limits c.requires.plugged c.requires.row c.requires.summed c.index-plug.ensures c.between-crossed.ensures in
    let in_lab : t < length c.args.lab.now.trunks = omega (arith, lt, c.requires.summed.one_each) in
    let k = trunk_at c.args.lab.now c.args.wiring.now c.args.plugs.now.items c.args.change.end c.args.change.row c.args.change.to c.between-crossed.result.now c.args.self.now t g in_lab in
    let counts = c.requires.summed.counts c.args.change.row.segment t c.requires.row.segment in_lab in
    omega (arith, counts, k.gone, k.one_of)

pub cross-requires-clause-counted : goal.cross-requires-clause-counted
cross-requires-clause-counted c t lt =
    counted_at c.args.lab.now c.args.wiring.now c.args.plugs.now.items c.args.change.end c.args.change.row c.args.self.now t c.requires.row c.requires.plugged c.requires.summed (omega (arith, lt, c.requires.summed.one_each))

pub cross-requires-clause-small : goal.cross-requires-clause-small
cross-requires-clause-small c t lt =
    small_at c.args.lab.now c.args.wiring.now c.args.plugs.now.items c.args.self.now t c.requires.limits c.requires.summed (omega (arith, lt, c.requires.summed.one_each))

pub cross-requires-clause-whole : goal.cross-requires-clause-whole
cross-requires-clause-whole c =
    let uses = c.args.self.now.uses.items in
    let sum = sum_le uses (λ t lt. small_at c.args.lab.now c.args.wiring.now c.args.plugs.now.items c.args.self.now t c.requires.limits c.requires.summed (omega (arith, lt, c.requires.summed.one_each))) in
    let total = c.requires.summed.total in
    omega (arith, sum, total, few_trunks c.args.lab.now c.range-kept.ensures.lab, c.requires.summed.one_each)

pub mark_moved-requires-clause-within : goal.mark_moved-requires-clause-within
mark_moved-requires-clause-within c k d lt =
    let within = c.between-crossed.ensures.within k d lt in
    omega (arith, within, few_trunks c.args.lab.now c.range-kept.ensures.lab)

pub mark_moved-requires-clause-row : goal.mark_moved-requires-clause-row
mark_moved-requires-clause-row c = omega (arith, c.requires.row.segment, c.requires.summed.gained, ap (λ (l : List Gains). length l) c.cross.ensures.gains)

-- a list without length
nil_of : (cs : List Crossing) → length cs ≡ 0 → cs ≡ []
nil_of [] none = refl
nil_of (c ∷ cs) none = absurd (omega (arith, none))

pub returns-then-crosses_none-clause-summed : goal.returns-then-crosses_none-clause-summed
returns-then-crosses_none-clause-summed c =
    let lab = c.args.lab.now in
    let plug : IfaceId = c.index-plug.result.now in
    let none = nil_of c.between-crossed.result.now (c.crosses_none.ensures c.if-crosses_none.true) in
    let g : Going lab c.args.wiring.now c.args.plugs.now.items c.args.change.end c.args.change.row c.args.change.to [] c.args.self.now =
    going lab c.args.wiring.now c.args.plugs.now.items c.args.change plug [] c.args.self.now c.requires.limits c.requires.plugged c.requires.row c.requires.summed c.index-plug.ensures
    (subst (λ (cs : List Crossing). AreCrossed lab plug c.args.change.to cs) none c.between-crossed.ensures) in
    summed_stays lab c.args.wiring.now c.args.plugs.now.items c.args.change.end c.args.change.row c.args.change.to c.args.self.now g (few_trunks lab c.range-kept.ensures.lab)

pub returns-clause-summed : goal.returns-clause-summed
returns-clause-summed c =
    let lab = c.args.lab.now in
    let x = c.args.self.now in
    let y = c.cross.new.self in
    let z = c.mark_moved.new.self in
    let g : Going lab c.args.wiring.now c.args.plugs.now.items c.args.change.end c.args.change.row c.args.change.to c.between-crossed.result.now x =
    going c.args.lab.now c.args.wiring.now c.args.plugs.now.items c.args.change c.index-plug.result.now c.between-crossed.result.now c.args.self.now c.requires.limits c.requires.plugged c.requires.row c.requires.summed c.index-plug.ensures c.between-crossed.ensures in
    let after : Crossed c.args.change.row (length lab.trunks) c.between-crossed.result.now x y = record {
      room = c.cross.ensures.room;
      one_each = c.cross.ensures.one_each;
      counts = λ t lt. c.cross.ensures.row t (omega (arith, lt, c.requires.summed.one_each));
      others = c.cross.ensures.others;
      uses = λ t lt. c.cross.ensures.uses t (omega (arith, lt, c.requires.summed.one_each));
      summed = c.cross.ensures.summed;
      gains = c.cross.ensures.gains;
    } in
    let marked : Marked c.args.change.row c.between-crossed.result.now (bit_at c.sides-from.result) (bit_at c.sides-to.result) y z = record {
      counts = c.mark_moved.ensures.counts;
      uses = c.mark_moved.ensures.uses;
      total = c.mark_moved.ensures.total;
      one_each = c.mark_moved.ensures.one_each;
      others = c.mark_moved.ensures.others;
      own = c.mark_moved.ensures.own;
    } in
    let plugs = c.args.plugs.now.items in
    let plug : IfaceId = c.index-plug.result.now in
    let here = there c.args.wiring.now plugs c.args.change c.requires.row c.requires.plugged in
    let plug_lt : plug.0 < length lab.ifaces = subst (λ (i : IfaceId). i.0 < length lab.ifaces) (sym c.index-plug.ensures) (c.requires.in_lab c.args.change.end plug here) in
    let from : AreOn lab (get_or plugs c.args.change.end (record { 0 = 0 })) (bit_at c.sides-from.result) =
    subst (λ (i : IfaceId). AreOn lab i (bit_at c.sides-from.result)) (get_or_read plugs c.args.change.end plug here c.index-plug.ensures (record { 0 = 0 }))
    (λ t lt. c.sides-from.ensures.each t lt ∙ sym (side_is lab t plug plug_lt)) in
    let to : AreOn lab c.args.change.to (bit_at c.sides-to.result) = λ t lt. c.sides-to.ensures.each t lt ∙ sym (side_is lab t c.args.change.to c.requires.to) in
    summed_after lab c.args.wiring.now plugs c.args.change.end c.args.change.row c.args.change.to c.between-crossed.result.now (bit_at c.sides-from.result) (bit_at c.sides-to.result) x y z g from to after marked (few_trunks lab c.range-kept.ensures.lab)
