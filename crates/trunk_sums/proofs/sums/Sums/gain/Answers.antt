use Rattle.std.proofs.Common.{◌≡◌, ◌<◌, ◌+◌, ◌*◌, ◌%◌, ◌∙◌, ℕ, min, max, bit_xor, length, get_or, refl, sym, subst, arith}
use Rattle.std.specs.Int.{bit_at}
use Rattle.std.proofs.lemmas.List.{get_or_default}
use Rattle.std.proofs.lemmas.Nat.Bits.{bit_at_xor, bit_at-lt}
use Rattle.lab_base.specs.declared.ids.IfaceId.{IfaceId}
use Rattle.phys_lab.proofs.TrunkCount.{few_trunks}
use Rattle.virt_topo.proofs.CableLaws.{own_limits}
use Rattle.trunk_sums.specs.declared.gains.Gains.{Gains}
use Rattle.trunk_sums.specs.Crossed.{is_on, side_of}
use Rattle.trunk_sums.specs.Gains.{IsGain, no_gains}
use Rattle.trunk_sums.specs.Summed.{no_segment}
use Rattle.trunk_sums.proofs.BetweenLaws.{side_is}
use Rattle.trunk_sums.proofs.BitLaws.{kbps_are}
use Rattle.trunk_sums.proofs.GainLaws.{lesser_after}
use Rattle.trunk_sums.proofs.Replugged.{in_ends}
use Rattle.trunk_sums.proofs.SummedLaws.{is_in}
use Rattle.trunk_sums.proofs.ShareLaws.{change_is}
use Rattle.trunk_sums.proofs.sums.Sums.gain.Goals as goal

pub bounds-plugs-change : goal.bounds-plugs-change
bounds-plugs-change c =
    let w = c.args.wiring.now in
    omega (arith, in_ends w.segments c.args.change.row.segment c.args.change.end (is_in w c.args.change.end c.args.change.row c.requires.row), c.requires.plugged)

pub kbps_of-requires-2 : goal.kbps_of-requires-2
kbps_of-requires-2 c =
    let w = c.args.wiring.now in
    let row = c.args.change.row in
    let s = get_or w.segments row.segment no_segment in
    let own = own_limits w w.segments row.segment s refl c.requires.limits c.requires.row.segment (get_or_default w.segments row.segment no_segment s c.requires.row.segment) in
    omega (arith, own.slow, c.requires.row.kbps)

pub returns-clause-few : goal.returns-clause-few
returns-clause-few c = few_trunks c.args.lab.now c.range-kept.ensures.lab

pub returns-clause-is : goal.returns-clause-is
returns-clause-is c others count own =
    let lab = c.args.lab.now in
    let w = c.args.wiring.now in
    let x = c.args.self.now in
    let plugs = c.args.plugs.now in
    let end = c.args.change.end in
    let row = c.args.change.row in
    let to = c.args.change.to in
    let s = row.segment in
    let few = few_trunks lab c.range-kept.ensures.lab in
    let i : IfaceId = get_or plugs end (record { 0 = 0 }) in
    let i_lt : i.0 < length lab.ifaces = c.requires.in_lab end (record { 0 = 0 }) (omega (arith, in_ends w.segments s end (is_in w end row c.requires.row), c.requires.plugged)) in
    let g : Gains = c.index.result.now in
    let s_lt : s < length x.gains.items = omega (arith, c.requires.row.segment, c.requires.summed.gained) in
    let is_g : g ≡ get_or x.gains.items s no_gains = c.index.ensures ∙ get_or_default x.gains.items s g no_gains s_lt in
    let add : ℕ → ℕ = λ t. bit_at c.adds.result t in
    let take : ℕ → ℕ = λ t. bit_at c.takes.result t in
    let change = change_is lab w plugs others end row to x add take c.requires.summed c.requires.row c.requires.plugged count own (λ t q lt moved some.
    let k = get_or x.counts.items (64 * s + t) 0 in
    let gain : IsGain row.ends k t g =
    subst (λ (y : Gains). IsGain row.ends k t y) (sym is_g)
    (subst (λ (m : ℕ). IsGain m k t (get_or x.gains.items s no_gains)) (sym c.requires.row.ends) (c.requires.summed.gains s t c.requires.row.segment lt)) in
    let from_is : ◌≡◌ {A = ℕ} (bit_at c.sides-from.result t) (is_on (side_of lab t) i) = c.sides-from.ensures.each t lt ∙ sym (side_is lab t i i_lt) in
    let to_is : ◌≡◌ {A = ℕ} (bit_at c.sides-to.result t) (is_on (side_of lab t) to) = c.sides-to.ensures.each t lt ∙ sym (side_is lab t to c.requires.to) in
    let z = bit_at (bit_xor c.sides-from.result c.sides-to.result) t in
    let apart : z ≡ (is_on (side_of lab t) i + is_on (side_of lab t) to) % 2 = bit_at_xor c.sides-from.result c.sides-to.result t ∙ (λ j. (from_is j + to_is j) % 2) in
    let from_one = bit_at-lt c.sides-from.result t in
    let to_one = bit_at-lt c.sides-to.result t in
    let adds = c.adds.ensures t in
    let takes = c.takes.ensures t in
    lesser_after row.ends k q (is_on (side_of lab t) i) (is_on (side_of lab t) to) z t (add t) (take t) g gain (omega (arith, from_is, from_one)) (omega (arith, to_is, to_one)) some moved apart
    (adds ∙ (λ j. max (min (min (to_is j) z) (bit_at g.onto_adds t)) (min (min (from_is j) z) (bit_at g.off_adds t))))
    (takes ∙ (λ j. max (min (min (to_is j) z) (bit_at g.onto_takes t)) (min (min (from_is j) z) (bit_at g.off_takes t))))) in
    let adds_are = kbps_are (length lab.trunks) 64 c.adds.result row.kbps few c.adds.type_inv (λ t from lt.
    let adds = c.adds.ensures t in
    let here = c.sides-from.ensures.none t from lt in
    let there = c.sides-to.ensures.none t from lt in
    omega (arith, adds, here, there)) in
    let takes_are = kbps_are (length lab.trunks) 64 c.takes.result row.kbps few c.takes.type_inv (λ t from lt.
    let takes = c.takes.ensures t in
    let here = c.sides-from.ensures.none t from lt in
    let there = c.sides-to.ensures.none t from lt in
    omega (arith, takes, here, there)) in
    omega (arith, change, adds_are, takes_are, c.kbps_of.ensures.is, c.kbps_of-2.ensures.is)
