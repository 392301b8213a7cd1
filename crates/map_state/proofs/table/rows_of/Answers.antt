use Rattle.std.proofs.Common.{◌≡◌, ◌<◌, ◌+◌, ◌∙◌, ◌++◌, ℕ, List, length, replicate, get_or, refl, ap, sym, arith, length-append}
use Rattle.std.proofs.lemmas.List.{length-replicate, get_or_read}
use Rattle.virt_topo.specs.declared.wiring.Segment.{Segment}
use Rattle.virt_topo.proofs.CableLaws.{own_limits, sound_keeps}
use Rattle.trunk_sums.specs.declared.sums.EndRow.{EndRow}
use Rattle.trunk_sums.specs.Summed.{first_end, no_segment}
use Rattle.map_state.proofs.RowLaws.{first_none, first_next, first_all, rows_more}
use Rattle.map_state.proofs.table.rows_of.Goals as goal

pub loop-segment-init : goal.loop-segment-init
loop-segment-init c = record {
  number = refl;
  count = ap length c.new-rows.ensures.items ∙ first_none c.args.wiring.now.segments;
  each = λ k lt. absurd (let none = ap length c.new-rows.ensures.items in omega (arith, lt, none));
}

pub push_rows-requires-clause-few : goal.push_rows-requires-clause-few
push_rows-requires-clause-few c =
    (own_limits c.args.wiring.now c.as_slice-segment-items.result.now c.loop-segment.segment-index c.segment-item.result c.as_slice-segment-items.ensures (sound_keeps c.args.wiring.now c.requires) c.loop-segment-test.true c.segment-item.is).few

pub push_rows-requires-clause-slow : goal.push_rows-requires-clause-slow
push_rows-requires-clause-slow c =
    (own_limits c.args.wiring.now c.as_slice-segment-items.result.now c.loop-segment.segment-index c.segment-item.result c.as_slice-segment-items.ensures (sound_keeps c.args.wiring.now c.requires) c.loop-segment-test.true c.segment-item.is).slow

pub loop-segment-preserved : goal.loop-segment-preserved
loop-segment-preserved c =
    let w = c.args.wiring.now in
    let n = c.loop-segment.segment-index in
    let s = c.segment-item.result in
    let inv = c.loop-segment.invariant in
    let rows = c.loop-segment.rows.items in
    let test = c.loop-segment-test.true in
    let slice = ap length c.as_slice-segment-items.ensures in
    let lt : n < length w.segments = omega (arith, test, slice) in
    let is : s ≡ get_or w.segments n no_segment = get_or_read w.segments n s lt (c.segment-item.is ∙ ap (λ (l : List Segment). get_or l n s) c.as_slice-segment-items.ensures) no_segment in
    let made : c.push_rows.new.rows.items ≡ rows ++ replicate (length s.ends) (record { segment = n; ends = length s.ends; kbps = s.kbps }) =
    c.in_ok-push_rows.ensures ∙ ap (λ (k : ℕ). rows ++ replicate (length s.ends) (record { segment = k; ends = length s.ends; kbps = s.kbps })) inv.number in
    let row : EndRow = record { segment = n; ends = length s.ends; kbps = s.kbps } in
    let long : length c.push_rows.new.rows.items ≡ length rows + length s.ends = ap length made ∙ length-append rows (replicate (length s.ends) row) ∙ ap (λ (k : ℕ). length rows + k) (length-replicate (length s.ends) row) in
    let next = first_next w.segments n lt in
    let own : length (get_or w.segments n no_segment).ends ≡ length s.ends = ap (λ (y : Segment). length y.ends) (sym is) in
    let number = inv.number in
    let count = inv.count in
    record {
      number = omega (arith, number);
      count = omega (arith, long, next, own, count);
      each = rows_more w rows n s lt is inv.count inv.each c.push_rows.new.rows.items made;
    }

pub returns : goal.returns
returns c =
    let w = c.args.wiring.now in
    let inv = c.loop-segment.invariant in
    let slice = ap length c.as_slice-segment-items.ensures in
    let out = c.loop-segment-test.false in
    let end = c.loop-segment.auto.segment-index-end in
    let all : c.loop-segment.segment-index ≡ length w.segments = omega (arith, slice, out, end) in
    record {
      one_each = inv.count ∙ ap (first_end w.segments) all ∙ first_all w.segments;
      each = inv.each;
    }
