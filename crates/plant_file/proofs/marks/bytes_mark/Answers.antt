use Rattle.std.proofs.Common.{ℕ, ◌+◌, ◌*◌, ◌%◌, get_or, sym, ap, ◌∙◌}
use Rattle.plant_file.proofs.MarkLaws.{mark_next}
use Rattle.plant_file.proofs.marks.bytes_mark.Goals as goal

pub loop-byte-preserved : goal.loop-byte-preserved
loop-byte-preserved c = record {
  mark = c.mark_more-mark.ensures.is ∙ ap (λ (m : ℕ). (m * 31 + get_or c.args.bytes.now c.loop-byte.byte-index 0) % 4294967291) c.loop-byte.invariant.mark
      ∙ sym (mark_next c.args.bytes.now c.loop-byte.byte-index 0 c.loop-byte-test.true);
  small = c.mark_more-mark.ensures.small;
}
