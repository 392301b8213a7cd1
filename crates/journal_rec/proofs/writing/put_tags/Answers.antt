use Rattle.std.proofs.Common.{refl, get_or}
use Rattle.lab_base.specs.declared.ids.VlanId.{VlanId}
use Rattle.journal_rec.proofs.Loops.{put_more, more_fit}
use Rattle.journal_rec.proofs.writing.put_tags.Goals as goal

pub loop-tag-preserved : goal.loop-tag-preserved
loop-tag-preserved c =
    let tags = c.args.tags.now in
    let i = c.loop-tag.tag-index in
    let tag : VlanId = get_or tags i (record { 0 = 0 }) in
    let within = rw c.as_slice-tag-items.ensures at c.loop-tag-test.true in
    let wrote = rw c.as_slice-tag-items.ensures at c.in_ok-put_short-2.ensures.ok in
    let fits = rw c.as_slice-tag-items.ensures at c.put_short-in-loop-tag.ensures.fits in
    record {
      out = put_more tags i tag c.put_short.new.out.items c.loop-tag.out.items c.put_short-in-loop-tag.new.out.items within refl c.loop-tag.invariant.out wrote;
      each = more_fit tags i tag within refl fits c.loop-tag.invariant.each;
    }
