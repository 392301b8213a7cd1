use Rattle.std.proofs.Common.{arith, refl}
use Rattle.std.specs.Prelude.{nat_eq}
use Rattle.indexmap.specs.IndexMap.{get}
use Rattle.ns_build.proofs.PlaceLaws.{note_next}
use Rattle.ns_build.proofs.links.note_ends.Goals as goal

pub loop-end-preserved : goal.loop-end-preserved
loop-end-preserved c = record {
  places = note_next c.args.index (get nat_eq c.args.places.now) (get nat_eq c.loop-end.places) (get nat_eq c.note_end.new.places) c.args.ends.now c.loop-end.end-index _ _ c.loop-end-test.true refl c.loop-end.invariant.places c.note_end.ensures.noted;
  room = omega (arith, c.loop-end.invariant.room, c.note_end.ensures.room);
}
