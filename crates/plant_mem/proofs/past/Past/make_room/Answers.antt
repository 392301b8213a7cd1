use Rattle.std.proofs.Common.{rules}
use Rattle.plant_mem.proofs.past.Past.make_room.Goals as goal

pub invariant_of-self-2 : goal.invariant_of-self-2
invariant_of-self-2 c = record {
  within = search rules;
  a_is = search rules;
  b_is = search rules;
  known = rw (c.try_reserve-3.ensures.items, c.make_room-3.ensures.nodes, c.make_room-3.ensures.pipes, c.try_reserve.ensures.items) c.args.self.now.known;
  rows_are = rw (c.try_reserve-3.ensures.items, c.try_reserve-2.ensures.items, c.try_reserve.ensures.items) c.args.self.now.rows_are;
}
