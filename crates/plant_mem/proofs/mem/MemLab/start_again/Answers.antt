use Rattle.std.proofs.Common.{rules}
use Rattle.plant.specs.declared.step.Side.TheVariants.{A, B}
use Rattle.plant_mem.proofs.Sides.{has_side}
use Rattle.plant_mem.proofs.mem.MemLab.start_again.Goals as goal

pub returns-clause-rooms : goal.returns-clause-rooms
returns-clause-rooms c =
    let past = c.restarted.new.self in
    record {
      steps = search rules;
      entries = search rules;
      bytes = search rules;
      a = has_side past A (c.restarted.ensures.a 262144 16777216 c.in_ok-make_room.ensures.a);
      b = has_side past B (c.restarted.ensures.b 262144 16777216 c.in_ok-make_room.ensures.b);
    }
