use Rattle.std.proofs.Common.{◌≡◌, List, sym, subst}
use Rattle.plant.specs.Disks.{disk}
use Rattle.plant.specs.Events.{Event, Wrote}
use Rattle.plant.specs.declared.step.Side.TheVariants.{A, B}
use Rattle.plant_mem.specs.MemSides.{disk_of}
use Rattle.mem_folder.specs.MemFolders.{trace_of, AreBegun}
use Rattle.mem_folder.proofs.Pasts.{begun_more, disk_more}
use Rattle.mem_folder.proofs.mem_calls.MemFolderFolderFiles.write.Goals as goal

pub invariant_of-self : goal.invariant_of-self
invariant_of-self c =
    let self = c.stops.new.self in
    let trace : List Event = trace_of self.steps.items in
    let event : Event = Wrote c.args.side c.args.at c.args.bytes.now in
    let more = sym c.with_write-self.ensures in
    let a = disk_more A trace event (disk_of self.sides.a) (disk_of c.write.new.self.a) self.a_is c.in-Ok.ensures.a in
    let b = disk_more B trace event (disk_of self.sides.b) (disk_of c.write.new.self.b) self.b_is c.in-Ok.ensures.b in
    record {
      a_is = subst (λ (t : List Event). disk_of c.write.new.self.a ≡ disk A t) more a;
      b_is = subst (λ (t : List Event). disk_of c.write.new.self.b ≡ disk B t) more b;
      begun = subst (λ (t : List Event). AreBegun self.olds.items t) more (begun_more self.olds.items trace event self.begun);
    }
