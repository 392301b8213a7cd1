use Rattle.std.proofs.Common.{◌≡◌, ◌++◌, ◌∷◌, [], length, ◌+◌, ap, arith, ◌∙◌}
use Rattle.std.specs.Prelude.{reverse}
use Rattle.plant.specs.Disks.{put}
use Rattle.plant_mem.specs.MemSides.{disk_of}
use Rattle.plant.proofs.Images.{wrote_image}
use Rattle.plant_mem.proofs.Alike.{before_put, reverse_push}
use Rattle.plant_mem.proofs.mem_side.MemSide.put.Goals as goal

pub invariant_of-self-clause-alike : goal.invariant_of-self-clause-alike
invariant_of-self-clause-alike c =
    let self = c.args.self.now in
    rw c.put.ensures.put (before_put self.durable.items self.reads.items c.args.bytes.now c.args.at self.same c.least-self.result (omega arith) (omega arith) (omega (arith, self.reads.ok.0)) self.alike)

pub invariant_of-self-clause-readable : goal.invariant_of-self-clause-readable
invariant_of-self-clause-readable c =
    let self = c.args.self.now in
    let bytes = c.args.bytes.now in
    let at = c.args.at in
    let reads : c.put.new.bytes.items ≡ put self.reads.items at bytes = c.put.ensures.put in
    let pushed : c.push_reserved.new.self.items ≡ self.written.items ++ (at, at + length bytes) ∷ [] = c.push_reserved.ensures.items in
    let table : reverse c.push_reserved.new.self.items ≡ (at, at + length bytes) ∷ reverse self.written.items = ap reverse pushed ∙ reverse_push self.written.items (at, at + length bytes) in
    rw (reads, table) (wrote_image (disk_of self) at bytes (omega (arith, self.reads.ok.0)) self.readable)
