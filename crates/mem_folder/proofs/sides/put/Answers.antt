use Rattle.std.proofs.Common.{◌≡◌, ◌∙◌, List, ℕ, ap, sym, subst, length, take, drop}
use Rattle.plant.specs.Disks.{Disk, put, wrote}
use Rattle.plant_mem.specs.MemSides.{disk_of}
use Rattle.mem_folder.proofs.Written.{written_back}
use Rattle.mem_folder.proofs.sides.put.Goals as goal

pub returns-clause-written : goal.returns-clause-written
returns-clause-written c =
    let bytes = c.args.bytes.now in
    let at = c.args.at in
    let old = disk_of c.args.mem_side.now in
    let there : c.put.new.self.reads.items ≡ put old.reads at bytes = ap (λ (d : Disk). d.reads) (c.put.ensures.wrote ∙ ap (λ (d : Disk). wrote d at bytes) c.make_room.ensures.disk) in
    subst (λ (l : List ℕ). take (length bytes) (drop at l) ≡ bytes) (sym there) (written_back old.reads at bytes c.requires)
