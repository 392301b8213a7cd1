-- Answers fit their commands.
use Rattle.std.proofs.Common.{List, refl}
use Rattle.plant.specs.declared.device.DeviceOp.{DeviceOp}
use Rattle.plant.specs.declared.device.DeviceOp.TheVariants.{Join, Leave, Shape, Load, Boot as BootIt, Poll, Wipe}
use Rattle.plant.specs.Calls.{Fits}
use Rattle.plant_file.specs.declared.entry.Entry.{Entry}
use Rattle.plant_file.specs.Entries.{moved, state_in, answer_of}

pub answer_fits : (op : DeviceOp) (entries : List Entry) → Fits op (answer_of op entries)
answer_fits (Join switch port vlan) entries = refl
answer_fits (Leave switch port vlan) entries = refl
answer_fits (Shape node pipe from to there back) entries = refl
answer_fits (Load node os) entries = refl
answer_fits (BootIt node) entries = refl
answer_fits (Poll node) entries = (moved (state_in node entries), refl)
answer_fits (Wipe node) entries = refl
