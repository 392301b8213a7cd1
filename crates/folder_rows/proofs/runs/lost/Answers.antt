use Rattle.mem_folder.specs.MemTold.{held_of}
use Rattle.folder_rows.proofs.runs.lost.Goals as goal

pub returns-in-Ok : goal.returns-in-Ok
returns-in-Ok c =
    let loss = c.in-Ok.ensures in
    (c.folders.ensures.lost (held_of c.args.folder) (held_of c.in-Ok.folder) loss.0 _ _ c.requires loss.2).0
