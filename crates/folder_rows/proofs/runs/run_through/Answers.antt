use Rattle.std.proofs.Common.{refl, sym, subst}
use Rattle.lab_folder.specs.Left.{IsLeft}
use Rattle.mem_folder.specs.MemTold.{held_of}
use Rattle.mem_folder.specs.declared.mem_folder.MemFolder.{MemFolder}
use Rattle.folder_rows.proofs.runs.run_through.Goals as goal

pub returns : goal.returns
returns c = subst (λ (f : MemFolder). IsLeft (held_of f)) (sym c.into_files.ensures) (c.run_over-folder.ensures.left _ refl)
