use Rattle.plant.specs.Disks.{disk}
use Rattle.plant.specs.declared.step.Side.TheVariants.{A, B}
use Rattle.journal_disk.specs.Standing.{side_of}
use Rattle.swap_turns.proofs.Images.{image_stands, reads_possible}
use Rattle.swap_turns.proofs.journals.working.Goals as goal

pub returns-clause-images : goal.returns-clause-images
returns-clause-images c = λ t trace j rs s works a b possible. image_stands t trace j rs s works a b possible

pub returns-clause-at : goal.returns-clause-at
returns-clause-at c = λ t trace j rs s works. record { opened = works.work.opened; gate = works.gate }

pub returns-clause-reads : goal.returns-clause-reads
returns-clause-reads c = λ t trace j rs s works. image_stands t trace j rs s works (disk A trace).reads (disk B trace).reads (reads_possible trace (side_of j) rs works.work.opened)
