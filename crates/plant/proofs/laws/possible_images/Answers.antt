use Rattle.plant.specs.Disks.{disk}
use Rattle.plant.specs.declared.step.Side.TheVariants.{A, B}
use Rattle.plant.proofs.Images.{durable_image, byte_image, all_bytes}
use Rattle.plant.proofs.laws.possible_images.Goals as goal

pub returns-clause-durable : goal.returns-clause-durable
returns-clause-durable c = λ trace. (durable_image (disk A trace), durable_image (disk B trace))

pub returns-clause-bytes : goal.returns-clause-bytes
returns-clause-bytes c = λ d image bytes is. (byte_image d image bytes is, all_bytes image)
