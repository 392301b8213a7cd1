-- The sides after a start were possible images.
use Rattle.std.proofs.Common.{◌≡◌, ℕ, List, [], ◌∷◌, Option, Some, Result, Ok, Err, ap}
use Rattle.std.specs.Prelude.{OnOk}
use Rattle.plant.specs.Disks.{disk, ArePossible}
use Rattle.plant.specs.Events.{Restarted}
use Rattle.plant.specs.Told.{Told, with_steps}
use Rattle.plant.specs.declared.step.Side.TheVariants.{A, B}
use Rattle.plant_mem.specs.Commands.{restarted}
use Rattle.plant_mem.specs.Held.{Held, held_of}
use Rattle.plant_mem.specs.MemLab.{told_of}
use Rattle.plant_mem.specs.Picks.{left_by}
use Rattle.plant_mem.specs.Possible.{reads_possible_of}
use Rattle.plant_mem.specs.declared.mem.MemLab.{MemLab}
use Rattle.plant_mem.proofs.Images.{left_image}

abbrev tells : Held → Option Told
tells h = Some h.told

pub restarts : {E : Type 0} (m : MemLab) (k : Held) (result : Result (Unit {0}) E) → OnOk result (k ≡ restarted (held_of m))
    → OnOk result ((a b : List ℕ) × (Some k.told ≡ with_steps (Some (told_of m)) (Restarted a b ∷ [])) × ArePossible (told_of m).trace a b)
restarts m k (Err e) is = tt
restarts m k (Ok done) is =
    let reads = reads_possible_of m in
    let trace = (told_of m).trace in
    let a = left_by m.pick (disk A trace) in
    let b = left_by m.pick (disk B trace) in
    (a, b, ap tells is, (left_image m.pick (disk A trace) reads.0, left_image m.pick (disk B trace) reads.1))
