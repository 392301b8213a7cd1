-- The history of a folder in memory with a step more.
use Rattle.std.proofs.Common.{◌≡◌, ◌≤◌, ℕ, List, [], ◌∷◌, ◌++◌, refl, sym, ap, ◌∙◌, length, take, arith}
use Rattle.std.proofs.lemmas.List.{map-append, take-append-le, length-take}
use Rattle.plant.specs.Disks.{Disk, disk, disk_after}
use Rattle.plant.specs.Events.{Event}
use Rattle.plant.specs.declared.step.Side.{Side}
use Rattle.plant.specs.declared.step.Step.{Step}
use Rattle.plant.proofs.Traces.{disk_push}
use Rattle.mem_folder.specs.MemFolders.{event_of, trace_of, AreBegun}
use Rattle.mem_folder.specs.declared.mem_folder.OldText.{OldText}
use Rattle.mem_folder.specs.declared.sides.Sides.{Sides}

pub pushed : (items : List (Step × Sides)) (step : Step) (sides : Sides) → trace_of (items ++ (step, sides) ∷ []) ≡ trace_of items ++ event_of (step, sides) ∷ []
pushed items step sides = map-append event_of items ((step, sides) ∷ [])

-- a side after a step more
pub disk_more : (side : Side) (trace : List Event) (event : Event) (old new : Disk) → old ≡ disk side trace → new ≡ disk_after side old event → new ≡ disk side (trace ++ event ∷ [])
disk_more side trace event old new was is = is ∙ ap (λ (d : Disk). disk_after side d event) was ∙ sym (disk_push side trace event)

within_taken : (n : ℕ) (trace front : List Event) → length front ≡ n → take n trace ≡ front → n ≤ length trace
within_taken n trace front size is = omega (arith, size, ap (λ (l : List Event). length l) is, length-take n trace)

pub begun_more : (olds : List OldText) (trace : List Event) (event : Event) → AreBegun olds trace → AreBegun olds (trace ++ event ∷ [])
begun_more olds trace event begun old has =
    let is = begun old has in
    let n = length (trace_of old.steps.items) in
    take-append-le n trace (event ∷ []) (within_taken n trace (trace_of old.steps.items) refl is) ∙ is
