-- A step more: the sides of the disk, and what a plant tells.
use Rattle.std.proofs.Common.{◌≡◌, ℕ, Bool, List, [], ◌∷◌, ◌++◌, Option, Some, None, Result, refl, sym, ap, append_assoc}
use Rattle.std.proofs.lemmas.List.{append-nil}
use Rattle.std.proofs.lemmas.List.Sums.{fold-append}
use Rattle.plant.specs.Disks.{disk, disk_after, at_once}
use Rattle.plant.specs.Events.{Event, Did, Unread}
use Rattle.plant.specs.Told.{Told, with_steps}
use Rattle.plant.specs.declared.step.Side.{Side}
use Rattle.plant.specs.declared.step.Side.TheVariants.{A, B}
use Rattle.plant.specs.declared.device.Answer.{Answer}
use Rattle.plant.specs.declared.device.Fault.{Fault}
use Rattle.plant.specs.declared.device.DeviceOp.{DeviceOp}

pub disk_push : (side : Side) (trace : List Event) (event : Event) → disk side (trace ++ event ∷ []) ≡ disk_after side (disk side trace) event
disk_push side trace event = fold-append (disk_after side) (at_once []) trace (event ∷ [])

-- a device command leaves both sides as they are
pub did_disk : (side : Side) (trace : List Event) (op : DeviceOp) (applied : Bool) (answer : Result Answer Fault) → disk side (trace ++ Did op applied answer ∷ []) ≡ disk side trace
did_disk A trace op applied answer = disk_push A trace (Did op applied answer)
did_disk B trace op applied answer = disk_push B trace (Did op applied answer)

pub unread_disk : (side : Side) (trace : List Event) (device : List ℕ) → disk side (trace ++ Unread device ∷ []) ≡ disk side trace
unread_disk A trace device = disk_push A trace (Unread device)
unread_disk B trace device = disk_push B trace (Unread device)

pub with_steps-nil : (told : Option Told) → told ≡ with_steps told []
with_steps-nil None = refl
with_steps-nil (Some t) = ap (λ (l : List Event). let o : Option Told = Some (record t { trace = l }) in o) (sym (append-nil t.trace))

pub with_steps-append : (told : Option Told) (a b : List Event) → with_steps (with_steps told a) b ≡ with_steps told (a ++ b)
with_steps-append None a b = refl
with_steps-append (Some t) a b = ap (λ (l : List Event). let o : Option Told = Some (record t { trace = l }) in o) (append_assoc t.trace a b)
