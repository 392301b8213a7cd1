-- One step of a course, by the answer to its command.
use Rattle.std.proofs.Common.{◌≡◌, ◌<◌, ℕ, List, [], ◌∷◌, drop, length, Option, Some, None, IsSome, Ok, Err, refl, sym, ap, ◌∙◌, subst, arith}
use Rattle.std.proofs.lemmas.Option.{same_Some}
use Rattle.lab_base.specs.declared.boot.Boot.{Boot as BootState}
use Rattle.lab_base.specs.declared.boot.Boot.TheVariants.{Booting}
use Rattle.plant.specs.Calls.{Fits, device_of}
use Rattle.plant.specs.declared.device.DeviceOp.{DeviceOp}
use Rattle.plant.specs.declared.device.DeviceOp.TheVariants.{Join, Leave, Shape, Load, Boot as BootIt, Poll, Wipe}
use Rattle.plant.specs.declared.device.Answer.{Answer}
use Rattle.plant.specs.declared.device.Answer.TheVariants.{Done, State}
use Rattle.plant.specs.declared.device.Fault.{Fault}
use Rattle.lab_model.specs.Courses.{Plan, Left, Watch, next, answered, device, fault_of}
use Rattle.swap_txn.specs.States.{stage_of}
use Rattle.swap_txn.specs.Troubles.{GoesBy, LeadsBy}
use Rattle.swap_txn.specs.declared.stage.Stage.TheVariants.{Boot as IsBoot, Done as IsDone}
use Rattle.swap_txn.proofs.Positions.{boots_are}

-- a listed command
pub listed_goes : (old new : Left) (answer : Answer) → 0 < length old.todo → new ≡ record old { todo = drop 1 old.todo } → GoesBy old answer (Ok tt) new
listed_goes old new answer some is = by old.todo some is
  where
    by : (todo : List DeviceOp) → 0 < length todo → new ≡ record { todo = drop 1 todo; boot = old.boot; watch = old.watch } → LeadsBy old (answered todo old.watch old.boot (Ok answer)) (Ok tt) new
    by [] some is = absurd (omega (arith, some))
    by (op ∷ todo) some is = (refl, is)

-- a node to boot
pub boot_goes : (left : Left) (node : List ℕ) (names : List (List ℕ)) (answer : Answer) → left ≡ record { todo = []; boot = node ∷ names; watch = None }
    → GoesBy left answer (Ok tt) (record { todo = []; boot = names; watch = Some (record { node = node; state = Booting; polls = 0 }) })
boot_goes left node names answer is =
    subst (λ l. GoesBy l answer (Ok tt) (record { todo = []; boot = names; watch = Some (record { node = node; state = Booting; polls = 0 }) })) (sym is) (refl, refl)

-- a command that was not acknowledged
pub faulted : (left : Left) (op : DeviceOp) (fault : Fault) → next left.todo left.watch left.boot ≡ Some op → answered left.todo left.watch left.boot (Err fault) ≡ fault_of (device op) fault
faulted left op fault comes = by left.todo left.watch left.boot comes
  where
    by : (todo : List DeviceOp) (watch : Option Watch) (boot : List (List ℕ)) → next todo watch boot ≡ Some op → answered todo watch boot (Err fault) ≡ fault_of (device op) fault
    by (o ∷ todo) watch boot is = ap (λ x. fault_of (device x) fault) (same_Some o op is)
    by [] (Some w) boot is = ap (λ x. fault_of (device x) fault) (same_Some (Poll w.node) op is)
    by [] None (node ∷ boot) is = ap (λ x. fault_of (device x) fault) (same_Some (BootIt node) op is)
    by [] None [] is = absurd (cc is)

pub device_is : (op : DeviceOp) → device_of op ≡ device op
device_is (Join switch port vlan) = refl
device_is (Leave switch port vlan) = refl
device_is (Shape node pipe from to there back) = refl
device_is (Load node os) = refl
device_is (BootIt node) = refl
device_is (Poll node) = refl
device_is (Wipe node) = refl

-- a state is the answer of a watched node, and none is that of a node to boot
pub watched_by : (plan : Plan) (left : Left) (state : BootState) → left.todo ≡ [] → stage_of plan left ≡ IsBoot → ((op : DeviceOp) → next left.todo left.watch left.boot ≡ Some op → Fits op (State state)) → IsSome left.watch
watched_by plan left state none boots fits = by left.todo left.watch left.boot none boots fits
  where
    by : (todo : List DeviceOp) (watch : Option Watch) (boot : List (List ℕ)) → todo ≡ [] → stage_of plan (record { todo = todo; boot = boot; watch = watch }) ≡ IsBoot
        → ((op : DeviceOp) → next todo watch boot ≡ Some op → Fits op (State state)) → IsSome watch
    by (op ∷ todo) watch boot none boots fits = absurd (cc none)
    by [] (Some w) boot none boots fits = refl
    by [] None [] none boots fits = let other : IsDone ≡ IsBoot = sym (boots_are plan (record { todo = []; boot = []; watch = None }) refl) ∙ boots in absurd (cc other)
    by [] None (node ∷ boot) none boots fits = let other : State state ≡ Done = fits (BootIt node) refl in absurd (cc other)

pub unwatched_by : (left : Left) → left.todo ≡ [] → ((op : DeviceOp) → next left.todo left.watch left.boot ≡ Some op → Fits op Done) → left.watch ≡ None
unwatched_by left none fits = by left.todo left.watch left.boot none fits
  where
    by : (todo : List DeviceOp) (watch : Option Watch) (boot : List (List ℕ)) → todo ≡ [] → ((op : DeviceOp) → next todo watch boot ≡ Some op → Fits op Done) → watch ≡ None
    by (op ∷ todo) watch boot none fits = absurd (cc none)
    by [] None boot none fits = refl
    by [] (Some w) boot none fits = let told = fits (Poll w.node) refl in absurd (cc told.1)
