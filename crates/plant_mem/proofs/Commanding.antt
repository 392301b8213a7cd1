-- The state after a command, as the trait has it.
use Rattle.std.proofs.Common.{◌≡◌, inl, inr, ℕ, Bool, true, false, List, [], ◌∷◌, Option, Some, None, Result, Err, refl, sym, ap, ◌∙◌, subst, if◌then◌else◌}
use Rattle.std.specs.Prelude.{is_some}
use Rattle.std.proofs.lemmas.List.{append-nil}
use Rattle.plant.specs.Calls.{Fits, CommandSteps}
use Rattle.plant.specs.Events.{Event, Did}
use Rattle.plant.specs.Told.{Told, with_steps}
use Rattle.plant.specs.declared.device.Answer.{Answer}
use Rattle.plant.specs.declared.device.DeviceOp.{DeviceOp}
use Rattle.plant.specs.declared.device.DeviceOp.TheVariants.{Join, Leave, Shape, Load, Boot as BootIt, Poll, Wipe}
use Rattle.plant.specs.declared.device.Fault.{Fault}
use Rattle.plant.specs.declared.device.Fault.TheVariants.{Stopped}
use Rattle.plant.specs.declared.drill.Pick.{Pick}
use Rattle.plant.specs.declared.drill.Pick.TheVariants.{Nothing, All, Torn}
use Rattle.lab_base.specs.declared.boot.Boot.{Boot}
use Rattle.plant_mem.specs.Boots.{answer_of, moved_by}
use Rattle.plant_mem.specs.Commands.{answer_sent, sent, failed_if, met_command, met_answer, after_command, answer_command}
use Rattle.plant_mem.specs.DiskPlans.{stops_next, stop_counted, is_done}
use Rattle.plant_mem.specs.Held.{Held, effect_if, halted}
use Rattle.plant_mem.specs.Plans.{firing, boot_step_of, is_applied, answer_by}
use Rattle.plant_mem.specs.declared.boot_step.BootStep.{BootStep}

answer_fits : (op : DeviceOp) (boot_step : BootStep) (state : List ℕ → Boot) → Fits op (answer_of op boot_step state)
answer_fits (Join switch port vlan) boot_step state = refl
answer_fits (Leave switch port vlan) boot_step state = refl
answer_fits (Shape node pipe from to there back) boot_step state = refl
answer_fits (Load node os) boot_step state = refl
answer_fits (BootIt node) boot_step state = refl
answer_fits (Poll node) boot_step state = (moved_by boot_step (state node), refl)
answer_fits (Wipe node) boot_step state = refl

abbrev Tells : DeviceOp → Bool → Held → Result Answer Fault → Held → Type 0
Tells op stopped h result k = (steps : List Event) × (Some k.told ≡ with_steps (Some h.told) steps) × CommandSteps op stopped result steps

failed_told : (failed : Bool) (x : Held) → (failed_if failed x).told ≡ x.told
failed_told true x = refl
failed_told false x = refl

sent_steps : (op : DeviceOp) (failure : Option Bool) (answer : Answer) → Fits op answer → CommandSteps op false (answer_by failure answer) (Did op (is_applied failure) (answer_by failure answer) ∷ [])
sent_steps op None answer fits = (fits, refl)
sent_steps op (Some applied) answer fits = (applied, refl)

stop_steps : (op : DeviceOp) (pick : Pick) → CommandSteps op false (Err Stopped) (effect_if (is_done pick) (Did op true (Err Stopped)))
stop_steps op Nothing = inl refl
stop_steps op All = inr (true, refl)
stop_steps op Torn = inr (true, refl)

abbrev tells : Told → Option Told
tells t = Some t

abbrev same_told : Held → List Event → Option Told
same_told h trace = Some (record h.told { trace = trace })

nothing : (h : Held) → tells h.told ≡ with_steps (tells h.told) []
nothing h = ap (same_told h) (sym (append-nil h.told.trace))

met_tells : (stop : Option Pick) (op : DeviceOp) (h : Held) → Tells op false h (met_answer stop (answer_sent op h)) (met_command stop op (record h { stop = stop_counted h.stop }))
met_tells None op h = (
  Did op (is_applied (firing op h.plans)) (answer_sent op h) ∷ [],
  ap tells (failed_told (is_some (firing op h.plans)) _),
  sent_steps op (firing op h.plans) (answer_of op (boot_step_of op h.plans) h.state) (answer_fits op (boot_step_of op h.plans) h.state),
)
met_tells (Some pick) op h = (effect_if (is_done pick) (Did op true (Err Stopped)), refl, stop_steps op pick)

tells_by : (stopped room : Bool) (op : DeviceOp) (h : Held)
    → Tells op stopped h (if stopped then Err Stopped else (if room then met_answer (stops_next h.stop) (answer_sent op h) else Err Stopped))
    (if stopped then h else (if room then met_command (stops_next h.stop) op (record h { stop = stop_counted h.stop }) else halted Nothing h))
tells_by true room op h = ([], nothing h, (refl, refl))
tells_by false true op h = met_tells (stops_next h.stop) op h
tells_by false false op h = ([], nothing h, inl refl)

pub command_tells : (room : Bool) (op : DeviceOp) (h k : Held) (result : Result Answer Fault) → result ≡ answer_command room op h → k ≡ after_command room op h
    → (steps : List Event) × (Some k.told ≡ with_steps (Some h.told) steps) × CommandSteps op h.stopped result steps
command_tells room op h k result answer leaves =
    subst (λ r. Tells op h.stopped h r k) (sym answer) (subst (λ x. Tells op h.stopped h (answer_command room op h) x) (sym leaves) (tells_by h.stopped room op h))

-- a command that is sent, where the plant goes on, has room and doesn't stop
pub sent_is : (room : Bool) (op : DeviceOp) (h k : Held) → h.stopped ≡ false → room ≡ true → stops_next h.stop ≡ None → k ≡ sent op (record h { stop = stop_counted h.stop }) → k ≡ after_command room op h
sent_is room op h k going roomy none is =
    is ∙ ap (λ (p : Option Pick). met_command p op (record h { stop = stop_counted h.stop })) (sym none) ∙ ap (λ (b : Bool). if b then met_command (stops_next h.stop) op (record h { stop = stop_counted h.stop }) else halted Nothing h) (sym roomy)
    ∙ ap (λ (b : Bool). if b then h else (if room then met_command (stops_next h.stop) op (record h { stop = stop_counted h.stop }) else halted Nothing h)) (sym going)
