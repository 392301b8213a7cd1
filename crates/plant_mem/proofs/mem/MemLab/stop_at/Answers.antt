use Rattle.std.proofs.Common.{◌≡◌, true, map, Err, ap, ◌∙◌, rules}
use Rattle.plant.specs.Events.{Did}
use Rattle.plant.specs.declared.device.Fault.TheVariants.{Stopped}
use Rattle.plant_mem.specs.Boots.{state_sent}
use Rattle.plant_mem.specs.DiskPlans.{is_done}
use Rattle.plant_mem.specs.Held.{held_of, with_events, effect_if, halted}
use Rattle.plant_mem.specs.MemLab.{state_of}
use Rattle.plant_mem.specs.Plans.{counted, boot_step_of}
use Rattle.plant_mem.proofs.mem.MemLab.stop_at.Goals as goal

pub returns-clause-held : goal.returns-clause-held
returns-clause-held c =
    let self = c.args.self.now in
    let op = c.args.op.now in
    let done : c.is_done-2.result ≡ is_done c.args.pick = search rules in
    let plans : c.count_down.new.plans.items ≡ map (counted op (is_done c.args.pick)) self.plans.items = search rules in
    let boot_step : c.boot_step_of-boot_step.result ≡ boot_step_of op self.plans.items = search rules in
    ap held_of c.halt.ensures ∙ ap (halted c.args.pick) c.apply_if.ensures.held
    ∙ (λ i. halted c.args.pick (record (with_events (effect_if (done i) (Did op true (Err Stopped))) (held_of self)) { plans = plans i; state = λ node. state_sent op (boot_step i) (done i) node (state_of self node) }))
