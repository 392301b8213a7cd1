use Rattle.std.proofs.Common.{◌≡◌, true, false, Option, None, ap, ◌∙◌, rules}
use Rattle.plant_mem.specs.Commands.{sent}
use Rattle.plant_mem.specs.DiskPlans.{stops_next}
use Rattle.plant_mem.specs.Held.{held_of}
use Rattle.plant_mem.specs.Rooms.{can_command}
use Rattle.plant_mem.specs.declared.stops.StopPlan.{StopPlan}
use Rattle.plant_mem.proofs.Commanding.{sent_is}
use Rattle.plant_mem.proofs.mem.MemLab.perform.Goals as goal

pub returns-in-None-clause-held : goal.returns-in-None-clause-held
returns-in-None-clause-held c =
    let self = c.args.self.now in
    let going : self.stopped ≡ false = search rules in
    let roomy : can_command self ≡ true = search rules in
    let none : stops_next self.stop ≡ None = search rules in
    sent_is (can_command self) c.args.op.now (held_of self) (held_of c.send.new.self) going roomy none
    (c.send.ensures.held ∙ ap (λ (s : Option StopPlan). sent c.args.op.now (record (held_of self) { stop = s })) c.in-None.ensures.counted)
