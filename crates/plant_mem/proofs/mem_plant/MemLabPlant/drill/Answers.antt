use Rattle.std.proofs.Common.{◌≡◌, ℕ, List, [], ◌∷◌, ◌++◌, length, ap, ◌∙◌, sym}
use Rattle.std.proofs.lemmas.List.{length-map}
use Rattle.lab_base.specs.Lists.{listed}
use Rattle.plant_mem.specs.DiskPlans.{disk_planned, stop_planned}
use Rattle.plant_mem.specs.Held.{held_of}
use Rattle.plant_mem.specs.MemLab.{told_of}
use Rattle.plant_mem.specs.Plans.{plan_of}
use Rattle.plant_mem.specs.Steps.{event_of}
use Rattle.plant_mem.specs.declared.plans.Plan.{Plan}
use Rattle.plant_mem.proofs.mem_plant.MemLabPlant.drill.Goals as goal

pub returns-clause-leaves : goal.returns-clause-leaves
returns-clause-leaves c =
    let self = c.args.self.now in
    let drill = c.args.drill in
    let at : c.len-at.result ≡ length (told_of self).trace = c.len-at.ensures ∙ self.past.steps.ok.0 ∙ sym (length-map self.past.steps.items (event_of self.past.bytes.items)) in
    let taken : c.push_reserved.new.self.items ≡ self.taken.items ++ record { at = length (told_of self).trace; drill = drill } ∷ [] =
    c.push_reserved.ensures.items ∙ (λ i. c.try_reserve.ensures.items i ++ record { at = at i; drill = drill } ∷ []) in
    let plans : c.add_plan.new.plans.items ≡ self.plans.items ++ listed (plan_of drill) = c.add_plan.ensures ∙ ap (λ (l : List Plan). l ++ listed (plan_of drill)) c.try_reserve-else-is_err.ensures.items in
    let disk : c.add_disk_plan.new.plans.items ≡ self.disk_plans.items ++ disk_planned drill = c.add_disk_plan.ensures ∙ ap (λ (l : List ℕ). l ++ disk_planned drill) c.try_reserve-else-is_err-2.ensures.items in
    let stop : c.add_stop.new.stop ≡ stop_planned drill self.stop = c.add_stop.ensures in
    λ i. record (held_of self) { told = record (told_of self) { drills = taken i }; plans = plans i; disk_plans = disk i; stop = stop i }
