use Rattle.std.proofs.Common.{refl, sym, ◌∙◌, Err}
use Rattle.plant.specs.declared.step.Side.TheVariants.{A, B}
use Rattle.plant.specs.declared.step.Step.TheVariants as steps
use Rattle.plant.specs.Events as events
use Rattle.plant_mem.specs.Steps.{trace_of}
use Rattle.plant_mem.proofs.Growing.{Grown, grown_by}
use Rattle.plant.specs.Worlds.{world_of}
use Rattle.plant_mem.proofs.Knowing.{known_failed}
use Rattle.plant_mem.proofs.RowTables.{rows_failed}
use Rattle.plant_mem.proofs.past.Past.failed.Goals as goal

pub returns-clause-trace : goal.returns-clause-trace
returns-clause-trace c =
    let self = c.args.self.now in
    let op = c.args.op.now in
    let after : Grown self.bytes.items self.steps.items self.bytes.items c.add_step.new.steps.items (events.Did op c.args.applied (Err c.args.fault)) = grown_by self.bytes.items self.steps.items c.add_step.new.steps.items (steps.Did op c.args.applied (Err c.args.fault)) (events.Did op c.args.applied (Err c.args.fault)) c.add_step.ensures.items self.within refl refl in
    after.trace

pub invariant_of-self : goal.invariant_of-self
invariant_of-self c =
    let self = c.args.self.now in
    let op = c.args.op.now in
    let after : Grown self.bytes.items self.steps.items self.bytes.items c.add_step.new.steps.items (events.Did op c.args.applied (Err c.args.fault)) = grown_by self.bytes.items self.steps.items c.add_step.new.steps.items (steps.Did op c.args.applied (Err c.args.fault)) (events.Did op c.args.applied (Err c.args.fault)) c.add_step.ensures.items self.within refl refl in
    record {
      within = after.within;
      a_is = self.a_is ∙ sym (after.disks A);
      b_is = self.b_is ∙ sym (after.disks B);
      known = known_failed (trace_of self.bytes.items self.steps.items) (trace_of self.bytes.items c.add_step.new.steps.items) self.nodes.nodes.items c.apply_if-2.new.self.nodes.items self.nodes.pipes.items c.apply_if-2.new.self.pipes.items op c.args.boot_step c.args.applied c.args.fault after.worlds c.apply_if-2.ensures.states c.apply_if-2.ensures.oses c.apply_if-2.ensures.set self.known;
      rows_are = rows_failed (trace_of self.bytes.items self.steps.items) (trace_of self.bytes.items c.add_step.new.steps.items) c.apply_if.new.rows.items op c.args.applied c.args.fault after.worlds (c.apply_if.ensures.rows (world_of (trace_of self.bytes.items self.steps.items)) self.rows_are);
    }
