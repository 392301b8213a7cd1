use Rattle.std.proofs.Common.{refl, sym, ◌∙◌, true, Ok}
use Rattle.plant.specs.declared.step.Side.TheVariants.{A, B}
use Rattle.plant.specs.declared.step.Step.TheVariants as steps
use Rattle.plant.specs.Events as events
use Rattle.plant_mem.specs.Steps.{trace_of}
use Rattle.plant_mem.proofs.Growing.{Grown, grown_by}
use Rattle.plant.specs.Worlds.{world_of}
use Rattle.plant_mem.proofs.Knowing.{known_done}
use Rattle.plant_mem.proofs.RowTables.{rows_done}
use Rattle.plant_mem.proofs.past.Past.done.Goals as goal

pub returns-clause-trace : goal.returns-clause-trace
returns-clause-trace c =
    let self = c.args.self.now in
    let op = c.args.op.now in
    let after : Grown self.bytes.items self.steps.items self.bytes.items c.add_step.new.steps.items (events.Did op true (Ok c.apply-answer.result)) = grown_by self.bytes.items self.steps.items c.add_step.new.steps.items (steps.Did op true (Ok c.apply-answer.result)) (events.Did op true (Ok c.apply-answer.result)) c.add_step.ensures.items self.within refl refl in
    after.trace

pub invariant_of-self : goal.invariant_of-self
invariant_of-self c =
    let self = c.args.self.now in
    let op = c.args.op.now in
    let after : Grown self.bytes.items self.steps.items self.bytes.items c.add_step.new.steps.items (events.Did op true (Ok c.apply-answer.result)) = grown_by self.bytes.items self.steps.items c.add_step.new.steps.items (steps.Did op true (Ok c.apply-answer.result)) (events.Did op true (Ok c.apply-answer.result)) c.add_step.ensures.items self.within refl refl in
    record {
      within = after.within;
      a_is = self.a_is ∙ sym (after.disks A);
      b_is = self.b_is ∙ sym (after.disks B);
      known = known_done (trace_of self.bytes.items self.steps.items) (trace_of self.bytes.items c.add_step.new.steps.items) self.nodes.nodes.items c.apply-answer.new.self.nodes.items self.nodes.pipes.items c.apply-answer.new.self.pipes.items op c.args.boot_step c.apply-answer.result after.worlds c.apply-answer.ensures.answer c.apply-answer.ensures.states c.apply-answer.ensures.oses c.apply-answer.ensures.set self.known;
      rows_are = rows_done (trace_of self.bytes.items self.steps.items) (trace_of self.bytes.items c.add_step.new.steps.items) c.apply.new.rows.items op c.apply-answer.result after.worlds (c.apply.ensures.rows (world_of (trace_of self.bytes.items self.steps.items)) self.rows_are);
    }
