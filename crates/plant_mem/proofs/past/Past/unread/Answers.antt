use Rattle.std.proofs.Common.{refl, sym, ◌∙◌}
use Rattle.plant.specs.declared.step.Side.TheVariants.{A, B}
use Rattle.plant.specs.declared.step.Step.TheVariants as steps
use Rattle.plant.specs.Events as events
use Rattle.plant_mem.proofs.Growing.{Grown, grown_by}
use Rattle.plant_mem.specs.Steps.{trace_of}
use Rattle.plant_mem.proofs.Knowing.{still}
use Rattle.plant_mem.proofs.RowTables.{rows_still}
use Rattle.plant_mem.proofs.past.Past.unread.Goals as goal

pub returns-clause-trace : goal.returns-clause-trace
returns-clause-trace c =
    let self = c.args.self.now in
    let after : Grown self.bytes.items self.steps.items self.bytes.items c.add_step.new.steps.items (events.Unread c.args.device) = grown_by self.bytes.items self.steps.items c.add_step.new.steps.items (steps.Unread c.args.device) (events.Unread c.args.device) c.add_step.ensures.items self.within refl refl in
    after.trace

pub invariant_of-self : goal.invariant_of-self
invariant_of-self c =
    let self = c.args.self.now in
    let after : Grown self.bytes.items self.steps.items self.bytes.items c.add_step.new.steps.items (events.Unread c.args.device) = grown_by self.bytes.items self.steps.items c.add_step.new.steps.items (steps.Unread c.args.device) (events.Unread c.args.device) c.add_step.ensures.items self.within refl refl in
    record {
      within = after.within;
      a_is = self.a_is ∙ sym (after.disks A);
      b_is = self.b_is ∙ sym (after.disks B);
      known = still (trace_of self.bytes.items self.steps.items) (trace_of self.bytes.items c.add_step.new.steps.items) self.nodes.nodes.items self.nodes.pipes.items after.worlds self.known;
      rows_are = rows_still (trace_of self.bytes.items self.steps.items) (trace_of self.bytes.items c.add_step.new.steps.items) self.rows.items after.worlds self.rows_are;
    }
