use Rattle.std.proofs.Common.{refl, sym, ap, ◌∙◌}
use Rattle.plant.specs.declared.step.Side.TheVariants.{A, B}
use Rattle.plant.specs.declared.step.Step.TheVariants as steps
use Rattle.plant.specs.Disks.{on_side, same_side, shortened}
use Rattle.plant.specs.Events as events
use Rattle.plant_mem.proofs.Growing.{Grown, grown_by}
use Rattle.plant_mem.specs.Steps.{trace_of}
use Rattle.plant_mem.proofs.Knowing.{still}
use Rattle.plant_mem.proofs.RowTables.{rows_still}
use Rattle.plant_mem.proofs.past.Past.cut.Goals as goal

pub returns-clause-trace : goal.returns-clause-trace
returns-clause-trace c =
    let self = c.args.self.now in
    let after : Grown self.bytes.items self.steps.items self.bytes.items c.add_step.new.steps.items (events.Cut c.args.side c.args.size) = grown_by self.bytes.items self.steps.items c.add_step.new.steps.items (steps.Cut c.args.side c.args.size) (events.Cut c.args.side c.args.size) c.add_step.ensures.items self.within refl refl in
    after.trace

pub invariant_of-self : goal.invariant_of-self
invariant_of-self c =
    let self = c.args.self.now in
    let after : Grown self.bytes.items self.steps.items self.bytes.items c.add_step.new.steps.items (events.Cut c.args.side c.args.size) = grown_by self.bytes.items self.steps.items c.add_step.new.steps.items (steps.Cut c.args.side c.args.size) (events.Cut c.args.side c.args.size) c.add_step.ensures.items self.within refl refl in
    record {
      within = after.within;
      a_is = c.shorten_on.ensures.a ∙ ap (on_side (same_side c.args.side A) (λ d. shortened d c.args.size)) self.a_is ∙ sym (after.disks A);
      b_is = c.shorten_on.ensures.b ∙ ap (on_side (same_side c.args.side B) (λ d. shortened d c.args.size)) self.b_is ∙ sym (after.disks B);
      known = still (trace_of self.bytes.items self.steps.items) (trace_of self.bytes.items c.add_step.new.steps.items) self.nodes.nodes.items self.nodes.pipes.items after.worlds self.known;
      rows_are = rows_still (trace_of self.bytes.items self.steps.items) (trace_of self.bytes.items c.add_step.new.steps.items) self.rows.items after.worlds self.rows_are;
    }
