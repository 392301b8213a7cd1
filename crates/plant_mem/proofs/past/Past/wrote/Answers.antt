use Rattle.std.proofs.Common.{sym, ap, ◌≡◌, ◌∙◌, ◌++◌, length, rules}
use Rattle.plant.specs.declared.step.Side.TheVariants.{A, B}
use Rattle.plant.specs.Disks.{on_side, same_side, wrote}
use Rattle.plant.specs.Events as events
use Rattle.plant_mem.proofs.Growing.{Grown, grown_wrote}
use Rattle.plant_mem.specs.Steps.{trace_of}
use Rattle.plant_mem.proofs.Knowing.{still}
use Rattle.plant_mem.proofs.RowTables.{rows_still}
use Rattle.plant_mem.proofs.past.Past.wrote.Goals as goal

pub returns-clause-trace : goal.returns-clause-trace
returns-clause-trace c =
    let self = c.args.self.now in
    let bytes = self.bytes.items in
    let more = c.args.bytes.now in
    let longer : c.extend_from_slice.new.self.items ≡ bytes ++ more = search rules in
    let start : c.len-start.result ≡ length bytes = c.len-start.ensures ∙ self.bytes.ok.0 in
    let stop : c.len-end.result ≡ length (bytes ++ more) = c.len-end.ensures ∙ c.extend_from_slice.new.self.ok.0 ∙ ap length longer in
    let after : Grown bytes self.steps.items c.extend_from_slice.new.self.items c.add_step.new.steps.items (events.Wrote c.args.side c.args.at more) = grown_wrote bytes more c.extend_from_slice.new.self.items self.steps.items c.add_step.new.steps.items c.args.side c.args.at c.len-start.result c.len-end.result longer start stop c.add_step.ensures.items self.within in
    after.trace

pub invariant_of-self : goal.invariant_of-self
invariant_of-self c =
    let self = c.args.self.now in
    let bytes = self.bytes.items in
    let more = c.args.bytes.now in
    let longer : c.extend_from_slice.new.self.items ≡ bytes ++ more = search rules in
    let start : c.len-start.result ≡ length bytes = c.len-start.ensures ∙ self.bytes.ok.0 in
    let stop : c.len-end.result ≡ length (bytes ++ more) = c.len-end.ensures ∙ c.extend_from_slice.new.self.ok.0 ∙ ap length longer in
    let after : Grown bytes self.steps.items c.extend_from_slice.new.self.items c.add_step.new.steps.items (events.Wrote c.args.side c.args.at more) = grown_wrote bytes more c.extend_from_slice.new.self.items self.steps.items c.add_step.new.steps.items c.args.side c.args.at c.len-start.result c.len-end.result longer start stop c.add_step.ensures.items self.within in
    record {
      within = after.within;
      a_is = c.put_on.ensures.a ∙ ap (on_side (same_side c.args.side A) (λ d. wrote d c.args.at c.args.bytes.now)) self.a_is ∙ sym (after.disks A);
      b_is = c.put_on.ensures.b ∙ ap (on_side (same_side c.args.side B) (λ d. wrote d c.args.at c.args.bytes.now)) self.b_is ∙ sym (after.disks B);
      known = still (trace_of self.bytes.items self.steps.items) (trace_of c.extend_from_slice.new.self.items c.add_step.new.steps.items) self.nodes.nodes.items self.nodes.pipes.items after.worlds self.known;
      rows_are = rows_still (trace_of self.bytes.items self.steps.items) (trace_of c.extend_from_slice.new.self.items c.add_step.new.steps.items) self.rows.items after.worlds self.rows_are;
    }
