use Rattle.std.proofs.Common.{sym, ap, ◌≡◌, ◌∙◌, ◌++◌, length, rules, ℕ, List}
use Rattle.plant.specs.declared.step.Side.TheVariants.{A, B}
use Rattle.plant.specs.Disks.{Disk}
use Rattle.plant_mem.specs.MemSides.{disk_of}
use Rattle.plant_mem.specs.Picks.{left_by}
use Rattle.plant.specs.Events as events
use Rattle.plant_mem.proofs.Growing.{Grown, grown_restart}
use Rattle.plant_mem.specs.Steps.{trace_of}
use Rattle.plant_mem.proofs.Knowing.{still}
use Rattle.plant_mem.proofs.RowTables.{rows_still}
use Rattle.plant_mem.proofs.past.Past.restarted.Goals as goal

pub returns-clause-trace : goal.returns-clause-trace
returns-clause-trace c =
    let self = c.args.self.now in
    let bytes = self.bytes.items in
    let x = left_by c.args.pick (disk_of self.a) in
    let y = left_by c.args.pick (disk_of self.b) in
    let ax : c.restore.new.self.reads.items ≡ x = ap (λ (d : Disk). d.reads) c.restore.ensures.left in
    let by : c.restore-2.new.self.reads.items ≡ y = ap (λ (d : Disk). d.reads) c.restore-2.ensures.left in
    let one : c.extend_from_slice.new.self.items ≡ bytes ++ c.restore.new.self.reads.items = search rules in
    let two : c.extend_from_slice-2.new.self.items ≡ c.extend_from_slice.new.self.items ++ c.restore-2.new.self.reads.items = search rules in
    let once : c.extend_from_slice.new.self.items ≡ bytes ++ x = one ∙ ap (λ (l : List ℕ). bytes ++ l) ax in
    let longer : c.extend_from_slice-2.new.self.items ≡ (bytes ++ x) ++ y = two ∙ (λ i. once i ++ by i) in
    let start : c.len-start.result ≡ length bytes = c.len-start.ensures ∙ self.bytes.ok.0 in
    let middle : c.len-middle.result ≡ length (bytes ++ x) = c.len-middle.ensures ∙ c.extend_from_slice.new.self.ok.0 ∙ ap length once in
    let stop : c.len-end.result ≡ length ((bytes ++ x) ++ y) = c.len-end.ensures ∙ c.extend_from_slice-2.new.self.ok.0 ∙ ap length longer in
    let after : Grown bytes self.steps.items c.extend_from_slice-2.new.self.items c.add_step.new.steps.items (events.Restarted x y) = grown_restart bytes x y c.extend_from_slice-2.new.self.items self.steps.items c.add_step.new.steps.items c.len-start.result c.len-middle.result c.len-end.result longer start middle stop c.add_step.ensures.items self.within in
    after.trace

pub invariant_of-self-3 : goal.invariant_of-self-3
invariant_of-self-3 c =
    let self = c.args.self.now in
    let bytes = self.bytes.items in
    let x = left_by c.args.pick (disk_of self.a) in
    let y = left_by c.args.pick (disk_of self.b) in
    let ax : c.restore.new.self.reads.items ≡ x = ap (λ (d : Disk). d.reads) c.restore.ensures.left in
    let by : c.restore-2.new.self.reads.items ≡ y = ap (λ (d : Disk). d.reads) c.restore-2.ensures.left in
    let one : c.extend_from_slice.new.self.items ≡ bytes ++ c.restore.new.self.reads.items = search rules in
    let two : c.extend_from_slice-2.new.self.items ≡ c.extend_from_slice.new.self.items ++ c.restore-2.new.self.reads.items = search rules in
    let once : c.extend_from_slice.new.self.items ≡ bytes ++ x = one ∙ ap (λ (l : List ℕ). bytes ++ l) ax in
    let longer : c.extend_from_slice-2.new.self.items ≡ (bytes ++ x) ++ y = two ∙ (λ i. once i ++ by i) in
    let start : c.len-start.result ≡ length bytes = c.len-start.ensures ∙ self.bytes.ok.0 in
    let middle : c.len-middle.result ≡ length (bytes ++ x) = c.len-middle.ensures ∙ c.extend_from_slice.new.self.ok.0 ∙ ap length once in
    let stop : c.len-end.result ≡ length ((bytes ++ x) ++ y) = c.len-end.ensures ∙ c.extend_from_slice-2.new.self.ok.0 ∙ ap length longer in
    let after : Grown bytes self.steps.items c.extend_from_slice-2.new.self.items c.add_step.new.steps.items (events.Restarted x y) = grown_restart bytes x y c.extend_from_slice-2.new.self.items self.steps.items c.add_step.new.steps.items c.len-start.result c.len-middle.result c.len-end.result longer start middle stop c.add_step.ensures.items self.within in
    record {
      within = after.within;
      a_is = c.restore.ensures.left ∙ sym (after.disks A);
      b_is = c.restore-2.ensures.left ∙ sym (after.disks B);
      known = still (trace_of self.bytes.items self.steps.items) (trace_of c.extend_from_slice-2.new.self.items c.add_step.new.steps.items) self.nodes.nodes.items self.nodes.pipes.items after.worlds self.known;
      rows_are = rows_still (trace_of self.bytes.items self.steps.items) (trace_of c.extend_from_slice-2.new.self.items c.add_step.new.steps.items) self.rows.items after.worlds self.rows_are;
    }

pub returns-clause-a : goal.returns-clause-a
returns-clause-a c = λ writes bytes h. let m = c.restore.ensures.more writes bytes h in record { reads = m.reads; durable = m.durable; table = m.table }

pub returns-clause-b : goal.returns-clause-b
returns-clause-b c = λ writes bytes h. let m = c.restore-2.ensures.more writes bytes h in record { reads = m.reads; durable = m.durable; table = m.table }
