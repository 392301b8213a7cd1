use Rattle.std.proofs.Common.{◌≡◌, ◌+◌, ℕ, true, nat_le, length, Some, Err, sym, ap, ◌∙◌, subst, arith}
use Rattle.std.proofs.lemmas.Bool.{leb-true}
use Rattle.journal_rec.specs.declared.record.Record.TheVariants.{Begin}
use Rattle.journal_disk.specs.Standing.{length_of, limit_of}
use Rattle.journal_disk.proofs.Parts.{body_size}
use Rattle.records_model.specs.Labs.{LabState}
use Rattle.lab_state.specs.Changes.{after}
use Rattle.lab_state.specs.Texts.{the_texts}
use Rattle.swap_txn.specs.States.{View}
use Rattle.swap_turns.specs.Running.{Working}
use Rattle.swap_mgr.specs.Managing.{HasOpened, IsAfterOpening}
use Rattle.lab_core.specs.Controller.{Control, control}
use Rattle.lab_tasks.specs.Tasks.{Swap}
use Rattle.lab_tasks.specs.Mappings.{begun_as}
use Rattle.lab_core.specs.Obey.{start_of}
use Rattle.lab_core.specs.Swapping.{IsPlanned}
use Rattle.lab_core.proofs.Obey.{wanted}
use Rattle.lab_core.proofs.PerformAppend.{full, stands_of}
use Rattle.lab_core.proofs.RunSwap.{is_opened, no_space_for, not_opened, nothing_as, planned}
use Rattle.lab_core.proofs.SwapReplies.{unopened_told}
use Rattle.lab_core.proofs.controller.Controller.begin.Goals as goal
use Rattle.lab_core.proofs.controller.Controller.begin.Goals.{in-Ok-open_swap, in-Err}

pub prepare_swap-requires-clause-record : goal.prepare_swap-requires-clause-record
prepare_swap-requires-clause-record g c = c.requires.can.0

pub prepare_swap-requires-clause-follows : goal.prepare_swap-requires-clause-follows
prepare_swap-requires-clause-follows g c = rw (← c.self.view_is) at c.requires.can.1

pub returns-in_default-clause-begun : goal.returns-in_default-clause-begun
returns-in_default-clause-begun g c = rw (c.prepare_swap.ensures.unchanged, ← c.self.view_is) (λ opens devices within works only. wanted devices _ _ (control c.self.inside.lab.state c.self.inside.journal c.self.inside.swaps) opens (Some c.args.swap.exp) works)

pub returns-then-not-has_space-clause-begun : goal.returns-then-not-has_space-clause-begun
returns-then-not-has_space-clause-begun g c =
    let old : Control = control c.self.inside.lab.state c.self.inside.journal c.self.inside.swaps in
    rw (c.prepare_swap.ensures.unchanged, ← c.self.view_is)
    (λ opens devices within works only. full devices _ old opens (Some c.args.swap.exp) (begun_as only (Swap c.args.swap.exp c.args.swap.way)) (Begin c.args.swap.exp c.args.swap.way) c.in-Ok.ready.planned.begin c.length.result works
    (λ own after no' replies. no_space_for (start_of devices old opens).set old.lab opens c.args.swap.exp c.args.swap.way only own after no' replies)
    (body_size c.in-Ok.ready.planned.begin (Begin c.args.swap.exp c.args.swap.way) c.in-Ok.ensures.body)
    (sym (ap (λ (n : ℕ). nat_le (length_of c.self.inside.journal + n + 10240) (limit_of c.self.inside.journal)) c.size.ensures) ∙ (sym c.has_space.ensures.space ∙ c.if-not-has_space.true)) c.length.ensures)

pub open_swap-requires-clause-stands : goal.open_swap-requires-clause-stands
open_swap-requires-clause-stands g c = stands_of _ (control c.self.inside.lab.state c.self.inside.journal c.self.inside.swaps) c.requires.works.0 (rw (← c.self.view_is) at c.requires.works.1)

pub open_swap-requires-clause-fits : goal.open_swap-requires-clause-fits
open_swap-requires-clause-fits g c =
    let fits = leb-true _ _ (sym c.has_space.ensures.space ∙ c.if-not-has_space.false) in
    omega (arith, fits, c.size.ensures)

pub open_swap-requires-clause-enters : goal.open_swap-requires-clause-enters
open_swap-requires-clause-enters g c = c.in-Ok.ensures.enters

pub open_swap-requires-clause-idle : goal.open_swap-requires-clause-idle
open_swap-requires-clause-idle g c = λ h. (rw (← c.self.view_is) at c.requires.ready.0) (subst (λ (n : Rattle.std.specs.Prelude.List ℕ). Rattle.swap_mgr.specs.Open.HasOpen c.self.inside.swaps n) (ap (λ (v : View). v.exp) c.in-Ok.ensures.forth) h)

pub open_swap-requires-clause-room : goal.open_swap-requires-clause-room
open_swap-requires-clause-room g c = rw (← c.self.view_is) at c.requires.ready.1

pub reply_of_unopened-requires : goal.reply_of_unopened-requires
reply_of_unopened-requires g c = c.in-Err.ensures.tried

-- the swap is planned, with space: it is open, or was not opened
pub returns-clause-begun : goal.returns-clause-begun
returns-clause-begun g c =
    elim c.match-open_swap.branch [
      | in-Ok-open_swap w ↦
          rw (w.result-is, ← c.self.view_is)
          (λ opens devices within works.
          let s = c.self.inside.lab.state in
          let j = c.self.inside.journal in
          let old : Control = control s j c.self.inside.swaps in
          let new : Control = control c.open_swap.new.lab.state c.open_swap.new.journal c.open_swap.new.swaps in
          let ready = c.in-Ok.ready in
          let e = c.in-Ok.ensures in
          let by = rw (← c.self.view_is) at c.requires.can.2 in
          let begin = Begin c.args.swap.exp c.args.swap.way in
          let same = c.prepare_swap.ensures.unchanged in
          let space : nat_le (length_of j + length ready.planned.begin + 10240) (limit_of j) ≡ true = sym (ap (λ (n : ℕ). nat_le (length_of j + n + 10240) (limit_of j)) c.size.ensures) ∙ (sym c.has_space.ensures.space ∙ c.if-not-has_space.false) in
          let plans : IsPlanned s (after s ready.prepared) j ready.planned by.swap begin by.move = planned s (after s ready.prepared) j ready.planned c.args.swap.exp c.args.swap.way c.args.swap.ops.commands c.args.swap.ops.undo by c.requires.can.0 e.follows e.body e.forth space c.has_space.ensures.most c.prepare_swap.ensures.sane in
          let here = w.in-Ok-open_swap.ensures.begun works.pairs by.swap begin by.move (subst (λ (x : LabState). Working the_texts (g.P.Plant.seen c.args.plant.now).told j x works.pairs) (sym same) works.working) works.holds
          (subst (λ (x : LabState). IsPlanned x (after x ready.prepared) j ready.planned by.swap begin by.move) (sym same) plans) in
          let opened = subst (λ (x : LabState). HasOpened the_texts works.pairs by.swap x (after x ready.prepared) begin by.move (g.P.Plant.seen c.args.plant.now) (g.P.Plant.seen c.open_swap.new.plant) j new.journal new.swaps) same here in
          let lab : new.lab ≡ after s ready.prepared = w.in-Ok-open_swap.ensures.lab ∙ ap (λ (x : LabState). after x ready.prepared) same in
          is_opened devices _ _ old new opens c.args.swap.exp c.args.swap.way c.args.swap.ops.commands c.args.swap.ops.undo by works within
          (sym (ap (λ (n : ℕ). nat_le (length_of j + n + 10240) (limit_of j)) (body_size ready.planned.begin begin e.body)) ∙ space)
          (subst (λ (x : LabState). HasOpened the_texts works.pairs by.swap s x begin by.move (g.P.Plant.seen c.args.plant.now) (g.P.Plant.seen c.open_swap.new.plant) j new.journal new.swaps) (sym lab) opened) (λ stopped. w.in-Ok-open_swap.ensures.stopped.1 stopped))
      | in-Err w ↦
          rw (w.result-is, w.reply_of_unopened.ensures, ← c.self.view_is)
          (λ opens devices within works.
          let s = c.self.inside.lab.state in
          let j = c.self.inside.journal in
          let old : Control = control s j c.self.inside.swaps in
          let new : Control = control c.open_swap.new.lab.state c.open_swap.new.journal c.open_swap.new.swaps in
          let ready = c.in-Ok.ready in
          let e = c.in-Ok.ensures in
          let by = rw (← c.self.view_is) at c.requires.can.2 in
          let begin = Begin c.args.swap.exp c.args.swap.way in
          let same = c.prepare_swap.ensures.unchanged in
          let fault = w.in-Err.fault in
          let space : nat_le (length_of j + length ready.planned.begin + 10240) (limit_of j) ≡ true = sym (ap (λ (n : ℕ). nat_le (length_of j + n + 10240) (limit_of j)) c.size.ensures) ∙ (sym c.has_space.ensures.space ∙ c.if-not-has_space.false) in
          let plans : IsPlanned s (after s ready.prepared) j ready.planned by.swap begin by.move = planned s (after s ready.prepared) j ready.planned c.args.swap.exp c.args.swap.way c.args.swap.ops.commands c.args.swap.ops.undo by c.requires.can.0 e.follows e.body e.forth space c.has_space.ensures.most c.prepare_swap.ensures.sane in
          let here = w.in-Err.ensures.begun works.pairs by.swap begin by.move (subst (λ (x : LabState). Working the_texts (g.P.Plant.seen c.args.plant.now).told j x works.pairs) (sym same) works.working) works.holds
          (subst (λ (x : LabState). IsPlanned x (after x ready.prepared) j ready.planned by.swap begin by.move) (sym same) plans) in
          let unopened = subst (λ (x : LabState). IsAfterOpening the_texts works.pairs by.swap x (after x ready.prepared) begin by.move (g.P.Plant.seen c.args.plant.now) (g.P.Plant.seen c.open_swap.new.plant) j new.journal new.swaps (Err fault)) same here in
          let lab : new.lab ≡ s = w.in-Err.ensures.unchanged.0 ∙ same in
          let still = nothing_as ((c.open_swap.new.plant ≡ c.args.plant.now) × (new.journal ≡ j)) ((g.P.Plant.seen c.open_swap.new.plant ≡ g.P.Plant.seen c.args.plant.now) × (new ≡ old)) (Err fault) (λ kept. (ap g.P.Plant.seen kept.0, λ i. control (lab i) (kept.1 i) (w.in-Err.ensures.unchanged.1 i))) w.in-Err.ensures.nothing in
          not_opened devices _ _ old new opens c.args.swap.exp c.args.swap.way c.args.swap.ops.commands c.args.swap.ops.undo by works within (sym (ap (λ (n : ℕ). nat_le (length_of j + n + 10240) (limit_of j)) (body_size ready.planned.begin begin e.body)) ∙ space)
          (after s ready.prepared) fault w.in-Err.ensures.tried unopened still w.in-Err.ensures.stopped w.in-Err.ensures.limit)
    ]

pub returns-clause-told : goal.returns-clause-told
returns-clause-told g c =
    elim c.match-open_swap.branch [
      | in-Ok-open_swap w ↦ rw w.result-is tt
      | in-Err w ↦ rw (w.result-is, w.reply_of_unopened.ensures) (unopened_told c.args.swap.exp w.in-Err.fault)
    ]
