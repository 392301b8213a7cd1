use Rattle.std.proofs.Common.{◌≡◌, ◌+◌, ℕ, true, nat_le, OnOk, Result, Ok, refl, sym, ap, ◌∙◌, subst, arith}
use Rattle.std.proofs.lemmas.Bool.{leb-true}
use Rattle.std.proofs.lemmas.Result.{err_from_is_err_and}
use Rattle.journal_disk.specs.Standing.{length_of, limit_of}
use Rattle.records_model.specs.Labs.{LabState}
use Rattle.script_text.specs.declared.reply.Reply.{Reply}
use Rattle.lab_state.specs.Changes.{after}
use Rattle.lab_core.specs.declared.fault.CoreFault.{CoreFault}
use Rattle.lab_core.specs.Controller.{Control, control}
use Rattle.lab_tasks.specs.Tasks.{Append}
use Rattle.lab_judge.specs.Judge.{Is}
use Rattle.lab_core.specs.Obey.{start_of, Obeyed}
use Rattle.lab_core.proofs.Obey.{wanted}
use Rattle.lab_core.proofs.PerformAppend.{is_short, full, no_space, left, stands_of}
use Rattle.lab_core.proofs.controller.Controller.append.Goals as goal

pub encode-requires : goal.encode-requires
encode-requires g c = is_short c.args.entry.now c.requires.can.is_record

pub returns-in_err-encoded : goal.returns-in_err-encoded
returns-in_err-encoded g c =
    let p = err_from_is_err_and c.from_residual.result c.from_residual.ensures.1 in
    rw (p.1, p.2, ← c.self.view_is) (λ opens devices exp within works. wanted devices _ _ (control c.self.inside.lab.state c.self.inside.journal c.self.inside.swaps) opens exp works)

pub returns-then-not-has_space : goal.returns-then-not-has_space
returns-then-not-has_space g c = rw (← c.self.view_is) (λ opens devices exp within works.
    let old : Control = control c.self.inside.lab.state c.self.inside.journal c.self.inside.swaps in
    full devices _ old opens exp (Append c.args.entry.now c.args.reply) c.args.entry.now c.in_ok-encoded.encoded c.length.result works (λ own after no' replies. no_space (start_of devices old opens).set old.lab opens c.args.entry.now _ own after no' replies) c.in_ok-encoded.ensures.size
    (sym (ap (λ (n : ℕ). nat_le (length_of c.self.inside.journal + n + 10240) (limit_of c.self.inside.journal)) c.size.ensures) ∙ (sym c.has_space.ensures.space ∙ c.if-not-has_space.true)) c.length.ensures)

pub prepare-requires-clause-record : goal.prepare-requires-clause-record
prepare-requires-clause-record g c = c.requires.can.is_record

pub prepare-requires-clause-follows : goal.prepare-requires-clause-follows
prepare-requires-clause-follows g c = rw (← c.self.view_is) at c.requires.can.follows

pub returns-in_err-prepared : goal.returns-in_err-prepared
returns-in_err-prepared g c =
    let p = err_from_is_err_and c.from_residual-in_err-prepared.result c.from_residual-in_err-prepared.ensures.1 in
    rw (p.1, p.2, c.prepare.ensures.unchanged, ← c.self.view_is) (λ opens devices exp within works. wanted devices _ _ (control c.self.inside.lab.state c.self.inside.journal c.self.inside.swaps) opens exp works)

pub write-written-requires-clause-stands : goal.write-written-requires-clause-stands
write-written-requires-clause-stands g c = stands_of _ (control c.self.inside.lab.state c.self.inside.journal c.self.inside.swaps) c.requires.works.0 (rw (← c.self.view_is) at c.requires.works.1)

pub write-written-requires-clause-fits : goal.write-written-requires-clause-fits
write-written-requires-clause-fits g c =
    let fits = leb-true _ _ (sym c.has_space.ensures.space ∙ c.if-not-has_space.false) in
    omega (arith, fits, c.size.ensures)

pub returns : goal.returns
returns g c = rw (← c.self.view_is) (λ opens devices exp within works.
    let s = c.self.inside.lab.state in
    let j = c.self.inside.journal in
    let old : Control = control s j c.self.inside.swaps in
    let new : Control = control c.enter_written.new.lab.state c.write-written.new.journal c.self.inside.swaps in
    let space : nat_le (length_of j + Rattle.journal_model.specs.Journals.size c.args.entry.now + 10240) (limit_of j) ≡ true =
    sym (ap (λ (n : ℕ). nat_le (length_of j + n + 10240) (limit_of j)) (c.size.ensures ∙ c.in_ok-encoded.ensures.size)) ∙ (sym c.has_space.ensures.space ∙ c.if-not-has_space.false) in
    let lab = subst (λ (x : LabState). OnOk c.write-written.result (c.enter_written.new.lab.state ≡ after x c.in_ok-prepared.prepared)) c.prepare.ensures.unchanged c.enter_written.ensures in
    subst (λ (r : Result Reply CoreFault). Obeyed devices (g.P.Plant.seen c.args.plant.now) (g.P.Plant.seen c.write-written.new.plant) (Is (Ok (Append c.args.entry.now c.args.reply))) old new opens exp r) (sym c.reply_of_append.ensures)
    (left devices exp _ _ old new opens c.args.entry.now c.args.reply (after s c.in_ok-prepared.prepared) (rw (← c.self.view_is) at c.requires.can) c.in_ok-prepared.ensures.ok space c.has_space.ensures.most works refl c.write-written.result
    (c.write-written.ensures c.args.entry.now c.in_ok-encoded.ensures.spelled) c.write-written.result refl lab))
