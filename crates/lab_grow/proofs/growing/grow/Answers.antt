use Rattle.std.proofs.Common.{List, ℕ, [], subst}
use Rattle.journal_rec.specs.declared.record.Record.{Record}
use Rattle.records_model.specs.Labs.{LabOf}
use Rattle.lab_state.specs.Texts.{the_texts}
use Rattle.lab_state.proofs.Canonical.{texts_once}
use Rattle.lab_look.specs.declared.looked.Looked.{Looked}
use Rattle.lab_look.specs.Looks.{IsLook}
use Rattle.lab_grow.specs.Carried.{HaveTexts, grown_records}
use Rattle.lab_grow.proofs.Carrying.{grown_law}
use Rattle.lab_grow.proofs.Looking.{found, not_bad, wrong, wrong_records, wrong_are}
use Rattle.lab_grow.proofs.growing.grow.Goals as goal

pub returns-in-Ok-Found : goal.returns-in-Ok-Found
returns-in-Ok-Found c =
    let es = c.args.state.now.state.experiments in
    let old = c.args.old.now in
    let new = c.args.new.now in
    let side = c.in_ok-side.side in
    let over = c.in_ok-side.ensures in
    let look : IsLook side [] c.in-Ok-Found.field-0 = subst (λ (l : List ℕ). IsLook l [] c.in-Ok-Found.field-0) c.bytes.ensures c.in-Ok-Found.ensures in
    let has_lab = subst (λ (x : Looked). IsLook side [] x) c.in-Ok-Found.field-0-is look in
    let at = found side over.0 (grown_records the_texts old new es) over.1 over.2 _ _ _ has_lab in
    let texts : HaveTexts the_texts es = λ e h. record { sound = c.lab-kept.ensures.sane.wirings e h; printable = c.lab-kept.ensures.printable e h } in
    (grown_law the_texts texts_once es old new c.in-Ok-Found.grown.state texts c.range-range.ensures.lab c.requires.rest at.0, over, at.1)

pub returns-in-Ok-Wrong : goal.returns-in-Ok-Wrong
returns-in-Ok-Wrong c =
    let es = c.args.state.now.state.experiments in
    let grs = grown_records the_texts c.args.old.now c.args.new.now es in
    let side = c.in_ok-side.side in
    let over = c.in_ok-side.ensures in
    let look : IsLook side [] c.in-Ok-Wrong.field-0 = subst (λ (l : List ℕ). IsLook l [] c.in-Ok-Wrong.field-0) c.bytes.ensures c.in-Ok-Wrong.ensures in
    let has = subst (λ (x : Looked). IsLook side [] x) c.in-Ok-Wrong.field-0-is look in
    let records = wrong_records side over.0 grs over.1 over.2 _ _ _ has in (
      records,
      wrong_are side over.0 grs over.1 over.2 _ _ _ has,
      λ end of. wrong side over.0 grs over.1 over.2 _ _ _ end has (subst (λ (rs : List Record). LabOf the_texts rs end) records of),
    )

pub unreachable-requires-in-Ok-Bad : goal.unreachable-requires-in-Ok-Bad
unreachable-requires-in-Ok-Bad c =
    let grs = grown_records the_texts c.args.old.now c.args.new.now c.args.state.now.state.experiments in
    let side = c.in_ok-side.side in
    let over = c.in_ok-side.ensures in
    let look : IsLook side [] c.in-Ok-Bad.field-0 = subst (λ (l : List ℕ). IsLook l [] c.in-Ok-Bad.field-0) c.bytes.ensures c.in-Ok-Bad.ensures in
    not_bad side over.0 grs over.1 over.2 _ _ _ (subst (λ (x : Looked). IsLook side [] x) c.in-Ok-Bad.field-0-is look)
