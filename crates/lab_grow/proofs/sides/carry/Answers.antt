use Rattle.std.specs.Prelude.{MatchOption}
use Rattle.std.proofs.Common.{List, ℕ, Option, subst}
use Rattle.journal_rec.specs.declared.record.Record.{Record}
use Rattle.journal_rec.specs.declared.record.Found.{Found}
use Rattle.records_model.specs.Labs.{LabOf}
use Rattle.lab_state.specs.Replays.{records_of}
use Rattle.lab_state.specs.Texts.{the_texts}
use Rattle.lab_grow.specs.declared.growing.Grown.{Grown}
use Rattle.lab_grow.specs.Named.{AreStaying}
use Rattle.lab_grow.specs.Reasons.{IsStuck, IsOther, is_stuck, wants_other}
use Rattle.lab_grow.specs.Sides.{IsGrowth}
use Rattle.lab_grow.proofs.sides.carry.Goals as goal

pub returns-in-Ok-Some : goal.returns-in-Ok-Some
returns-in-Ok-Some c =
    let s = c.args.state.now.state in
    let old = c.args.old.now in
    let new = c.args.new.now in
    let end = c.in-Ok-Lab.grown.state in
    let growth = subst (λ (g : Grown). IsGrowth old new s g) c.in-Ok-Lab.field-0-is c.in-Ok-Lab.ensures in
    let other : IsOther old new s.experiments end.experiments c.in-Ok-Some.exp = subst
    (λ (o : Option (List ℕ × Option (List ℕ))). MatchOption o (AreStaying old new s.experiments end.experiments) (λ told. IsOther old new s.experiments end.experiments told.0))
    c.in-Ok-Some.field-0-is c.in-Ok-Some.ensures in
    wants_other c.in-Ok-Some.exp end c.requires.rest (subst (λ (rs : List Record). LabOf the_texts rs end) growth.0.packed growth.0.stands) other

pub returns-in-Ok : goal.returns-in-Ok
returns-in-Ok c =
    let s = c.args.state.now.state in
    let growth = subst (λ (g : Grown). IsGrowth c.args.old.now c.args.new.now s g) c.in-Ok-Refused.field-0-is c.in-Ok-Refused.ensures in
    let told = subst (λ (fs : List Found). IsStuck (records_of fs) c.in-Ok.exp) c.as_slice.ensures c.in-Ok.ensures in
    is_stuck c.in-Ok.exp c.requires.rest (subst (λ (rs : List Record). IsStuck rs c.in-Ok.exp) growth.0 told)
