-- A lab step among steps that go well: no course of it is cut.
use Rattle.std.proofs.Common.{◌≡◌, ℕ, false, List, [], ◌++◌, append_assoc, Option, Some, None, refl, ap, subst}
use Rattle.plant.specs.Events.{Event}
use Rattle.records_model.specs.Labs.{LabState}
use Rattle.script_text.specs.Drills.{drill_of}
use Rattle.script_text.specs.declared.command.Command.{Command}
use Rattle.script_text.specs.declared.command.Command.TheVariants.{Play, Batch, Audit}
use Rattle.lab_core.specs.Auditing.{Audits, no_lab, told, unread, no_memory}
use Rattle.lab_core.specs.Commands.{LabStep}
use Rattle.lab_judge.specs.Judge.{is_unjudged}
use Rattle.lab_core.specs.LabSteps.{DoesBy, Drills, JudgedBeside, StepOf, is_planned, is_refused, not_opened, opened, wants_memory}
use Rattle.lab_core.specs.Sessions.{OpenSwap, Session, Closed, Open, Setting, After, Terms}
use Rattle.lab_core.specs.Tells.{opens_of}
use Rattle.lab_core.proofs.ListSteps.{plain_step}
use Rattle.complete.specs.Booted.{GoesWell}
use Rattle.complete.proofs.BatchUncut.{batch_uncut, cut_told, told_cut}
use Rattle.complete.proofs.DoneUncut.{AreSafe, cut_if, done_by_uncut, no_break}
use Rattle.complete.proofs.GoingWell.{well_after}
use Rattle.complete.proofs.PlayUncut.{plays_uncut}
use Rattle.lab_core.specs.Moments.{with_more}

-- A LAB STEP, where a swap that was open before it and that it turns can't be cut by steps that go well
module _ (terms : Terms) (at : Option (List Event)) (set : Setting) (s : LabState) (opening own more : List Event) (after : After) (well : GoesWell ((opening ++ own) ++ more)) where
  all_well : GoesWell (opening ++ (own ++ more))
  all_well = subst GoesWell (append_assoc opening own more) well

  own_well : GoesWell (own ++ more)
  own_well = well_after opening (own ++ more) all_well

  by_drill : (session : Session) → Drills terms.takes s session own after → cut_if after.reply ≡ false
  by_drill session (is_planned takes none is) = ap (λ (x : After). cut_if x.reply) is
  by_drill session (is_refused takes none is) = ap (λ (x : After). cut_if x.reply) is
  by_drill session (wants_memory wants) = ap (λ (x : After). cut_if x.reply) wants.after_is

  step_uncut : (command : Command) (drill : Option _) (session : Session) → AreSafe (own ++ more) command s (opens_of session)
      → StepOf drill (DoesBy (JudgedBeside terms.rule command) set) terms s session opening own after → cut_if after.reply ≡ false
  step_uncut command (Some drill) session safe step = by_drill session step.1
  step_uncut command None Closed safe (opened mid opens d) = done_by_uncut own more own_well set mid [] after command (λ o none. absurd none) terms.rule d
  step_uncut command None Closed safe (not_opened b) = no_break opening (own ++ more) after.reply b.breaks all_well
  step_uncut command None (Open opens) safe step = done_by_uncut own more own_well set s opens after command safe terms.rule step.1

  list_uncut : (exp : List ℕ) (from until lines : ℕ) (text : List ℕ) (session : Session) → LabStep terms at set s session (Play exp from until lines text) opening own after → cut_if after.reply ≡ false
  list_uncut exp from until lines text Closed (opened mid opens d) = plays_uncut exp from until text (with_more at opening) set mid [] own more after own_well d
  list_uncut exp from until lines text Closed (not_opened b) = no_break opening (own ++ more) after.reply b.breaks all_well
  list_uncut exp from until lines text (Open opens) step = plays_uncut exp from until text (with_more at opening) set s opens own more after own_well step.1

  runs_uncut : (moment lines : ℕ) (text : List ℕ) (session : Session) → LabStep terms at set s session (Batch moment lines text) opening own after → told_cut after.reply ≡ false
  runs_uncut moment lines text Closed (opened mid opens d) = batch_uncut terms.rule moment text (with_more at opening) set mid [] own more after own_well d
  runs_uncut moment lines text Closed (not_opened b) = cut_told after.reply (no_break opening (own ++ more) after.reply b.breaks all_well)
  runs_uncut moment lines text (Open opens) step = batch_uncut terms.rule moment text (with_more at opening) set s opens own more after own_well step.1

  -- the replies of an audit tell of no course
  one_audit : (trace : Option (List Event)) (mid : LabState) (opens : List OpenSwap) → Audits trace mid opens own after → told_cut after.reply ≡ false
  one_audit w mid opens (no_lab none d) = ap (λ (x : After). told_cut x.reply) d.after_is
  one_audit w mid opens (told report nothing tells is) = ap (λ (x : After). told_cut x.reply) is
  one_audit w mid opens (unread name own_is is) = ap (λ (x : After). told_cut x.reply) is
  one_audit w mid opens (no_memory wants) = ap (λ (x : After). told_cut x.reply) wants.after_is

  audit_uncut : (session : Session) → LabStep terms at set s session Audit opening own after → told_cut after.reply ≡ false
  audit_uncut Closed (opened mid opens d) = one_audit (with_more at opening) mid [] d
  audit_uncut Closed (not_opened b) = cut_told after.reply (no_break opening (own ++ more) after.reply b.breaks all_well)
  audit_uncut (Open opens) step = one_audit (with_more at opening) s opens step.1

  plain_uncut : (command : Command) → is_unjudged command ≡ false → (session : Session) → AreSafe (own ++ more) command s (opens_of session) → LabStep terms at set s session command opening own after → cut_if after.reply ≡ false
  plain_uncut command no' session safe step = step_uncut command (drill_of command) session safe (plain_step terms at set s session command opening own after no' step)

  pub lab_step_uncut : (command : Command) (session : Session) → AreSafe (own ++ more) command s (opens_of session) → LabStep terms at set s session command opening own after → told_cut after.reply ≡ false
  lab_step_uncut (Play exp from until lines text) session safe step = cut_told after.reply (list_uncut exp from until lines text session step)
  lab_step_uncut (Batch moment lines text) session safe step = runs_uncut moment lines text session step
  lab_step_uncut Audit session safe step = audit_uncut session step
  lab_step_uncut command session safe step = cut_told after.reply (plain_uncut command refl session safe step)
