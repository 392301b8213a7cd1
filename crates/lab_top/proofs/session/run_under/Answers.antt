use Rattle.std.proofs.Common.{◌∙◌, [], Some, sym}
use Rattle.lab_top.specs.Ran.{Numbered}
use Rattle.lab_top.proofs.Wording.{by_rule, never_read, unbegun}
use Rattle.lab_top.proofs.session.run_under.Goals as goal

pub returns-in_default-clause-ran : goal.returns-in_default-clause-ran
returns-in_default-clause-ran g c = ([], unbegun _ (Some (Numbered c.args.seed)) _)

pub returns-in_default-new-clause-ran : goal.returns-in_default-new-clause-ran
returns-in_default-new-clause-ran g c = ([], unbegun _ (Some (Numbered c.args.seed)) _)

pub returns-in_default-new-2-clause-ran : goal.returns-in_default-new-2-clause-ran
returns-in_default-new-2-clause-ran g c = ([], unbegun _ (Some (Numbered c.args.seed)) _)

pub returns-in-Some-clause-ran : goal.returns-in-Some-clause-ran
returns-in-Some-clause-ran g c =
    let r = c.run_generated.ensures.ran (g.S.Source.left c.args.source.now) in
    (r.0, by_rule g.P.Plant.takes_drills _ c.args.number _ c.args.seed _ _ _ r.0 (c.new-rule.ensures ∙ c.new-4.ensures) (sym c.in-Some.is) r.1)

pub returns-in-Some-clause-read : goal.returns-in-Some-clause-read
returns-in-Some-clause-read g c = λ is. let r = c.run_generated.ensures.ran (g.S.Source.left c.args.source.now) in absurd (never_read _ c.in-Some.seed _ _ _ r.0 r.1 is)
