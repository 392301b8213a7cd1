use Rattle.std.proofs.Common.{sym, ap, subst, ◌∙◌}
use Rattle.phys_lab.specs.Kept.{IsLab}
use Rattle.claims.specs.Answered.{none_of}
use Rattle.lab_state.specs.Texts.{the_texts}
use Rattle.lab_state.proofs.JudgeLaws.{lab_follows}
use Rattle.lab_state.proofs.state.LabState.judge_lab.Goals as goal

pub returns : goal.returns
returns c =
    let claimed_lab = c.in_ok-claimed_lab.claimed_lab in
    let same = sym c.in_ok-claimed_lab.ensures.lab in
    let is = subst IsLab same c.in_ok-lab.ensures.ok.0 in
    let text = c.in_ok-lab.ensures.ok.1 ∙ ap the_texts.ptop same in
    let claims = c.in_ok-claimed_lab.ensures.claims ∙ ap none_of same in
    rw (← c.self.view_is) (lab_follows c.self.inside.claimed_lab c.self.inside.experiments.list c.args.text.now claimed_lab (sym c.if-is_some.ensures) is text claims)
