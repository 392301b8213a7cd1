use Rattle.std.proofs.Common.{◌≡◌, true, List, Option, sym, ap, subst}
use Rattle.lab_base.specs.Lists.{Has}
use Rattle.virt_topo.specs.declared.experiment.Experiment.{Experiment}
use Rattle.top_text.specs.Printable.{is_printable}
use Rattle.lab_state.specs.declared.claimed_lab.ClaimedLab.{ClaimedLab}
use Rattle.lab_state.specs.Kept.{IsKept}
use Rattle.lab_state.specs.Seen.{Seen}
use Rattle.lab_state.proofs.state.LabState.lab.Goals as goal

printable : (claimed_lab : Option ClaimedLab) (es now : List Experiment) → IsKept claimed_lab es → es ≡ now → (e : Experiment) → Has now e → is_printable e.wiring ≡ true
printable claimed_lab es now kept same e h = (kept.printable e (subst (λ (l : List Experiment). Has l e) (sym same) h)).wiring

pub returns-in-Some-clause-printable : goal.returns-in-Some-clause-printable
returns-in-Some-clause-printable c = printable _ _ _ c.self.invariant (ap (λ (s : Seen). s.state.experiments) c.self.view_is)

pub returns-in-None-clause-printable : goal.returns-in-None-clause-printable
returns-in-None-clause-printable c = printable _ _ _ c.self.invariant (ap (λ (s : Seen). s.state.experiments) c.self.view_is)
