-- The invariant of a lab with its experiments.
use Rattle.std.specs.Prelude.{◌≡◌, true, List, Option, Some, None}
use Rattle.lab_base.specs.Lists.{Has}
use Rattle.phys_lab.specs.Labs.{Lab}
use Rattle.virt_topo.specs.declared.experiment.Experiment.{Experiment}
use Rattle.virt_topo.specs.declared.mapping.Mapped.{Mapped}
use Rattle.lab_model.specs.Claims.{Which, claimed}
use Rattle.records_model.specs.Labs.{LabState, Sane}
use Rattle.claims.specs.Experiments.{ClaimsOf}
use Rattle.top_text.specs.Printable.{is_printable}
use Rattle.lab_state.specs.declared.claimed_lab.ClaimedLab.{ClaimedLab}

-- the wiring can be printed, and so can those that the experiment moves from and to
pub record ArePrintable (e : Experiment) : Type 0 where
  pub wiring : is_printable e.wiring ≡ true
  pub moving : (which : Which) (m : Mapped) → claimed e which ≡ Some m → is_printable m.wiring ≡ true

-- the lab, if there is one
abbrev pub lab_of : Option ClaimedLab → Option Lab
lab_of None = None
lab_of (Some claimed_lab) = Some claimed_lab.lab

abbrev pub state_of : Option ClaimedLab → List Experiment → LabState
state_of claimed_lab es = record { lab = lab_of claimed_lab; experiments = es }

-- the claims of the lab are those of the experiments
abbrev pub ClaimsStand : Option ClaimedLab → List Experiment → Type 0
ClaimsStand None es = Unit {0}
ClaimsStand (Some claimed_lab) es = ClaimsOf claimed_lab.lab es claimed_lab.claims

-- the state is sane, each wiring can be printed, and the claims are those of the experiments
pub record IsKept (claimed_lab : Option ClaimedLab) (es : List Experiment) : Type 0 where
  pub sane : Sane (state_of claimed_lab es)
  pub printable : (e : Experiment) → Has es e → ArePrintable e
  pub claims : ClaimsStand claimed_lab es
