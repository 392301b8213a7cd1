-- Mappings that experiments stand with suit their labs.
use Rattle.std.proofs.Common.{◌≡◌, Some, List, ap, subst}
use Rattle.lab_base.specs.Lists.{Has}
use Rattle.lab_base.specs.declared.ids.VlanId.{VlanId}
use Rattle.phys_lab.specs.Labs.{Lab}
use Rattle.virt_topo.specs.Wirings.{mapped}
use Rattle.virt_topo.specs.declared.mapping.Mapping.{Mapping}
use Rattle.virt_topo.specs.declared.mapping.Mapped.{Mapped}
use Rattle.virt_topo.specs.declared.experiment.Experiment.{Experiment}
use Rattle.virt_topo.specs.declared.experiment.Phase.{Phase}
use Rattle.virt_topo.specs.declared.experiment.Phase.TheVariants.{In}
use Rattle.lab_model.specs.Claims.{New, claimed, claimed_in}
use Rattle.lab_model.specs.Holding.{Suits, Holding}
use Rattle.records_model.specs.Labs.{LabState, lab_in, Sane}

pub standing_suits : (lab : Lab) (e : Experiment) → ((m : Mapped) → claimed e New ≡ Some m → Suits lab m) → (mapping : Mapping) (tags : List VlanId) → e.phase ≡ In mapping tags
    → Suits lab (mapped e.wiring mapping tags)
standing_suits lab e fits mapping tags is = fits (mapped e.wiring mapping tags) (ap (λ (p : Phase). claimed_in e.wiring p New) is)

pub all_suit : (s : LabState) (lab : Lab) → Sane s → s.lab ≡ Some lab → (e : Experiment) → Has s.experiments e → (m : Mapped) → claimed e New ≡ Some m → Suits lab m
all_suit s lab sane is e has m mine =
    let holding : Holding lab s.experiments = subst (λ o. Holding (lab_in o) s.experiments) is sane.holding in
    holding.fits e New m has mine
