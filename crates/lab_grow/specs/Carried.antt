-- The experiments of a lab, over another lab.
use Rattle.std.specs.Prelude.{◌≡◌, List, [], ◌∷◌, Some}
use Rattle.std.specs.List.{flat_map}
use Rattle.lab_base.specs.Lists.{Has}
use Rattle.phys_lab.specs.Labs.{Lab}
use Rattle.virt_topo.specs.declared.wiring.Wiring.{Wiring}
use Rattle.virt_topo.specs.declared.mapping.Mapped.{Mapped}
use Rattle.virt_topo.specs.declared.experiment.Experiment.{Experiment}
use Rattle.virt_topo.specs.declared.experiment.Phase.{Phase}
use Rattle.virt_topo.specs.declared.experiment.Phase.TheVariants.{Out, In, Moving}
use Rattle.virt_topo.specs.Wirings.{mapped}
use Rattle.journal_rec.specs.declared.record.Record.{Record}
use Rattle.journal_rec.specs.declared.record.Record.TheVariants.{Lab as LabRecord}
use Rattle.lab_model.specs.Shapes.{IsShaped}
use Rattle.records_model.specs.Labs.{LabState, HasText, LabOf, Sane, Texts}
use Rattle.lab_state.specs.Packing.{packed_one, packed_of}

-- the same mapping by name over another lab: the same wiring and VLAN ids, and the same text, so machines, types and interfaces of the same names
pub record IsSameMapped (t : Texts) (old new : Lab) (m n : Mapped) : Type 0 where
  pub wiring : n.wiring ≡ m.wiring
  pub tags : n.tags ≡ m.tags
  pub shaped : IsShaped new n.wiring n.mapping
  pub text : t.solution new n.wiring n.mapping ≡ t.solution old m.wiring m.mapping

-- the same phase, of experiments that don't move
abbrev pub IsSamePhase : Texts → Lab → Lab → Wiring → Phase → Phase → Type 0
IsSamePhase t old new w Out Out = Unit {0}
IsSamePhase t old new w (In m tags) (In n ids) = IsSameMapped t old new (mapped w m tags) (mapped w n ids)
IsSamePhase t old new w p q = ⊥

-- THE SAME EXPERIMENT over another lab
pub record IsSame (t : Texts) (old new : Lab) (e f : Experiment) : Type 0 where
  pub name : f.name ≡ e.name
  pub wiring : f.wiring ≡ e.wiring
  pub phase : IsSamePhase t old new e.wiring e.phase f.phase

-- all of them, in order of creation
abbrev pub AreSame : Texts → Lab → Lab → List Experiment → List Experiment → Type 0
AreSame t old new [] [] = Unit {0}
AreSame t old new (e ∷ es) (f ∷ fs) = IsSame t old new e f × AreSame t old new es fs
AreSame t old new es fs = ⊥

-- the wirings have texts
abbrev pub HaveTexts : Texts → List Experiment → Type 0
HaveTexts t es = (e : Experiment) → Has es e → HasText t e.wiring

-- an experiment that doesn't move; none of these moves
abbrev pub IsAtRest : Phase → Type 0
IsAtRest Out = Unit {0}
IsAtRest (In m tags) = Unit {0}
IsAtRest (Moving old new) = ⊥

abbrev pub AreAtRest : List Experiment → Type 0
AreAtRest [] = Unit {0}
AreAtRest (e ∷ es) = IsAtRest e.phase × AreAtRest es

-- WHAT IS WRITTEN: the record of the new lab, and then the packed records of the experiments as they stand over the old one
abbrev pub grown_records : Texts → Lab → Lab → List Experiment → List Record
grown_records t old new es = LabRecord (t.ptop new) ∷ flat_map (packed_one t old) es

-- THE LAW OF A GROWN LAB: where the records that are written can follow each other, they stand for the new lab, with the same experiments in it by
-- name, phase, wiring, places, plugs and VLAN ids; trunks, machines and ids hold them there; and the records, which stand for it, are those that it
-- packs
pub record IsGrown (t : Texts) (old new : Lab) (es : List Experiment) (s : LabState) : Type 0 where
  pub lab : s.lab ≡ Some new
  pub same : AreSame t old new es s.experiments
  pub sane : Sane s
  pub packed : packed_of t s ≡ grown_records t old new es
  pub stands : LabOf t (packed_of t s) s
