-- Machines, types and interfaces of the same names over another lab, and mappings that stay there.
use Rattle.std.proofs.Common.{◌≡◌, ℕ, List, [], ◌∷◌, map}
use Rattle.lab_base.specs.declared.ids.IfaceId.{IfaceId}
use Rattle.phys_lab.specs.Labs.{Lab}
use Rattle.virt_topo.specs.Soundness.{IsSound}
use Rattle.virt_topo.specs.Wirings.{mapped}
use Rattle.virt_topo.specs.declared.wiring.Wiring.{Wiring}
use Rattle.virt_topo.specs.declared.mapping.Mapping.{Mapping}
use Rattle.virt_topo.specs.declared.mapping.Mapped.{Mapped}
use Rattle.virt_topo.specs.declared.experiment.Experiment.{Experiment}
use Rattle.virt_topo.specs.declared.experiment.Phase.{Phase}
use Rattle.virt_topo.specs.declared.experiment.Phase.TheVariants.{Out, In}
use Rattle.lab_model.specs.Shapes.{Place, IsShaped, node_at}
use Rattle.lab_model.specs.Uses.{iface_at}
use Rattle.lab_grow.specs.Named.{HasSameRows}

-- the name of a place's machine, with its type; the name of a plug's machine, with that of its interface
abbrev pub named_place : Lab → Place → List ℕ × List ℕ
named_place lab p = ((node_at lab p.0).name, p.1)

abbrev pub named_plug : Lab → IfaceId → List ℕ × List ℕ
named_plug lab i = ((node_at lab (iface_at lab i).node).name, (iface_at lab i).name)

-- THE SAME PLACE BY NAME
pub record HasSameNames (old new : Lab) (m n : Mapping) : Type 0 where
  pub places : map (named_place old) m.places ≡ map (named_place new) n.places
  pub plugs : map (named_plug old) m.plugs ≡ map (named_plug new) n.plugs

-- a mapping stays: by name, with its wiring, and it wants the rows that it wanted
pub record IsStill (old new : Lab) (m n : Mapped) : Type 0 where
  pub wiring : n.wiring ≡ m.wiring
  pub sound : IsSound m.wiring
  pub shaped : IsShaped old m.wiring m.mapping
  pub shaped_there : IsShaped new m.wiring n.mapping
  pub names : HasSameNames old new m.mapping n.mapping
  pub rows : HasSameRows old new m n

abbrev pub IsStillIn : Lab → Lab → Wiring → Wiring → Phase → Phase → Type 0
IsStillIn old new w v Out Out = Unit {0}
IsStillIn old new w v (In m tags) (In n ids) = IsStill old new (mapped w m tags) (mapped v n ids)
IsStillIn old new w v p q = ⊥

abbrev pub AreStill : Lab → Lab → List Experiment → List Experiment → Type 0
AreStill old new [] [] = Unit {0}
AreStill old new (e ∷ es) (f ∷ fs) = IsStillIn old new e.wiring f.wiring e.phase f.phase × AreStill old new es fs
AreStill old new es fs = ⊥
