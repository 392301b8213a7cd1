-- A done course and its last record.
use Rattle.std.proofs.Common.{◌≡◌, Some, List, ◌∷◌, ◌++◌, subst}
use Rattle.lab_base.specs.declared.ids.VlanId.{VlanId}
use Rattle.phys_lab.specs.Labs.{Lab}
use Rattle.phys_lab.specs.Kept.{IsLab}
use Rattle.virt_topo.specs.declared.experiment.Experiment.{Experiment}
use Rattle.virt_topo.specs.declared.mapping.Mapped.{Mapped}
use Rattle.virt_topo.specs.declared.mapping.Mapping.{Mapping}
use Rattle.virt_topo.specs.declared.experiment.Phase.TheVariants.{Out, In}
use Rattle.plant.specs.Worlds.{World}
use Rattle.lab_model.specs.Claims.{Which, claimed}
use Rattle.lab_model.specs.Holding.{Holding}
use Rattle.lab_model.specs.Parts.{Parts}
use Rattle.lab_model.specs.Leavings.{Ends, Gone}
use Rattle.lab_model.proofs.Begins.{end_in, end_out}

module _ (lab : Lab) (a b : List Experiment) (e f : Experiment) (w : World) (is_lab : IsLab lab) (holding : Holding lab (a ++ f ∷ b)) where
  pub ended_in : (mapping : Mapping) (tags : List VlanId) (m : Mapped) (which : Which) → f.phase ≡ In mapping tags → ◌≡◌ {A = Mapped} m (record { wiring = f.wiring; mapping = mapping; tags = tags }) → claimed e which ≡ Some m → Ends lab e m w → Parts lab (a ++ e ∷ b) w → Parts lab (a ++ f ∷ b) w
  ended_in mapping tags m which inside is mine ends parts =
      let n : Mapped = record { wiring = f.wiring; mapping = mapping; tags = tags } in
      let as_n = subst (λ x. Ends lab e x w) is ends in
      let its : claimed e which ≡ Some n = subst (λ x. claimed e which ≡ Some x) is mine in
      end_in lab a b e f w is_lab holding mapping tags inside as_n.only as_n.stand (λ name placed. as_n.exact name (record { which = which; mapped = n; is = its; placed = placed }) placed) as_n.clean parts

  pub ended_out : f.phase ≡ Out → Gone lab e w → Parts lab (a ++ e ∷ b) w → Parts lab (a ++ f ∷ b) w
  ended_out out gone parts = end_out lab a b e f w is_lab holding out gone.rows gone.nodes parts
