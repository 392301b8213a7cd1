-- Worlds that are alike for an experiment.
use Rattle.std.proofs.Common.{◌≡◌, Bool, true, false, Some, Result, [], ◌∷◌, sym, ap, ◌∙◌, subst}
use Rattle.phys_lab.specs.Labs.{Lab}
use Rattle.virt_topo.specs.declared.experiment.Experiment.{Experiment}
use Rattle.virt_topo.specs.declared.mapping.Mapped.{Mapped}
use Rattle.plant.specs.Worlds.{World, wiped, row_after, node_after, node_polled}
use Rattle.plant.specs.declared.device.Answer.{Answer}
use Rattle.plant.specs.declared.device.Fault.{Fault}
use Rattle.plant.specs.declared.device.DeviceOp.{DeviceOp}
use Rattle.lab_model.specs.Leavings.{did, SameFor, Sent, ran, Ends}
use Rattle.lab_model.specs.Claims.{Which, claimed}
use Rattle.lab_model.specs.Wants.{node_row_of}
use Rattle.lab_model.specs.Cabled.{SameNode}

-- worlds that are alike for an experiment stay alike under one command
pub same_did : (lab : Lab) (e : Experiment) (v w : World) (op : DeviceOp) (applied : Bool) (answer : Result Answer Fault) → SameFor lab e v w → SameFor lab e (did v op applied answer) (did w op applied answer)
same_did lab e v w op true answer same = record {
  rows = λ row of_e. ap (λ b. row_after op row b) (same.rows row of_e);
  nodes = λ name claims. ap (λ n. node_polled op answer name (node_after op name n)) (same.nodes name claims);
}
same_did lab e v w op false answer same = record { rows = same.rows; nodes = λ name claims. ap (λ n. node_polled op answer name n) (same.nodes name claims) }

pub same_ran : (lab : Lab) (e : Experiment) (cs : Sent) (v w : World) → SameFor lab e v w → SameFor lab e (ran v cs) (ran w cs)
same_ran lab e [] v w same = same
same_ran lab e (c ∷ cs) v w same = same_ran lab e cs (did v c.0 true c.1) (did w c.0 true c.1) (same_did lab e v w c.0 true c.1 same)

pub ends_same : (lab : Lab) (e : Experiment) (m : Mapped) (which : Which) (v w : World) → claimed e which ≡ Some m → SameFor lab e v w → Ends lab e m v → Ends lab e m w
ends_same lab e m which v w mine same ends = record {
  only = λ row of_e is. ends.only row of_e (sym (same.rows row of_e) ∙ is);
  stand = λ row link wanted. same.rows row (which, link, record { mapped = m; is = mine; row_of = wanted }) ∙ ends.stand row link wanted;
  exact = λ name claims placed. subst (λ n. SameNode n (node_row_of lab m name)) (sym (same.nodes name claims)) (ends.exact name claims placed);
  clean = λ name claims absent. subst (λ n. SameNode n wiped) (sym (same.nodes name claims)) (ends.clean name claims absent);
}
