-- The answer of a search for an experiment of the lab.
use Rattle.std.specs.Prelude.{IfOk}
use Rattle.std.proofs.Common.{ℕ, Result, Ok, Err, sym, ◌∙◌, subst}
use Rattle.lab_base.specs.declared.memory.Memory.{Memory}
use Rattle.phys_lab.specs.Labs.{Lab}
use Rattle.phys_lab.specs.declared.free.Free.{Free}
use Rattle.virt_topo.specs.declared.experiment.Experiment.{Experiment}
use Rattle.virt_topo.specs.declared.mapping.Mapping.{Mapping}
use Rattle.virt_topo.specs.declared.wiring.Wiring.{Wiring}
use Rattle.lab_model.specs.Beside.{IsLeft}
use Rattle.lab_model.specs.Feasible.{IsFeasible}
use Rattle.lab_model.specs.Shapes.{IsShaped}
use Rattle.claims.specs.Experiments.{ClaimsOf}
use Rattle.claims.specs.Held.{Held, IsLeftTo}
use Rattle.cost_rule.specs.declared.rule.RuleNumber.{RuleNumber}
use Rattle.map_anneal.specs.Sought.{sought}
use Rattle.assign_core.specs.Exact.{IfFound, IsAllowed}
use Rattle.assign_core.specs.declared.whole.Solved.{Solved}
use Rattle.assign_core.specs.declared.whole.Solved.TheVariants as solved
use Rattle.records_model.specs.Labs.{LabState, lab_in}
use Rattle.lab_judge.specs.Searches.{IsFound}
use Rattle.lab_tasks.specs.JudgeSwap.{IsThere, Keeps}
use Rattle.lab_tasks.proofs.JudgeSwap.{at, checks, left_is}

-- THE SEARCH on what is free beside the others
module _ (s : LabState) (lab : Lab) (e : Experiment) (held : Held) (o : IsThere s lab e) (of_es : ClaimsOf (lab_in s.lab) s.experiments held) (w : Wiring) (free : Free) (left : IsLeftTo held e.name free) where
  is_found : (rule : RuleNumber) (seed : ℕ) (found : Solved) → IsAllowed (sought lab free w rule) seed found → IsFound rule lab s.experiments e w seed found
  is_found rule seed found allowed = record {
    free = free;
    left = subst (λ l. IsLeft lab l e free) (sym (at s lab e held o of_es).others_are) (left_is s lab e held o of_es free left);
    allowed = allowed;
  }

  pub found_if : (rule : RuleNumber) (seed : ℕ) (r : Result Solved Memory) → IfOk r (IsAllowed (sought lab free w rule) seed) → IfOk r (IsFound rule lab s.experiments e w seed)
  found_if rule seed (Ok found) allowed = is_found rule seed found allowed
  found_if rule seed (Err memory) allowed = tt

  kept : (m : Mapping) → IsShaped lab w m → IsFeasible lab free w m → Keeps s lab e w m
  kept m shaped feasible = record { shaped = shaped; keeps = sym (checks s lab e held o of_es w m free left shaped) ∙ feasible }

  found_keeps : (found : Solved) → IfFound found (IsShaped lab w) → IfFound found (IsFeasible lab free w) → IfFound found (Keeps s lab e w)
  found_keeps (solved.Least m c) shaped feasible = kept m shaped feasible
  found_keeps (solved.Local m c) shaped feasible = kept m shaped feasible
  found_keeps solved.None shaped feasible = tt
  found_keeps solved.GaveUp shaped feasible = tt

  pub keeps_if : (r : Result Solved Memory) → IfOk r (λ found. IfFound found (IsShaped lab w)) → IfOk r (λ found. IfFound found (IsFeasible lab free w)) → IfOk r (λ found. IfFound found (Keeps s lab e w))
  keeps_if (Ok found) shaped feasible = found_keeps found shaped feasible
  keeps_if (Err memory) shaped feasible = tt
