-- The part of one experiment in what is said of the whole.
use Rattle.std.specs.Prelude.{◌≡◌, ℕ, List}
use Rattle.lab_base.specs.Lists.{Has}
use Rattle.phys_lab.specs.Labs.{Lab}
use Rattle.virt_topo.specs.declared.experiment.Experiment.{Experiment}
use Rattle.plant.specs.Worlds.{Row, World}
use Rattle.lab_model.specs.Claims.{Which, Wants, Claims, IsOf}
use Rattle.lab_model.specs.Reach.{Reaches}
use Rattle.lab_model.specs.Isolated.{IsRow, IsPipe}
use Rattle.lab_model.specs.Cabled.{CabledPhase, AllWanted, FreeWiped}

-- the part of one experiment: the same words over the rows that it wants and the nodes that it claims, alone
pub record Part (lab : Lab) (w : World) (e : Experiment) : Type 0 where
  pub apart : (p q : Row) (which : Which) (link : List ℕ) (which' : Which) (link' : List ℕ)
      → Reaches lab (λ name pipe. Claims lab e name × IsPipe w name pipe) (λ row. IsOf lab e row × IsRow w row) p q
      → Wants lab e p which link → Wants lab e q which' link' → (which ≡ which') × (link ≡ link')
  pub phase : CabledPhase lab w e e.phase

-- the parts of all experiments, and nothing else
pub record Parts (lab : Lab) (es : List Experiment) (w : World) : Type 0 where
  pub wanted : AllWanted lab es w
  pub free : FreeWiped lab es w
  pub each : (e : Experiment) → Has es e → Part lab w e
