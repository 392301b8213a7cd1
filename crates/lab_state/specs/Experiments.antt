-- Experiments by their names.
use Rattle.std.specs.Prelude.{◌≡◌, ℕ, List, map}
use Rattle.virt_topo.specs.declared.experiment.Experiment.{Experiment}

-- the experiments of a table
abbrev pub experiments_of : List (List ℕ × Experiment) → List Experiment
experiments_of entries = map (λ entry. entry.1) entries

-- each stands at its name
abbrev pub AtNames : List (List ℕ × Experiment) → Type 0
AtNames entries = map (λ entry. entry.0) entries ≡ map (λ entry. entry.1.name) entries
