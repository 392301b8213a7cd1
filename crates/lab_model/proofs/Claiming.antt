-- The test of a claim says what a claim is.
use Rattle.std.proofs.Common.{◌≡◌, inl, inr, ℕ, true, Option, Some, None, List, refl, ap, ◌∙◌}
use Rattle.std.proofs.lemmas.Bool.{or_cases, or_left, or_right}
use Rattle.phys_lab.specs.Labs.{Lab}
use Rattle.virt_topo.specs.declared.mapping.Mapped.{Mapped}
use Rattle.virt_topo.specs.declared.experiment.Experiment.{Experiment}
use Rattle.lab_model.specs.Claims.{Which, Old, New, claimed, Claims, Places, claims_it, is_placed}
use Rattle.lab_model.proofs.Kept.{places_it_from, Places_from}

pub is_placed_from : (lab : Lab) (o : Option Mapped) (m : Mapped) (name : List ℕ) → o ≡ Some m → Places lab m name → is_placed lab o name ≡ true
is_placed_from lab o m name e placed = ap (λ x. is_placed lab x name) e ∙ places_it_from lab m name placed

pub placed_from : (lab : Lab) (o : Option Mapped) (name : List ℕ) → is_placed lab o name ≡ true → (m : Mapped) × (o ≡ Some m) × Places lab m name
placed_from lab None name h = absurd (cc h)
placed_from lab (Some m) name h = (m, refl, Places_from lab m name h)

pub node_claimed : (lab : Lab) (e : Experiment) (which : Which) (c : Option Mapped) (name : List ℕ) → claimed e which ≡ c → is_placed lab c name ≡ true → Claims lab e name
node_claimed lab e which None name is h = absurd (cc h)
node_claimed lab e which (Some m) name is h = record { which = which; mapped = m; is = is; placed = Places_from lab m name h }

pub claims_from : (lab : Lab) (e : Experiment) (name : List ℕ) → claims_it lab e name ≡ true → Claims lab e name
claims_from lab e name h = elim (or_cases (is_placed lab (claimed e Old) name) (is_placed lab (claimed e New) name) h) [
  | inl old ↦ node_claimed lab e Old (claimed e Old) name refl old
  | inr new ↦ node_claimed lab e New (claimed e New) name refl new
]

pub claims_test : (lab : Lab) (e : Experiment) (name : List ℕ) → Claims lab e name → claims_it lab e name ≡ true
claims_test lab e name c = by c.which c.is
  where
    by : (which : Which) → claimed e which ≡ Some c.mapped → claims_it lab e name ≡ true
    by Old is = or_left _ _ (is_placed_from lab (claimed e Old) c.mapped name is c.placed)
    by New is = or_right _ _ (is_placed_from lab (claimed e New) c.mapped name is c.placed)
