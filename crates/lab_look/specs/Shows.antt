-- The text or picture of two sides.
use Rattle.std.specs.Prelude.{◌≡◌, ◌⊎◌, ℕ, List, codes}
use Rattle.plant.specs.declared.step.Side.{Side}
use Rattle.journal_model.specs.Journals.{head, live, New, Bad}
use Rattle.records_model.specs.Labs.{LabState}
use Rattle.lab_sides.specs.declared.walking.Walked.{Walked}
use Rattle.lab_look.specs.declared.text.Shown.{Shown}
use Rattle.lab_look.specs.declared.text.Shown.TheVariants as shows
use Rattle.lab_look.specs.Looks.{HasLab, HasWrong}
use Rattle.lab_look.specs.Seen.{lab_text}

-- what is said of the lab of two sides: of none where both are blank
abbrev pub IsOfLab : (LabState → List ℕ → Type 0) → (List ℕ → Type 0) → List ℕ → List ℕ → List ℕ → Type 0
IsOfLab Is IsOfNone a b text = ((live (head a) (head b) ≡ New) × IsOfNone text) ⊎ ((side : Side) × (w : Walked) × (s : LabState) × HasLab a b side w s × Is s text)

-- the sides are no journal: a side has a fault there, or the record there is the first that can't follow
abbrev pub IsBad : List ℕ → List ℕ → Side → ℕ → Type 0
IsBad a b side at = Bad a b side at ⊎ ((w : Walked) × HasWrong a b side at w)

-- THE TEXT OF TWO SIDES: that of the lab of their records
abbrev pub IsText : List ℕ → List ℕ → Shown → Type 0
IsText a b (shows.Text text) = IsOfLab (λ s t. t ≡ lab_text s) (λ t. t ≡ codes "no lab\n") a b text
IsText a b (shows.Bad side at) = IsBad a b side at
