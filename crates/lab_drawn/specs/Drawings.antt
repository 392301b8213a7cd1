-- The picture of the lab of two sides.
use Rattle.std.specs.Prelude.{◌≡◌, List, ℕ, Option, Some, None}
use Rattle.phys_lab.specs.Labs.{Lab}
use Rattle.virt_topo.specs.declared.experiment.Experiment.{Experiment}
use Rattle.records_model.specs.Labs.{LabState}
use Rattle.lab_picture.specs.declared.geometry.Geometry.{Geometry}
use Rattle.lab_picture.specs.Pictures.{picture}
use Rattle.lab_layout.specs.Laid.{IsLaid}
use Rattle.lab_look.specs.declared.text.Shown.{Shown}
use Rattle.lab_look.specs.declared.text.Shown.TheVariants as shows
use Rattle.lab_look.specs.Seen.{view_of}
use Rattle.lab_look.specs.Shows.{IsOfLab, IsBad}

-- what a picture has beside the lab: its style, its key, and the picture where there is no lab
pub record Frame : Type 0 where
  pub style : List ℕ
  pub key : List ℕ
  pub none : List ℕ

-- THE PICTURE OF A LAB, with everything at its place, within the picture, and no machine over another
abbrev pub IsPictureIn : Frame → Option Lab → List Experiment → List ℕ → Type 0
IsPictureIn frame None es text = text ≡ frame.none
IsPictureIn frame (Some lab) es text = (g : Geometry) × IsLaid (view_of lab es) g × (text ≡ picture frame.style frame.key g (view_of lab es))

abbrev pub IsPictureOf : Frame → LabState → List ℕ → Type 0
IsPictureOf frame s text = IsPictureIn frame s.lab s.experiments text

-- THE PICTURE OF TWO SIDES: that of the lab of their records
abbrev pub IsPicture : Frame → List ℕ → List ℕ → Shown → Type 0
IsPicture frame a b (shows.Text text) = IsOfLab (λ s t. IsPictureOf frame s t) (λ t. t ≡ frame.none) a b text
IsPicture frame a b (shows.Bad side at) = IsBad a b side at
