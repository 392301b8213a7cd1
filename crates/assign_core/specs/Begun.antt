-- Choices that can't be begun.
use Rattle.std.specs.Prelude.{◌≡◌, ◌<◌, ℕ, List, [], length, slice_index_or}
use Rattle.lab_model.specs.Shapes.{Place}

-- some virtual node has no candidate
pub record HasNone (cs : List (List Place)) : Type 0 where
  pub virt : ℕ
  pub within : virt < length cs
  pub none : slice_index_or cs virt [] ≡ []
