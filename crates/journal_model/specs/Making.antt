-- The states of side A while a new journal is made.
use Rattle.std.specs.Prelude.{◌≡◌, ◌≢◌, ◌<◌, ℕ, List, [], ◌∷◌, ◌++◌, length}
use Rattle.plant.specs.Disks.{Disk, at_once}
use Rattle.journal_rec.specs.Payloads.{le}
use Rattle.journal_model.specs.Journals.{magic}

-- it has fewer bytes than a header
pub record IsShort (d : Disk) : Type 0 where
  pub bytes : List ℕ
  pub is : d ≡ at_once bytes
  pub short : length bytes < 18

-- its first byte is durable and no open gate
pub record IsClosed (d : Disk) : Type 0 where
  pub gate : ℕ
  pub behind : List ℕ
  pub shut : gate ≢ 165
  pub is : d ≡ at_once (gate ∷ behind)

abbrev pub made_header : List ℕ
made_header = magic ++ le 8 1 ++ 0 ∷ []

-- the whole header stands behind the closed gate
pub record HasHeader (d : Disk) : Type 0 where
  pub gate : ℕ
  pub behind : List ℕ
  pub shut : gate ≢ 165
  pub is : d ≡ at_once (gate ∷ (made_header ++ behind))
