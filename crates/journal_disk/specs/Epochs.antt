-- The epoch of a journal.
use Rattle.std.specs.Prelude.{◌≡◌, ℕ, List}
use Rattle.plant.specs.Disks.{disk}
use Rattle.plant.specs.Events.{Event}
use Rattle.journal_rec.specs.Payloads.{number}
use Rattle.journal_model.specs.Journals.{Headed, head}
use Rattle.journal_disk.specs.Standing.{side_of}
use Rattle.journal_disk.specs.declared.journal.Journal.{Journal}

abbrev pub epoch_of : Journal → ℕ
epoch_of j = j.epoch

-- its side reads as a journal of its epoch
pub record HasEpoch (trace : List Event) (j : Journal) : Type 0 where
  pub epoch : List ℕ
  pub headed : head (disk (side_of j) trace).reads ≡ Headed epoch
  pub number_is : number epoch ≡ epoch_of j
