-- The images of a journal at rest.
use Rattle.std.proofs.Common.{◌≡◌, ℕ, List, sym, subst}
use Rattle.plant.specs.Disks.{Disk, IsImage, at_once, disk, ArePossible}
use Rattle.plant.specs.Events.{Event}
use Rattle.plant.specs.declared.step.Side.{Side}
use Rattle.plant.specs.declared.step.Side.TheVariants.{A, B}
use Rattle.plant.proofs.Images.{once_image}
use Rattle.journal_rec.specs.declared.record.Record.{Record}
use Rattle.journal_model.specs.Appends.{IsOn, Opened}
use Rattle.journal_model.proofs.Gates.{on_shut, rests_image}
use Rattle.journal_model.proofs.Runs.{older_image, possible_at}
use Rattle.records_model.specs.Labs.{LabState, Texts}
use Rattle.journal_disk.specs.Standing.{side_of}
use Rattle.journal_disk.specs.declared.journal.Journal.{Journal}
use Rattle.swap_turns.specs.Working.{StandForLab, Works}

-- each is live on its side, with its records
pub on_image : (trace : List Event) (side : Side) (rs : List Record) → Opened trace side rs → (a b : List ℕ) → ArePossible trace a b → IsOn side a b rs
on_image trace side rs o a b possible =
    let i = rests_image o.epoch rs _ _ o.rests (possible_at side trace a b possible) in
    on_shut side o.epoch rs a b i.0 i.1 o.known.eight o.known.written (older_image trace side o.epoch rs a b o.known possible) i.2 i.3

as_read : (d : Disk) (bytes : List ℕ) → d ≡ at_once bytes → IsImage d d.reads
as_read d bytes is = subst (λ (x : Disk). IsImage x x.reads) (sym is) (once_image bytes)

-- the sides as they read are one of them
pub reads_possible : (trace : List Event) (side : Side) (rs : List Record) → Opened trace side rs → ArePossible trace (disk A trace).reads (disk B trace).reads
reads_possible trace A rs o = (as_read (disk A trace) _ o.rests.is, as_read (disk B trace) _ o.known.there)
reads_possible trace B rs o = (as_read (disk A trace) _ o.known.there, as_read (disk B trace) _ o.rests.is)

pub reads_on : (trace : List Event) (side : Side) (rs : List Record) → Opened trace side rs → IsOn side (disk A trace).reads (disk B trace).reads rs
reads_on trace side rs o = on_image trace side rs o (disk A trace).reads (disk B trace).reads (reads_possible trace side rs o)

pub image_stands : (t : Texts) (trace : List Event) (j : Journal) (rs : List Record) (s : LabState) → Works t trace j rs s → (a b : List ℕ) → ArePossible trace a b → StandForLab t a b s
image_stands t trace j rs s works a b possible = record { records = rs; read = (on_image trace (side_of j) rs works.work.opened a b possible).reads; lab_of = works.work.lab_of }
