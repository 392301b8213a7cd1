-- The exits of a journal's move onto the other side.
use Rattle.std.proofs.Common.{◌≡◌, ℕ, ◌+◌, ◌-◌, ◌^◌, ◌<◌, List, ◌++◌, Option, Some, None, Result, Ok, Err, sym, ap, subst}
use Rattle.std.specs.Prelude.{IfSome}
use Rattle.plant.specs.Disks.{disk}
use Rattle.plant.specs.Events.{Event}
use Rattle.plant.specs.Told.{Told, with_steps}
use Rattle.plant.specs.declared.device.Fault.{Fault}
use Rattle.plant.specs.declared.device.Fault.TheVariants.{Failed, Stopped}
use Rattle.plant.specs.declared.step.Side.{Side}
use Rattle.journal_rec.specs.declared.record.Record.{Record}
use Rattle.journal_model.specs.Appends.{other_side}
use Rattle.journal_rec.specs.Packing.{ArePacked, side_length}
use Rattle.journal_disk.specs.declared.fault.CompactFault.{CompactFault}
use Rattle.journal_disk.specs.declared.journal.Journal.{Journal}
use Rattle.journal_disk.specs.Faults.{compact_fault}
use Rattle.journal_disk.specs.Standing.{side_of, length_of, IsAt}
use Rattle.journal_disk.specs.Epochs.{epoch_of, HasEpoch}
use Rattle.journal_disk.specs.Compacting.{side_text, lacks_closed_gate, Come, come_steps, MayCome}
use Rattle.journal_disk.specs.Compactions.{MoveEnds, MovesOver, Ends, Compacts, Shifts}
use Rattle.journal_disk.proofs.CompactMoments.{shifts, stands_after}

-- the answer of the move is that of its steps
abbrev pub answer_of : Result (Unit {0}) Fault → Result (Unit {0}) CompactFault
answer_of (Ok done) = Ok done
answer_of (Err fault) = Err (compact_fault fault)

ends_so : (side : Side) (text : List ℕ) (result : Result (Unit {0}) Fault) (far : Come) (more : List Event) → MoveEnds side text result far more → Ends side (answer_of result) far more
ends_so side text (Ok done) far more h = h
ends_so side text (Err Failed) far more h = h.0
ends_so side text (Err Stopped) far more h = h.0

module _ (told new : Option Told) (j : Journal) (packed : List ℕ) where
  abbrev pub CompactedBy : Result (Unit {0}) CompactFault → Type 0
  CompactedBy result = (steps : List Event) × (new ≡ with_steps told steps) × IfSome told (λ t. Compacts t.trace steps j packed result)

  pub compacted : (result : Result (Unit {0}) Fault) → MovesOver (other_side (side_of j)) (side_text (epoch_of j + 1) packed) told new result → CompactedBy (answer_of result)
  compacted result m = (come_steps (other_side (side_of j)) m.to_close m.far ++ m.more, m.trace, by told m.was)
    where
      by : (o : Option Told) → IfSome o (λ t. m.to_close ≡ lacks_closed_gate (disk (other_side (side_of j)) t.trace).reads) → IfSome o (λ t. Compacts t.trace (come_steps (other_side (side_of j)) m.to_close m.far ++ m.more) j packed (answer_of result))
      by None saw = tt
      by (Some t) saw = record {
        far = m.far;
        may = subst (λ u. MayCome u (side_text (epoch_of j + 1) packed) m.far) saw m.may;
        more = m.more;
        steps_are = ap (λ u. come_steps (other_side (side_of j)) u m.far ++ m.more) saw;
        ends = ends_so (other_side (side_of j)) (side_text (epoch_of j + 1) packed) result m.far m.more m.ends;
      }

module _ (new : Option Told) (j : Journal) (packed : List ℕ) (rs ps : List Record) (are : ArePacked packed ps) (below : epoch_of j < 2 ^ 64 - 1) where
  pub shifted : (told : Option Told) (result : Result (Unit {0}) CompactFault) → CompactedBy told new j packed result
      → IfSome told (λ t. IsAt t.trace j rs → HasEpoch t.trace j → (steps : List Event) × (new ≡ with_steps told steps) × Shifts t.trace steps (side_of j) rs ps result)
  shifted None result c = tt
  shifted (Some t) result c = λ at of'. (c.0, c.1, shifts t.trace j rs ps packed at of' are below c.0 result c.2)

  pub stands_by : (told : Option Told) (k : Journal) (u : Unit {0}) → side_of k ≡ other_side (side_of j) → epoch_of k ≡ epoch_of j + 1 → length_of k ≡ side_length packed → CompactedBy told new j packed (Ok u)
      → IfSome told (λ t. IsAt t.trace j rs → HasEpoch t.trace j → IfSome new (λ u. IsAt u.trace k ps × HasEpoch u.trace k))
  stands_by None k u side epoch long c = tt
  stands_by (Some t) k u side epoch long c = λ at of'.
      subst (λ (o : Option Told). IfSome o (λ u. IsAt u.trace k ps × HasEpoch u.trace k)) (sym c.1)
      (stands_after t.trace j rs ps packed at of' are below k side epoch long c.0 u c.2)
