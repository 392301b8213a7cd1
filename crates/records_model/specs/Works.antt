-- The controller at work: the live side rests after these records, the world keeps their lab, and the trace is sound.
use Rattle.std.specs.Prelude.{◌≤◌, ◌+◌, ◌*◌, ◌^◌, List, [], ◌∷◌, ◌++◌, count_by}
use Rattle.plant.specs.Events.{Event}
use Rattle.plant.specs.Worlds.{world_of}
use Rattle.plant.specs.declared.step.Side.{Side}
use Rattle.journal_rec.specs.Payloads.{IsRecord}
use Rattle.journal_rec.specs.declared.record.Record.{Record}
use Rattle.journal_model.specs.Appends.{Opened}
use Rattle.journal_model.specs.Journals.{gate_after}
use Rattle.lab_model.specs.Sound.{is_moving, Keeps, Sound}
use Rattle.records_model.specs.Labs.{LabState, Texts, LabOf, Follows, IsRightFor}
use Rattle.records_model.specs.Appends.{standing, StandFor}

-- SOUND, with what records stand for
abbrev pub IsSound : Texts → List Event → Type 0
IsSound t trace = Sound (λ a b s. StandFor t a b s) trace

pub record AtWork (t : Texts) (trace : List Event) (side : Side) (rs : List Record) (s : LabState) : Type 0 where
  pub opened : Opened trace side rs
  pub lab_of : LabOf t rs s
  pub keeps : Keeps (world_of trace) (standing s (gate_after rs + 1))
  pub sound : IsSound t trace

-- the room that the last records of moves need stays
abbrev pub HasRoom : List Record → LabState → Type 0
HasRoom rs s = gate_after rs + 1 + 39 * count_by is_moving s.experiments ≤ 2 ^ 32

-- the record may be appended now
pub record MayAppend (t : Texts) (trace : List Event) (rs : List Record) (s : LabState) (r : Record) (u : LabState) : Type 0 where
  pub is_record : IsRecord r
  pub follows : Follows t s r u
  pub ready : IsRightFor s (world_of trace) follows.move
  pub room : HasRoom (rs ++ r ∷ []) u
