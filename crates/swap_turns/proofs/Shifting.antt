-- A journal's move onto the other side, over a sound trace.
use Rattle.std.proofs.Common.{◌≡◌, ◌⊎◌, inl, inr, ℕ, ◌+◌, ◌-◌, ◌*◌, ◌^◌, ◌≤◌, Bool, true, false, ◌||◌, List, [], ◌∷◌, ◌++◌, Result, length, take, drop, count_by, refl, sym, ap, ◌∙◌, subst, arith, length-append, take-append-drop}
use Rattle.std.specs.List.{list_any}
use Rattle.std.proofs.lemmas.Bool.{cases_lt}
use Rattle.std.proofs.lemmas.List.{append-nil, take-append-le}
use Rattle.std.proofs.Math.Seq.{take-append-add}
use Rattle.plant.specs.Disks.{Disk, disk, disk_after}
use Rattle.plant.specs.Events.{Event, Wrote, Synced, Cut, Missed, Did}
use Rattle.plant.specs.declared.device.Answer.{Answer}
use Rattle.plant.specs.declared.device.DeviceOp.{DeviceOp}
use Rattle.plant.specs.declared.device.Fault.{Fault}
use Rattle.plant.specs.declared.step.Side.TheVariants.{A, B}
use Rattle.plant.specs.Worlds.{world_of}
use Rattle.plant.specs.declared.step.Side.{Side}
use Rattle.plant.proofs.Traces.{disk_push}
use Rattle.journal_rec.specs.Payloads.{le}
use Rattle.journal_rec.specs.declared.record.Record.{Record}
use Rattle.lab_model.specs.Sound.{Standing, is_moving, Keeps}
use Rattle.journal_model.specs.Journals.{magic, Headed, head, journal_length}
use Rattle.journal_model.proofs.Gates.{length_front}
use Rattle.journal_rec.specs.Packing.{blocks, ArePacked, side_length}
use Rattle.journal_model.specs.Appends.{other_side, IsOn}
use Rattle.records_model.specs.Labs.{LabState, Texts, LabOf}
use Rattle.records_model.specs.Appends.{standing, StandFor}
use Rattle.records_model.specs.Works.{IsSound, HasRoom}
use Rattle.records_model.proofs.Stages.{world_more}
use Rattle.journal_disk.specs.declared.fault.CompactFault.{CompactFault}
use Rattle.journal_disk.specs.declared.journal.Journal.{Journal}
use Rattle.journal_disk.specs.Standing.{side_of, length_of}
use Rattle.journal_disk.specs.Epochs.{HasEpoch}
use Rattle.journal_disk.specs.Compacting.{text_writes, Come, Untouched, Closing, Closed, Cutting, Emptied, Filling, Filled, Raising, InUse, shutting, emptying, filling, come_steps}
use Rattle.journal_disk.specs.Compactions.{Compacts, Shifts}
use Rattle.journal_disk.proofs.LastSteps.{compact_last}
use Rattle.swap_turns.specs.Pieces.{is_command, is_miss, is_outer, has_command, has_miss, has_outer}
use Rattle.swap_turns.specs.Working.{StandForLab, AllStandFor, Works}
use Rattle.swap_turns.proofs.Quiet.{shows}
use Rattle.swap_turns.proofs.Sounds.{Ok as IsFine, world_stays, take_quiet, back_to}

-- ---- what the steps show
-- none of them is so
abbrev NoneIs : (Event → Bool) → List Event → Type 0
NoneIs p steps = list_any p steps ≡ false

-- a test that no write, sync or cut passes
record Misses (p : Event → Bool) : Type 0 where
  wrote : (side : Side) (at : ℕ) (bytes : List ℕ) → p (Wrote side at bytes) ≡ false
  synced : (side : Side) → p (Synced side) ≡ false
  cut : (side : Side) (size : ℕ) → p (Cut side size) ≡ false

module _ (p : Event → Bool) (misses : Misses p) (side : Side) where
  both : (front back : List Event) → NoneIs p front → NoneIs p back → NoneIs p (front ++ back)
  both front back first second = shows p (front ++ back) front back false false refl first second

  a_write : (at : ℕ) (bytes : List ℕ) → NoneIs p (Wrote side at bytes ∷ [])
  a_write at bytes = ap (λ b. b || false) (misses.wrote side at bytes)

  a_sync : NoneIs p (Synced side ∷ [])
  a_sync = ap (λ b. b || false) (misses.synced side)

  a_cut : NoneIs p (Cut side 1 ∷ [])
  a_cut = ap (λ b. b || false) (misses.cut side 1)

  no_poured : (at : ℕ) (pieces : List (List ℕ)) → NoneIs p (text_writes side at pieces)
  no_poured at [] = refl
  no_poured at (piece ∷ pieces) = (λ i. misses.wrote side at piece i || no_poured (at + length piece) pieces i)

  no_shutting : (to_close : Bool) → NoneIs p (shutting side to_close)
  no_shutting true = both (Wrote side 0 (0 ∷ []) ∷ []) (Synced side ∷ []) (a_write 0 (0 ∷ [])) a_sync
  no_shutting false = refl

  no_emptying : (to_close : Bool) → NoneIs p (emptying side to_close)
  no_emptying to_close = both (shutting side to_close) (Cut side 1 ∷ Synced side ∷ []) (no_shutting to_close) (both (Cut side 1 ∷ []) (Synced side ∷ []) a_cut a_sync)

  no_filling : (to_close : Bool) (pieces : List (List ℕ)) → NoneIs p (filling side to_close pieces)
  no_filling to_close pieces = both (emptying side to_close) (text_writes side 1 pieces) (no_emptying to_close) (no_poured 1 pieces)

  raises : (byte : ℕ) → NoneIs p (Synced side ∷ Wrote side 0 (byte ∷ []) ∷ [])
  raises byte = both (Synced side ∷ []) (Wrote side 0 (byte ∷ []) ∷ []) a_sync (a_write 0 (byte ∷ []))

  no_step : (to_close : Bool) (far : Come) → NoneIs p (come_steps side to_close far)
  no_step to_close Untouched = refl
  no_step to_close (Closing byte) = a_write 0 (byte ∷ [])
  no_step to_close Closed = no_shutting to_close
  no_step to_close Cutting = both (shutting side to_close) (Cut side 1 ∷ []) (no_shutting to_close) a_cut
  no_step to_close Emptied = no_emptying to_close
  no_step to_close (Filling pieces) = no_filling to_close pieces
  no_step to_close (Filled pieces) = both (filling side to_close pieces) (Synced side ∷ []) (no_filling to_close pieces) a_sync
  no_step to_close (Raising pieces byte) = both (filling side to_close pieces) (Synced side ∷ Wrote side 0 (byte ∷ []) ∷ []) (no_filling to_close pieces) (raises byte)
  no_step to_close (InUse pieces) =
      both (filling side to_close pieces) (Synced side ∷ Wrote side 0 (165 ∷ []) ∷ Synced side ∷ []) (no_filling to_close pieces)
      (both (Synced side ∷ Wrote side 0 (165 ∷ []) ∷ []) (Synced side ∷ []) (raises 165) a_sync)

no_command : Misses is_command
no_command = record { wrote = λ side at bytes. refl; synced = λ side. refl; cut = λ side size. refl }

no_outer : Misses is_outer
no_outer = record { wrote = λ side at bytes. refl; synced = λ side. refl; cut = λ side size. refl }

no_miss : Misses is_miss
no_miss = record { wrote = λ side at bytes. refl; synced = λ side. refl; cut = λ side size. refl }

ends_quiet : (side : Side) (more : List Event) → (more ≡ []) ⊎ (more ≡ Missed side ∷ []) → (has_command more ≡ false) × (has_outer more ≡ false)
ends_quiet side more (inl none) = (ap has_command none, ap has_outer none)
ends_quiet side more (inr one) = (ap has_command one, ap has_outer one)

module _ (trace steps : List Event) (j : Journal) (packed : List ℕ) (result : Result (Unit {0}) CompactFault) (c : Compacts trace steps j packed result) where
  pub shift_quiet : (has_command steps ≡ false) × (has_outer steps ≡ false)
  shift_quiet =
      let last = ends_quiet (other_side (side_of j)) c.more (compact_last _ result c.far c.more c.ends) in (
        shows is_command steps _ c.more false false c.steps_are (no_step is_command no_command (other_side (side_of j)) _ c.far) last.0,
        shows is_outer steps _ c.more false false c.steps_are (no_step is_outer no_outer (other_side (side_of j)) _ c.far) last.1,
      )

  pub shift_missed : (y : Bool) → has_miss c.more ≡ y → has_miss steps ≡ y
  shift_missed y last = shows is_miss steps _ c.more false y c.steps_are (no_step is_miss no_miss (other_side (side_of j)) _ c.far) last

-- ---- each moment
module _ (t : Texts) (trace : List Event) (j : Journal) (rs ps : List Record) (s : LabState) (works : Works t trace j rs s) (lab : LabOf t ps s) where
  -- an image with the old records, or with the packed ones, stands for the lab
  stands : (side : Side) (qs : List Record) (a b : List ℕ) → LabOf t qs s → IsOn side a b qs → StandForLab t a b s
  stands side qs a b of_qs on = record { records = qs; read = on.reads; lab_of = of_qs }

  pub all_stand : (steps : List Event) (result : Result (Unit {0}) CompactFault) → Shifts trace steps (side_of j) rs ps result → AllStandFor t (trace ++ steps) s
  all_stand steps result shifts a b possible = elim (shifts.each steps [] (sym (append-nil steps)) a b possible) [
    | inl old ↦ stands (side_of j) rs a b works.work.lab_of old
    | inr new ↦ stands (other_side (side_of j)) ps a b lab new
  ]

  module _ (room : HasRoom ps s) where
    -- and the world keeps it
    kept : (front : List Event) (side : Side) (qs : List Record) (a b : List ℕ) → has_command front ≡ false → LabOf t qs s → HasRoom qs s → IsOn side a b qs → (x : Standing) × StandFor t a b x × Keeps (world_of (trace ++ front)) x
    kept front side qs a b quiet of_qs has on =
        let keeps : Keeps (world_of trace) (standing s (journal_length a b qs)) = record {
          holding = works.work.keeps.holding;
          isolated = works.work.keeps.isolated;
          cabled = works.work.keeps.cabled;
          room = subst (λ n. n + 39 * count_by is_moving s.experiments ≤ 2 ^ 32) (sym on.size) has;
        } in (
          standing s (journal_length a b qs),
          record { records = qs; read = on.reads; state = s; lab_of = of_qs; is = refl },
          subst (λ w. Keeps w (standing s (journal_length a b qs))) (sym (world_more trace front ∙ world_stays front (world_of trace) quiet)) keeps,
        )

    moment : (steps : List Event) (result : Result (Unit {0}) CompactFault) (front back : List Event) → Shifts trace steps (side_of j) rs ps result → steps ≡ front ++ back → has_command front ≡ false → IsFine t (trace ++ front)
    moment steps result front back shifts is quiet a b possible = elim (shifts.each front back is a b possible) [
      | inl old ↦ kept front (side_of j) rs a b quiet works.work.lab_of works.work.keeps.room old
      | inr new ↦ kept front (other_side (side_of j)) ps a b quiet lab room new
    ]

    -- EACH MOMENT
    pub shifts_sound : (steps : List Event) (result : Result (Unit {0}) CompactFault) → Shifts trace steps (side_of j) rs ps result → has_command steps ≡ false → IsSound t (trace ++ steps)
    shifts_sound steps result shifts quiet n within = elim (cases_lt (length trace) n) [
      | inl above ↦
          let k = n - length trace in
          let is : take n (trace ++ steps) ≡ trace ++ take k steps = ap (λ m. take m (trace ++ steps)) (back_to (length trace) n above) ∙ take-append-add trace steps k in
          subst (λ l. IsFine t l) (sym is) (moment steps result (take k steps) (drop k steps) shifts (sym (take-append-drop k steps)) (take_quiet k steps quiet))
      | inr below ↦ subst (λ l. IsFine t l) (sym (take-append-le n trace steps below)) (works.work.sound n below)
    ]

-- ---- the room
pub room_kept : (t : Texts) (trace : List Event) (j : Journal) (rs ps : List Record) (s : LabState) (packed : List ℕ) → Works t trace j rs s → ArePacked packed ps → side_length packed ≤ length_of j → HasRoom ps s
room_kept t trace j rs ps s packed works are fits =
    let room : HasRoom rs s = works.work.keeps.room in
    omega (arith, room, works.gate, fits, ap length are.spelled, length-append (blocks ps) (0 ∷ []), length_front (le 8 0) ps refl, length-append (165 ∷ magic ++ le 8 0) (blocks ps))

-- ---- the epoch
pub did_epoch : (trace : List Event) (j : Journal) (op : DeviceOp) (applied : Bool) (answer : Result Answer Fault) → HasEpoch trace j → HasEpoch (trace ++ Did op applied answer ∷ []) j
did_epoch trace j op applied answer h = record {
  epoch = h.epoch;
  headed = subst (λ (d : Disk). head d.reads ≡ Headed h.epoch) (sym (disk_push (side_of j) trace (Did op applied answer) ∙ same (side_of j) (disk (side_of j) trace))) h.headed;
  number_is = h.number_is;
}
  where
    same : (side : Side) (d : Disk) → disk_after side d (Did op applied answer) ≡ d
    same A d = refl
    same B d = refl
