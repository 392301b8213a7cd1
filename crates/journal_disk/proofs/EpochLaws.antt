-- The epoch of a journal that was opened, made or appended to.
use Rattle.std.proofs.Common.{◌≡◌, ℕ, Bool, nat_lt, List, [], ◌∷◌, ◌++◌, length, take, drop, Option, Some, None, Result, Ok, Err, refl, sym, ap, ◌∙◌, subst}
use Rattle.std.specs.Prelude.{IfSome, IfOk, OnOk}
use Rattle.std.specs.Global.{Vec}
use Rattle.std.proofs.lemmas.List.{take_at, append-nil}
use Rattle.plant.specs.Disks.{Disk, disk}
use Rattle.plant.specs.Events.{Event}
use Rattle.plant.specs.Told.{Told, with_steps}
use Rattle.plant.specs.declared.step.Side.{Side}
use Rattle.plant.specs.declared.step.Side.TheVariants.{A, B}
use Rattle.plant.specs.Sides.{of_side}
use Rattle.journal_rec.specs.declared.record.Record.{Record}
use Rattle.journal_rec.specs.declared.record.Found.{Found}
use Rattle.journal_rec.specs.Payloads.{le, number, IsBody}
use Rattle.journal_model.specs.Journals.{Headed, head, live}
use Rattle.journal_model.specs.Appends.{Rests, All, added}
use Rattle.journal_model.proofs.Runs.{run_disk}
use Rattle.journal_model.proofs.Syncs.{live_back, headed_bytes}
use Rattle.journal_model.proofs.Making.{heads_blank}
use Rattle.journal_disk.specs.declared.heads.LiveSide.TheVariants as places
use Rattle.journal_disk.specs.declared.fault.OpenFault.{OpenFault}
use Rattle.journal_disk.specs.declared.fault.AppendFault.{AppendFault}
use Rattle.journal_disk.specs.declared.journal.Journal.{Journal}
use Rattle.journal_disk.specs.Heads.{seen_live}
use Rattle.journal_disk.specs.Opening.{making}
use Rattle.journal_disk.specs.Openings.{IsOpened}
use Rattle.journal_disk.specs.Standing.{side_of, gate_of, IsAt, Appends}
use Rattle.journal_disk.specs.Epochs.{epoch_of, HasEpoch}
use Rattle.journal_disk.proofs.Found.{AreRead, ReadIn, rests_made}
use Rattle.journal_disk.proofs.Placing.{on_live, new_live}
use Rattle.journal_disk.proofs.CompactImages.{head_rests, same_epoch}

-- the epoch of a header is the 8 bytes from 9 on
epoch_read : (bytes epoch : List ℕ) → head bytes ≡ Headed epoch → take 8 (drop 9 bytes) ≡ epoch
epoch_read bytes epoch is =
    let h = headed_bytes bytes epoch is in
    ap (λ l. take 8 (drop 9 l)) h.1 ∙ take_at epoch h.0 8 h.2

reads_of : (trace : List Event) (a b : List ℕ) (side : Side) → AreRead trace a b → (disk side trace).reads ≡ of_side side a b
reads_of trace a b A read = ap (λ (d : Disk). d.reads) read.on_a
reads_of trace a b B read = ap (λ (d : Disk). d.reads) read.on_b

-- what was read from a side is of the epoch in its bytes
abbrev pub IsOfEpoch : List ℕ → Result (Journal × Vec Found) OpenFault → Type 0
IsOfEpoch bytes result = IfOk result (λ opened. epoch_of opened.0 ≡ number (take 8 (drop 9 bytes)))

pub opened_epoch : (told : Option Told) (a b : List ℕ) (side : Side) (limit : ℕ) (result : Result (Journal × Vec Found) OpenFault) → ReadIn told a b → seen_live (live (head a) (head b)) ≡ places.On side
    → IsOpened side limit (of_side side a b) result → IsOfEpoch (of_side side a b) result → IfOk result (λ opened. IfSome told (λ t. HasEpoch t.trace opened.0))
opened_epoch told a b side limit (Err fault) read on h e = tt
opened_epoch None a b side limit (Ok opened) read on h e = tt
opened_epoch (Some t) a b side limit (Ok opened) read on h e =
    let back = live_back side a b (on_live (live (head a) (head b)) side on) in
    record {
      epoch = back.0;
      headed = subst (λ s. head (disk s t.trace).reads ≡ Headed back.0) (sym h.side_is) (ap head (reads_of t.trace a b side read) ∙ back.1);
      number_is = ap number (sym (epoch_read (of_side side a b) back.0 back.1)) ∙ sym e;
    }

pub made_epoch : (told now : Option Told) (a b : List ℕ) (is_short : Bool) (j : Journal) → ReadIn told a b → seen_live (live (head a) (head b)) ≡ places.New → is_short ≡ nat_lt (length a) 18
    → now ≡ with_steps told (making is_short) → side_of j ≡ A → epoch_of j ≡ 1 → IfSome now (λ t. HasEpoch t.trace j)
made_epoch None now a b is_short j read new short is side epoch = subst (λ (o : Option Told). IfSome o (λ t. HasEpoch t.trace j)) (sym is) tt
made_epoch (Some t) now a b is_short j read new short is side epoch =
    let blank = heads_blank (head a) (head b) (new_live (live (head a) (head b)) new) in
    let rests = rests_made t.trace a is_short read.on_a blank.0 short in
    subst (λ (o : Option Told). IfSome o (λ t. HasEpoch t.trace j)) (sym is) (record {
      epoch = le 8 1;
      headed = subst (λ s. head (disk s (t.trace ++ making is_short)).reads ≡ Headed (le 8 1)) (sym side) (head_rests _ (le 8 1) [] refl rests);
      number_is = sym epoch;
    })

epoch_after : (trace : List Event) (j k : Journal) (rs : List Record) (r : Record) → IsAt trace j rs → HasEpoch trace j → side_of k ≡ side_of j → epoch_of k ≡ epoch_of j → HasEpoch (trace ++ added (side_of j) (gate_of j) r All) k
epoch_after trace j k rs r at of' side epoch =
    let o = at.opened in
    let rests = subst (λ g. Rests (disk (side_of j) (trace ++ added (side_of j) g r All)) o.epoch (rs ++ r ∷ [])) (sym at.gate) (run_disk trace (side_of j) o.epoch rs r All o.known.eight o.rests) in
    record {
      epoch = o.epoch;
      headed = subst (λ s. head (disk s (trace ++ added (side_of j) (gate_of j) r All)).reads ≡ Headed o.epoch) (sym side) (head_rests _ o.epoch (rs ++ r ∷ []) o.known.eight rests);
      number_is = same_epoch trace j rs at of' ∙ sym epoch;
    }

appended_epoch : (told new : Option Told) (j k : Journal) (rs : List Record) (r : Record) (u : Unit {0}) → Appends told new j r (Ok u) → side_of k ≡ side_of j → epoch_of k ≡ epoch_of j
    → IfSome told (λ t. IsAt t.trace j rs → HasEpoch t.trace j → IfSome new (λ u. HasEpoch u.trace k))
appended_epoch None new j k rs r u h side epoch = tt
appended_epoch (Some t) new j k rs r u h side epoch = λ at of'.
    let all : added (side_of j) (gate_of j) r h.run ++ h.more ≡ added (side_of j) (gate_of j) r All = (λ i. added (side_of j) (gate_of j) r (h.ends.0 i) ++ h.ends.1 i) ∙ append-nil (added (side_of j) (gate_of j) r All) in
    subst (λ (o : Option Told). IfSome o (λ v. HasEpoch v.trace k)) (sym (h.trace ∙ ap (with_steps (Some t)) all)) (epoch_after t.trace j k rs r at of' side epoch)

pub keeps_epoch : (told new : Option Told) (j k : Journal) (bytes : List ℕ) (result : Result (Unit {0}) AppendFault) → ((r : Record) → IsBody bytes r → Appends told new j r result) → side_of k ≡ side_of j → epoch_of k ≡ epoch_of j
    → OnOk result ((r : Record) (rs : List Record) → IsBody bytes r → IfSome told (λ t. IsAt t.trace j rs → HasEpoch t.trace j → IfSome new (λ u. HasEpoch u.trace k)))
keeps_epoch told new j k bytes (Err fault) h side epoch = tt
keeps_epoch told new j k bytes (Ok u) h side epoch = λ r rs is. appended_epoch told new j k rs r u (h r is) side epoch
