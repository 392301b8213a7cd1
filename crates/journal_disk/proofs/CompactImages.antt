-- The images while a journal moves onto the other side.
use Rattle.std.proofs.Common.{◌≡◌, ◌≢◌, ◌⊎◌, inl, inr, ℕ, ◌+◌, ◌-◌, ◌^◌, ◌<◌, Bool, true, List, [], ◌∷◌, ◌++◌, length, get_or, refl, sym, ap, ◌∙◌, subst, arith, append_assoc, length-append}
use Rattle.std.specs.List.{flat_map}
use Rattle.std.proofs.lemmas.Bool.{cases_eq, eqb-true}
use Rattle.plant.specs.Disks.{Disk, disk, wrote, synced, at_once, IsImage, ArePossible}
use Rattle.plant.specs.Events.{Event}
use Rattle.plant.specs.declared.step.Side.{Side}
use Rattle.plant.specs.declared.step.Side.TheVariants.{A, B}
use Rattle.plant.specs.Sides.{of_side}
use Rattle.journal_rec.specs.declared.record.Record.{Record}
use Rattle.journal_rec.specs.Payloads.{le, number}
use Rattle.journal_rec.proofs.Numbers.{number_le}
use Rattle.journal_model.specs.Journals.{header, Head, Blank, Headed, head}
use Rattle.journal_rec.specs.Packing.{blocks, ArePacked}
use Rattle.journal_model.specs.Appends.{front, other_side, IsOlder, Rests, Opened, IsOn}
use Rattle.journal_model.proofs.Images.{synced_image, byte_image}
use Rattle.journal_model.proofs.Making.{short_blank, shut_blank}
use Rattle.journal_model.proofs.Gates.{head_headed, on_shut, rests_image}
use Rattle.journal_model.proofs.Runs.{possible_at}
use Rattle.journal_model.proofs.Traces.{disk_more}
use Rattle.journal_disk.specs.declared.journal.Journal.{Journal}
use Rattle.journal_disk.specs.Standing.{side_of, IsAt}
use Rattle.journal_disk.specs.Epochs.{epoch_of, HasEpoch}
use Rattle.journal_disk.specs.Compacting.{side_text, lacks_closed_gate, Come, Untouched, Closing, Closed, Cutting, Emptied, Filling, Filled, Raising, InUse, come_steps, MayCome}
use Rattle.journal_disk.proofs.Shutting.{Shut, shut_image, shut_cut, shut_once, shut_on, poured_on, emptied_on, shut_at, emptied_at, poured_shut, filled_at}
use Rattle.journal_disk.proofs.CompactSteps.{come_on, here_come, there_come}

-- ---- the other side alone
-- it is older yet; or the text stands behind any gate; or behind the open one
abbrev pub ImageOf : List ℕ → List ℕ → Come → List ℕ → Type 0
ImageOf epoch text (Raising pieces byte) image = (gate : ℕ) × (image ≡ gate ∷ text)
ImageOf epoch text (InUse pieces) image = image ≡ 165 ∷ text
ImageOf epoch text far image = IsOlder (head image) epoch

blank_older : (image epoch : List ℕ) → head image ≡ Blank → IsOlder (head image) epoch
blank_older image epoch blank = subst (λ (h : Head). IsOlder h epoch) (sym blank) tt

closing_older : (bytes epoch : List ℕ) (byte : ℕ) (image : List ℕ) → lacks_closed_gate bytes ≡ true → IsOlder (head bytes) epoch → IsImage (wrote (at_once bytes) 0 (byte ∷ [])) image → IsOlder (head image) epoch
closing_older [] epoch byte image is older i = blank_older image epoch (short_blank image (omega (arith, i.no_longer)))
closing_older (gate ∷ rest) epoch byte image is older i =
    let same : image ≡ get_or image 0 0 ∷ rest = byte_image [] rest image gate byte i in
    elim (cases_eq (get_or image 0 0) 165) [
      | inl open' ↦ subst (λ l. IsOlder (head l) epoch) (sym (same ∙ ap (λ g. g ∷ rest) (open' ∙ sym (eqb-true gate 165 is)))) older
      | inr shut ↦ blank_older image epoch (ap head same ∙ shut_blank (get_or image 0 0) rest shut)
    ]

module _ (bytes epoch text : List ℕ) (to_close : Bool) (is : to_close ≡ lacks_closed_gate bytes) (older : IsOlder (head bytes) epoch) where
  pub closed : Shut (shut_on (at_once bytes) to_close)
  closed = shut_at bytes to_close is

  pub emptied : emptied_on (at_once bytes) to_close ≡ at_once (closed.gate ∷ [])
  emptied = emptied_at (shut_on (at_once bytes) to_close) closed

  emptied_shut : Shut (emptied_on (at_once bytes) to_close)
  emptied_shut = subst Shut (sym emptied) (shut_once closed.gate [] closed.shut)

  pub filled_is : (pieces : List (List ℕ)) → flat_map (λ piece. piece) pieces ≡ text → synced (poured_on (emptied_on (at_once bytes) to_close) 1 pieces) ≡ at_once (closed.gate ∷ text)
  filled_is pieces whole = ap (λ x. synced (poured_on x 1 pieces)) emptied ∙ filled_at closed.gate text pieces whole

  none_yet : (d : Disk) (image : List ℕ) → Shut d → IsImage d image → IsOlder (head image) epoch
  none_yet d image s i = blank_older image epoch (shut_image d image s i)

  pub used_is : (pieces : List (List ℕ)) → flat_map (λ piece. piece) pieces ≡ text → come_on (at_once bytes) to_close (InUse pieces) ≡ at_once (165 ∷ text)
  used_is pieces whole = ap (λ x. synced (wrote x 0 (165 ∷ []))) (filled_is pieces whole)

  pub image_of : (far : Come) → MayCome to_close text far → (image : List ℕ) → IsImage (come_on (at_once bytes) to_close far) image → ImageOf epoch text far image
  image_of Untouched may image i = subst (λ l. IsOlder (head l) epoch) (sym (synced_image (at_once bytes) image i)) older
  image_of (Closing byte) may image i = closing_older bytes epoch byte image (sym is ∙ may) older i
  image_of Closed may image i = none_yet _ image closed i
  image_of Cutting may image i = none_yet _ image (shut_cut _ closed) i
  image_of Emptied may image i = none_yet _ image emptied_shut i
  image_of (Filling pieces) may image i = none_yet _ image (poured_shut _ 1 pieces emptied_shut (omega arith)) i
  image_of (Filled pieces) may image i =
      none_yet (at_once (closed.gate ∷ text)) image (shut_once closed.gate text closed.shut) (subst (λ d. IsImage d image) (filled_is pieces may.whole) i)
  image_of (Raising pieces byte) may image i =
      (get_or image 0 0, byte_image [] text image closed.gate byte (subst (λ d. IsImage (wrote d 0 (byte ∷ [])) image) (filled_is pieces may.whole) i))
  image_of (InUse pieces) may image i = synced_image (at_once (165 ∷ text)) image (subst (λ d. IsImage d image) (used_is pieces may.whole) i)

-- ---- both sides
pub head_front : (epoch : List ℕ) (rs : List Record) (gate : ℕ) (rest : List ℕ) → length epoch ≡ 8 → head (front epoch rs ++ gate ∷ rest) ≡ Headed epoch
head_front epoch rs gate rest eight = ap head (append_assoc (header epoch) (blocks rs) (gate ∷ rest)) ∙ head_headed epoch (blocks rs ++ gate ∷ rest) eight (omega (arith, length-append (blocks rs) (gate ∷ rest)))

pub head_rests : (d : Disk) (epoch : List ℕ) (rs : List Record) → length epoch ≡ 8 → Rests d epoch rs → head d.reads ≡ Headed epoch
head_rests d epoch rs eight rests = ap (λ (x : Disk). head x.reads) rests.is ∙ head_front epoch rs rests.gate rests.behind eight

-- the epoch of what rests is the journal's
pub same_epoch : (trace : List Event) (j : Journal) (rs : List Record) (at : IsAt trace j rs) → HasEpoch trace j → number at.opened.epoch ≡ epoch_of j
same_epoch trace j rs at of' = ap number (inside (sym (head_rests (disk (side_of j) trace) at.opened.epoch rs at.opened.known.eight at.opened.rests) ∙ of'.headed)) ∙ of'.number_is
  where
    inside : {m n : List ℕ} → ◌≡◌ {A = Head} (Headed m) (Headed n) → m ≡ n
    inside h = cc h

pub twice_other : (side : Side) (a b : List ℕ) → of_side (other_side (other_side side)) a b ≡ of_side side a b
twice_other A a b = refl
twice_other B a b = refl

-- the text behind the open gate is the header of the next epoch with the packed records
pub text_front : (epoch : ℕ) (packed : List ℕ) (ps : List Record) → ArePacked packed ps → 165 ∷ side_text epoch packed ≡ front (le 8 epoch) ps ++ 0 ∷ []
text_front epoch packed ps are = ap (λ l. 165 ∷ side_text epoch l) are.spelled

pub number_next : (n : ℕ) → n < 2 ^ 64 - 1 → number (le 8 (n + 1)) ≡ n + 1
number_next n h = number_le 8 (n + 1) (small n h)
  where
    small : (n : ℕ) → n < 2 ^ 64 - 1 → n + 1 < 256 ^ 8
    small n h = omega arith

module _ (trace : List Event) (j : Journal) (rs ps : List Record) (packed : List ℕ) (at : IsAt trace j rs) (of' : HasEpoch trace j) (are : ArePacked packed ps) (below : epoch_of j < 2 ^ 64 - 1) where
  abbrev pub there_side : Side
  there_side = other_side (side_of j)

  -- whether it had no closed gate
  abbrev pub Saw : Bool → Type 0
  Saw to_close = to_close ≡ lacks_closed_gate (disk there_side trace).reads

  abbrev pub text_there : List ℕ
  text_there = side_text (epoch_of j + 1) packed

  abbrev pub steps_there : Bool → Come → List Event
  steps_there to_close far = come_steps there_side to_close far

  was : (to_close : Bool) → Saw to_close → to_close ≡ lacks_closed_gate at.opened.known.other
  was to_close saw = saw ∙ ap (λ (d : Disk). lacks_closed_gate d.reads) at.opened.known.there

  live_stays : (to_close : Bool) (far : Come) → disk (side_of j) (trace ++ steps_there to_close far) ≡ disk (side_of j) trace
  live_stays to_close far = disk_more (side_of j) trace (steps_there to_close far) ∙ there_come (side_of j) (disk (side_of j) trace) to_close far

  pub other_comes : (to_close : Bool) (far : Come) → disk there_side (trace ++ steps_there to_close far) ≡ come_on (at_once at.opened.known.other) to_close far
  other_comes to_close far =
      disk_more there_side trace (steps_there to_close far) ∙ here_come there_side (disk there_side trace) to_close far
      ∙ ap (λ d. come_on d to_close far) at.opened.known.there

  -- what the images have, each
  abbrev pub AfterCome : List ℕ → List ℕ → Come → Type 0
  AfterCome a b (Raising pieces byte) = IsOn (side_of j) a b rs ⊎ IsOn there_side a b ps
  AfterCome a b (InUse pieces) = IsOn there_side a b ps
  AfterCome a b far = IsOn (side_of j) a b rs

  module _ (a b : List ℕ) (here : (gate : ℕ) × (rest : List ℕ) × (gate ≢ 165) × (of_side (side_of j) a b ≡ front at.opened.epoch rs ++ gate ∷ rest)) where
    old : IsOlder (head (of_side there_side a b)) at.opened.epoch → IsOn (side_of j) a b rs
    old older = on_shut (side_of j) at.opened.epoch rs a b here.0 here.1 at.opened.known.eight at.opened.known.written older here.2 here.3

    older_now : IsOlder (head (of_side (other_side there_side) a b)) (le 8 (epoch_of j + 1))
    older_now =
        let headed : head (of_side (other_side there_side) a b) ≡ Headed at.opened.epoch =
        ap head (twice_other (side_of j) a b ∙ here.3) ∙ head_front at.opened.epoch rs here.0 here.1 at.opened.known.eight in
        let less : number at.opened.epoch < number (le 8 (epoch_of j + 1)) = omega (arith, same_epoch trace j rs at of', number_next (epoch_of j) below) in
        subst (λ (h : Head). IsOlder h (le 8 (epoch_of j + 1))) (sym headed) less

    new : of_side there_side a b ≡ 165 ∷ text_there → IsOn there_side a b ps
    new is = on_shut there_side (le 8 (epoch_of j + 1)) ps a b 0 [] refl are.are_records older_now (λ e. cc e) (is ∙ text_front (epoch_of j + 1) packed ps are)

    both : (gate : ℕ) → of_side there_side a b ≡ gate ∷ text_there → IsOn (side_of j) a b rs ⊎ IsOn there_side a b ps
    both gate is = elim (cases_eq gate 165) [
      | inl open' ↦ inr (new (is ∙ ap (λ g. g ∷ text_there) open'))
      | inr shut ↦ inl (old (blank_older (of_side there_side a b) at.opened.epoch (ap head is ∙ shut_blank gate text_there shut)))
    ]

    by : (far : Come) → ImageOf at.opened.epoch text_there far (of_side there_side a b) → AfterCome a b far
    by Untouched i = old i
    by (Closing byte) i = old i
    by Closed i = old i
    by Cutting i = old i
    by Emptied i = old i
    by (Filling pieces) i = old i
    by (Filled pieces) i = old i
    by (Raising pieces byte) i = both i.0 i.1
    by (InUse pieces) i = new i

  -- EACH IMAGE after each part of the move
  pub come_images : (to_close : Bool) (far : Come) → Saw to_close → MayCome to_close text_there far → (a b : List ℕ) → ArePossible (trace ++ steps_there to_close far) a b → AfterCome a b far
  come_images to_close far saw may a b possible =
      let now = trace ++ steps_there to_close far in
      let live : IsImage (disk (side_of j) trace) (of_side (side_of j) a b) = subst (λ d. IsImage d (of_side (side_of j) a b)) (live_stays to_close far) (possible_at (side_of j) now a b possible) in
      let other : IsImage (come_on (at_once at.opened.known.other) to_close far) (of_side there_side a b) =
      subst (λ d. IsImage d (of_side there_side a b)) (other_comes to_close far) (possible_at there_side now a b possible) in
      by a b (rests_image at.opened.epoch rs _ _ at.opened.rests live) far
      (image_of at.opened.known.other at.opened.epoch text_there to_close (was to_close saw) at.opened.known.older far may (of_side there_side a b) other)

  -- THE JOURNAL after the whole of it
  stands_on : (live : Side) (now : List Event) → disk live now ≡ at_once (front at.opened.epoch rs ++ at.opened.rests.gate ∷ at.opened.rests.behind)
      → disk (other_side live) now ≡ at_once (165 ∷ text_there) → Opened now (other_side live) ps
  stands_on live now stays comes = record {
    epoch = le 8 (epoch_of j + 1);
    known = record {
      eight = refl;
      written = are.are_records;
      other = front at.opened.epoch rs ++ at.opened.rests.gate ∷ at.opened.rests.behind;
      there = back live stays;
      older = subst (λ (h : Head). IsOlder h (le 8 (epoch_of j + 1))) (sym (head_front at.opened.epoch rs at.opened.rests.gate at.opened.rests.behind at.opened.known.eight)) less;
    };
    rests = record { gate = 0; behind = []; shut = λ e. cc e; is = comes ∙ ap at_once (text_front (epoch_of j + 1) packed ps are) };
  }
    where
      back : (live : Side) {d : Disk} → disk live now ≡ d → disk (other_side (other_side live)) now ≡ d
      back A e = e
      back B e = e

      less : number at.opened.epoch < number (le 8 (epoch_of j + 1))
      less = omega (arith, same_epoch trace j rs at of', number_next (epoch_of j) below)

  pub stands_there : (to_close : Bool) (pieces : List (List ℕ)) → Saw to_close → MayCome to_close text_there (InUse pieces) → Opened (trace ++ steps_there to_close (InUse pieces)) there_side ps
  stands_there to_close pieces saw may =
      stands_on (side_of j) (trace ++ steps_there to_close (InUse pieces)) (live_stays to_close (InUse pieces) ∙ at.opened.rests.is)
      (other_comes to_close (InUse pieces) ∙ used_is at.opened.known.other at.opened.epoch text_there to_close (was to_close saw) at.opened.known.older pieces may.whole)

  -- whose side reads as the next epoch
  pub head_there : (to_close : Bool) (pieces : List (List ℕ)) → Saw to_close → MayCome to_close text_there (InUse pieces) → head (disk there_side (trace ++ steps_there to_close (InUse pieces))).reads ≡ Headed (le 8 (epoch_of j + 1))
  head_there to_close pieces saw may =
      ap (λ (d : Disk). head d.reads) (other_comes to_close (InUse pieces) ∙ used_is at.opened.known.other at.opened.epoch text_there to_close (was to_close saw) at.opened.known.older pieces may.whole)
      ∙ ap head (text_front (epoch_of j + 1) packed ps are) ∙ head_front (le 8 (epoch_of j + 1)) ps 0 [] refl
