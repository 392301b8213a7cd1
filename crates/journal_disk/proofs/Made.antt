-- A new journal on side A: each image has no records, at each moment.
use Rattle.std.proofs.Common.{◌≡◌, ◌⊎◌, arith, inl, inr, ℕ, Bool, true, false, nat_lt, List, [], ◌∷◌, ◌++◌, fold, length, refl, sym, ap, ◌∙◌, subst}
use Rattle.std.proofs.lemmas.Bool.{cases_eq, ltb-true, ltb-false}
use Rattle.std.proofs.lemmas.List.Sums.{fold-append}
use Rattle.plant.specs.Disks.{Disk, disk, disk_after, at_once, IsImage, ArePossible}
use Rattle.plant.specs.Events.{Event, Wrote, Synced}
use Rattle.plant.specs.declared.step.Side.TheVariants.{A, B}
use Rattle.journal_rec.specs.declared.record.Record.{Record}
use Rattle.journal_rec.specs.Payloads.{le}
use Rattle.journal_model.specs.Journals.{Blank, Head, Headed, head, Live, live, RecordsOf, Records}
use Rattle.journal_model.specs.Appends.{IsOlder, Rests}
use Rattle.journal_model.specs.Making.{IsClosed, made_header}
use Rattle.journal_model.proofs.Traces.{disk_more}
use Rattle.journal_model.proofs.Images.{synced_image}
use Rattle.journal_model.proofs.Gates.{head_headed, on_shut, rests_image}
use Rattle.journal_model.proofs.Making.{shut_blank, clear_image, short_closed, closed_image, heading_image, closed_header, header_image, opening_image, header_rests}
use Rattle.journal_disk.specs.Opening.{cleared, headed, making, Made, Untouched, Closing, Closed, Heading, WithHeader, Raising, InUse, made_steps, IsMade}
use Rattle.journal_disk.proofs.Found.{blank_closed}

pub blank_records : (a b : List ℕ) → head a ≡ Blank → head b ≡ Blank → Records a b []
blank_records a b p q = subst (λ (l : Live). RecordsOf l a b []) (λ i. live (sym p i) (sym q i)) refl

no_records : (r : Record) → Rattle.lab_base.specs.Lists.Has [] r → Rattle.journal_rec.specs.Payloads.IsRecord r
no_records r h = absurd h

blank_older : (b : List ℕ) → head b ≡ Blank → IsOlder (head b) (le 8 1)
blank_older b q = subst (λ (h : Head). IsOlder h (le 8 1)) (sym q) tt

-- what is done to side A leaves side B
other_side : (is_short : Bool) (made : Made) (d : Disk) → fold (disk_after B) d (made_steps is_short made) ≡ d
other_side true Untouched d = refl
other_side true (Closing byte) d = refl
other_side true Closed d = refl
other_side true (Heading bytes) d = refl
other_side true WithHeader d = refl
other_side true (Raising byte) d = refl
other_side true InUse d = refl
other_side false Untouched d = refl
other_side false (Closing byte) d = refl
other_side false Closed d = refl
other_side false (Heading bytes) d = refl
other_side false WithHeader d = refl
other_side false (Raising byte) d = refl
other_side false InUse d = refl

-- side A with a closed gate
module _ (bytes : List ℕ) (blank : head bytes ≡ Blank) where
  shut_at : (is_short : Bool) → is_short ≡ nat_lt (length bytes) 18 → IsClosed (fold (disk_after A) (at_once bytes) (cleared is_short))
  shut_at true short = short_closed (at_once bytes) (record { bytes = bytes; is = refl; short = ltb-true (length bytes) 18 (sym short) })
  shut_at false short =
      let c = blank_closed bytes blank (ltb-false (length bytes) 18 (sym short)) in
      record { gate = c.0; behind = c.1; shut = c.2; is = ap at_once c.3 }

  after_clear : (is_short : Bool) (more : List Event) → fold (disk_after A) (at_once bytes) (cleared is_short ++ more) ≡ fold (disk_after A) (fold (disk_after A) (at_once bytes) (cleared is_short)) more
  after_clear is_short more = fold-append (disk_after A) (at_once bytes) (cleared is_short) more

  module _ (is_short : Bool) (short : is_short ≡ nat_lt (length bytes) 18) (a b : List ℕ) (blank_there : head b ≡ Blank) where
    abbrev d : Disk
    d = fold (disk_after A) (at_once bytes) (cleared is_short)

    abbrev Imaged : List Event → Type 0
    Imaged more = IsImage (fold (disk_after A) (at_once bytes) (cleared is_short ++ more)) a

    after : (more : List Event) → Imaged more → IsImage (fold (disk_after A) d more) a
    after more is = subst (λ x. IsImage x a) (after_clear is_short more) is

    shut : IsClosed d
    shut = shut_at is_short short

    raised : (gate : ℕ) (rest : List ℕ) → a ≡ gate ∷ (made_header ++ rest) → Records a b []
    raised gate rest is = elim (cases_eq gate 165) [
      | inl is_open ↦ (on_shut A (le 8 1) [] a b 0 rest refl no_records (blank_older b blank_there) (λ e. cc e) (is ∙ ap (λ g. g ∷ (made_header ++ rest)) is_open)).reads
      | inr is_shut ↦ blank_records a b (ap head is ∙ shut_blank gate (made_header ++ rest) is_shut) blank_there
    ]

    in_use : Rests (fold (disk_after A) d (Wrote A 1 made_header ∷ Synced A ∷ Wrote A 0 (165 ∷ []) ∷ Synced A ∷ [])) (le 8 1) [] → Imaged (Wrote A 1 made_header ∷ Synced A ∷ Wrote A 0 (165 ∷ []) ∷ Synced A ∷ []) → Records a b []
    in_use rests is =
        let i = rests_image (le 8 1) [] _ _ rests (after _ is) in
        (on_shut A (le 8 1) [] a b i.0 i.1 refl no_records (blank_older b blank_there) i.2 i.3).reads

  no_more : (is_short : Bool) (made : Made) (a b : List ℕ) → is_short ≡ nat_lt (length bytes) 18 → IsMade is_short made → head b ≡ Blank → IsImage (fold (disk_after A) (at_once bytes) (made_steps is_short made)) a → Records a b []
  no_more is_short Untouched a b short may other is = blank_records a b (ap head (synced_image (at_once bytes) a is) ∙ blank) other
  no_more true (Closing byte) a b short may other is =
      blank_records a b (clear_image (at_once bytes) byte a (record { bytes = bytes; is = refl; short = ltb-true (length bytes) 18 (sym short) }) is) other
  no_more false (Closing byte) a b short may other is = absurd (cc may)
  no_more is_short Closed a b short may other is = blank_records a b (closed_image _ a (shut_at is_short short) is) other
  no_more is_short (Heading text) a b short may other is =
      blank_records a b (heading_image _ text a (shut_at is_short short) (after is_short short a b other (Wrote A 1 text ∷ []) is)) other
  no_more is_short WithHeader a b short may other is =
      blank_records a b (header_image _ a (closed_header _ (shut_at is_short short)) (after is_short short a b other (Wrote A 1 made_header ∷ Synced A ∷ []) is)) other
  no_more is_short (Raising byte) a b short may other is =
      let i = opening_image _ byte a (closed_header _ (shut_at is_short short)) (after is_short short a b other (Wrote A 1 made_header ∷ Synced A ∷ Wrote A 0 (byte ∷ []) ∷ []) is) in
      raised is_short short a b other i.0 i.1 i.2
  no_more is_short InUse a b short may other is = in_use is_short short a b other (header_rests _ (closed_header _ (shut_at is_short short))) is

  -- the header of side A meanwhile: none, or that of the first journal
  head_raised : (a : List ℕ) (gate : ℕ) (rest : List ℕ) → a ≡ gate ∷ (made_header ++ rest) → (head a ≡ Blank) ⊎ (head a ≡ Headed (le 8 1))
  head_raised a gate rest is = elim (cases_eq gate 165) [
    | inl is_open ↦ inr (ap head (is ∙ ap (λ g. g ∷ (made_header ++ rest)) is_open) ∙ head_headed (le 8 1) (0 ∷ rest) refl (omega arith))
    | inr is_shut ↦ inl (ap head is ∙ shut_blank gate (made_header ++ rest) is_shut)
  ]

  module _ (is_short : Bool) (short : is_short ≡ nat_lt (length bytes) 18) (a : List ℕ) where
    abbrev cleared_a : Disk
    cleared_a = fold (disk_after A) (at_once bytes) (cleared is_short)

    behind : (more : List Event) → IsImage (fold (disk_after A) (at_once bytes) (cleared is_short ++ more)) a → IsImage (fold (disk_after A) cleared_a more) a
    behind more is = subst (λ x. IsImage x a) (after_clear is_short more) is

    head_used : IsImage (fold (disk_after A) (at_once bytes) (making is_short)) a → (head a ≡ Blank) ⊎ (head a ≡ Headed (le 8 1))
    head_used is =
        let i = rests_image (le 8 1) [] _ _ (header_rests _ (closed_header _ (shut_at is_short short))) (behind headed is) in
        inr (ap head i.3 ∙ head_headed (le 8 1) (i.0 ∷ i.1) refl (omega arith))

  head_meanwhile : (is_short : Bool) (made : Made) (a : List ℕ) → is_short ≡ nat_lt (length bytes) 18 → IsMade is_short made → IsImage (fold (disk_after A) (at_once bytes) (made_steps is_short made)) a → (head a ≡ Blank) ⊎ (head a ≡ Headed (le 8 1))
  head_meanwhile is_short Untouched a short may is = inl (ap head (synced_image (at_once bytes) a is) ∙ blank)
  head_meanwhile true (Closing byte) a short may is = inl (clear_image (at_once bytes) byte a (record { bytes = bytes; is = refl; short = ltb-true (length bytes) 18 (sym short) }) is)
  head_meanwhile false (Closing byte) a short may is = absurd (cc may)
  head_meanwhile is_short Closed a short may is = inl (closed_image _ a (shut_at is_short short) is)
  head_meanwhile is_short (Heading text) a short may is = inl (heading_image _ text a (shut_at is_short short) (behind is_short short a (Wrote A 1 text ∷ []) is))
  head_meanwhile is_short WithHeader a short may is = inl (header_image _ a (closed_header _ (shut_at is_short short)) (behind is_short short a (Wrote A 1 made_header ∷ Synced A ∷ []) is))
  head_meanwhile is_short (Raising byte) a short may is =
      let i = opening_image _ byte a (closed_header _ (shut_at is_short short)) (behind is_short short a (Wrote A 1 made_header ∷ Synced A ∷ Wrote A 0 (byte ∷ []) ∷ []) is) in
      head_raised a i.0 i.1 i.2
  head_meanwhile is_short InUse a short may is = head_used is_short short a is

-- THE HEADS OF EACH IMAGE while a journal is made: side B is blank, and side A is so or has the header of the first journal
pub made_heads : (trace : List Event) (bytes other : List ℕ) (is_short : Bool) (made : Made) → disk A trace ≡ at_once bytes → disk B trace ≡ at_once other → head bytes ≡ Blank → head other ≡ Blank
    → is_short ≡ nat_lt (length bytes) 18 → IsMade is_short made → (a b : List ℕ) → ArePossible (trace ++ made_steps is_short made) a b
    → (head b ≡ Blank) × ((head a ≡ Blank) ⊎ (head a ≡ Headed (le 8 1)))
made_heads trace bytes other is_short made on_a on_b blank_a blank_b short may a b possible =
    let steps = made_steps is_short made in
    let here : IsImage (fold (disk_after A) (at_once bytes) steps) a = subst (λ d. IsImage d a) (disk_more A trace steps ∙ ap (λ d. fold (disk_after A) d steps) on_a) possible.0 in
    let there : IsImage (at_once other) b = subst (λ d. IsImage d b) (disk_more B trace steps ∙ other_side is_short made (disk B trace) ∙ on_b) possible.1 in
    (ap head (synced_image (at_once other) b there) ∙ blank_b, head_meanwhile bytes blank_a is_short made a short may here)

-- EACH IMAGE while a journal is made has no records
pub made_images : (trace : List Event) (bytes other : List ℕ) (is_short : Bool) (made : Made) → disk A trace ≡ at_once bytes → disk B trace ≡ at_once other → head bytes ≡ Blank → head other ≡ Blank
    → is_short ≡ nat_lt (length bytes) 18 → IsMade is_short made → (a b : List ℕ) → ArePossible (trace ++ made_steps is_short made) a b → Records a b []
made_images trace bytes other is_short made on_a on_b blank_a blank_b short may a b possible =
    let steps = made_steps is_short made in
    let here : IsImage (fold (disk_after A) (at_once bytes) steps) a = subst (λ d. IsImage d a) (disk_more A trace steps ∙ ap (λ d. fold (disk_after A) d steps) on_a) possible.0 in
    let there : IsImage (at_once other) b = subst (λ d. IsImage d b) (disk_more B trace steps ∙ other_side is_short made (disk B trace) ∙ on_b) possible.1 in
    no_more bytes blank_a is_short made a b short may (ap head (synced_image (at_once other) b there) ∙ blank_b) here
