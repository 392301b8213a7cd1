-- A new journal on side A: three writes, each synced. Until the last gate is open the sides stand for no record, and then too.
use Rattle.std.proofs.Common.{◌≡◌, inl, inr, ℕ, List, [], ◌∷◌, ◌++◌, refl, sym, ap, ◌∙◌, subst, arith}
use Rattle.std.proofs.lemmas.Bool.{cases_eq}
use Rattle.plant.specs.Disks.{Disk, IsImage, at_once, disk, ArePossible}
use Rattle.plant.specs.Events.{Event, Wrote, Synced}
use Rattle.plant.specs.Worlds.{world_of}
use Rattle.plant.specs.declared.step.Side.TheVariants.{A, B}
use Rattle.plant.proofs.Traces.{disk_push}
use Rattle.lab_model.specs.Sound.{Standing, Keeps, SoundAt}
use Rattle.journal_rec.specs.Payloads.{le}
use Rattle.journal_model.specs.Journals.{Blank, head, New, live, RecordsOf, size_of}
use Rattle.journal_model.specs.Appends.{IsOlder, Rests, IsOn, Opened}
use Rattle.journal_model.specs.Making.{IsShort, IsClosed, made_header, HasHeader}
use Rattle.records_model.specs.Labs.{at_first, Texts}
use Rattle.records_model.specs.Appends.{standing, StandFor}
use Rattle.records_model.specs.Openings.{Blanks}
use Rattle.lab_model.proofs.TraceLaws.{world_push}
use Rattle.journal_model.proofs.Images.{synced_image}
use Rattle.journal_model.proofs.Gates.{on_shut}
use Rattle.journal_model.proofs.Making.{shut_blank, clear_image, closed_image, heading_image, header_image, opening_image}
use Rattle.records_model.proofs.Stages.{stands_on}

pub blanks_push : (trace : List Event) (event : Event) → ((d : Disk) → Rattle.plant.specs.Disks.disk_after B d event ≡ d) → ((w : Rattle.plant.specs.Worlds.World) → Rattle.plant.specs.Worlds.world_after w event ≡ w) → Blanks trace → Blanks (trace ++ event ∷ [])
blanks_push trace event same_disk same_world b = record {
  other = b.other;
  there = disk_push B trace event ∙ same_disk (disk B trace) ∙ b.there;
  blank_there = b.blank_there;
  keeps = subst (λ w. Keeps w (standing at_first 0)) (sym (world_push trace event ∙ same_world (world_of trace))) b.keeps;
}

pub blanks_wrote : (trace : List Event) (at : ℕ) (bytes : List ℕ) → Blanks trace → Blanks (trace ++ Wrote A at bytes ∷ [])
blanks_wrote trace at bytes b = blanks_push trace (Wrote A at bytes) (λ d. refl) (λ w. refl) b

pub blanks_synced : (trace : List Event) → Blanks trace → Blanks (trace ++ Synced A ∷ [])
blanks_synced trace b = blanks_push trace (Synced A) (λ d. refl) (λ w. refl) b

-- the empty journal in use has 18 bytes, and room
pub keeps_made : (w : Rattle.plant.specs.Worlds.World) → Keeps w (standing at_first 0) → Keeps w (standing at_first 18)
keeps_made w k = record { holding = k.holding; isolated = k.isolated; cabled = k.cabled; room = omega arith }

module _ (t : Texts) (trace : List Event) (b : Blanks trace) where
  other_image : (x y : List ℕ) → ArePossible trace x y → head y ≡ Blank
  other_image x y possible = ap head (synced_image (at_once b.other) y (subst (λ d. IsImage d y) b.there possible.1)) ∙ b.blank_there

  pub blank_stands : (x y : List ℕ) → head x ≡ Blank → head y ≡ Blank → (s : Standing) × StandFor t x y s × Keeps (world_of trace) s
  blank_stands x y p q =
      let new : live (head x) (head y) ≡ New = (λ i. live (p i) (q i)) in (
        standing at_first 0,
        record {
          records = [];
          read = subst (λ l. RecordsOf l x y []) (sym new) refl;
          state = at_first;
          lab_of = refl;
          is = ap (λ l. standing at_first (size_of l [])) (sym new);
        },
        b.keeps,
      )

  pub blank_sound : ((x : List ℕ) → IsImage (disk A trace) x → head x ≡ Blank) → SoundAt (λ a b s. StandFor t a b s) trace
  blank_sound blank x y possible = blank_stands x y (blank x possible.0) (other_image x y possible)

-- EACH STEP over a trace
module _ (t : Texts) (trace : List Event) (b : Blanks trace) where
  pub clear_sound : (byte : ℕ) → IsShort (disk A trace) → SoundAt (λ a b s. StandFor t a b s) (trace ++ Wrote A 0 (byte ∷ []) ∷ [])
  clear_sound byte s = blank_sound t (trace ++ Wrote A 0 (byte ∷ []) ∷ []) (blanks_wrote trace 0 (byte ∷ []) b) (λ x is. clear_image (disk A trace) byte x s (subst (λ d. IsImage d x) (disk_push A trace (Wrote A 0 (byte ∷ []))) is))

  pub closed_sound : IsClosed (disk A trace) → SoundAt (λ a b s. StandFor t a b s) trace
  closed_sound s = blank_sound t trace b (λ x is. closed_image (disk A trace) x s is)

  pub heading_sound : (bytes : List ℕ) → IsClosed (disk A trace) → SoundAt (λ a b s. StandFor t a b s) (trace ++ Wrote A 1 bytes ∷ [])
  heading_sound bytes s = blank_sound t (trace ++ Wrote A 1 bytes ∷ []) (blanks_wrote trace 1 bytes b) (λ x is. heading_image (disk A trace) bytes x s (subst (λ d. IsImage d x) (disk_push A trace (Wrote A 1 bytes)) is))

  pub header_sound : HasHeader (disk A trace) → SoundAt (λ a b s. StandFor t a b s) trace
  header_sound s = blank_sound t trace b (λ x is. header_image (disk A trace) x s is)

  pub opening_sound : (byte : ℕ) → HasHeader (disk A trace) → SoundAt (λ a b s. StandFor t a b s) (trace ++ Wrote A 0 (byte ∷ []) ∷ [])
  opening_sound byte s x y possible =
      let now = blanks_wrote trace 0 (byte ∷ []) b in
      let i = opening_image (disk A trace) byte x s (subst (λ d. IsImage d x) (disk_push A trace (Wrote A 0 (byte ∷ []))) possible.0) in
      let there = other_image t (trace ++ Wrote A 0 (byte ∷ []) ∷ []) now x y possible in
      elim (cases_eq i.0 165) [
        | inl is_open ↦
            let on : IsOn A x y [] = on_shut A (le 8 1) [] x y 0 i.1 refl (λ r h. absurd h) (subst (λ h. IsOlder h (le 8 1)) (sym there) tt) (λ e. cc e) (i.2 ∙ ap (λ g. g ∷ (made_header ++ i.1)) is_open) in
            (standing at_first 18, stands_on t A x y [] at_first refl on, keeps_made _ now.keeps)
        | inr is_shut ↦ blank_stands t (trace ++ Wrote A 0 (byte ∷ []) ∷ []) now x y (ap head i.2 ∙ shut_blank i.0 (made_header ++ i.1) is_shut) there
      ]

  -- after the last sync the new journal rests
  pub made : Rests (disk A trace) (le 8 1) [] → Opened trace A []
  made rests = record {
    epoch = le 8 1;
    known = record { eight = refl; written = λ r h. absurd h; other = b.other; there = b.there; older = subst (λ h. IsOlder h (le 8 1)) (sym b.blank_there) tt };
    rests = rests;
  }
