-- A new journal on side A: three writes, each synced.
use Rattle.std.specs.Str.{bytes_eq}
use Rattle.std.proofs.Common.{◌≡◌, ◌≢◌, inl, inr, ℕ, ◌+◌, ◌<◌, ◌≤◌, ◌||◌, ◌==◌, true, not, nat_lt, if◌then◌else◌, slice_index_or, List, [], ◌∷◌, ◌++◌, length, take, drop, get_or, sym, ap, ◌∙◌, subst, arith, Bool, false, refl}
use Rattle.std.proofs.lemmas.List.{length-drop}
use Rattle.std.proofs.lemmas.Bool.{lt-ltb, ne_eqb, or_right}
use Rattle.plant.specs.Disks.{Disk, wrote, synced, IsImage, at_once}
use Rattle.plant.specs.declared.step.Side.TheVariants.{A, B}
use Rattle.journal_rec.specs.Payloads.{le}
use Rattle.journal_model.specs.Journals.{magic, Blank, Foreign, Headed, head, Head, Live, New, On, Wrong, live}
use Rattle.journal_model.specs.Appends.{Rests}
use Rattle.journal_model.specs.Making.{IsShort, IsClosed, made_header, HasHeader}
use Rattle.journal_model.proofs.Images.{synced_image, front_kept, byte_image}

pub short_blank : (bytes : List ℕ) → length bytes < 18 → head bytes ≡ Blank
short_blank bytes h = ap (λ t. if t || not (slice_index_or bytes 0 0 == 165) then Blank else if bytes_eq (take 8 (drop 1 bytes)) magic then Headed (take 8 (drop 9 bytes)) else Foreign) (lt-ltb (length bytes) 18 h)

pub shut_blank : (gate : ℕ) (rest : List ℕ) → gate ≢ 165 → head (gate ∷ rest) ≡ Blank
shut_blank gate rest shut =
    let e : (nat_lt (length (gate ∷ rest)) 18 || not (gate == 165)) ≡ true = or_right _ _ (ap not (ne_eqb gate 165 shut)) in
    ap (λ t. if t then Blank else if bytes_eq (take 8 rest) magic then Headed (take 8 (drop 8 rest)) else Foreign) e

-- THE STATES OF SIDE A
pub clear_image : (d : Disk) (byte : ℕ) (image : List ℕ) → IsShort d → IsImage (wrote d 0 (byte ∷ [])) image → head image ≡ Blank
clear_image d byte image s is =
    let at : IsImage (wrote (at_once s.bytes) 0 (byte ∷ [])) image = subst (λ x. IsImage (wrote x 0 (byte ∷ [])) image) s.is is in
    short_blank image (omega (arith, at.no_longer, s.short, length-drop 1 s.bytes))

pub short_closed : (d : Disk) → IsShort d → IsClosed (synced (wrote d 0 (0 ∷ [])))
short_closed d s = record { gate = 0; behind = drop 1 s.bytes; shut = λ e. cc e; is = ap (λ x. synced (wrote x 0 (0 ∷ []))) s.is }

pub closed_image : (d : Disk) (image : List ℕ) → IsClosed d → IsImage d image → head image ≡ Blank
closed_image d image s is = ap head (synced_image (at_once (s.gate ∷ s.behind)) image (subst (λ x. IsImage x image) s.is is)) ∙ shut_blank s.gate s.behind s.shut

pub begins : (gate : ℕ) (image : List ℕ) → take 1 image ≡ gate ∷ [] → gate ≢ 165 → head image ≡ Blank
begins gate [] e shut = absurd (cc e)
begins gate (x ∷ image) e shut = shut_blank x image (λ h. shut (sym (first e) ∙ h))
  where
    first : x ∷ [] ≡ gate ∷ [] → x ≡ gate
    first e = cc e

pub heading_image : (d : Disk) (bytes image : List ℕ) → IsClosed d → IsImage (wrote d 1 bytes) image → head image ≡ Blank
heading_image d bytes image s is =
    let at : IsImage (wrote (at_once (s.gate ∷ s.behind)) 1 bytes) image = subst (λ x. IsImage (wrote x 1 bytes) image) s.is is in
    begins s.gate image (front_kept (wrote (at_once (s.gate ∷ s.behind)) 1 bytes) image 1 at (omega arith) (omega arith) (λ r h. elim h [ inl e ↦ subst (λ q. 1 ≤ q) (ap (λ q. q.0) e) (omega arith) | inr none ↦ absurd none ])) s.shut

pub closed_header : (d : Disk) → IsClosed d → HasHeader (synced (wrote d 1 made_header))
closed_header d s = record { gate = s.gate; behind = drop (1 + length made_header) (s.gate ∷ s.behind); shut = s.shut; is = ap (λ x. synced (wrote x 1 made_header)) s.is }

pub header_image : (d : Disk) (image : List ℕ) → HasHeader d → IsImage d image → head image ≡ Blank
header_image d image s is = ap head (synced_image (at_once (s.gate ∷ (made_header ++ s.behind))) image (subst (λ x. IsImage x image) s.is is)) ∙ shut_blank s.gate (made_header ++ s.behind) s.shut

pub opening_image : (d : Disk) (byte : ℕ) (image : List ℕ) → HasHeader d → IsImage (wrote d 0 (byte ∷ [])) image → (gate : ℕ) × (rest : List ℕ) × (image ≡ gate ∷ (made_header ++ rest))
opening_image d byte image s is =
    let at : IsImage (wrote (at_once (s.gate ∷ (made_header ++ s.behind))) 0 (byte ∷ [])) image = subst (λ x. IsImage (wrote x 0 (byte ∷ [])) image) s.is is in
    (get_or image 0 0, s.behind, byte_image [] (made_header ++ s.behind) image s.gate byte at)

pub header_rests : (d : Disk) → HasHeader d → Rests (synced (wrote d 0 (165 ∷ []))) (le 8 1) []
header_rests d s = record { gate = 0; behind = s.behind; shut = λ e. cc e; is = ap (λ x. synced (wrote x 0 (165 ∷ []))) s.is }

-- SIDES WITH NO JOURNAL

pub heads_blank : (x y : Head) → live x y ≡ New → (x ≡ Blank) × (y ≡ Blank)
heads_blank Blank Blank e = (refl, refl)
heads_blank Foreign y e = absurd (cc e)
heads_blank Blank Foreign e = absurd (cc e)
heads_blank Blank (Headed n) e = absurd (cc e)
heads_blank (Headed m) Foreign e = absurd (cc e)
heads_blank (Headed m) Blank e = absurd (cc e)
heads_blank (Headed m) (Headed n) e = absurd (none _ _ e)
  where
    none : (t u : Bool) → ◌≡◌ {A = Live} (if t then Wrong A else if u then On A else On B) New → ⊥
    none true u e = cc e
    none false true e = cc e
    none false false e = cc e

-- bytes enough behind an open gate aren't blank
pub open_not_blank : (x : ℕ) (y : List ℕ) → (nat_lt (length (x ∷ y)) 18 || not (x == 165)) ≡ false → head (x ∷ y) ≡ Blank → ⊥
open_not_blank x y e h = pick _ (bytes_eq (take 8 y) magic) e h
  where
    pick : (t u : Bool) → t ≡ false → ◌≡◌ {A = Head} (if t then Blank else if u then Headed (take 8 (drop 8 y)) else Foreign) Blank → ⊥
    pick true u e h = cc e
    pick false true e h = cc h
    pick false false e h = cc h
