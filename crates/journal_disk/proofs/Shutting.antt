-- A side with a durable closed gate at its front, whatever is written after it.
use Rattle.std.proofs.Common.{◌≡◌, ◌≢◌, inl, inr, ℕ, zero, suc, ◌+◌, ◌≤◌, Bool, true, false, List, [], ◌∷◌, ◌++◌, length, take, drop, refl, sym, ap, ◌∙◌, subst, arith, append_assoc, length-append}
use Rattle.std.specs.List.{flat_map}
use Rattle.std.proofs.lemmas.Bool.{eqb-false}
use Rattle.std.proofs.lemmas.List.{append-nil, take_all, length-drop}
use Rattle.lab_base.specs.Lists.{Has}
use Rattle.plant.specs.Disks.{Disk, put, wrote, synced, shortened, at_once, IsImage}
use Rattle.journal_model.specs.Journals.{Blank, head}
use Rattle.journal_model.proofs.Images.{front_kept}
use Rattle.journal_model.proofs.Making.{begins}
use Rattle.journal_disk.specs.Compacting.{lacks_closed_gate}

pub record Shut (d : Disk) : Type 0 where
  pub gate : ℕ
  pub shut : gate ≢ 165
  pub behind : List ℕ
  pub durable : d.durable ≡ gate ∷ behind
  pub more : List ℕ
  pub reads : d.reads ≡ gate ∷ more
  pub later : (range : ℕ × ℕ) → Has d.written range → 1 ≤ range.0

-- no image of it has a header
pub shut_image : (d : Disk) (image : List ℕ) → Shut d → IsImage d image → head image ≡ Blank
shut_image d image s is =
    begins s.gate image (front_kept d image 1 is (long s.durable) (long s.reads) s.later ∙ ap (λ l. take 1 l) s.durable) s.shut
  where
    long : {bytes rest : List ℕ} {gate : ℕ} → bytes ≡ gate ∷ rest → 1 ≤ length bytes
    long e = omega (arith, ap length e)

pub shut_wrote : (d : Disk) (at : ℕ) (bytes : List ℕ) → Shut d → 1 ≤ at → Shut (wrote d at bytes)
shut_wrote d zero bytes s h = absurd (omega (arith, h))
shut_wrote d (suc k) bytes s h = record {
  gate = s.gate;
  shut = s.shut;
  behind = s.behind;
  durable = s.durable;
  more = take k s.more ++ bytes ++ drop (suc k + length bytes) (s.gate ∷ s.more);
  reads = ap (λ l. put l (suc k) bytes) s.reads;
  later = λ range has. elim has [ inl e ↦ subst (λ q. 1 ≤ q) (ap (λ q. q.0) e) (omega arith) | inr rest ↦ s.later range rest ];
}

pub shut_cut : (d : Disk) → Shut d → Shut (shortened d 1)
shut_cut d s = record {
  gate = s.gate;
  shut = s.shut;
  behind = s.behind;
  durable = s.durable;
  more = [];
  reads = ap (λ l. take 1 l) s.reads;
  later = s.later;
}

pub shut_once : (gate : ℕ) (behind : List ℕ) → gate ≢ 165 → Shut (at_once (gate ∷ behind))
shut_once gate behind shut = record { gate = gate; shut = shut; behind = behind; durable = refl; more = behind; reads = refl; later = λ range none. absurd none }

-- ---- the states of a side while a journal comes onto it
abbrev pub shut_on : Disk → Bool → Disk
shut_on d true = synced (wrote d 0 (0 ∷ []))
shut_on d false = d

abbrev pub poured_on : Disk → ℕ → List (List ℕ) → Disk
poured_on d at [] = d
poured_on d at (piece ∷ pieces) = poured_on (wrote d at piece) (at + length piece) pieces

abbrev pub emptied_on : Disk → Bool → Disk
emptied_on d to_close = synced (shortened (shut_on d to_close) 1)

-- its gate is closed
pub shut_at : (bytes : List ℕ) (to_close : Bool) → to_close ≡ lacks_closed_gate bytes → Shut (shut_on (at_once bytes) to_close)
shut_at bytes true is = shut_once 0 (drop 1 bytes) (λ e. cc e)
shut_at [] false is = absurd (cc is)
shut_at (gate ∷ bytes) false is = shut_once gate bytes (eqb-false gate 165 (sym is))

-- and stands alone
pub emptied_at : (d : Disk) (s : Shut d) → synced (shortened d 1) ≡ at_once (s.gate ∷ [])
emptied_at d s = ap (λ l. at_once (take 1 l)) s.reads

pub poured_shut : (d : Disk) (at : ℕ) (pieces : List (List ℕ)) → Shut d → 1 ≤ at → Shut (poured_on d at pieces)
poured_shut d at [] s h = s
poured_shut d at (piece ∷ pieces) s h = poured_shut (wrote d at piece) (at + length piece) pieces (shut_wrote d at piece s h) (omega (arith, h))

-- bytes at the end of a list
put_end : (old bytes : List ℕ) (at : ℕ) → at ≡ length old → put old at bytes ≡ old ++ bytes
put_end old bytes at is =
    let front : take at old ≡ old = take_all at old (omega (arith, is)) in
    let none : drop (at + length bytes) old ≡ [] = no_more (drop (at + length bytes) old) (omega (arith, is, length-drop (at + length bytes) old)) in
    (λ i. front i ++ bytes ++ none i) ∙ append-nil (old ++ bytes)
  where
    no_more : (xs : List ℕ) → length xs ≡ 0 → xs ≡ []
    no_more [] h = refl
    no_more (x ∷ xs) h = absurd (omega (arith, h))

pub poured_reads : (d : Disk) (at : ℕ) (pieces : List (List ℕ)) → at ≡ length d.reads → (poured_on d at pieces).reads ≡ d.reads ++ flat_map (λ piece. piece) pieces
poured_reads d at [] is = sym (append-nil d.reads)
poured_reads d at (piece ∷ pieces) is =
    let here : put d.reads at piece ≡ d.reads ++ piece = put_end d.reads piece at is in
    poured_reads (wrote d at piece) (at + length piece) pieces (omega (arith, is, ap length here, length-append d.reads piece))
    ∙ ap (λ l. l ++ flat_map (λ p. p) pieces) here
    ∙ append_assoc d.reads piece (flat_map (λ p. p) pieces)

-- with the whole text behind the gate
pub filled_at : (gate : ℕ) (text : List ℕ) (pieces : List (List ℕ)) → flat_map (λ piece. piece) pieces ≡ text → synced (poured_on (at_once (gate ∷ [])) 1 pieces) ≡ at_once (gate ∷ text)
filled_at gate text pieces whole = ap at_once (poured_reads (at_once (gate ∷ [])) 1 pieces refl ∙ ap (λ l. gate ∷ l) whole)
