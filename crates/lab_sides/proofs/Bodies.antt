-- One record behind a gate.
use Rattle.std.proofs.Common.{◌≡◌, ℕ, zero, suc, get_or, lit<, ◌+◌, ◌-◌, ◌<◌, ◌≤◌, List, ◌∷◌, ◌++◌, length, take, drop, refl, sym, ap, ◌∙◌, subst, arith}
use Rattle.journal_rec.specs.declared.record.Record.{Record}
use Rattle.journal_rec.specs.Payloads.{number, Decodes}
use Rattle.journal_rec.proofs.Numbers.{IsBytes}
use Rattle.journal_rec.specs.Packing.{block}
use Rattle.journal_model.specs.Journals.{Broken, cut_off, no_record}
use Rattle.journal_disk.proofs.Walking.{whole}
use Rattle.lab_sides.specs.Walks.{IsAfter}

opened : (bytes : List ℕ) → IsBytes bytes → (i : ℕ) → get_or (165 ∷ bytes) i 0 < 256
opened bytes fits zero = lit< tt
opened bytes fits (suc i) = fits i

later : (bytes : List ℕ) (n : ℕ) → drop (n + 5) (165 ∷ bytes) ≡ drop (n + 4) bytes
later bytes n = let e : n + 5 ≡ suc (n + 4) = omega arith in ap (λ (k : ℕ). drop k (165 ∷ bytes)) e

pub is_whole : (bytes : List ℕ) (len : ℕ) (r : Record) → IsBytes bytes → 4 ≤ length bytes → len ≡ number (take 4 bytes) → len < length bytes - 4 → Decodes (take len (drop 4 bytes)) r → IsAfter bytes r (len + 4)
is_whole bytes len r fits long is inside d =
    let w = whole (165 ∷ bytes) len r (opened bytes fits) (omega arith) refl is (omega (arith, inside)) d in
    record {
      is_record = w.0;
      size_is = omega (arith, w.1);
      spelled = w.2 ∙ ap (λ (l : List ℕ). block r ++ l) (later bytes len);
      inside = omega (arith, inside);
    }

pub past_the_end : (bytes : List ℕ) (len : ℕ) → 4 ≤ length bytes → len ≡ number (take 4 bytes) → length bytes - 4 ≤ len → Broken bytes
past_the_end bytes len long is cut = cut_off long (omega (arith, is, cut))

pub no_payload : (bytes : List ℕ) (len : ℕ) → 4 ≤ length bytes → len ≡ number (take 4 bytes) → ((r : Record) → Decodes (take len (drop 4 bytes)) r → ⊥) → Broken bytes
no_payload bytes len long is none = no_record long (λ r d. none r (subst (λ (n : ℕ). Decodes (take n (drop 4 bytes)) r) (sym is) d))
