-- One gate after another.
use Rattle.std.proofs.Common.{◌≡◌, ◌≢◌, ℕ, ◌+◌, ◌-◌, ◌<◌, ◌≤◌, List, [], ◌∷◌, ◌++◌, length, take, drop, get_or, refl, sym, ap, ◌∙◌, subst, arith, append_assoc, take-append-drop}
use Rattle.std.specs.Prelude.{sum_by}
use Rattle.std.proofs.lemmas.List.{length-drop, length-take, drop-drop, append-nil, take_all}
use Rattle.std.proofs.lemmas.List.Sums.{sum_by-append}
use Rattle.lab_base.proofs.Numbers.{plus_zero}
use Rattle.journal_model.proofs.Gates.{gate_push}
use Rattle.journal_rec.specs.declared.record.Record.{Record}
use Rattle.journal_rec.specs.declared.record.Found.{Found}
use Rattle.journal_rec.specs.Payloads.{le, number, payload, IsRecord, Decodes}
use Rattle.journal_rec.proofs.Numbers.{IsBytes, le_number}
use Rattle.journal_rec.proofs.Fields.{IsBytes-drop, IsBytes-take}
use Rattle.journal_rec.specs.Packing.{block}
use Rattle.journal_model.specs.Journals.{size, Reads, Breaks, Broken, no_length, cut_off, no_record, gate_after}
use Rattle.journal_disk.specs.Walks.{placed}

-- the records up to a gate, with what is after it
pub record SoFar (bytes : List ℕ) (gate : ℕ) (rs : List Record) (found : List Found) : Type 0 where
  pub reads : (ss : List Record) → Reads (drop gate bytes) ss → Reads (drop 17 bytes) (rs ++ ss)
  pub breaks : (ss : List Record) → Breaks (drop gate bytes) ss → Breaks (drop 17 bytes) (rs ++ ss)
  pub at : gate ≡ gate_after rs
  pub placed_so : found ≡ placed 17 rs

pub begins : (bytes : List ℕ) → SoFar bytes 17 [] []
begins bytes = record { reads = λ ss r. r; breaks = λ ss b. b; at = refl; placed_so = refl }

placed_push : (gate : ℕ) (rs : List Record) (r : Record) → placed gate (rs ++ r ∷ []) ≡ placed gate rs ++ record { at = gate + sum_by size rs; entry = r } ∷ []
placed_push gate [] r = (λ i. record { at = plus_zero gate i; entry = r } ∷ [])
placed_push gate (q ∷ rs) r =
    ap (λ (l : List Found). record { at = gate; entry = q } ∷ l) (placed_push (gate + size q) rs r)
    ∙ (λ i. record { at = gate; entry = q } ∷ (placed (gate + size q) rs ++ record { at = moved i; entry = r } ∷ []))
  where
    moved : (gate + size q) + sum_by size rs ≡ gate + sum_by size (q ∷ rs)
    moved = omega (arith, sum_by-append size (q ∷ []) rs)

pub goes_on : (bytes : List ℕ) (gate : ℕ) (rs : List Record) (found : List Found) (r : Record) (n : ℕ) → SoFar bytes gate rs found → IsRecord r → n ≡ size r
    → drop gate bytes ≡ block r ++ drop n (drop gate bytes) → SoFar bytes (gate + n) (rs ++ r ∷ []) (found ++ record { at = gate; entry = r } ∷ [])
goes_on bytes gate rs found r n so is_r size_is here =
    let behind : drop n (drop gate bytes) ≡ drop (gate + n) bytes = drop-drop n gate bytes in
    record {
      reads = λ ss h. subst (λ (l : List Record). Reads (drop 17 bytes) l) (sym (append_assoc rs (r ∷ []) ss)) (so.reads (r ∷ ss) (drop n (drop gate bytes), is_r, here, subst (λ (l : List ℕ). Reads l ss) (sym behind) h));
      breaks = λ ss h. subst (λ (l : List Record). Breaks (drop 17 bytes) l) (sym (append_assoc rs (r ∷ []) ss)) (so.breaks (r ∷ ss) (drop n (drop gate bytes), is_r, here, subst (λ (l : List ℕ). Breaks l ss) (sym behind) h));
      at = (λ i. so.at i + size_is i) ∙ sym (gate_push rs r);
      placed_so = (λ i. so.placed_so i ++ record { at = so.at i; entry = r } ∷ []) ∙ sym (placed_push 17 rs r);
    }

-- behind a closed gate there is nothing, and after one that is broken the records end
pub closes : (bytes : List ℕ) (gate : ℕ) (rs : List Record) (found : List Found) → SoFar bytes gate rs found → (g : ℕ) × (rest : List ℕ) × (drop gate bytes ≡ g ∷ rest) × (g ≢ 165) → Reads (drop 17 bytes) rs
closes bytes gate rs found so h = subst (λ (l : List Record). Reads (drop 17 bytes) l) (append-nil rs) (so.reads [] h)

pub breaks_off : (bytes : List ℕ) (gate : ℕ) (rs : List Record) (found : List Found) → SoFar bytes gate rs found → (rest : List ℕ) × (drop gate bytes ≡ 165 ∷ rest) × Broken rest → Breaks (drop 17 bytes) rs
breaks_off bytes gate rs found so h = subst (λ (l : List Record). Breaks (drop 17 bytes) l) (append-nil rs) (so.breaks [] h)

-- ---- one block
cons_of : (bytes : List ℕ) → 0 < length bytes → bytes ≡ get_or bytes 0 0 ∷ drop 1 bytes
cons_of [] h = absurd (omega (arith, h))
cons_of (x ∷ xs) h = refl

pub closed : (bytes : List ℕ) → 0 < length bytes → get_or bytes 0 0 ≢ 165 → (gate : ℕ) × (rest : List ℕ) × (bytes ≡ gate ∷ rest) × (gate ≢ 165)
closed bytes some shut = (get_or bytes 0 0, drop 1 bytes, cons_of bytes some, shut)

pub is_open : (bytes : List ℕ) → 0 < length bytes → get_or bytes 0 0 ≡ 165 → bytes ≡ 165 ∷ drop 1 bytes
is_open bytes some is = cons_of bytes some ∙ ap (λ g. g ∷ drop 1 bytes) is

pub too_short : (bytes : List ℕ) → 0 < length bytes → get_or bytes 0 0 ≡ 165 → length bytes < 5 → (rest : List ℕ) × (bytes ≡ 165 ∷ rest) × Broken rest
too_short bytes some is short = (drop 1 bytes, is_open bytes some is, no_length (omega (arith, length-drop 1 bytes)))

pub past_the_end : (bytes : List ℕ) (len : ℕ) → 5 ≤ length bytes → get_or bytes 0 0 ≡ 165 → len ≡ number (take 4 (drop 1 bytes)) → length bytes - 5 ≤ len
    → (rest : List ℕ) × (bytes ≡ 165 ∷ rest) × Broken rest
past_the_end bytes len long is len_is cut = (drop 1 bytes, is_open bytes (omega arith) is, cut_off (omega (arith, length-drop 1 bytes)) (omega (arith, length-drop 1 bytes, len_is, cut)))

pub no_payload : (bytes : List ℕ) (len : ℕ) → 5 ≤ length bytes → get_or bytes 0 0 ≡ 165 → len ≡ number (take 4 (drop 1 bytes)) → ((r : Record) → Decodes (take len (drop 5 bytes)) r → ⊥)
    → (rest : List ℕ) × (bytes ≡ 165 ∷ rest) × Broken rest
no_payload bytes len long is len_is none =
    let same : take (number (take 4 (drop 1 bytes))) (drop 4 (drop 1 bytes)) ≡ take len (drop 5 bytes) = (λ i. take (sym len_is i) (drop-drop 4 1 bytes i)) in
    (drop 1 bytes, is_open bytes (omega arith) is, no_record (omega (arith, length-drop 1 bytes)) (λ r d. none r (subst (λ (l : List ℕ). Decodes l r) same d)))

pub whole : (bytes : List ℕ) (len : ℕ) (r : Record) → IsBytes bytes → 5 ≤ length bytes → get_or bytes 0 0 ≡ 165 → len ≡ number (take 4 (drop 1 bytes)) → len < length bytes - 5
    → Decodes (take len (drop 5 bytes)) r → IsRecord r × (len + 5 ≡ size r) × (bytes ≡ block r ++ drop (len + 5) bytes) × (len + 5 < length bytes)
whole bytes len r fits long is len_is inside d =
    let part = take len (drop 5 bytes) in
    let length_part : length part ≡ len = omega (arith, length-take len (drop 5 bytes), length-drop 5 bytes) in
    let sized : length (payload r) ≡ len = ap length (sym d.spelled) ∙ length_part in
    let front : List ℕ = take 4 (drop 1 bytes) in
    let four : length front ≡ 4 = omega (arith, length-take 4 (drop 1 bytes), length-drop 1 bytes) in
    let front_fits : IsBytes front = IsBytes-take 4 (drop 1 bytes) (IsBytes-drop 1 bytes fits) in
    let spelled : le 4 (length (payload r)) ≡ front = (λ i. le 4 ((sized ∙ len_is) i)) ∙ subst (λ k. le k (number front) ≡ front) four (le_number front front_fits) in
    let first : drop 1 bytes ≡ front ++ drop 5 bytes = sym (take-append-drop 4 (drop 1 bytes)) ∙ ap (λ (l : List ℕ). front ++ l) (drop-drop 4 1 bytes) in
    let second : drop 5 bytes ≡ part ++ drop (len + 5) bytes = sym (take-append-drop len (drop 5 bytes)) ∙ ap (λ (l : List ℕ). part ++ l) (drop-drop len 5 bytes ∙ ap (λ k. drop k bytes) (swap len)) in
    let both : drop 1 bytes ≡ (front ++ part) ++ drop (len + 5) bytes = first ∙ ap (λ (l : List ℕ). front ++ l) second ∙ sym (append_assoc front part (drop (len + 5) bytes)) in
    let named : front ++ part ≡ le 4 (length (payload r)) ++ payload r = (λ i. sym spelled i ++ d.spelled i) in
    (d.is_record, ap (λ n. n + 5) (sym sized), is_open bytes (omega arith) is ∙ ap (λ (l : List ℕ). 165 ∷ l) both ∙ ap (λ (l : List ℕ). 165 ∷ (l ++ drop (len + 5) bytes)) named, omega (arith, inside))
  where
    swap : (n : ℕ) → 5 + n ≡ n + 5
    swap n = omega arith

-- a slice up to the end
pub tail : (bytes : List ℕ) (k : ℕ) → take (length bytes - k) (drop k bytes) ≡ drop k bytes
tail bytes k = take_all (length bytes - k) (drop k bytes) (omega (arith, length-drop k bytes))

pub slice : (bytes : List ℕ) (k n : ℕ) → take (k + n - k) (drop k bytes) ≡ take n (drop k bytes)
slice bytes k n = ap (λ m. take m (drop k bytes)) (same k n)
  where
    same : (k n : ℕ) → k + n - k ≡ n
    same k n = omega arith
