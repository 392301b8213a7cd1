-- The records of bytes are one list, and no bytes are records and bad.
use Rattle.std.proofs.Common.{◌≡◌, ℕ, ◌+◌, ◌<◌, ◌≤◌, ◌^◌, List, [], ◌∷◌, ◌++◌, length, take, drop, refl, sym, ap, ◌∙◌, subst, arith, append_assoc, length-append}
use Rattle.std.proofs.lemmas.List.{take_at}
use Rattle.plant.specs.declared.step.Side.{Side}
use Rattle.journal_rec.specs.declared.record.Record.{Record}
use Rattle.journal_rec.specs.Payloads.{le, number, payload, IsRecord}
use Rattle.journal_rec.specs.Packing.{block}
use Rattle.journal_model.specs.Journals.{Reads, Breaks, Broken, no_length, cut_off, no_record, Live, New, On, Wrong, live, head, RecordsOf, Records, BadOf, Bad, gate_after}
use Rattle.journal_model.proofs.Halves.{halves, le_once}
use Rattle.journal_rec.proofs.Numbers.{number_le}
use Rattle.journal_rec.proofs.Again.{payload_once}

same_head : (a b : ℕ) (xs ys : List ℕ) → a ∷ xs ≡ b ∷ ys → a ≡ b
same_head a b xs ys e = cc

same_tail : (a b : ℕ) (xs ys : List ℕ) → a ∷ xs ≡ b ∷ ys → xs ≡ ys
same_tail a b xs ys e = cc

four : (n : ℕ) → n < 2 ^ 32 → n < 256 ^ 4
four n h = omega arith

-- two records at one gate are one, and so is what follows
pub block_once : (r s : Record) (x y : List ℕ) → IsRecord r → IsRecord s → block r ++ x ≡ block s ++ y → (r ≡ s) × (x ≡ y)
block_once r s x y a b e =
    let lengths : (le 4 (length (payload r)) ≡ le 4 (length (payload s))) × (payload r ++ x ≡ payload s ++ y) = halves (le 4 (length (payload r))) (le 4 (length (payload s))) (payload r ++ x) (payload s ++ y) refl (same_tail _ _ _ _ e) in
    let size : length (payload r) ≡ length (payload s) = le_once 4 (length (payload r)) (length (payload s)) (four _ a.size) (four _ b.size) lengths.0 in
    let both = halves (payload r) (payload s) x y size lengths.1 in
    (payload_once r s a b both.0, both.1)

pub reads_once : (bytes : List ℕ) (rs ss : List Record) → Reads bytes rs → Reads bytes ss → rs ≡ ss
reads_once bytes [] [] p q = refl
reads_once bytes [] (s ∷ ss) p q = absurd (p.3 (same_head _ _ _ _ (sym p.2 ∙ q.2)))
reads_once bytes (r ∷ rs) [] p q = absurd (q.3 (same_head _ _ _ _ (sym q.2 ∙ p.2)))
reads_once bytes (r ∷ rs) (s ∷ ss) p q =
    let here = block_once r s p.0 q.0 p.1 q.1 (sym p.2 ∙ q.2) in
    let more = reads_once q.0 rs ss (subst (λ l. Reads l rs) here.1 p.3) q.3 in
    (λ i. here.0 i ∷ more i)

-- what stands behind an open gate that has a record is not broken
whole_not_broken : (r : Record) (more rest bytes : List ℕ) → IsRecord r → rest ≡ le 4 (length (payload r)) ++ payload r ++ more → 1 ≤ length more → Broken rest → ⊥
whole_not_broken r more rest bytes is e some broken =
    let n = length (payload r) in
    let e' : rest ≡ le 4 n ++ (payload r ++ more) = e ∙ append_assoc (le 4 n) (payload r) more in
    let long : length rest ≡ 4 + (n + length more) = omega (arith, ap length e', length-append (payload r) more) in
    let n_is : number (take 4 rest) ≡ n = ap (λ l. number (take 4 l)) e' ∙ number_le 4 n (four n is.size) in
    elim broken [
      | no_length short ↦ omega (arith, long, short)
      | cut_off _ short ↦ omega (arith, long, short, n_is, some)
      | no_record _ none ↦ none r (record {
        is_record = is;
        spelled = ap (λ k. take k (drop 4 rest)) n_is ∙ ap (λ l. take n (drop 4 l)) e' ∙ take_at (payload r) more n refl;
      })
    ]

reads_some : (bytes : List ℕ) (rs : List Record) → Reads bytes rs → 1 ≤ length bytes
reads_some bytes [] p = omega (arith, ap length p.2)
reads_some bytes (r ∷ rs) p = omega (arith, ap length p.2, length-append (block r) p.0)

breaks_some : (bytes : List ℕ) (rs : List Record) → Breaks bytes rs → 1 ≤ length bytes
breaks_some bytes [] p = omega (arith, ap length p.1)
breaks_some bytes (r ∷ rs) p = omega (arith, ap length p.2, length-append (block r) p.0)

-- bytes are not records and broken, and are broken at one gate
pub reads_or_breaks : (bytes : List ℕ) (rs ss : List Record) → Reads bytes rs → Breaks bytes ss → ⊥
reads_or_breaks bytes [] [] p q = p.3 (same_head _ _ _ _ (sym p.2 ∙ q.1))
reads_or_breaks bytes [] (s ∷ ss) p q = p.3 (same_head _ _ _ _ (sym p.2 ∙ q.2))
reads_or_breaks bytes (r ∷ rs) [] p q = whole_not_broken r p.0 q.0 bytes p.1 (same_tail _ _ _ _ (sym q.1 ∙ p.2)) (reads_some p.0 rs p.3) q.2
reads_or_breaks bytes (r ∷ rs) (s ∷ ss) p q =
    let here = block_once r s p.0 q.0 p.1 q.1 (sym p.2 ∙ q.2) in
    reads_or_breaks q.0 rs ss (subst (λ l. Reads l rs) here.1 p.3) q.3

pub breaks_once : (bytes : List ℕ) (rs ss : List Record) → Breaks bytes rs → Breaks bytes ss → rs ≡ ss
breaks_once bytes [] [] p q = refl
breaks_once bytes [] (s ∷ ss) p q = absurd (whole_not_broken s q.0 p.0 bytes q.1 (same_tail _ _ _ _ (sym p.1 ∙ q.2)) (breaks_some q.0 ss q.3) p.2)
breaks_once bytes (r ∷ rs) [] p q = absurd (whole_not_broken r p.0 q.0 bytes p.1 (same_tail _ _ _ _ (sym q.1 ∙ p.2)) (breaks_some p.0 rs p.3) q.2)
breaks_once bytes (r ∷ rs) (s ∷ ss) p q =
    let here = block_once r s p.0 q.0 p.1 q.1 (sym p.2 ∙ q.2) in
    let more = breaks_once q.0 rs ss (subst (λ l. Breaks l rs) here.1 p.3) q.3 in
    (λ i. here.0 i ∷ more i)

-- THE SAME OF TWO SIDES
pub records_once : (a b : List ℕ) (rs ss : List Record) → Records a b rs → Records a b ss → rs ≡ ss
records_once a b rs ss p q = by (live (head a) (head b)) p q
  where
    by : (l : Live) → RecordsOf l a b rs → RecordsOf l a b ss → rs ≡ ss
    by New p q = p ∙ sym q
    by (On side) p q = reads_once _ rs ss p q
    by (Wrong side) p q = absurd p

pub records_or_bad : (a b : List ℕ) (rs : List Record) (side : Side) (at : ℕ) → Records a b rs → Bad a b side at → ⊥
records_or_bad a b rs side at p q = by (live (head a) (head b)) p q
  where
    by : (l : Live) → RecordsOf l a b rs → BadOf l a b side at → ⊥
    by New p q = q
    by (On s) p q = reads_or_breaks _ rs q.1.0 p q.1.1
    by (Wrong s) p q = p

pub bad_once : (a b : List ℕ) (side tide : Side) (at au : ℕ) → Bad a b side at → Bad a b tide au → (side ≡ tide) × (at ≡ au)
bad_once a b side tide at au p q = by (live (head a) (head b)) p q
  where
    by : (l : Live) → BadOf l a b side at → BadOf l a b tide au → (side ≡ tide) × (at ≡ au)
    by New p q = absurd p
    by (On s) p q = (sym p.0 ∙ q.0, p.1.2 ∙ ap gate_after (breaks_once _ p.1.0 q.1.0 p.1.1 q.1.1) ∙ sym q.1.2)
    by (Wrong s) p q = (sym p.0 ∙ q.0, p.1 ∙ sym q.1)
