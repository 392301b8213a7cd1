-- Two sides of bytes are records or bad.
use Rattle.std.proofs.Common.{◌≡◌, ◌⊎◌, inl, inr, ℕ, zero, suc, ◌+◌, ◌-◌, ◌*◌, ◌/◌, ◌%◌, ◌<◌, ◌≤◌, Option, Some, None, List, [], ◌∷◌, ◌++◌, length, take, drop, refl, sym, ap, ◌∙◌, subst, arith, append_assoc, take-append-drop}
use Rattle.std.proofs.lemmas.List.{length-take, length-drop}
use Rattle.std.proofs.lemmas.Bool.{cases_eq, cases_lt}
use Rattle.lab_base.specs.Lists.{Has}
use Rattle.lab_base.proofs.Members.{Has-left, Has-right}
use Rattle.plant.specs.declared.step.Side.{Side}
use Rattle.plant.specs.declared.step.Side.TheVariants.{A, B}
use Rattle.journal_rec.specs.declared.record.Record.{Record}
use Rattle.journal_rec.specs.Payloads.{le, number, payload, Decodes}
use Rattle.journal_rec.specs.Reading.{all_of}
use Rattle.journal_rec.proofs.Numbers.{IsBytes}
use Rattle.journal_rec.proofs.Records.{all_takes}
use Rattle.journal_rec.proofs.Again.{all_again}
use Rattle.std.proofs.lemmas.Option.{none-some}
use Rattle.plant.specs.Sides.{of_side}
use Rattle.journal_rec.specs.Packing.{block}
use Rattle.journal_model.specs.Journals.{Headed, head, Live, New, On, Wrong, live, Reads, Breaks, no_length, cut_off, no_record, gate_after, RecordsOf, Records, BadOf, Bad, AreBytes}
use Rattle.journal_model.proofs.Syncs.{live_back}

digit : (x n : ℕ) → x < 256 → ((x + 256 * n) % 256 ≡ x) × ((x + 256 * n) / 256 ≡ n)
digit x n h = (omega arith, omega arith)

-- bytes are the bytes of their number
le_number : (bytes : List ℕ) → AreBytes bytes → le (length bytes) (number bytes) ≡ bytes
le_number [] all = refl
le_number (x ∷ xs) all =
    let d = digit x (number xs) (all x (inl refl)) in
    (λ i. d.0 i ∷ (ap (λ n. le (length xs) n) d.1 ∙ le_number xs (λ y h. all y (inr h))) i)

parts_of : (n : ℕ) (bytes : List ℕ) → AreBytes bytes → AreBytes (take n bytes) × AreBytes (drop n bytes)
parts_of n bytes all = (
  λ x h. all x (subst (λ l. Has l x) (take-append-drop n bytes) (Has-left (take n bytes) (drop n bytes) x h)),
  λ x h. all x (subst (λ l. Has l x) (take-append-drop n bytes) (Has-right (take n bytes) (drop n bytes) x h)),
)

bytes_are : (bytes : List ℕ) → AreBytes bytes → IsBytes bytes
bytes_are [] all i = omega arith
bytes_are (x ∷ xs) all zero = all x (inl refl)
bytes_are (x ∷ xs) all (suc i) = bytes_are xs (λ y h. all y (inr h)) i

-- bytes are a record's payload, or no record's
decide : (bytes : List ℕ) → AreBytes bytes → ((r : Record) × Decodes bytes r) ⊎ ((r : Record) → Decodes bytes r → ⊥)
decide bytes all = by (all_of bytes) refl
  where
    by : (o : Option Record) → all_of bytes ≡ o → ((r : Record) × Decodes bytes r) ⊎ ((r : Record) → Decodes bytes r → ⊥)
    by None e = inr (λ r d. none-some r (sym e ∙ ap all_of d.spelled ∙ all_again r d.is_record))
    by (Some r) e = inl (r, all_takes bytes r (bytes_are bytes all) e)

pub one_block : (rest : List ℕ) (n : ℕ) → AreBytes rest → 4 ≤ length rest → n ≡ number (take 4 rest) → 4 + n + 1 ≤ length rest → (r : Record) → Decodes (take n (drop 4 rest)) r
    → (more : List ℕ) × (165 ∷ rest ≡ block r ++ more) × (1 ≤ length more) × (length more ≤ length rest) × AreBytes more
one_block rest n all long is fits r d =
    let first : rest ≡ take 4 rest ++ drop 4 rest = sym (take-append-drop 4 rest) in
    let more = drop n (drop 4 rest) in
    let second : drop 4 rest ≡ take n (drop 4 rest) ++ more = sym (take-append-drop n (drop 4 rest)) in
    let four : length (take 4 rest) ≡ 4 = omega (arith, length-take 4 rest, long) in
    let size : length (payload r) ≡ n = sym (ap length d.spelled) ∙ length-take n (drop 4 rest) ∙ within n rest fits in
    let lead : take 4 rest ≡ le 4 (length (payload r)) = sym (le_number (take 4 rest) (parts_of 4 rest all).0) ∙ (λ i. le (four i) (number (take 4 rest))) ∙ ap (λ k. le 4 k) (sym (size ∙ is)) in
    let whole : rest ≡ le 4 (length (payload r)) ++ (payload r ++ more) = first ∙ ap (λ l. l ++ drop 4 rest) lead ∙ ap (λ l. le 4 (length (payload r)) ++ l) (second ∙ ap (λ l. l ++ more) d.spelled) in
    (more, ap (λ l. 165 ∷ l) (whole ∙ sym (append_assoc (le 4 (length (payload r))) (payload r) more)), omega (arith, length-drop n (drop 4 rest), length-drop 4 rest, fits), omega (arith, length-drop n (drop 4 rest), length-drop 4 rest), (parts_of n (drop 4 rest) (parts_of 4 rest all).1).1)
  where
    within : (n : ℕ) (rest : List ℕ) → 4 + n + 1 ≤ length rest → Rattle.std.proofs.Common.min n (length (drop 4 rest)) ≡ n
    within n rest fits = omega (arith, length-drop 4 rest)

reads_total : (fuel : ℕ) (bytes : List ℕ) → length bytes ≤ fuel → 1 ≤ length bytes → AreBytes bytes → ((rs : List Record) × Reads bytes rs) ⊎ ((rs : List Record) × Breaks bytes rs)
reads_total zero bytes a b all = absurd (omega (arith, a, b))
reads_total (suc fuel) [] a b all = absurd (omega (arith, b))
reads_total (suc fuel) (g ∷ rest) a b all = elim (cases_eq g 165) [
  | inr shut ↦ inl ([], (g, rest, refl, shut))
  | inl is_open ↦
      let opened : g ∷ rest ≡ 165 ∷ rest = ap (λ x. x ∷ rest) is_open in
      elim (cases_lt (length rest) 4) [
        | inl short ↦ inr ([], (rest, opened, no_length short))
        | inr long ↦ elim (cases_lt (length rest) (4 + number (take 4 rest) + 1)) [
          | inl cut ↦ inr ([], (rest, opened, cut_off long cut))
          | inr fits ↦ elim (decide (take (number (take 4 rest)) (drop 4 rest)) (parts_of (number (take 4 rest)) (drop 4 rest) (parts_of 4 rest (λ y h. all y (inr h))).1).0) [
            | inr none ↦ inr ([], (rest, opened, no_record long none))
            | inl some ↦
                let x = one_block rest (number (take 4 rest)) (λ y h. all y (inr h)) long refl fits some.0 some.1 in
                elim (reads_total fuel x.0 (omega (arith, a, x.3)) x.2 x.4) [
                  | inl more ↦ inl (some.0 ∷ more.0, (x.0, some.1.is_record, opened ∙ x.1, more.1))
                  | inr more ↦ inr (some.0 ∷ more.0, (x.0, some.1.is_record, opened ∙ x.1, more.1))
                ]
          ]
        ]
      ]
]

-- RECORDS OR BAD
pub records_total : (a b : List ℕ) → AreBytes a → AreBytes b → ((rs : List Record) × Records a b rs) ⊎ ((side : Side) × (at : ℕ) × Bad a b side at)
records_total a b all_a all_b = by (live (head a) (head b)) refl
  where
    bytes_of : (side : Side) → AreBytes (of_side side a b)
    bytes_of A = all_a
    bytes_of B = all_b

    some_left : (side : Side) → live (head a) (head b) ≡ On side → 1 ≤ length (drop 17 (of_side side a b))
    some_left side is =
        let h = live_back side a b is in
        enough (of_side side a b) h.0 h.1
      where
        enough : (x epoch : List ℕ) → head x ≡ Headed epoch → 1 ≤ length (drop 17 x)
        enough x epoch h = omega (arith, length-drop 17 x, Rattle.journal_model.proofs.Syncs.headed_long x epoch h)

    by : (l : Live) → live (head a) (head b) ≡ l → ((rs : List Record) × Records a b rs) ⊎ ((side : Side) × (at : ℕ) × Bad a b side at)
    by New is = inl ([], subst (λ l. RecordsOf l a b []) (sym is) refl)
    by (Wrong side) is = inr (side, 0, subst (λ l. BadOf l a b side 0) (sym is) (refl, refl))
    by (On side) is =
        let bytes = drop 17 (of_side side a b) in
        elim (reads_total (length bytes) bytes (omega arith) (some_left side is) (parts_of 17 (of_side side a b) (bytes_of side)).1) [
          | inl r ↦ inl (r.0, subst (λ l. RecordsOf l a b r.0) (sym is) r.1)
          | inr r ↦ inr (side, gate_after r.0, subst (λ l. BadOf l a b side (gate_after r.0)) (sym is) (refl, (r.0, r.1, refl)))
        ]
