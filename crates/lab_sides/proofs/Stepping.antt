-- From one gate to the next.
use Rattle.std.proofs.Common.{◌≡◌, ℕ, suc, ◌+◌, ◌-◌, ◌<◌, List, [], ◌∷◌, ◌++◌, length, drop, get_or, refl, sym, ap, ◌∙◌, subst, arith, append_assoc, drop-cons, add-one}
use Rattle.std.proofs.lemmas.List.{length-drop, append-nil}
use Rattle.journal_rec.specs.declared.record.Record.{Record}
use Rattle.journal_rec.specs.declared.record.Found.{Found}
use Rattle.journal_rec.specs.Packing.{block}
use Rattle.journal_model.specs.Journals.{size, Broken}
use Rattle.lab_sides.specs.Walks.{IsAfter, AreThere}

pub at_gate : (bytes : List ℕ) (gate : ℕ) → gate < length bytes → drop gate bytes ≡ get_or bytes gate 0 ∷ drop (gate + 1) bytes
at_gate bytes gate inside = rw (add-one, drop-cons bytes gate 0) refl

-- behind an open gate
pub open_gate : (bytes : List ℕ) (gate : ℕ) → gate < length bytes → get_or bytes gate 0 ≡ 165 → drop gate bytes ≡ 165 ∷ drop (gate + 1) bytes
open_gate bytes gate inside is = at_gate bytes gate inside ∙ ap (λ (x : ℕ). x ∷ drop (gate + 1) bytes) is

pub block_there : (bytes : List ℕ) (gate n : ℕ) (r : Record) → gate < length bytes → get_or bytes gate 0 ≡ 165 → IsAfter (drop (gate + 1) bytes) r n → drop gate bytes ≡ block r ++ drop (n + 1) (drop gate bytes)
block_there bytes gate n r inside is b =
    let shown : drop gate bytes ≡ 165 ∷ drop (gate + 1) bytes = open_gate bytes gate inside is in
    let behind : drop (n + 1) (drop gate bytes) ≡ drop n (drop (gate + 1) bytes) = ap (λ (l : List ℕ). drop (n + 1) l) shown ∙ one n (drop (gate + 1) bytes) in
    shown ∙ b.spelled ∙ ap (λ (l : List ℕ). block r ++ l) (sym behind)
  where
    one : (n : ℕ) (l : List ℕ) → drop (n + 1) (165 ∷ l) ≡ drop n l
    one n l = let e : n + 1 ≡ suc n = omega arith in ap (λ (k : ℕ). drop k (165 ∷ l)) e

pub still_inside : (bytes : List ℕ) (gate n : ℕ) (r : Record) → gate < length bytes → IsAfter (drop (gate + 1) bytes) r n → gate + (n + 1) < length bytes
still_inside bytes gate n r inside b = omega (arith, b.inside, length-drop (gate + 1) bytes)

-- the records up to a gate, whatever stands in the gates
pub record SoFarThere (bytes : List ℕ) (from gate : ℕ) (found : List Found) : Type 0 where
  pub there : (more : List Found) → AreThere bytes gate more → AreThere bytes from (found ++ more)

pub begins_there : (bytes : List ℕ) (from : ℕ) → SoFarThere bytes from from []
begins_there bytes from = record { there = λ more h. h }

pub one_there : (bytes : List ℕ) (from gate n : ℕ) (found : List Found) (r : Record) → SoFarThere bytes from gate found → IsAfter (drop (gate + 1) bytes) r n
    → SoFarThere bytes from (gate + (n + 1)) (found ++ record { at = gate; entry = r } ∷ [])
one_there bytes from gate n found r so b =
    let own : Found = record { at = gate; entry = r } in
    let next : gate + (n + 1) ≡ gate + size r = ap (λ (k : ℕ). gate + k) b.size_is in
    let same : n ≡ size r - 1 = omega (arith, b.size_is) in
    record {
      there = λ more h. subst (λ (l : List Found). AreThere bytes from l) (sym (append_assoc found (own ∷ []) more))
          (so.there (own ∷ more) (refl, subst (λ (k : ℕ). IsAfter (drop (gate + 1) bytes) r k) same b, subst (λ (k : ℕ). AreThere bytes k more) next h));
    }

pub ends_there : (bytes : List ℕ) (from gate : ℕ) (found : List Found) → SoFarThere bytes from gate found → Broken (drop (gate + 1) bytes) → AreThere bytes from found
ends_there bytes from gate found so broken = subst (λ (l : List Found). AreThere bytes from l) (append-nil found) (so.there [] broken)
