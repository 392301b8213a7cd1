-- A record more after the others.
use Rattle.std.proofs.Common.{◌≡◌, inl, inr, ℕ, ◌-◌, List, [], ◌∷◌, ◌++◌, length, set, refl, sym, ap, ◌∙◌, subst, arith, length-append, append_assoc}
use Rattle.std.proofs.lemmas.List.{append-nil, set_at}
use Rattle.lab_base.proofs.Members.{Has-append}
use Rattle.journal_rec.specs.Payloads.{body, IsBody, IsRecord}
use Rattle.journal_rec.specs.Packing.{block, blocks, ArePacked}
use Rattle.journal_rec.specs.declared.record.Record.{Record}

pub blocks-push : (rs : List Record) (r : Record) (rest : List ℕ) → blocks (rs ++ r ∷ []) ++ rest ≡ blocks rs ++ (block r ++ rest)
blocks-push [] r rest = ap (λ l. l ++ rest) (append-nil (block r))
blocks-push (q ∷ rs) r rest = append_assoc (block q) (blocks (rs ++ r ∷ [])) rest ∙ ap (λ l. block q ++ l) (blocks-push rs r rest) ∙ sym (append_assoc (block q) (blocks rs) (block r ++ rest))

-- with the last gate open, the body after it is a record more
pub added : (old bytes : List ℕ) (rs : List Record) (r : Record) → ArePacked old rs → IsBody bytes r → ArePacked (set (old ++ bytes) (length old - 1) 165) (rs ++ r ∷ [])
added old bytes rs r packed is = record {
  are_records = λ q has. elim (Has-append rs (r ∷ []) q has) [
    | inl before ↦ packed.are_records q before
    | inr here ↦ elim here [ inl e ↦ subst (λ x. IsRecord x) e is.is_record | inr none ↦ absurd none ]
  ];
  spelled = (λ i. set (packed.spelled i ++ is.spelled i) (place i) 165) ∙ ap (λ l. set l (length (blocks rs)) 165) (append_assoc (blocks rs) (0 ∷ []) (body r)) ∙ set_at (blocks rs) 0 (body r) 165 (length (blocks rs)) refl ∙ sym (blocks-push rs r (0 ∷ []));
}
  where
    place : length old - 1 ≡ length (blocks rs)
    place = omega (arith, ap length packed.spelled, length-append (blocks rs) (0 ∷ []))
