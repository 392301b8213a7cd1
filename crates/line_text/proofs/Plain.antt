-- Fields that are plain one after another.
use Rattle.std.proofs.Common.{ℕ, List, [], ◌∷◌, map, subst, inl, inr}
use Rattle.lab_base.specs.Lists.{Has}
use Rattle.lab_base.proofs.Members.{Has-map}
use Rattle.line_text.specs.Printing.{with_number}
use Rattle.line_text.proofs.PartsAgain.{IsPlain}

pub record ArePlain (fields : List (List ℕ)) : Type 0 where
  pub each : (f : List ℕ) → Has fields f → IsPlain f

pub none : ArePlain []
none = record { each = λ f h. absurd h }

pub more : (field : List ℕ) (fields : List (List ℕ)) → IsPlain field → ArePlain fields → ArePlain (field ∷ fields)
more field fields one all = record { each = λ f h. elim h [ inl e ↦ subst IsPlain e one | inr g ↦ all.each f g ] }

pub pairs_plain : (pairs : List (List ℕ × ℕ)) → ((pair : List ℕ × ℕ) → Has pairs pair → IsPlain (with_number pair)) → ArePlain (map with_number pairs)
pairs_plain pairs each = record { each = λ f h. let at = Has-map with_number pairs f h in subst IsPlain at.2 (each at.0 at.1) }
