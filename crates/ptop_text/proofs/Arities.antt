-- Lines by their number of fields.
use Rattle.std.proofs.Common.{◌≡◌, ◌≢◌, ℕ, List, [], ◌∷◌, length, get_or, Err, refl, arith, Bor}
use Rattle.lab_base.specs.Texts.{views}
use Rattle.lab_base.specs.declared.fault.Kind.TheVariants as kinds
use Rattle.phys_lab.specs.Labs.{Lab}
use Rattle.ptop_text.specs.Lines.{link_line}

pub other_links : (lab : Lab) (fields : List (List ℕ)) → length fields ≢ 4 → link_line lab fields ≡ Err kinds.Fields
other_links lab [] ne = refl
other_links lab (a ∷ []) ne = refl
other_links lab (a ∷ b ∷ []) ne = refl
other_links lab (a ∷ b ∷ d ∷ []) ne = refl
other_links lab (a ∷ b ∷ d ∷ e ∷ []) ne = absurd (ne refl)
other_links lab (a ∷ b ∷ d ∷ e ∷ f ∷ fields) ne = refl

pub four : (fields : List (Bor (List ℕ))) (a b d e : Bor (List ℕ)) → length fields ≡ 4
    → (get_or fields 0 a).now ∷ (get_or fields 1 b).now ∷ (get_or fields 2 d).now ∷ (get_or fields 3 e).now ∷ [] ≡ views fields
four [] a b d e n = absurd (omega arith)
four (w ∷ []) a b d e n = absurd (omega arith)
four (w ∷ x ∷ []) a b d e n = absurd (omega arith)
four (w ∷ x ∷ y ∷ []) a b d e n = absurd (omega arith)
four (w ∷ x ∷ y ∷ z ∷ []) a b d e n = refl
four (w ∷ x ∷ y ∷ z ∷ v ∷ fields) a b d e n = absurd (omega arith)
