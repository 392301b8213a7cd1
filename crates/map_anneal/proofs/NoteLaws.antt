-- Notes of tries that are marked.
use Rattle.std.proofs.Common.{◌≡◌, ◌<◌, ◌∙◌, ℕ, All, Bool, true, false, Contains, List, length, get_or, sym, subst}
use Rattle.std.proofs.lemmas.List.Elements.{All-contains}
use Rattle.node_maps.specs.Marked.{marked_numbers}
use Rattle.node_maps.proofs.MarkLaws.{marked_within, unmarked}

-- the marked numbers are numbers of notes
pub numbers_within : (marks : List Bool) (numbers : List ℕ) (n : ℕ) → numbers ≡ marked_numbers marks → length marks ≡ n → All (λ k. k < n) numbers
numbers_within marks numbers n are count =
    subst (All (λ (k : ℕ). k < n)) (sym are) (subst (λ (m : ℕ). All (λ (k : ℕ). k < m) (marked_numbers marks)) count (marked_within marks))

-- where nothing is known of the marked numbers, what is known is not marked
pub known_unmarked : (marks notes : List Bool) (numbers : List ℕ) (k : ℕ) → numbers ≡ marked_numbers marks → All (λ j. get_or notes j false ≡ false) numbers → k < length marks → get_or notes k false ≡ true
    → get_or marks k true ≡ false
known_unmarked marks notes numbers k are gone lt known = unmarked marks k lt (λ has.
    let off = All-contains (λ (j : ℕ). get_or notes j false ≡ false) numbers k gone (subst (λ (l : List ℕ). Contains l k) (sym are) has) in
    let both : false ≡ true = sym off ∙ known in
    cc both)
