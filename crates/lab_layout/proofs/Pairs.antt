-- One box more is apart from all after it, and so is each box where all pairs are apart.
use Rattle.std.proofs.Common.{◌≡◌, ℕ, ◌+◌, ◌-◌, ◌<◌, List, length, get_or, take, drop, ap, sym, ◌∙◌, subst, below_more, arith}
use Rattle.std.specs.Prelude.{All, AllPairs}
use Rattle.std.proofs.lemmas.List.{length-drop, get_or-drop, get_or_default, take_all}
use Rattle.std.proofs.lemmas.List.Elements.{All-same}
use Rattle.lab_picture.specs.declared.geometry.Bounds.{Bounds}
use Rattle.lab_layout.specs.Laid.{IsApart}

abbrev pub Below : List Bounds → ℕ → Type 0
Below ps n = (i j : ℕ) (d : Bounds) → i < n → i < j → j < length ps → IsApart (get_or ps i d) (get_or ps j d)

behind : (ps : List Bounds) (i j : ℕ) (d p : Bounds) → p ≡ get_or ps i d → All (IsApart p) (drop (i + 1) ps) → i < j → j < length ps → IsApart (get_or ps i d) (get_or ps j d)
behind ps i j d p is apart less within =
    let k : ℕ = j - (i + 1) in
    let lies : k < length (drop (i + 1) ps) = omega (arith, length-drop (i + 1) ps) in
    let same : i + 1 + k ≡ j = omega arith in
    let there = subst (λ (q : Bounds). IsApart p q) (get_or-drop (i + 1) ps k d ∙ ap (λ (m : ℕ). get_or ps m d) same) (apart k d lies) in
    subst (λ (q : Bounds). IsApart q (get_or ps j d)) is there

whole : (ps : List Bounds) (n : ℕ) → take (length ps - (n + 1)) (drop (n + 1) ps) ≡ drop (n + 1) ps
whole ps n = take_all (length ps - (n + 1)) (drop (n + 1) ps) (omega (arith, length-drop (n + 1) ps))

pub pairs_more : (ps : List Bounds) (n : ℕ) (e : Bounds) → n < length ps → Below ps n → All (IsApart (get_or ps n e)) (take (length ps - (n + 1)) (drop (n + 1) ps))
    → Below ps (n + 1)
pairs_more ps n e here before apart i j d lies less within =
    let P : ℕ → Type 0 = λ i. (j : ℕ) (d : Bounds) → i < j → j < length ps → IsApart (get_or ps i d) (get_or ps j d) in
    let rest = All-same (IsApart (get_or ps n e)) (drop (n + 1) ps) (take (length ps - (n + 1)) (drop (n + 1) ps)) (sym (whole ps n)) apart in
    below_more P n (λ i h j d. before i j d h) (λ j d. behind ps n j d (get_or ps n e) (get_or_default ps n e d here) rest) i lies j d less within

pub pairs_after : (ps : List Bounds) (n : ℕ) (e : Bounds) → n < length ps → AllPairs IsApart ps → All (IsApart (get_or ps n e)) (take (length ps - (n + 1)) (drop (n + 1) ps))
pairs_after ps n e here pairs = All-same (IsApart (get_or ps n e)) (take (length ps - (n + 1)) (drop (n + 1) ps)) (drop (n + 1) ps) (whole ps n) (λ k d lies.
    let two : IsApart (get_or ps n d) (get_or ps (n + 1 + k) d) = pairs n (n + 1 + k) d (omega arith) (omega (arith, length-drop (n + 1) ps)) in
    let first = subst (λ (q : Bounds). IsApart q (get_or ps (n + 1 + k) d)) (sym (get_or_default ps n e d here)) two in
    subst (λ (q : Bounds). IsApart (get_or ps n e) q) (sym (get_or-drop (n + 1) ps k d)) first)
