-- One change more.
use Rattle.std.proofs.Common.{◌≡◌, ◌<◌, ◌+◌, ◌∙◌, ◌++◌, ◌∷◌, [], inl, inr, ℕ, List, length, take, get_or, All, refl, ap, sym, subst, arith, get_or-set_same, get_or-set_other}
use Rattle.std.proofs.Math.ListN.{set}
use Rattle.std.proofs.lemmas.Bool.{cases_eq}
use Rattle.std.proofs.lemmas.List.{take_more, length-set, set-get_or, set-set}
use Rattle.lab_base.specs.declared.ids.IfaceId.{IfaceId}
use Rattle.trunk_sums.specs.declared.made.Change.{Change}
use Rattle.trunk_sums.specs.Remade.{remade, undone}

push : (plugs : List IfaceId) (cs : List Change) (c : Change) → remade plugs (cs ++ c ∷ []) ≡ set (remade plugs cs) c.end c.to
push plugs [] c = refl
push plugs (x ∷ cs) c = push (set plugs x.end x.to) cs c

pub remade_more : (plugs : List IfaceId) (cs : List Change) (k : ℕ) (d : Change) → k < length cs
    → remade plugs (take (k + 1) cs) ≡ set (remade plugs (take k cs)) (get_or cs k d).end (get_or cs k d).to
remade_more plugs cs k d lt = ap (λ (l : List Change). remade plugs l) (take_more cs k d lt) ∙ push plugs (take k cs) (get_or cs k d)

-- plugs of the lab, one of them set anew
pub all_set : (most : ℕ) (plugs : List IfaceId) (end : ℕ) (to : IfaceId) → All (λ i. i.0 < most) plugs → to.0 < most → All (λ i. i.0 < most) (set plugs end to)
all_set most plugs end to all lt k d k_lt =
    let within : k < length plugs = omega (arith, k_lt, length-set plugs end to) in
    elim (cases_eq k end) [
      | inl same ↦ subst (λ (i : IfaceId). i.0 < most) (sym (ap (λ (j : ℕ). get_or (set plugs end to) j d) same ∙ get_or-set_same plugs end to d (omega (arith, within, same)))) lt
      | inr apart ↦ subst (λ (i : IfaceId). i.0 < most) (sym (get_or-set_other plugs end k to d apart)) (all k d within)
    ]

-- taking back leaves the plugs as they were
pub taken_back : (plugs : List IfaceId) (cs : List Change) → remade (remade plugs cs) (undone plugs cs) ≡ plugs
taken_back plugs [] = refl
taken_back plugs (c ∷ cs) =
    let old : IfaceId = get_or plugs c.end (record { 0 = 0 }) in
    let next = set plugs c.end c.to in
    push (remade next cs) (undone next cs) (record { end = c.end; row = c.row; to = old })
    ∙ ap (λ (l : List IfaceId). set l c.end old) (taken_back next cs)
    ∙ set-set plugs c.end c.to old
    ∙ set-get_or plugs c.end (record { 0 = 0 })
