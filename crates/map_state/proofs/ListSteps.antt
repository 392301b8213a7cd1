-- Steps of the loops.
use Rattle.std.proofs.Common.{◌≡◌, ◌<◌, ◌+◌, ◌∙◌, ◌∷◌, ◌++◌, [], ℕ, List, length, map, drop, get_or, Bool, true, false, cond, Some, None, refl, ap, sym, append_assoc}
use Rattle.std.specs.Option.{option_and_then}
use Rattle.std.proofs.Math.ListN.{set}
use Rattle.std.proofs.lemmas.List.{set-get_or, drop_more, set-set}
use Rattle.lab_base.specs.declared.ids.IfaceId.{IfaceId}
use Rattle.phys_lab.specs.Labs.{Lab}
use Rattle.lab_model.specs.Shapes.{Place}
use Rattle.lab_model.specs.Rules.{Laid}
use Rattle.trunk_sums.specs.declared.made.Change.{Change}
use Rattle.trunk_sums.specs.declared.sums.EndRow.{EndRow}
use Rattle.node_maps.specs.declared.ends.End.{End}
use Rattle.node_maps.specs.NodeMaps.{with_plug, laid_from}
use Rattle.map_state.specs.Nodes.{numbers_of, changes_of, no_row}
use Rattle.map_state.specs.Reverted.{reverted}

-- one end more that gets its plug, or gets none
pub served_more : (lab : Lab) (places : List Place) (at : ℕ → End) (numbers : List ℕ) (k d : ℕ) (had more : List Laid) → k < length numbers → with_plug lab places (at (get_or numbers k d)) had ≡ Some more
    → laid_from lab places (map at (drop k numbers)) had ≡ laid_from lab places (map at (drop (k + 1) numbers)) more
served_more lab places at numbers k d had more lt is =
    ap (λ (l : List ℕ). laid_from lab places (map at l) had) (drop_more numbers k d lt)
    ∙ ap (λ o. option_and_then (λ laid. laid_from lab places (map at (drop (k + 1) numbers)) laid) o) is

pub served_none : (lab : Lab) (places : List Place) (at : ℕ → End) (numbers : List ℕ) (k d : ℕ) (had : List Laid) → k < length numbers → with_plug lab places (at (get_or numbers k d)) had ≡ None
    → laid_from lab places (map at (drop k numbers)) had ≡ None
served_none lab places at numbers k d had lt is =
    ap (λ (l : List ℕ). laid_from lab places (map at l) had) (drop_more numbers k d lt)
    ∙ ap (λ o. option_and_then (λ laid. laid_from lab places (map at (drop (k + 1) numbers)) laid) o) is

-- one end more that is listed, or isn't
pub listed_more : (p : End → Bool) (es : List End) (k : ℕ) (e : End) (listed : List ℕ) → k < length es → e ≡ get_or es k e → p e ≡ true
    → (listed ++ k ∷ []) ++ numbers_of (k + 1) p (drop (k + 1) es) ≡ listed ++ numbers_of k p (drop k es)
listed_more p es k e listed lt is passes =
    append_assoc listed (k ∷ []) (numbers_of (k + 1) p (drop (k + 1) es))
    ∙ ap (λ (b : Bool). listed ++ cond b (k ∷ numbers_of (k + 1) p (drop (k + 1) es)) (numbers_of (k + 1) p (drop (k + 1) es))) (sym passes)
    ∙ ap (λ (l : List End). listed ++ numbers_of k p l) (sym (drop_more es k e lt ∙ ap (λ (x : End). x ∷ drop (k + 1) es) (sym is)))

pub listed_same : (p : End → Bool) (es : List End) (k : ℕ) (e : End) (listed : List ℕ) → k < length es → e ≡ get_or es k e → p e ≡ false
    → listed ++ numbers_of (k + 1) p (drop (k + 1) es) ≡ listed ++ numbers_of k p (drop k es)
listed_same p es k e listed lt is fails =
    ap (λ (b : Bool). listed ++ cond b (k ∷ numbers_of (k + 1) p (drop (k + 1) es)) (numbers_of (k + 1) p (drop (k + 1) es))) (sym fails)
    ∙ ap (λ (l : List End). listed ++ numbers_of k p l) (sym (drop_more es k e lt ∙ ap (λ (x : End). x ∷ drop (k + 1) es) (sym is)))

-- one change more
pub noted_more : (rows : List EndRow) (listed : List ℕ) (plugs : List IfaceId) (k d : ℕ) (i : IfaceId) (changes : List Change) → k < length listed → k < length plugs
    → (changes ++ record { end = get_or listed k d; row = get_or rows (get_or listed k d) no_row; to = get_or plugs k i } ∷ []) ++ changes_of rows (drop (k + 1) listed) (drop (k + 1) plugs)
    ≡ changes ++ changes_of rows (drop k listed) (drop k plugs)
noted_more rows listed plugs k d i changes lt few =
    append_assoc changes (record { end = get_or listed k d; row = get_or rows (get_or listed k d) no_row; to = get_or plugs k i } ∷ []) (changes_of rows (drop (k + 1) listed) (drop (k + 1) plugs))
    ∙ (λ j. changes ++ changes_of rows (sym (drop_more listed k d lt) j) (sym (drop_more plugs k i few) j))

pub reverted_push : (plugs : List IfaceId) (cs : List Change) (c : Change) → reverted plugs (cs ++ c ∷ []) ≡ reverted (set plugs c.end c.to) cs
reverted_push plugs [] c = refl
reverted_push plugs (x ∷ cs) c = ap (λ (l : List IfaceId). set l x.end x.to) (reverted_push plugs cs c)

pub reverted_more : (plugs : List IfaceId) (cs : List Change) (end : ℕ) (row : EndRow) (to d : IfaceId)
    → reverted (set plugs end to) (cs ++ record { end = end; row = row; to = get_or plugs end d } ∷ []) ≡ reverted plugs cs
reverted_more plugs cs end row to d =
    reverted_push (set plugs end to) cs (record { end = end; row = row; to = get_or plugs end d })
    ∙ ap (λ (l : List IfaceId). reverted l cs) (set-set plugs end to (get_or plugs end d) ∙ set-get_or plugs end d)
