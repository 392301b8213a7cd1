-- Segments whose plugs are on switches that are joined.
use Rattle.std.proofs.Common.{◌≡◌, ◌<◌, ◌≤◌, ◌+◌, ◌∙◌, ◌∷◌, [], inl, inr, ℕ, zero, suc, List, length, take, drop, get_or, All, refl, ap, sym, subst, arith}
use Rattle.std.proofs.lemmas.Bool.{cases_eq}
use Rattle.std.proofs.lemmas.List.{drop-drop}
use Rattle.lab_base.specs.declared.ids.IfaceId.{IfaceId}
use Rattle.virt_topo.specs.Ends.{end_nodes}
use Rattle.virt_topo.proofs.EndLaws.{ends_from}
use Rattle.virt_topo.specs.declared.wiring.Segment.{Segment}
use Rattle.virt_topo.specs.declared.wiring.Wiring.{Wiring}
use Rattle.trunk_sums.specs.declared.made.Change.{Change}
use Rattle.trunk_sums.specs.Summed.{IsRow, own_plugs, first_end, no_segment}
use Rattle.trunk_sums.proofs.Replugged.{other_after}
use Rattle.trunk_sums.proofs.SummedLaws.{is_in}
use Rattle.map_state.specs.Reverted.{reverted}

-- the plugs of a segment stand together
pub own_range : (segments : List Segment) (plugs : List IfaceId) (s : ℕ) → s < length segments
    → own_plugs segments plugs s ≡ take (length (get_or segments s no_segment).ends) (drop (first_end segments s) plugs)
own_range [] plugs s lt = absurd (omega (arith, lt))
own_range (x ∷ segments) plugs zero lt = refl
own_range (x ∷ segments) plugs (suc s) lt =
    own_range segments (drop (length x.ends) plugs) s (omega (arith, lt))
    ∙ ap (λ (l : List IfaceId). take (length (get_or segments s no_segment).ends) l) (drop-drop (first_end segments s) (length x.ends) plugs)

pub range_within : (segments : List Segment) (s : ℕ) → s < length segments → first_end segments s + length (get_or segments s no_segment).ends ≤ length (end_nodes segments)
range_within [] s lt = absurd (omega (arith, lt))
range_within (x ∷ segments) zero lt = let ends = ends_from (x ∷ segments) 0 x (omega arith) refl in omega (arith, ends)
range_within (x ∷ segments) (suc s) lt =
    let ends = ends_from (x ∷ segments) 0 x (omega arith) refl in
    let rest = range_within segments s (omega (arith, lt)) in
    omega (arith, ends, rest)

-- what is so of a segment stays so where no change is of it
pub still_joined : (w : Wiring) (plugs : List IfaceId) (cs : List Change) (s : ℕ) (On : List IfaceId → Type 0) → All (λ (c : Change). IsRow w c.end c.row) cs
    → All (λ (c : Change). On (own_plugs w.segments plugs c.row.segment)) cs → On (own_plugs w.segments (reverted plugs cs) s) → On (own_plugs w.segments plugs s)
still_joined w plugs [] s On rows each before = before
still_joined w plugs (c ∷ cs) s On rows each before = elim (cases_eq s c.row.segment) [
  | inl is ↦ subst (λ (k : ℕ). On (own_plugs w.segments plugs k)) (sym is) (each 0 c (omega arith))
  | inr apart ↦ still_joined w plugs cs s On (λ k d lt. rows (suc k) d (omega (arith, lt))) (λ k d lt. each (suc k) d (omega (arith, lt)))
      (subst On (other_after w.segments (reverted plugs cs) c.row.segment c.end s c.to (is_in w c.end c.row (rows 0 c (omega arith))) apart) before)
]
