-- The rows of ends, segment by segment.
use Rattle.std.proofs.Common.{◌≡◌, ◌<◌, ◌+◌, ◌-◌, ◌∙◌, ◌∷◌, ◌++◌, [], inl, inr, ℕ, zero, suc, List, length, map, replicate, get_or, refl, ap, sym, subst, arith, length-append}
use Rattle.std.proofs.lemmas.Bool.{cases_lt}
use Rattle.std.proofs.lemmas.List.{length-map, length-replicate, get_or-replicate, get_or_append_left, get_or-append_right}
use Rattle.virt_topo.specs.declared.wiring.Segment.{Segment}
use Rattle.virt_topo.specs.declared.wiring.Wiring.{Wiring}
use Rattle.trunk_sums.specs.declared.sums.EndRow.{EndRow}
use Rattle.trunk_sums.specs.Summed.{IsRow, first_end, no_segment}
use Rattle.node_maps.specs.NodeMaps.{segment_end, ends_from, ends_of}
use Rattle.map_state.specs.Nodes.{no_row}

pub first_none : (segments : List Segment) → 0 ≡ first_end segments 0
first_none [] = refl
first_none (x ∷ segments) = refl

pub first_next : (segments : List Segment) (s : ℕ) → s < length segments → first_end segments (s + 1) ≡ first_end segments s + length (get_or segments s no_segment).ends
first_next [] s lt = absurd (omega (arith, lt))
first_next (x ∷ segments) zero lt =
    let step : ◌≡◌ {A = ℕ} (zero + 1) (suc zero) = omega arith in
    let none = first_none segments in
    ap (first_end (x ∷ segments)) step ∙ omega (arith, none)
first_next (x ∷ segments) (suc s) lt =
    let step : ◌≡◌ {A = ℕ} (suc s + 1) (suc (s + 1)) = omega arith in
    let rest = first_next segments s (omega (arith, lt)) in
    ap (first_end (x ∷ segments)) step ∙ omega (arith, rest)

same_count : (n m : ℕ) (segments : List Segment) → length (ends_from n segments) ≡ length (ends_from m segments)
same_count n m [] = refl
same_count n m (x ∷ segments) =
    let rest = same_count (n + 1) (m + 1) segments in
    let one = length-append (map (segment_end n x) x.ends) (ends_from (n + 1) segments) in
    let other = length-append (map (segment_end m x) x.ends) (ends_from (m + 1) segments) in
    omega (arith, rest, one, other, length-map x.ends (segment_end n x), length-map x.ends (segment_end m x))

pub first_all : (segments : List Segment) → first_end segments (length segments) ≡ length (ends_of segments)
first_all [] = refl
first_all (x ∷ segments) =
    let rest = first_all segments in
    let both = length-append (map (segment_end 0 x) x.ends) (ends_from 1 segments) in
    let own = length-map x.ends (segment_end 0 x) in
    omega (arith, rest, both, own, same_count 0 1 segments)

-- the first end of one segment more
pub firsts_more : (segments : List Segment) (firsts : List ℕ) (s next : ℕ) → length firsts ≡ s → next ≡ first_end segments s → ((k : ℕ) → k < s → get_or firsts k 0 ≡ first_end segments k)
    → (more : List ℕ) → more ≡ firsts ++ next ∷ [] → (k : ℕ) → k < s + 1 → get_or more k 0 ≡ first_end segments k
firsts_more segments firsts s next count is each more made k lt = elim (cases_lt k s) [
  | inl below ↦ ap (λ (l : List ℕ). get_or l k 0) made ∙ get_or_append_left firsts (next ∷ []) 0 k (omega (arith, below, count)) ∙ each k below
  | inr above ↦ (
      let here : k ≡ s = omega (arith, lt, above) in
      let none : ◌≡◌ {A = ℕ} (k - length firsts) 0 = omega (arith, here, count) in
      ap (λ (l : List ℕ). get_or l k 0) made ∙ get_or-append_right firsts (next ∷ []) (length firsts) k 0 refl (omega (arith, above, count))
      ∙ ap (λ (j : ℕ). get_or (next ∷ []) j 0) none ∙ is ∙ ap (first_end segments) (sym here))
]

-- the rows of one segment more
pub rows_more : (w : Wiring) (rows : List EndRow) (s : ℕ) (x : Segment) → s < length w.segments → x ≡ get_or w.segments s no_segment → length rows ≡ first_end w.segments s
    → ((k : ℕ) → k < length rows → IsRow w k (get_or rows k no_row)) → (more : List EndRow) → more ≡ rows ++ replicate (length x.ends) (record { segment = s; ends = length x.ends; kbps = x.kbps })
    → (k : ℕ) → k < length more → IsRow w k (get_or more k no_row)
rows_more w rows s x lt is count each more made k k_lt =
    let row : EndRow = record { segment = s; ends = length x.ends; kbps = x.kbps } in
    let long : length more ≡ length rows + length x.ends = ap length made ∙ length-append rows (replicate (length x.ends) row) ∙ ap (λ (n : ℕ). length rows + n) (length-replicate (length x.ends) row) in
    elim (cases_lt k (length rows)) [
      | inl below ↦ subst (λ (r : EndRow). IsRow w k r) (sym (ap (λ (l : List EndRow). get_or l k no_row) made ∙ get_or_append_left rows (replicate (length x.ends) row) no_row k below)) (each k below)
      | inr above ↦ (
          let at : get_or more k no_row ≡ row =
          ap (λ (l : List EndRow). get_or l k no_row) made ∙ get_or-append_right rows (replicate (length x.ends) row) (length rows) k no_row refl above
          ∙ get_or-replicate (length x.ends) (k - length rows) row no_row (omega (arith, k_lt, long, above)) in
          subst (λ (r : EndRow). IsRow w k r) (sym at) (record {
            segment = lt;
            ends = ap (λ (y : Segment). length y.ends) is;
            kbps = ap (λ (y : Segment). y.kbps) is;
            from = omega (arith, above, count);
            below = omega (arith, k_lt, long, count);
          }))
    ]
