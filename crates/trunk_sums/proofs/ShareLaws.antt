-- One change, and the sum of the uses.
use Rattle.std.proofs.Common.{◌≡◌, ◌≢◌, ◌<◌, ◌≤◌, ◌+◌, ◌-◌, ◌*◌, ◌∙◌, ◌∷◌, [], ℕ, zero, suc, true, List, length, take, get_or, All, refl, ap, sym, subst, arith}
use Rattle.std.proofs.Math.ListN.{set}
use Rattle.std.proofs.Math.Nat.{add-mul}
use Rattle.std.proofs.lemmas.List.{length-set, get_or-take, length-take-le}
use Rattle.std.proofs.lemmas.List.Elements.{All-take}
use Rattle.lab_base.specs.declared.ids.IfaceId.{IfaceId}
use Rattle.phys_lab.specs.Labs.{Lab}
use Rattle.virt_topo.specs.declared.wiring.Wiring.{Wiring}
use Rattle.virt_topo.specs.Ends.{end_nodes}
use Rattle.virt_topo.specs.Cables.{cable_use, plugs_on}
use Rattle.virt_topo.specs.Soundness.{keeps_limits}
use Rattle.virt_topo.proofs.CableLaws.{whole_bound}
use Rattle.trunk_sums.specs.declared.made.Change.{Change}
use Rattle.trunk_sums.specs.declared.sums.EndRow.{EndRow}
use Rattle.trunk_sums.specs.declared.sums.Sums.{Sums}
use Rattle.trunk_sums.specs.Counts.{lesser, share}
use Rattle.trunk_sums.specs.Crossed.{is_on, side_of}
use Rattle.trunk_sums.specs.Summed.{IsRow, IsSummed, own_plugs, first_end, no_segment, used}
use Rattle.trunk_sums.specs.Totals.{sum_below, used_of_all}
use Rattle.trunk_sums.specs.Remade.{remade, AreChanges}
use Rattle.trunk_sums.specs.Foreseen.{AreApart, AreUses}
use Rattle.trunk_sums.proofs.RemadeLaws.{remade_more}
use Rattle.trunk_sums.proofs.Replugged.{other_after, own_after, use_set}
use Rattle.trunk_sums.proofs.SumLaws.{sums_alike}
use Rattle.trunk_sums.proofs.SummedLaws.{is_in, moved_at, share_is}

-- ONE CHANGE
-- what it makes of the sum of the uses, where the plugs of its segment are those that are counted, and `add` and `take` tell by trunk what it does to the ends that count
pub change_is : (lab : Lab) (w : Wiring) (plugs others : List IfaceId) (end : ℕ) (row : EndRow) (to : IfaceId) (x : Sums) (add take : ℕ → ℕ)
    → IsSummed lab w plugs x → IsRow w end row → length plugs ≡ length (end_nodes w.segments)
    → length others ≡ length (end_nodes w.segments) → own_plugs w.segments others row.segment ≡ own_plugs w.segments plugs row.segment
    → ((t q : ℕ) → t < length lab.trunks
    → q + is_on (side_of lab t) (get_or plugs end (record { 0 = 0 })) ≡ get_or x.counts.items (64 * row.segment + t) 0 + is_on (side_of lab t) to
    → is_on (side_of lab t) (get_or plugs end (record { 0 = 0 })) ≤ get_or x.counts.items (64 * row.segment + t) 0
    → lesser row.ends q + take t ≡ lesser row.ends (get_or x.counts.items (64 * row.segment + t) 0) + add t)
    → used_of_all lab w (set others end to) + sum_below (length lab.trunks) (λ t. take t * row.kbps) ≡ used_of_all lab w others + sum_below (length lab.trunks) (λ t. add t * row.kbps)
change_is lab w plugs others end row to x add take summed of_row plugged count same weighs =
    let s = row.segment in
    let is = is_in w end row of_row in
    let own : own_plugs w.segments (set others end to) s ≡ own_plugs w.segments (set plugs end to) s =
    own_after w.segments others s end to is
    ∙ ap (λ (l : List IfaceId). set l (end - first_end w.segments s) to) same
    ∙ sym (own_after w.segments plugs s end to is) in
    let all : length (set others end to) ≡ length (end_nodes w.segments) = length-set others end to ∙ count in
    sums_alike (length lab.trunks) (used lab w (set others end to)) (λ t. take t * row.kbps) (used lab w others) (λ t. add t * row.kbps) (λ t lt.
    let side = side_of lab t in
    let f = get_or x.counts.items (64 * s + t) 0 in
    let q = plugs_on side (own_plugs w.segments (set plugs end to) s) in
    let k = moved_at side w plugs end row to of_row plugged in
    let counts = summed.counts s t of_row.segment lt in
    let weighed = weighs t q lt (let moved = k.moved in omega (arith, moved, counts)) (let one = k.one_of in omega (arith, one, counts)) in
    let kbps : (lesser row.ends q + take t) * row.kbps ≡ (lesser row.ends f + add t) * row.kbps = ap (λ (n : ℕ). n * row.kbps) weighed in
    let now = add-mul (lesser row.ends q) (take t) row.kbps in
    let before = add-mul (lesser row.ends f) (add t) row.kbps in
    let old : ◌≡◌ {A = ℕ} f (plugs_on side (own_plugs w.segments others s)) = counts ∙ ap (λ (l : List IfaceId). plugs_on side l) (sym same) in
    let new : ◌≡◌ {A = ℕ} q (plugs_on side (own_plugs w.segments (set others end to) s)) = ap (λ (l : List IfaceId). plugs_on side l) (sym own) in
    let h_old : ◌≡◌ {A = ℕ} (share row.ends f row.kbps) (cable_use side (record { segment = get_or w.segments s no_segment; plugs = own_plugs w.segments others s })) =
    ap (λ (n : ℕ). share row.ends n row.kbps) old ∙ share_is side w others end row of_row count in
    let h_new : ◌≡◌ {A = ℕ} (share row.ends q row.kbps) (cable_use side (record { segment = get_or w.segments s no_segment; plugs = own_plugs w.segments (set others end to) s })) =
    ap (λ (n : ℕ). share row.ends n row.kbps) new ∙ share_is side w (set others end to) end row of_row all in
    let its : ◌≡◌ {A = ℕ} (cable_use side (record { segment = get_or w.segments s no_segment; plugs = own_plugs w.segments (set others end to) s }))
    (cable_use side (record { segment = get_or w.segments s no_segment; plugs = set (own_plugs w.segments others s) (end - first_end w.segments s) to })) =
    ap (λ (l : List IfaceId). cable_use side (record { segment = get_or w.segments s no_segment; plugs = l })) (own_after w.segments others s end to is) in
    let whole = use_set side w.segments others s end to is in
    omega (arith, h_old, h_new, its, whole, kbps, now, before))

-- CHANGES OF OTHER SEGMENTS
-- they leave a segment its plugs
pub own_kept : (w : Wiring) (plugs : List IfaceId) (cs : List Change) (s : ℕ) → All (λ c. IsRow w c.end c.row) cs → All (λ c. c.row.segment ≢ s) cs
    → own_plugs w.segments (remade plugs cs) s ≡ own_plugs w.segments plugs s
own_kept w plugs [] s rows others = refl
own_kept w plugs (c ∷ cs) s rows others =
    own_kept w (set plugs c.end c.to) cs s (λ j d j_lt. rows (suc j) d (omega (arith, j_lt))) (λ j d j_lt. others (suc j) d (omega (arith, j_lt)))
    ∙ other_after w.segments plugs c.row.segment c.end s c.to (is_in w c.end c.row (rows 0 c (omega arith))) (λ e. others 0 c (omega arith) (sym e))

pub remade_length : (plugs : List IfaceId) (cs : List Change) → length (remade plugs cs) ≡ length plugs
remade_length plugs [] = refl
remade_length plugs (c ∷ cs) = remade_length (set plugs c.end c.to) cs ∙ length-set plugs c.end c.to

-- the changes before the one at k leave its segment its plugs
own_before : (lab : Lab) (w : Wiring) (plugs : List IfaceId) (cs : List Change) (k : ℕ) (d : Change) → k < length cs → AreChanges lab w cs → AreApart cs
    → own_plugs w.segments (remade plugs (take k cs)) (get_or cs k d).row.segment ≡ own_plugs w.segments plugs (get_or cs k d).row.segment
own_before lab w plugs cs k d here are apart =
    let c : Change = get_or cs k d in
    own_kept w plugs (take k cs) c.row.segment (All-take (λ (y : Change). IsRow w y.end y.row) k cs are.rows) (λ j e j_lt.
    let within : j < k = (let count = length-take-le k cs (omega (arith, here)) in omega (arith, j_lt, count)) in
    subst (λ (y : Change). y.row.segment ≢ c.row.segment) (sym (get_or-take k cs j e within)) (apart j k e d within here))

-- the sum of the uses after those before it
pub uses_before : (lab : Lab) (w : Wiring) (plugs : List IfaceId) (cs : List Change) (k : ℕ) (d : Change) (sum : ℕ) → k < length cs → length plugs ≡ length (end_nodes w.segments)
    → AreChanges lab w cs → AreApart cs → sum ≡ used_of_all lab w (remade plugs (take k cs)) → AreUses lab w plugs (get_or cs k d).row.segment sum
uses_before lab w plugs cs k d sum here plugged are apart is = record {
  others = remade plugs (take k cs);
  one_each = remade_length plugs (take k cs) ∙ plugged;
  own = own_before lab w plugs cs k d here are apart;
  uses = is;
}

-- and the sum with it
pub uses_after : (lab : Lab) (w : Wiring) (plugs : List IfaceId) (cs : List Change) (k : ℕ) (d : Change) (sum next : ℕ) → k < length cs → length plugs ≡ length (end_nodes w.segments)
    → AreChanges lab w cs → AreApart cs → sum ≡ used_of_all lab w (remade plugs (take k cs))
    → ((others : List IfaceId) → length others ≡ length (end_nodes w.segments) → own_plugs w.segments others (get_or cs k d).row.segment ≡ own_plugs w.segments plugs (get_or cs k d).row.segment
    → sum ≡ used_of_all lab w others → next ≡ used_of_all lab w (set others (get_or cs k d).end (get_or cs k d).to))
    → next ≡ used_of_all lab w (remade plugs (take (k + 1) cs))
uses_after lab w plugs cs k d sum next here plugged are apart is step =
    step (remade plugs (take k cs)) (remade_length plugs (take k cs) ∙ plugged) (own_before lab w plugs cs k d here are apart) is
    ∙ ap (λ (l : List IfaceId). used_of_all lab w l) (sym (remade_more plugs cs k d here))

-- all trunks use at most so much
sums_le : (n m : ℕ) (f : ℕ → ℕ) → ((t : ℕ) → t < n → f t ≤ 4096 * 1000000000) → n ≤ m → sum_below n f ≤ m * (4096 * 1000000000)
sums_le zero m f small le = omega arith
sums_le (suc n) zero f small le = absurd (omega (arith, le))
sums_le (suc n) (suc m) f small le =
    let rest = sums_le n m f (λ t lt. small t (omega (arith, lt))) (omega (arith, le)) in
    let last = small n (omega arith) in
    omega (arith, rest, last)

pub used_bound : (lab : Lab) (w : Wiring) (plugs : List IfaceId) → keeps_limits w ≡ true → length lab.trunks ≤ 64 → used_of_all lab w plugs ≤ 64 * (4096 * 1000000000)
used_bound lab w plugs limits few = sums_le (length lab.trunks) 64 (used lab w plugs) (λ t lt. whole_bound (side_of lab t) w plugs limits) few
