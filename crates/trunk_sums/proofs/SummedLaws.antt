-- Running sums after one end went to another plug.
use Rattle.std.proofs.Common.{◌≡◌, ◌≢◌, ◌<◌, ◌≤◌, ◌+◌, ◌-◌, ◌*◌, ◌⊎◌, ◌∙◌, [], inl, inr, ℕ, Bool, true, false, List, length, get_or, refl, ap, sym, subst, arith}
use Rattle.std.proofs.Math.ListN.{set}
use Rattle.std.specs.List.{sum_by}
use Rattle.std.proofs.lemmas.Bool.{cases_eq, cases_lt}
use Rattle.std.proofs.lemmas.List.{length-set}
use Rattle.std.proofs.lemmas.List.Sums.{count_by-le-length}
use Rattle.lab_base.specs.declared.ids.IfaceId.{IfaceId}
use Rattle.phys_lab.specs.Labs.{Lab}
use Rattle.virt_topo.specs.declared.wiring.Wiring.{Wiring}
use Rattle.virt_topo.specs.Ends.{end_nodes}
use Rattle.virt_topo.specs.Soundness.{keeps_limits}
use Rattle.virt_topo.specs.Cables.{cable_use, plugs_on}
use Rattle.virt_topo.proofs.CableLaws.{whole_bound}
use Rattle.trunk_sums.specs.declared.crossing.Crossing.{Crossing}
use Rattle.trunk_sums.specs.declared.sums.Sums.{Sums}
use Rattle.trunk_sums.specs.declared.sums.EndRow.{EndRow}
use Rattle.trunk_sums.specs.declared.gains.Gains.{Gains}
use Rattle.trunk_sums.specs.Counts.{share}
use Rattle.trunk_sums.specs.Crossed.{AreCrossed, side_of, is_on, ups, downs}
use Rattle.trunk_sums.specs.Gains.{IsGain, no_gains}
use Rattle.trunk_sums.specs.Summed.{IsRow, IsSummed, own_plugs, first_end, no_segment, used}
use Rattle.trunk_sums.proofs.Replugged.{IsIn, own_after, other_after, own_length, own_at, own_use_le, on_set, on_le, use_set}

-- an end that goes to another plug, with what is summed before
pub record Going (lab : Lab) (w : Wiring) (plugs : List IfaceId) (end : ℕ) (row : EndRow) (to : IfaceId) (cs : List Crossing) (x : Sums) : Type 0 where
  pub limits : keeps_limits w ≡ true
  pub plugged : length plugs ≡ length (end_nodes w.segments)
  pub of_row : IsRow w end row
  pub crossed : AreCrossed lab (get_or plugs end (record { 0 = 0 })) to cs
  pub summed : IsSummed lab w plugs x

pub is_in : (w : Wiring) (end : ℕ) (row : EndRow) → IsRow w end row → IsIn w.segments row.segment end
is_in w end row is = record {
  segment = is.segment;
  from = is.from;
  below = (let below = is.below in let ends = is.ends in omega (arith, below, ends));
}

-- by trunk whether an interface is on the first side
abbrev pub AreOn : Lab → IfaceId → (ℕ → ℕ) → Type 0
AreOn lab i on = (t : ℕ) → t < length lab.trunks → on t ≡ is_on (side_of lab t) i

-- what is known of a side of one trunk: m ends, p plugs on it before and q after, f and o whether the plug is on it before and after
pub record Moved (m p q f o : ℕ) : Type 0 where
  pub moved : q + f ≡ p + o
  pub one_of : f ≤ p
  pub before : p ≤ m
  pub after : q ≤ m

pub moved_at : (side : List Bool) (w : Wiring) (plugs : List IfaceId) (end : ℕ) (row : EndRow) (to : IfaceId) → IsRow w end row → length plugs ≡ length (end_nodes w.segments)
    → Moved row.ends (plugs_on side (own_plugs w.segments plugs row.segment)) (plugs_on side (own_plugs w.segments (set plugs end to) row.segment))
    (is_on side (get_or plugs end (record { 0 = 0 }))) (is_on side to)
moved_at side w plugs end row to of_row plugged =
    let s = row.segment in
    let is = is_in w end row of_row in
    let own = own_plugs w.segments plugs s in
    let j = end - first_end w.segments s in
    let count : length own ≡ row.ends = own_length w.segments plugs s of_row.segment plugged ∙ sym of_row.ends in
    let below = of_row.below in
    let from = of_row.from in
    let within : j < length own = omega (arith, count, below, from) in
    let at : ◌≡◌ {A = ℕ} (is_on side (get_or own j (record { 0 = 0 }))) (is_on side (get_or plugs end (record { 0 = 0 }))) = ap (λ (i : IfaceId). is_on side i) (own_at w.segments plugs s end (record { 0 = 0 }) is) in
    let new : ◌≡◌ {A = ℕ} (plugs_on side (own_plugs w.segments (set plugs end to) s)) (plugs_on side (set own j to)) = ap (λ (l : List IfaceId). plugs_on side l) (own_after w.segments plugs s end to is) in
    let moved = on_set side own j to (record { 0 = 0 }) within in
    let one = on_le side own j (record { 0 = 0 }) within in
    let few = count_by-le-length (λ (i : IfaceId). get_or side i.0 false) own in
    let few_new = count_by-le-length (λ (i : IfaceId). get_or side i.0 false) (set own j to) in
    let same = length-set own j to in
    record {
      moved = omega (arith, at, new, moved);
      one_of = omega (arith, at, one);
      before = omega (arith, few, count);
      after = omega (arith, few_new, count, same, new);
    }

-- what is known of one trunk, of which the plug crosses u onto the side and d off it
pub record Trunk (m p q f o u d : ℕ) : Type 0 where
  pub moved : q + f ≡ p + o
  pub crossed : f + u ≡ o + d
  pub gone : d ≤ f
  pub come : u + f ≤ 1
  pub one_of : f ≤ p
  pub before : p ≤ m
  pub after : q ≤ m

pub trunk_at : (lab : Lab) (w : Wiring) (plugs : List IfaceId) (end : ℕ) (row : EndRow) (to : IfaceId) (cs : List Crossing) (x : Sums) (t : ℕ)
    → Going lab w plugs end row to cs x → t < length lab.trunks
    → Trunk row.ends (plugs_on (side_of lab t) (own_plugs w.segments plugs row.segment)) (plugs_on (side_of lab t) (own_plugs w.segments (set plugs end to) row.segment))
    (is_on (side_of lab t) (get_or plugs end (record { 0 = 0 }))) (is_on (side_of lab t) to) (ups t cs) (downs t cs)
trunk_at lab w plugs end row to cs x t g lt =
    let its = moved_at (side_of lab t) w plugs end row to g.of_row g.plugged in
    record {
      moved = its.moved;
      crossed = g.crossed.each t lt;
      gone = g.crossed.gone t lt;
      come = g.crossed.come t lt;
      one_of = its.one_of;
      before = its.before;
      after = its.after;
    }

-- the share of the segment is the use of its cable
pub share_is : (side : List Bool) (w : Wiring) (plugs : List IfaceId) (end : ℕ) (row : EndRow) → IsRow w end row → length plugs ≡ length (end_nodes w.segments)
    → share row.ends (plugs_on side (own_plugs w.segments plugs row.segment)) row.kbps
    ≡ cable_use side (record { segment = get_or w.segments row.segment no_segment; plugs = own_plugs w.segments plugs row.segment })
share_is side w plugs end row is all =
    let own = own_plugs w.segments plugs row.segment in
    let count : row.ends ≡ length own = is.ends ∙ sym (own_length w.segments plugs row.segment is.segment all) in
    let speed = is.kbps in
    λ i. share (count i) (plugs_on side own) (speed i)

pub counted_at : (lab : Lab) (w : Wiring) (plugs : List IfaceId) (end : ℕ) (row : EndRow) (x : Sums) (t : ℕ) → IsRow w end row → length plugs ≡ length (end_nodes w.segments)
    → IsSummed lab w plugs x → t < length lab.trunks → share row.ends (get_or x.counts.items (64 * row.segment + t) 0) row.kbps ≤ get_or x.uses.items t 0
counted_at lab w plugs end row x t is all summed lt =
    let side = side_of lab t in
    let counts : ◌≡◌ {A = ℕ} (share row.ends (get_or x.counts.items (64 * row.segment + t) 0) row.kbps) (share row.ends (plugs_on side (own_plugs w.segments plugs row.segment)) row.kbps) =
    ap (λ (n : ℕ). share row.ends n row.kbps) (summed.counts row.segment t is.segment lt) in
    let own = share_is side w plugs end row is all in
    let part = own_use_le side w.segments plugs row.segment is.segment in
    let its_use = summed.uses t lt in
    omega (arith, counts, own, part, its_use)

pub small_at : (lab : Lab) (w : Wiring) (plugs : List IfaceId) (x : Sums) (t : ℕ) → keeps_limits w ≡ true → IsSummed lab w plugs x → t < length lab.trunks
    → get_or x.uses.items t 0 ≤ 4096 * 1000000000
small_at lab w plugs x t limits summed lt =
    let its_use = summed.uses t lt in
    let bound = whole_bound (side_of lab t) w plugs limits in
    omega (arith, its_use, bound)

-- what `cross` leaves
pub record Crossed (row : EndRow) (trunks : ℕ) (cs : List Crossing) (x y : Sums) : Type 0 where
  pub room : length y.counts.items ≡ length x.counts.items
  pub one_each : length y.uses.items ≡ length x.uses.items
  pub counts : (t : ℕ) → t < trunks → get_or y.counts.items (64 * row.segment + t) 0 + downs t cs ≡ get_or x.counts.items (64 * row.segment + t) 0 + ups t cs
  pub others : (k : ℕ) → (k < 64 * row.segment) ⊎ (64 * row.segment + 64 ≤ k) → get_or y.counts.items k 0 ≡ get_or x.counts.items k 0
  pub uses : (t : ℕ) → t < trunks → get_or y.uses.items t 0 + share row.ends (get_or x.counts.items (64 * row.segment + t) 0) row.kbps ≡ get_or x.uses.items t 0 + share row.ends (get_or y.counts.items (64 * row.segment + t) 0) row.kbps
  pub summed : y.total ≡ sum_by (λ (u : ℕ). u) y.uses.items
  pub gains : y.gains.items ≡ x.gains.items

-- what marking leaves, where f and o tell by trunk whether the plug is on the first side before and after
pub record Marked (row : EndRow) (cs : List Crossing) (f o : ℕ → ℕ) (x y : Sums) : Type 0 where
  pub counts : y.counts.items ≡ x.counts.items
  pub uses : y.uses.items ≡ x.uses.items
  pub total : y.total ≡ x.total
  pub one_each : length y.gains.items ≡ length x.gains.items
  pub others : (s : ℕ) → s ≢ row.segment → get_or y.gains.items s no_gains ≡ get_or x.gains.items s no_gains
  pub own : (k t : ℕ) → t < 64 → IsGain row.ends k t (get_or x.gains.items row.segment no_gains) → k ≤ row.ends → get_or x.counts.items (64 * row.segment + t) 0 ≤ row.ends
      → f t ≤ k → get_or x.counts.items (64 * row.segment + t) 0 + f t ≡ k + o t
      → (get_or x.counts.items (64 * row.segment + t) 0 ≡ k) ⊎ (0 < ups t cs + downs t cs)
      → IsGain row.ends (get_or x.counts.items (64 * row.segment + t) 0) t (get_or y.gains.items row.segment no_gains)

-- the count of the segment is what counting anew gives
pub count_after : (lab : Lab) (w : Wiring) (plugs : List IfaceId) (end : ℕ) (row : EndRow) (to : IfaceId) (cs : List Crossing) (x y : Sums) (t : ℕ)
    → Going lab w plugs end row to cs x → Crossed row (length lab.trunks) cs x y → t < length lab.trunks
    → get_or y.counts.items (64 * row.segment + t) 0 ≡ plugs_on (side_of lab t) (own_plugs w.segments (set plugs end to) row.segment)
count_after lab w plugs end row to cs x y t g after lt =
    let k = trunk_at lab w plugs end row to cs x t g lt in
    let before = g.summed.counts row.segment t g.of_row.segment lt in
    let moved = k.moved in
    let crossed = k.crossed in
    let now = after.counts t lt in
    omega (arith, before, moved, crossed, now)

use_after : (lab : Lab) (w : Wiring) (plugs : List IfaceId) (end : ℕ) (row : EndRow) (to : IfaceId) (cs : List Crossing) (x y : Sums) (t : ℕ)
    → Going lab w plugs end row to cs x → Crossed row (length lab.trunks) cs x y → t < length lab.trunks
    → get_or y.uses.items t 0 ≡ used lab w (set plugs end to) t
use_after lab w plugs end row to cs x y t g after lt =
    let side = side_of lab t in
    let s = row.segment in
    let new = set plugs end to in
    let is = is_in w end row g.of_row in
    let all : length new ≡ length (end_nodes w.segments) = length-set plugs end to ∙ g.plugged in
    let old_count : ◌≡◌ {A = ℕ} (share row.ends (get_or x.counts.items (64 * s + t) 0) row.kbps) (share row.ends (plugs_on side (own_plugs w.segments plugs s)) row.kbps) =
    ap (λ (n : ℕ). share row.ends n row.kbps) (g.summed.counts s t g.of_row.segment lt) in
    let new_count : ◌≡◌ {A = ℕ} (share row.ends (get_or y.counts.items (64 * s + t) 0) row.kbps) (share row.ends (plugs_on side (own_plugs w.segments new s)) row.kbps) =
    ap (λ (n : ℕ). share row.ends n row.kbps) (count_after lab w plugs end row to cs x y t g after lt) in
    let old_share = share_is side w plugs end row g.of_row g.plugged in
    let new_share = share_is side w new end row g.of_row all in
    let own : ◌≡◌ {A = ℕ} (cable_use side (record { segment = get_or w.segments s no_segment; plugs = own_plugs w.segments new s }))
    (cable_use side (record { segment = get_or w.segments s no_segment; plugs = set (own_plugs w.segments plugs s) (end - first_end w.segments s) to })) =
    ap (λ (l : List IfaceId). cable_use side (record { segment = get_or w.segments s no_segment; plugs = l })) (own_after w.segments plugs s end to is) in
    let whole = use_set side w.segments plugs s end to is in
    let before = g.summed.uses t lt in
    let now = after.uses t lt in
    omega (arith, old_count, new_count, old_share, new_share, own, whole, before, now)

-- the counts of another segment are where no plug crossed
other_counts : (row : EndRow) (trunks : ℕ) (cs : List Crossing) (x y : Sums) (r t : ℕ) → Crossed row trunks cs x y → trunks ≤ 64 → t < trunks → r ≢ row.segment
    → get_or y.counts.items (64 * r + t) 0 ≡ get_or x.counts.items (64 * r + t) 0
other_counts row trunks cs x y r t after few lt apart = after.others (64 * r + t) (elim (cases_lt r row.segment) [
  | inl low ↦ inl (omega (arith, low, lt, few))
  | inr high ↦ inr (omega (arith, high, apart))
])

-- what a plug more or less of the segment does, as is marked
gain_after : (lab : Lab) (w : Wiring) (plugs : List IfaceId) (end : ℕ) (row : EndRow) (to : IfaceId) (cs : List Crossing) (f o : ℕ → ℕ) (x y z : Sums) (t : ℕ)
    → Going lab w plugs end row to cs x → AreOn lab (get_or plugs end (record { 0 = 0 })) f → AreOn lab to o → Crossed row (length lab.trunks) cs x y → Marked row cs f o y z
    → length lab.trunks ≤ 64 → t < length lab.trunks
    → IsGain row.ends (get_or y.counts.items (64 * row.segment + t) 0) t (get_or z.gains.items row.segment no_gains)
gain_after lab w plugs end row to cs f o x y z t g from_is to_is after marked few lt =
    let s = row.segment in
    let k = get_or x.counts.items (64 * s + t) 0 in
    let now = get_or y.counts.items (64 * s + t) 0 in
    let its = trunk_at lab w plugs end row to cs x t g lt in
    let was = g.summed.counts s t g.of_row.segment lt in
    let counted = after.counts t lt in
    let from = from_is t lt in
    let there = to_is t lt in
    let moved = its.moved in
    let crossed = its.crossed in
    let one = its.one_of in
    let before = its.before in
    let behind = its.after in
    let gain : IsGain row.ends k t (get_or y.gains.items s no_gains) =
    subst (λ (l : List Gains). IsGain row.ends k t (get_or l s no_gains)) (sym after.gains)
    (subst (λ (m : ℕ). IsGain m k t (get_or x.gains.items s no_gains)) (sym g.of_row.ends) (g.summed.gains s t g.of_row.segment lt)) in
    marked.own k t (omega (arith, lt, few)) gain (omega (arith, was, before)) (omega (arith, was, counted, moved, crossed, behind)) (omega (arith, from, was, one)) (omega (arith, from, there, counted, crossed))
    (elim (cases_lt 0 (ups t cs + downs t cs)) [
      | inl some ↦ inr some
      | inr none ↦ inl (omega (arith, counted, none))
    ])

-- THE SUMS ARE AGAIN WHAT COUNTING ANEW GIVES
counts_after : (lab : Lab) (w : Wiring) (plugs : List IfaceId) (end : ℕ) (row : EndRow) (to : IfaceId) (cs : List Crossing) (x y : Sums) (r t : ℕ)
    → Going lab w plugs end row to cs x → Crossed row (length lab.trunks) cs x y → length lab.trunks ≤ 64 → r < length w.segments → t < length lab.trunks
    → get_or y.counts.items (64 * r + t) 0 ≡ plugs_on (side_of lab t) (own_plugs w.segments (set plugs end to) r)
counts_after lab w plugs end row to cs x y r t g after few r_lt lt =
    let s = row.segment in
    let new = set plugs end to in
    elim (cases_eq r s) [
      | inl same ↦ subst (λ (k : ℕ). get_or y.counts.items (64 * k + t) 0 ≡ plugs_on (side_of lab t) (own_plugs w.segments new k)) (sym same) (count_after lab w plugs end row to cs x y t g after lt)
      | inr apart ↦
          other_counts row (length lab.trunks) cs x y r t after few lt apart ∙ g.summed.counts r t r_lt lt
          ∙ sym (ap (λ (l : List IfaceId). plugs_on (side_of lab t) l) (other_after w.segments plugs s end r to (is_in w end row g.of_row) apart))
    ]

gains_after : (lab : Lab) (w : Wiring) (plugs : List IfaceId) (end : ℕ) (row : EndRow) (to : IfaceId) (cs : List Crossing) (f o : ℕ → ℕ) (x y z : Sums) (r t : ℕ)
    → Going lab w plugs end row to cs x → AreOn lab (get_or plugs end (record { 0 = 0 })) f → AreOn lab to o → Crossed row (length lab.trunks) cs x y → Marked row cs f o y z
    → length lab.trunks ≤ 64 → r < length w.segments → t < length lab.trunks
    → IsGain (length (get_or w.segments r no_segment).ends) (get_or y.counts.items (64 * r + t) 0) t (get_or z.gains.items r no_gains)
gains_after lab w plugs end row to cs f o x y z r t g from_is to_is after marked few r_lt lt =
    let s = row.segment in
    elim (cases_eq r s) [
      | inl same ↦
          subst (λ (k : ℕ). IsGain (length (get_or w.segments k no_segment).ends) (get_or y.counts.items (64 * k + t) 0) t (get_or z.gains.items k no_gains)) (sym same)
          (subst (λ (m : ℕ). IsGain m (get_or y.counts.items (64 * s + t) 0) t (get_or z.gains.items s no_gains)) g.of_row.ends
          (gain_after lab w plugs end row to cs f o x y z t g from_is to_is after marked few lt))
      | inr apart ↦ (
          let m = length (get_or w.segments r no_segment).ends in
          let its : get_or z.gains.items r no_gains ≡ get_or x.gains.items r no_gains = marked.others r apart ∙ ap (λ (l : List Gains). get_or l r no_gains) after.gains in
          let count = other_counts row (length lab.trunks) cs x y r t after few lt apart in
          subst (λ (v : Gains). IsGain m (get_or y.counts.items (64 * r + t) 0) t v) (sym its)
          (subst (λ (k : ℕ). IsGain m k t (get_or x.gains.items r no_gains)) (sym count) (g.summed.gains r t r_lt lt)))
    ]

pub summed_after : (lab : Lab) (w : Wiring) (plugs : List IfaceId) (end : ℕ) (row : EndRow) (to : IfaceId) (cs : List Crossing) (f o : ℕ → ℕ) (x y z : Sums)
    → Going lab w plugs end row to cs x → AreOn lab (get_or plugs end (record { 0 = 0 })) f → AreOn lab to o → Crossed row (length lab.trunks) cs x y → Marked row cs f o y z
    → length lab.trunks ≤ 64 → IsSummed lab w (set plugs end to) z
summed_after lab w plugs end row to cs f o x y z g from_is to_is after marked few =
    let new = set plugs end to in
    record {
      room = ap (λ (l : List ℕ). length l) marked.counts ∙ after.room ∙ g.summed.room;
      one_each = ap (λ (l : List ℕ). length l) marked.uses ∙ after.one_each ∙ g.summed.one_each;
      counts = λ r t r_lt lt. ap (λ (l : List ℕ). get_or l (64 * r + t) 0) marked.counts ∙ counts_after lab w plugs end row to cs x y r t g after few r_lt lt;
      uses = λ t lt. ap (λ (l : List ℕ). get_or l t 0) marked.uses ∙ use_after lab w plugs end row to cs x y t g after lt;
      total = marked.total ∙ after.summed ∙ ap (λ (l : List ℕ). sum_by (λ (u : ℕ). u) l) (sym marked.uses);
      gained = marked.one_each ∙ ap (λ (l : List Gains). length l) after.gains ∙ g.summed.gained;
      gains = λ r t r_lt lt. subst (λ (l : List ℕ). IsGain (length (get_or w.segments r no_segment).ends) (get_or l (64 * r + t) 0) t (get_or z.gains.items r no_gains)) (sym marked.counts)
          (gains_after lab w plugs end row to cs f o x y z r t g from_is to_is after marked few r_lt lt);
    }

-- a plug that crosses no trunk leaves them
pub summed_stays : (lab : Lab) (w : Wiring) (plugs : List IfaceId) (end : ℕ) (row : EndRow) (to : IfaceId) (x : Sums)
    → Going lab w plugs end row to [] x → length lab.trunks ≤ 64 → IsSummed lab w (set plugs end to) x
summed_stays lab w plugs end row to x g few =
    let f : ℕ → ℕ = λ t. is_on (side_of lab t) (get_or plugs end (record { 0 = 0 })) in
    let o : ℕ → ℕ = λ t. is_on (side_of lab t) to in
    let crossed : Crossed row (length lab.trunks) [] x x = record {
      room = refl;
      one_each = refl;
      counts = λ t lt. refl;
      others = λ k far. refl;
      uses = λ t lt. refl;
      summed = g.summed.total;
      gains = refl;
    } in
    let marked : Marked row [] f o x x = record {
      counts = refl;
      uses = refl;
      total = refl;
      one_each = refl;
      others = λ s apart. refl;
      own = λ k t lt known k_le on_le from_le moved some. elim some [
        | inl same ↦ subst (λ (n : ℕ). IsGain row.ends n t (get_or x.gains.items row.segment no_gains)) (sym same) known
        | inr none ↦ absurd (omega (arith, none))
      ];
    } in
    summed_after lab w plugs end row to [] f o x x x g (λ t lt. refl) (λ t lt. refl) crossed marked few
