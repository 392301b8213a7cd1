-- One plug set anew: what changes of the cables, and of what is counted of them.
use Rattle.std.proofs.Common.{◌≡◌, ◌≢◌, ◌<◌, ◌≤◌, ◌+◌, ◌-◌, ◌*◌, ◌∙◌, ◌∷◌, [], ℕ, zero, suc, Bool, false, cond, List, length, take, drop, get_or, refl, ap, arith, length-drop, get_or-set_same, get_or-set_other}
use Rattle.std.proofs.Math.ListN.{set}
use Rattle.std.specs.List.{sum_by}
use Rattle.std.proofs.Math.Seq.{take-set-lt}
use Rattle.std.proofs.lemmas.List.{take-set-le, drop-set-lt, drop-set-add, get_or-take, get_or-drop, length-take-le}
use Rattle.std.proofs.lemmas.List.Sums.{sum_by-set, sum_by-cons, sum_by_more_le}
use Rattle.lab_base.specs.declared.ids.IfaceId.{IfaceId}
use Rattle.virt_topo.specs.declared.wiring.Segment.{Segment}
use Rattle.virt_topo.specs.Ends.{end_nodes}
use Rattle.virt_topo.proofs.EndLaws.{ends_from}
use Rattle.virt_topo.specs.Cables.{Cable, cables, cable_use, cut_use, plugs_on}
use Rattle.virt_topo.proofs.CableLaws.{length-cables}
use Rattle.trunk_sums.specs.Crossed.{is_on}
use Rattle.trunk_sums.specs.Summed.{no_segment, no_cable, own_plugs, first_end}

-- end `end` is of segment s
pub record IsIn (segments : List Segment) (s end : ℕ) : Type 0 where
  pub segment : s < length segments
  pub from : first_end segments s ≤ end
  pub below : end < first_end segments s + length (get_or segments s no_segment).ends

-- the cable of a segment, with one plug set anew
abbrev pub replugged : List Segment → List IfaceId → ℕ → ℕ → IfaceId → Cable
replugged segments plugs s end i =
    record { segment = get_or segments s no_segment; plugs = set (own_plugs segments plugs s) (end - first_end segments s) i }

later_set : (m end : ℕ) (plugs : List IfaceId) (i : IfaceId) → m ≤ end → drop m (set plugs end i) ≡ set (drop m plugs) (end - m) i
later_set m end plugs i le =
    let split : end ≡ m + (end - m) = omega (arith, le) in
    ap (λ (k : ℕ). drop m (set plugs k i)) split ∙ drop-set-add m plugs (end - m) i

-- THE CABLES AFTER A PLUG IS SET ANEW: one cable is another
pub cables_set : (segments : List Segment) (plugs : List IfaceId) (s end : ℕ) (i : IfaceId) → IsIn segments s end
    → cables segments (set plugs end i) ≡ set (cables segments plugs) s (replugged segments plugs s end i)
cables_set [] plugs s end i is = absurd (let lt = is.segment in omega (arith, lt))
cables_set (x ∷ segments) plugs zero end i is =
    let m = length x.ends in
    let lt : end < m = (let below = is.below in omega (arith, below)) in
    let front : take m (set plugs end i) ≡ set (take m plugs) end i = take-set-lt m plugs end i lt in
    let back : drop m (set plugs end i) ≡ drop m plugs = drop-set-lt m plugs end i lt in
    let here : ◌≡◌ {A = ℕ} end (end - 0) = omega arith in
    (λ j. record { segment = x; plugs = front j } ∷ cables segments (back j))
    ∙ ap (λ (k : ℕ). record { segment = x; plugs = set (take m plugs) k i } ∷ cables segments (drop m plugs)) here
cables_set (x ∷ segments) plugs (suc s) end i is =
    let m = length x.ends in
    let segment = is.segment in
    let from = is.from in
    let below = is.below in
    let le : m ≤ end = omega (arith, from) in
    let front : take m (set plugs end i) ≡ take m plugs = take-set-le m plugs end i le in
    let back : drop m (set plugs end i) ≡ set (drop m plugs) (end - m) i = later_set m end plugs i le in
    let rest = cables_set segments (drop m plugs) s (end - m) i (record { segment = omega (arith, segment); from = omega (arith, from); below = omega (arith, from, below) }) in
    let same : (end - m) - first_end segments s ≡ end - (m + first_end segments s) = omega arith in
    (λ j. record { segment = x; plugs = front j } ∷ cables segments (back j))
    ∙ ap (λ (l : List Cable). record { segment = x; plugs = take m plugs } ∷ l)
    (rest ∙ ap (λ (k : ℕ). set (cables segments (drop m plugs)) s (record { segment = get_or segments s no_segment; plugs = set (own_plugs segments (drop m plugs) s) k i })) same)

-- the cable of a segment is that segment with its plugs
pub cable_is : (segments : List Segment) (plugs : List IfaceId) (s : ℕ) → s < length segments
    → get_or (cables segments plugs) s no_cable ≡ record { segment = get_or segments s no_segment; plugs = own_plugs segments plugs s }
cable_is [] plugs s lt = absurd (omega (arith, lt))
cable_is (x ∷ segments) plugs zero lt = refl
cable_is (x ∷ segments) plugs (suc s) lt = cable_is segments (drop (length x.ends) plugs) s (omega (arith, lt))

-- what all cables use, before and after
pub use_set : (side : List Bool) (segments : List Segment) (plugs : List IfaceId) (s end : ℕ) (i : IfaceId) → IsIn segments s end
    → cut_use side (cables segments (set plugs end i)) + cable_use side (record { segment = get_or segments s no_segment; plugs = own_plugs segments plugs s })
    ≡ cut_use side (cables segments plugs) + cable_use side (replugged segments plugs s end i)
use_set side segments plugs s end i is =
    let lt : s < length (cables segments plugs) = (let at = is.segment in omega (arith, at, length-cables segments plugs)) in
    let sums = sum_by-set (cable_use side) (cables segments plugs) s (replugged segments plugs s end i) no_cable lt in
    let whole : cut_use side (cables segments (set plugs end i)) ≡ cut_use side (set (cables segments plugs) s (replugged segments plugs s end i)) = ap (λ (l : List Cable). cut_use side l) (cables_set segments plugs s end i is) in
    let own : cable_use side (get_or (cables segments plugs) s no_cable) ≡ cable_use side (record { segment = get_or segments s no_segment; plugs = own_plugs segments plugs s }) = ap (λ (c : Cable). cable_use side c) (cable_is segments plugs s is.segment) in
    omega (arith, sums, whole, own)

-- how many plugs are on a side, before and after
pub on_set : (side : List Bool) (plugs : List IfaceId) (k : ℕ) (i d : IfaceId) → k < length plugs → plugs_on side (set plugs k i) + is_on side (get_or plugs k d) ≡ plugs_on side plugs + is_on side i
on_set side plugs k i d lt = sum_by-set (λ (x : IfaceId). cond (get_or side x.0 false) 1 0) plugs k i d lt

-- the plugs of the segment after a plug is set anew, and those of another one
pub own_after : (segments : List Segment) (plugs : List IfaceId) (s end : ℕ) (i : IfaceId) → IsIn segments s end
    → own_plugs segments (set plugs end i) s ≡ set (own_plugs segments plugs s) (end - first_end segments s) i
own_after segments plugs s end i is =
    let lt : s < length (cables segments plugs) = (let at = is.segment in omega (arith, at, length-cables segments plugs)) in
    ap (λ (l : List Cable). (get_or l s no_cable).plugs) (cables_set segments plugs s end i is)
    ∙ ap (λ (c : Cable). c.plugs) (get_or-set_same (cables segments plugs) s (replugged segments plugs s end i) no_cable lt)

pub other_after : (segments : List Segment) (plugs : List IfaceId) (s end r : ℕ) (i : IfaceId) → IsIn segments s end → r ≢ s
    → own_plugs segments (set plugs end i) r ≡ own_plugs segments plugs r
other_after segments plugs s end r i is ne =
    ap (λ (l : List Cable). (get_or l r no_cable).plugs) (cables_set segments plugs s end i is)
    ∙ ap (λ (c : Cable). c.plugs) (get_or-set_other (cables segments plugs) s r (replugged segments plugs s end i) no_cable ne)

-- a segment has a plug for each end
pub own_length : (segments : List Segment) (plugs : List IfaceId) (s : ℕ) → s < length segments → length plugs ≡ length (end_nodes segments)
    → length (own_plugs segments plugs s) ≡ length (get_or segments s no_segment).ends
own_length [] plugs s lt all = absurd (omega (arith, lt))
own_length (x ∷ segments) plugs zero lt all =
    let ends = ends_from (x ∷ segments) 0 x (omega arith) refl in
    length-take-le (length x.ends) plugs (omega (arith, ends, all))
own_length (x ∷ segments) plugs (suc s) lt all =
    let ends = ends_from (x ∷ segments) 0 x (omega arith) refl in
    let later = length-drop (length x.ends) plugs in
    own_length segments (drop (length x.ends) plugs) s (omega (arith, lt)) (omega (arith, ends, all, later))

-- the plug of the end is the one of that place in its segment
pub own_at : (segments : List Segment) (plugs : List IfaceId) (s end : ℕ) (d : IfaceId) → IsIn segments s end
    → get_or (own_plugs segments plugs s) (end - first_end segments s) d ≡ get_or plugs end d
own_at [] plugs s end d is = absurd (let lt = is.segment in omega (arith, lt))
own_at (x ∷ segments) plugs zero end d is =
    let below = is.below in
    let here : ◌≡◌ {A = ℕ} (end - 0) end = omega arith in
    get_or-take (length x.ends) plugs (end - 0) d (omega (arith, below)) ∙ ap (λ (k : ℕ). get_or plugs k d) here
own_at (x ∷ segments) plugs (suc s) end d is =
    let m = length x.ends in
    let segment = is.segment in
    let from = is.from in
    let below = is.below in
    let rest = own_at segments (drop m plugs) s (end - m) d (record { segment = omega (arith, segment); from = omega (arith, from); below = omega (arith, from, below) }) in
    let same : end - (m + first_end segments s) ≡ (end - m) - first_end segments s = omega arith in
    let whole : m + (end - m) ≡ end = omega (arith, from) in
    ap (λ (k : ℕ). get_or (own_plugs segments (drop m plugs) s) k d) same ∙ rest ∙ get_or-drop m plugs (end - m) d ∙ ap (λ (k : ℕ). get_or plugs k d) whole

pub in_ends : (segments : List Segment) (s end : ℕ) → IsIn segments s end → end < length (end_nodes segments)
in_ends [] s end is = absurd (let lt = is.segment in omega (arith, lt))
in_ends (x ∷ segments) zero end is =
    let below = is.below in
    let ends = ends_from (x ∷ segments) 0 x (omega arith) refl in
    omega (arith, below, ends)
in_ends (x ∷ segments) (suc s) end is =
    let segment = is.segment in
    let from = is.from in
    let below = is.below in
    let ends = ends_from (x ∷ segments) 0 x (omega arith) refl in
    let rest = in_ends segments s (end - length x.ends) (record { segment = omega (arith, segment); from = omega (arith, from); below = omega (arith, from, below) }) in
    omega (arith, ends, rest, from)

-- one segment uses at most what all use
pub own_use_le : (side : List Bool) (segments : List Segment) (plugs : List IfaceId) (s : ℕ) → s < length segments
    → cable_use side (record { segment = get_or segments s no_segment; plugs = own_plugs segments plugs s }) ≤ cut_use side (cables segments plugs)
own_use_le side segments plugs s lt =
    let at : s < length (cables segments plugs) = omega (arith, lt, length-cables segments plugs) in
    let part = sum_by_more_le (cable_use side) (cables segments plugs) s no_cable at in
    let own : cable_use side (get_or (cables segments plugs) s no_cable) ≡ cable_use side (record { segment = get_or segments s no_segment; plugs = own_plugs segments plugs s }) = ap (λ (c : Cable). cable_use side c) (cable_is segments plugs s lt) in
    omega (arith, part, own)

-- a plug on the side is one of those on the side
pub on_le : (side : List Bool) (plugs : List IfaceId) (k : ℕ) (d : IfaceId) → k < length plugs → is_on side (get_or plugs k d) ≤ plugs_on side plugs
on_le side plugs k d lt =
    let part = sum_by_more_le (λ (x : IfaceId). cond (get_or side x.0 false) 1 0) plugs k d lt in
    omega (arith, part)

-- a sum of numbers that are at most 4,096,000,000,000
pub sum_le : (xs : List ℕ) → ((t : ℕ) → t < length xs → get_or xs t 0 ≤ 4096 * 1000000000) → sum_by (λ (u : ℕ). u) xs ≤ length xs * (4096 * 1000000000)
sum_le [] small = omega arith
sum_le (x ∷ xs) small =
    let rest = sum_le xs (λ t lt. small (suc t) (omega (arith, lt))) in
    let first = small 0 (omega arith) in
    let sum = sum_by-cons (λ (u : ℕ). u) x xs in
    omega (arith, rest, first, sum)
