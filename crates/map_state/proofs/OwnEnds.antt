-- The ends of a virtual node: no two are of one segment.
use Rattle.std.proofs.Common.{◌≡◌, ◌≢◌, ◌<◌, ◌≤◌, ◌+◌, ◌-◌, ◌∙◌, ◌∷◌, ◌++◌, ◌==◌, ◌||◌, [], ℕ, zero, suc, Bool, true, false, cond, not, Option, Some, None, if◌then◌else◌, List, length, map, get_or, filter, All, refl, ap, sym, subst, arith}
use Rattle.std.specs.List.{list_any}
use Rattle.std.proofs.Math.Bool.{or-true}
use Rattle.std.proofs.lemmas.Bool.{or_parts, eq-eqb, eqb-true, true≢false}
use Rattle.std.proofs.lemmas.List.{length-map, get_or-map, get_or_append_left, get_or-append_right}
use Rattle.std.proofs.lemmas.List.Folds.{list_any_at}
use Rattle.std.proofs.lemmas.List.Sums.{length-filter, count_by-le-length}
use Rattle.lab_base.specs.declared.ids.IfaceId.{IfaceId}
use Rattle.lab_base.proofs.Tests.{not_faulty}
use Rattle.virt_topo.specs.declared.wiring.Segment.{Segment}
use Rattle.virt_topo.specs.declared.wiring.VirtEnd.{VirtEnd}
use Rattle.virt_topo.specs.declared.wiring.Wiring.{Wiring}
use Rattle.virt_topo.specs.Ends.{end_nodes}
use Rattle.virt_topo.specs.Repeats.{stands_again}
use Rattle.virt_topo.specs.Soundness.{IsSound, keeps_limits, knows_all, has_twice, has_same}
use Rattle.virt_topo.proofs.EndLaws.{nodes_of}
use Rattle.trunk_sums.specs.declared.made.Change.{Change}
use Rattle.trunk_sums.specs.declared.sums.EndRow.{EndRow}
use Rattle.trunk_sums.specs.Foreseen.{AreApart}
use Rattle.trunk_sums.specs.Remade.{AreChanges}
use Rattle.trunk_sums.specs.Summed.{IsRow, first_end, no_segment}
use Rattle.node_maps.specs.declared.ends.End.{End}
use Rattle.node_maps.proofs.EndLists.{same_nodes}
use Rattle.map_state.specs.declared.search.Search.{Search}
use Rattle.map_state.specs.Nodes.{numbers_of, changes_of, no_end, no_row}
use Rattle.map_state.specs.Tables.{AreRows, IsSearch}
use Rattle.map_state.proofs.AloneLaws.{passed}
use Rattle.map_state.proofs.StateLaws.{few_ends, numbers_in, changes_each}
use Rattle.map_state.proofs.WhereLaws.{numbered_ends}

-- A SEGMENT'S ENDS
again_at : {X : Type 0} (same : X → X → Bool) (xs : List X) (a b : ℕ) (d : X) → a < b → b < length xs → same (get_or xs a d) (get_or xs b d) ≡ true → stands_again same xs ≡ true
again_at same [] a b d less lt is = absurd (omega (arith, lt))
again_at same (x ∷ xs) a zero d less lt is = absurd (omega (arith, less))
again_at same (x ∷ xs) zero (suc b) d less lt is = ap (λ (y : Bool). y || stands_again same xs) (list_any_at (same x) xs b d (omega (arith, lt)) is)
again_at same (x ∷ xs) (suc a) (suc b) d less lt is =
    ap (λ (y : Bool). list_any (same x) xs || y) (again_at same xs a b d (omega (arith, less)) (omega (arith, lt)) is) ∙ or-true (list_any (same x) xs)

abbrev no_virt_end : VirtEnd
no_virt_end = record { node = 0; address = None }

node_here : (ends : List VirtEnd) (rest : List ℕ) (k : ℕ) (d : VirtEnd) → k < length ends → get_or (nodes_of ends ++ rest) k 0 ≡ (get_or ends k d).node
node_here ends rest k d lt = get_or_append_left (nodes_of ends) rest 0 k (omega (arith, lt, length-map ends (λ (e : VirtEnd). e.node))) ∙ get_or-map (λ (e : VirtEnd). e.node) ends k d 0 lt

node_past : (ends : List VirtEnd) (rest : List ℕ) (k : ℕ) → length ends ≤ k → get_or (nodes_of ends ++ rest) k 0 ≡ get_or rest (k - length ends) 0
node_past ends rest k le = get_or-append_right (nodes_of ends) rest (length ends) k 0 (length-map ends (λ (e : VirtEnd). e.node)) le

-- two ends of a segment are of two virtual nodes
nodes_apart : (segments : List Segment) (s a b : ℕ) → list_any (λ x. stands_again (λ e f. e.node == f.node) x.ends) segments ≡ false → s < length segments → first_end segments s ≤ a → a < b
    → b < first_end segments s + length (get_or segments s no_segment).ends → get_or (end_nodes segments) a 0 ≢ get_or (end_nodes segments) b 0
nodes_apart [] s a b once s_lt from less below same = absurd (omega (arith, s_lt))
nodes_apart (x ∷ segments) zero a b once s_lt from less below same =
    let d : VirtEnd = no_virt_end in
    let b_lt : b < length x.ends = omega (arith, below) in
    let nodes : (get_or x.ends a d).node ≡ (get_or x.ends b d).node =
    sym (node_here x.ends (end_nodes segments) a d (omega (arith, less, b_lt))) ∙ same ∙ node_here x.ends (end_nodes segments) b d b_lt in
    true≢false (sym (again_at (λ (e f : VirtEnd). e.node == f.node) x.ends a b d less b_lt (eq-eqb _ _ nodes))
    ∙ (or_parts (stands_again (λ e f. e.node == f.node) x.ends) (list_any (λ y. stands_again (λ e f. e.node == f.node) y.ends) segments) once).0)
nodes_apart (x ∷ segments) (suc s) a b once s_lt from less below same =
    let m = length x.ends in
    nodes_apart segments s (a - m) (b - m) (or_parts (stands_again (λ e f. e.node == f.node) x.ends) (list_any (λ y. stands_again (λ e f. e.node == f.node) y.ends) segments) once).1
    (omega (arith, s_lt)) (omega (arith, from)) (omega (arith, from, less)) (omega (arith, from, less, below))
    (sym (node_past x.ends (end_nodes segments) a (omega (arith, from))) ∙ same ∙ node_past x.ends (end_nodes segments) b (omega (arith, from, less)))

-- in a sound wiring a segment names a virtual node once
past : {X : Type 0} (faulty : Bool) (fault : X) (later : Option X) → (if faulty then Some fault else later) ≡ None → later ≡ None
past true fault later e = absurd (cc e)
past false fault later e = e

names_once : (w : Wiring) → IsSound w → has_same w ≡ false
names_once w sound = not_faulty (has_same w) _ _ (past (has_twice w) _ _ (past (not (knows_all w)) _ _ (past (not (keeps_limits w)) _ _ sound)))

-- ROWS
-- ends of one segment are of two virtual nodes
rows_apart : (w : Wiring) (rows : List EndRow) (a b : ℕ) → IsSound w → AreRows w rows → a < b → b < length rows → get_or (end_nodes w.segments) a 0 ≡ get_or (end_nodes w.segments) b 0
    → (get_or rows a no_row).segment ≢ (get_or rows b no_row).segment
rows_apart w rows a b sound are less lt same is =
    let one = are.each a (omega (arith, less, lt)) in
    let other = are.each b lt in
    let below : b < first_end w.segments (get_or rows a no_row).segment + length (get_or w.segments (get_or rows a no_row).segment no_segment).ends =
    subst (λ (s : ℕ). b < first_end w.segments s + length (get_or w.segments s no_segment).ends) (sym is)
    (let end = other.below in let ends = other.ends in omega (arith, end, ends)) in
    nodes_apart w.segments (get_or rows a no_row).segment a b (names_once w sound) one.segment one.from less below same

-- NUMBERS OF ENDS
numbers_from : (n : ℕ) (p : End → Bool) (es : List End) → All (λ (k : ℕ). n ≤ k) (numbers_of n p es)
numbers_from n p [] = λ k d lt. absurd (omega (arith, lt))
numbers_from n p (e ∷ es) = by_test (p e) (numbers_from (n + 1) p es)
  where
    by_test : (b : Bool) → All (λ (k : ℕ). n + 1 ≤ k) (numbers_of (n + 1) p es) → All (λ (k : ℕ). n ≤ k) (cond b (n ∷ numbers_of (n + 1) p es) (numbers_of (n + 1) p es))
    by_test true rest zero d lt = omega arith
    by_test true rest (suc k) d lt = let le = rest k d (omega (arith, lt)) in omega (arith, le)
    by_test false rest k d lt = let le = rest k d lt in omega (arith, le)

-- each is above those before it
pub numbers_rise : (n : ℕ) (p : End → Bool) (es : List End) (j k d e : ℕ) → j < k → k < length (numbers_of n p es) → get_or (numbers_of n p es) j d < get_or (numbers_of n p es) k e
numbers_rise n p [] j k d e less lt = absurd (omega (arith, lt))
numbers_rise n p (x ∷ es) j k d e less lt = by_test (p x) j k less lt (numbers_from (n + 1) p es) (λ i m i_lt m_lt. numbers_rise (n + 1) p es i m d e i_lt m_lt)
  where
    by_test : (b : Bool) (j k : ℕ) → j < k → k < length (cond b (n ∷ numbers_of (n + 1) p es) (numbers_of (n + 1) p es)) → All (λ (i : ℕ). n + 1 ≤ i) (numbers_of (n + 1) p es)
        → ((i m : ℕ) → i < m → m < length (numbers_of (n + 1) p es) → get_or (numbers_of (n + 1) p es) i d < get_or (numbers_of (n + 1) p es) m e)
        → get_or (cond b (n ∷ numbers_of (n + 1) p es) (numbers_of (n + 1) p es)) j d < get_or (cond b (n ∷ numbers_of (n + 1) p es) (numbers_of (n + 1) p es)) k e
    by_test true j zero less lt above later = absurd (omega (arith, less))
    by_test true zero (suc k) less lt above later = let le = above k e (omega (arith, lt)) in omega (arith, le)
    by_test true (suc j) (suc k) less lt above later = later j k (omega (arith, less)) (omega (arith, lt))
    by_test false j k less lt above later = later j k less lt

-- they are of ends of the virtual node
numbers_own : (v : ℕ) (es : List End) → All (λ (k : ℕ). (get_or es k no_end).node ≡ v) (numbers_of 0 (λ e. e.node == v) es)
numbers_own v es k d lt =
    let p : End → Bool = λ e. e.node == v in
    let own = numbers_of 0 p es in
    let ends : map (λ (j : ℕ). get_or es j no_end) own ≡ filter p es = numbered_ends es p no_end in
    let few : length (map (λ (j : ℕ). get_or es j no_end) own) ≡ length own = length-map own (λ (j : ℕ). get_or es j no_end) in
    let here : get_or es (get_or own k d) no_end ≡ get_or (filter p es) k no_end =
    sym (get_or-map (λ (j : ℕ). get_or es j no_end) own k d no_end lt) ∙ ap (λ (l : List End). get_or l k no_end) ends in
    let all = passed (λ (e : End). e.node ≡ v) p es (λ j e j_lt is. eqb-true (get_or es j e).node v is) in
    ap (λ (e : End). e.node) here ∙ all k no_end (let count : length own ≡ length (filter p es) = sym few ∙ ap (λ (l : List End). length l) ends in omega (arith, lt, count))

-- CHANGES
pub changes_length : (rows : List EndRow) (numbers : List ℕ) (plugs : List IfaceId) → length numbers ≤ length plugs → length (changes_of rows numbers plugs) ≡ length numbers
changes_length rows [] plugs few = refl
changes_length rows (n ∷ numbers) [] few = absurd (omega (arith, few))
changes_length rows (n ∷ numbers) (i ∷ plugs) few = ap (λ (k : ℕ). suc k) (changes_length rows numbers plugs (omega (arith, few)))

pub change_at : (rows : List EndRow) (numbers : List ℕ) (plugs : List IfaceId) (k : ℕ) (c : Change) (n : ℕ) (i : IfaceId) → length numbers ≤ length plugs → k < length numbers
    → get_or (changes_of rows numbers plugs) k c ≡ record { end = get_or numbers k n; row = get_or rows (get_or numbers k n) no_row; to = get_or plugs k i }
change_at rows [] plugs k c n i few lt = absurd (omega (arith, lt))
change_at rows (m ∷ numbers) [] k c n i few lt = absurd (omega (arith, few))
change_at rows (m ∷ numbers) (h ∷ plugs) zero c n i few lt = refl
change_at rows (m ∷ numbers) (h ∷ plugs) (suc k) c n i few lt = change_at rows numbers plugs k c n i (omega (arith, few)) (omega (arith, lt))

-- THE ENDS OF A VIRTUAL NODE
-- changes of them are changes of ends of the wiring
pub own_are : (x : Search) (v : ℕ) (plugs : List IfaceId) → IsSearch x → All (λ (i : IfaceId). i.0 < length x.mapper.lab.now.ifaces) plugs
    → AreChanges x.mapper.lab.now x.mapper.wiring.now (changes_of x.table.now.rows.items (numbers_of 0 (λ e. e.node == v) x.mapper.ends.now) plugs)
own_are x v plugs is within =
    let rows = x.table.now.rows.items in
    let w = x.mapper.wiring.now in
    let own = numbers_of 0 (λ e. e.node == v) x.mapper.ends.now in
    let ends = ap length is.mapper.ends in
    let all = is.table.rows.one_each in
    record {
      rows = changes_each (λ c. IsRow w c.end c.row) rows own plugs (λ j k d i j_lt k_lt.
          is.table.rows.each (get_or own j d) (let less = numbers_in (λ e. e.node == v) x.mapper.ends.now j d j_lt in omega (arith, less, ends, all)));
      within = changes_each (λ c. c.to.0 < length x.mapper.lab.now.ifaces) rows own plugs (λ j k d i j_lt k_lt. within k i k_lt);
    }

-- NO TWO OF THEM ARE OF ONE SEGMENT
pub own_apart : (x : Search) (v : ℕ) (plugs : List IfaceId) → IsSearch x → length (numbers_of 0 (λ e. e.node == v) x.mapper.ends.now) ≤ length plugs
    → AreApart (changes_of x.table.now.rows.items (numbers_of 0 (λ e. e.node == v) x.mapper.ends.now) plugs)
own_apart x v plugs is few j k c d less lt =
    let rows = x.table.now.rows.items in
    let w = x.mapper.wiring.now in
    let es = x.mapper.ends.now in
    let own = numbers_of 0 (λ e. e.node == v) es in
    let none : IfaceId = record { 0 = 0 } in
    let count = changes_length rows own plugs few in
    let k_lt : k < length own = omega (arith, lt, count) in
    let j_lt : j < length own = omega (arith, less, k_lt) in
    let a = get_or own j 0 in
    let b = get_or own k 0 in
    let ends = ap (λ (l : List End). length l) is.mapper.ends in
    let all = is.table.rows.one_each in
    let b_in : b < length es = numbers_in (λ e. e.node == v) es k 0 k_lt in
    let a_in : a < length es = numbers_in (λ e. e.node == v) es j 0 j_lt in
    let nodes : map (λ (e : End). e.node) es ≡ end_nodes w.segments = ap (λ (l : List End). map (λ (e : End). e.node) l) is.mapper.ends ∙ same_nodes w.segments in
    let node_at : (n : ℕ) → n < length es → (get_or es n no_end).node ≡ v → get_or (end_nodes w.segments) n 0 ≡ v =
    λ n n_lt at. sym (ap (λ (l : List ℕ). get_or l n 0) nodes) ∙ get_or-map (λ (e : End). e.node) es n no_end 0 n_lt ∙ at in
    let same : get_or (end_nodes w.segments) a 0 ≡ get_or (end_nodes w.segments) b 0 =
    node_at a a_in (numbers_own v es j 0 j_lt) ∙ sym (node_at b b_in (numbers_own v es k 0 k_lt)) in
    let apart = rows_apart w rows a b is.mapper.sound is.table.rows (numbers_rise 0 (λ e. e.node == v) es j k 0 0 less k_lt) (omega (arith, b_in, ends, all)) same in
    λ e. apart (sym (ap (λ (y : Change). y.row.segment) (change_at rows own plugs j c 0 none few j_lt)) ∙ e ∙ ap (λ (y : Change). y.row.segment) (change_at rows own plugs k d 0 none few k_lt))

-- how many there are
pub own_few : (x : Search) (v : ℕ) → IsSearch x → length (numbers_of 0 (λ e. e.node == v) x.mapper.ends.now) ≤ 4096
own_few x v is =
    let es = x.mapper.ends.now in
    let p : End → Bool = λ e. e.node == v in
    let own = numbers_of 0 p es in
    let count : length own ≡ length (filter p es) =
    sym (length-map own (λ (k : ℕ). get_or es k no_end)) ∙ ap (λ (l : List End). length l) (numbered_ends es p no_end) in
    let passing = length-filter p es in
    let part = count_by-le-length p es in
    let few = few_ends x is in
    omega (arith, count, passing, part, few)
