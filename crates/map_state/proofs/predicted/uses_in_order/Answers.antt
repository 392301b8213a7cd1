use Rattle.std.proofs.Common.{◌≡◌, ◌<◌, ◌≤◌, ◌+◌, ◌∙◌, ◌==◌, [], ℕ, List, length, map, take, get_or, All, ap, sym, subst, arith}
use Rattle.std.proofs.Math.ListN.{set}
use Rattle.std.proofs.lemmas.List.{length-map, get_or-map, get_or_read, take_all}
use Rattle.std.proofs.lemmas.List.Elements.{All-map}
use Rattle.lab_base.specs.declared.ids.IfaceId.{IfaceId}
use Rattle.virt_topo.specs.Ends.{end_nodes}
use Rattle.trunk_sums.specs.declared.made.Change.{Change}
use Rattle.trunk_sums.specs.declared.sums.EndRow.{EndRow}
use Rattle.trunk_sums.specs.Foreseen.{AreUses}
use Rattle.trunk_sums.specs.Remade.{remade}
use Rattle.trunk_sums.specs.Summed.{IsRow, own_plugs}
use Rattle.trunk_sums.specs.Totals.{used_of_all}
use Rattle.trunk_sums.proofs.ShareLaws.{uses_before, uses_after}
use Rattle.node_maps.specs.declared.ends.End.{End}
use Rattle.node_maps.specs.declared.index.NodeIface.{NodeIface}
use Rattle.map_state.specs.declared.search.Search.{Search}
use Rattle.map_state.specs.Nodes.{changes_of, numbers_of, no_row}
use Rattle.map_state.specs.Tables.{IsSearch}
use Rattle.map_state.proofs.StateLaws.{numbers_in}
use Rattle.map_state.proofs.OwnEnds.{change_at, changes_length, own_are, own_apart, own_few}
use Rattle.map_state.proofs.predicted.uses_in_order.Goals as goal

abbrev none : Change
none = record { end = 0; row = no_row; to = record { 0 = 0 } }

abbrev no_iface : NodeIface
no_iface = record { id = record { 0 = 0 }; kbps = 0 }

-- the ends of virtual node v, and their changes
abbrev own : Search → ℕ → List ℕ
own x v = numbers_of 0 (λ e. e.node == v) x.mapper.ends.now

abbrev changes : Search → ℕ → List NodeIface → List Change
changes x v ifaces = changes_of x.table.now.rows.items (own x v) (map (λ i. i.id) ifaces)

own_is : (x : Search) (v : ℕ) (list listed : List ℕ) → IsSearch x → v < length x.mapper.wiring.now.nodes → list ≡ get_or x.table.now.own.items v list → listed ≡ list → listed ≡ own x v
own_is x v list listed set lt read is =
    let all = set.table.own.one_each in
    is
    ∙ get_or_read x.table.now.own.items v list (omega (arith, lt, all)) read []
    ∙ set.table.own.each v lt
    ∙ ap (λ (l : List End). numbers_of 0 (λ e. e.node == v) l) (sym set.mapper.ends)

-- the end of a number is one of the wiring
own_in : (x : Search) (v k : ℕ) (listed : List ℕ) → IsSearch x → listed ≡ own x v → k < length listed → get_or listed k 0 < length x.table.now.rows.items
own_in x v k listed set is lt =
    let ends = ap (λ (l : List End). length l) set.mapper.ends in
    let all = set.table.rows.one_each in
    let few = ap (λ (l : List ℕ). length l) is in
    let at = ap (λ (l : List ℕ). get_or l k 0) is in
    let less = numbers_in (λ e. e.node == v) x.mapper.ends.now k 0 (omega (arith, lt, few)) in
    omega (arith, at, less, ends, all)

-- and its row is the table's
row_is : (x : Search) (v k : ℕ) (listed : List ℕ) (row : EndRow) → IsSearch x → listed ≡ own x v → k < length listed → row ≡ get_or x.table.now.rows.items (get_or listed k 0) row
    → row ≡ get_or x.table.now.rows.items (get_or listed k 0) no_row
row_is x v k listed row set is lt read = get_or_read x.table.now.rows.items (get_or listed k 0) row (own_in x v k listed set is lt) read no_row

own_row : (x : Search) (v k : ℕ) (listed : List ℕ) (row : EndRow) → IsSearch x → listed ≡ own x v → k < length listed → row ≡ get_or x.table.now.rows.items (get_or listed k 0) no_row
    → IsRow x.mapper.wiring.now (get_or listed k 0) row
own_row x v k listed row set is lt at = subst (λ (r : EndRow). IsRow x.mapper.wiring.now (get_or listed k 0) r) (sym at) (set.table.rows.each (get_or listed k 0) (own_in x v k listed set is lt))

-- the change is the one of its number
change_is : (x : Search) (v k : ℕ) (listed : List ℕ) (ifaces : List NodeIface) (row : EndRow) → listed ≡ own x v → length (own x v) ≤ length ifaces → k < length listed
    → row ≡ get_or x.table.now.rows.items (get_or listed k 0) no_row
    → record { end = get_or listed k 0; row = row; to = (get_or ifaces k no_iface).id } ≡ get_or (changes x v ifaces) k none
change_is x v k listed ifaces row is few lt at =
    let rows = x.table.now.rows.items in
    let ids : List IfaceId = map (λ i. i.id) ifaces in
    let long : length ids ≡ length ifaces = length-map ifaces (λ (i : NodeIface). i.id) in
    let count = ap (λ (l : List ℕ). length l) is in
    let k_lt : k < length (own x v) = omega (arith, lt, count) in
    let to : (get_or ifaces k no_iface).id ≡ get_or ids k (record { 0 = 0 }) = sym (get_or-map (λ (i : NodeIface). i.id) ifaces k no_iface (record { 0 = 0 }) (omega (arith, k_lt, few))) in
    let end : get_or listed k 0 ≡ get_or (own x v) k 0 = ap (λ (l : List ℕ). get_or l k 0) is in
    let its : row ≡ get_or rows (get_or (own x v) k 0) no_row = at ∙ ap (λ (n : ℕ). get_or rows n no_row) end in
    (λ j. record { end = end j; row = its j; to = to j })
    ∙ sym (change_at rows (own x v) ids k none 0 (record { 0 = 0 }) (omega (arith, few, long)) k_lt)

changes_count : (x : Search) (v : ℕ) (ifaces : List NodeIface) → length (own x v) ≤ length ifaces → length (changes x v ifaces) ≡ length (own x v)
changes_count x v ifaces few =
    let long = length-map ifaces (λ (i : NodeIface). i.id) in
    changes_length x.table.now.rows.items (own x v) (map (λ i. i.id) ifaces) (omega (arith, few, long))

-- the changes before the one of number k are made: the uses are those that it asks for, and with it those of one change more
record Behind (x : Search) (v : ℕ) (plugs : List IfaceId) (k : ℕ) (ifaces : List NodeIface) (uses : ℕ) (c : Change) : Type 0 where
  uses_are : AreUses x.mapper.lab.now x.mapper.wiring.now plugs c.row.segment uses
  next_are : (next : ℕ) → ((others : List IfaceId) → length others ≡ length (end_nodes x.mapper.wiring.now.segments)
      → own_plugs x.mapper.wiring.now.segments others c.row.segment ≡ own_plugs x.mapper.wiring.now.segments plugs c.row.segment
      → uses ≡ used_of_all x.mapper.lab.now x.mapper.wiring.now others → next ≡ used_of_all x.mapper.lab.now x.mapper.wiring.now (set others c.end c.to))
      → next ≡ used_of_all x.mapper.lab.now x.mapper.wiring.now (remade plugs (take (k + 1) (changes x v ifaces)))

behind : (x : Search) (v : ℕ) (plugs : List IfaceId) (k : ℕ) (ifaces : List NodeIface) (uses : ℕ) (c : Change) → IsSearch x → length (own x v) ≤ length ifaces
    → All (λ i. i.id.0 < length x.mapper.lab.now.ifaces) ifaces → length plugs ≡ length (end_nodes x.mapper.wiring.now.segments) → k < length (own x v) → c ≡ get_or (changes x v ifaces) k none
    → uses ≡ used_of_all x.mapper.lab.now x.mapper.wiring.now (remade plugs (take k (changes x v ifaces))) → Behind x v plugs k ifaces uses c
behind x v plugs k ifaces uses c set few within plugged lt is before =
    let lab = x.mapper.lab.now in
    let w = x.mapper.wiring.now in
    let cs = changes x v ifaces in
    let count = changes_count x v ifaces few in
    let long = length-map ifaces (λ (i : NodeIface). i.id) in
    let here : k < length cs = omega (arith, lt, count) in
    let are = own_are x v (map (λ i. i.id) ifaces) set (All-map (λ (i : IfaceId). i.0 < length lab.ifaces) (λ (i : NodeIface). i.id) ifaces within) in
    let apart = own_apart x v (map (λ i. i.id) ifaces) set (omega (arith, few, long)) in
    subst (λ (y : Change). Behind x v plugs k ifaces uses y) (sym is) (record {
      uses_are = uses_before lab w plugs cs k none uses here plugged are apart before;
      next_are = λ next step. uses_after lab w plugs cs k none uses next here plugged are apart before step;
    })

pub index-requires-in-loop-number : goal.index-requires-in-loop-number
index-requires-in-loop-number c =
    let is = own_is c.args.search.now c.args.virt c.index.result.now c.as_slice-own.result.now c.requires.search c.requires.virt c.index.ensures c.as_slice-own.ensures in
    let less = own_in c.args.search.now c.args.virt c.loop-number.number c.as_slice-own.result.now c.requires.search is c.loop-number-test.true in
    omega (arith, less)

pub offset_bounds-ifaces-number : goal.offset_bounds-ifaces-number
offset_bounds-ifaces-number c =
    let is = own_is c.args.search.now c.args.virt c.index.result.now c.as_slice-own.result.now c.requires.search c.requires.virt c.index.ensures c.as_slice-own.ensures in
    let count = ap (λ (l : List ℕ). length l) is in
    let few = own_few c.args.search.now c.args.virt c.requires.search in
    omega (arith, c.loop-number-test.true, count, few)

pub bounds-ifaces-number : goal.bounds-ifaces-number
bounds-ifaces-number c =
    let is = own_is c.args.search.now c.args.virt c.index.result.now c.as_slice-own.result.now c.requires.search c.requires.virt c.index.ensures c.as_slice-own.ensures in
    let count = ap (λ (l : List ℕ). length l) is in
    omega (arith, c.loop-number-test.true, count, c.requires.few)

pub total_with-uses-requires-clause-row : goal.total_with-uses-requires-clause-row
total_with-uses-requires-clause-row c =
    let x = c.args.search.now in
    let v = c.args.virt in
    let k = c.loop-number.number in
    let listed = c.as_slice-own.result.now in
    let is = own_is c.args.search.now c.args.virt c.index.result.now c.as_slice-own.result.now c.requires.search c.requires.virt c.index.ensures c.as_slice-own.ensures in
    let row = row_is x v k listed c.index-in-loop-number.result.now c.requires.search is c.loop-number-test.true c.index-in-loop-number.ensures in
    own_row x v k listed c.index-in-loop-number.result.now c.requires.search is c.loop-number-test.true row

pub total_with-uses-requires-clause-to : goal.total_with-uses-requires-clause-to
total_with-uses-requires-clause-to c =
    let is = own_is c.args.search.now c.args.virt c.index.result.now c.as_slice-own.result.now c.requires.search c.requires.virt c.index.ensures c.as_slice-own.ensures in
    let count = ap (λ (l : List ℕ). length l) is in
    c.requires.ifaces c.loop-number.number no_iface (omega (arith, c.loop-number-test.true, count, c.requires.few))

pub total_with-uses-requires-clause-uses : goal.total_with-uses-requires-clause-uses
total_with-uses-requires-clause-uses c =
    let x = c.args.search.now in
    let v = c.args.virt in
    let k = c.loop-number.number in
    let listed = c.as_slice-own.result.now in
    let is = own_is c.args.search.now c.args.virt c.index.result.now c.as_slice-own.result.now c.requires.search c.requires.virt c.index.ensures c.as_slice-own.ensures in
    let row = row_is x v k listed c.index-in-loop-number.result.now c.requires.search is c.loop-number-test.true c.index-in-loop-number.ensures in
    let change = change_is x v k listed c.args.ifaces.now c.index-in-loop-number.result.now is c.requires.few c.loop-number-test.true row in
    let count = ap (λ (l : List ℕ). length l) is in
    let of = behind x v c.args.plugs.now k c.args.ifaces.now c.loop-number.uses
    (record { end = get_or listed k 0; row = c.index-in-loop-number.result.now; to = (get_or c.args.ifaces.now k no_iface).id })
    c.requires.search c.requires.few c.requires.ifaces c.requires.plugged (omega (arith, c.loop-number-test.true, count)) change c.loop-number.invariant.uses in
    of.uses_are

pub loop-number-preserved : goal.loop-number-preserved
loop-number-preserved c =
    let x = c.args.search.now in
    let v = c.args.virt in
    let k = c.loop-number.number in
    let listed = c.as_slice-own.result.now in
    let is = own_is c.args.search.now c.args.virt c.index.result.now c.as_slice-own.result.now c.requires.search c.requires.virt c.index.ensures c.as_slice-own.ensures in
    let row = row_is x v k listed c.index-in-loop-number.result.now c.requires.search is c.loop-number-test.true c.index-in-loop-number.ensures in
    let change = change_is x v k listed c.args.ifaces.now c.index-in-loop-number.result.now is c.requires.few c.loop-number-test.true row in
    let count = ap (λ (l : List ℕ). length l) is in
    let of = behind x v c.args.plugs.now k c.args.ifaces.now c.loop-number.uses
    (record { end = get_or listed k 0; row = c.index-in-loop-number.result.now; to = (get_or c.args.ifaces.now k no_iface).id })
    c.requires.search c.requires.few c.requires.ifaces c.requires.plugged (omega (arith, c.loop-number-test.true, count)) change c.loop-number.invariant.uses in
    record { uses = of.next_are c.total_with-uses.result c.total_with-uses.ensures }

pub returns : goal.returns
returns c =
    let lab = c.args.search.now.mapper.lab.now in
    let w = c.args.search.now.mapper.wiring.now in
    let cs = changes c.args.search.now c.args.virt c.args.ifaces.now in
    let is = own_is c.args.search.now c.args.virt c.index.result.now c.as_slice-own.result.now c.requires.search c.requires.virt c.index.ensures c.as_slice-own.ensures in
    let count = ap (λ (l : List ℕ). length l) is in
    let all = changes_count c.args.search.now c.args.virt c.args.ifaces.now c.requires.few in
    c.loop-number.invariant.uses
    ∙ ap (λ (l : List Change). used_of_all lab w (remade c.args.plugs.now l)) (take_all c.loop-number.number cs (omega (arith, c.loop-number-test.false, count, all)))
