-- Ends that are given the interfaces of their own places.
use Rattle.std.proofs.Common.{◌≡◌, ◌<◌, ◌≤◌, ◌+◌, ◌∙◌, ◌∷◌, ◌++◌, [], ℕ, List, length, map, filter, take, drop, get_or, true, false, ◌&&◌, Some, refl, ap, sym}
use Rattle.std.proofs.lemmas.Bool.{eqb-true}
use Rattle.std.proofs.lemmas.List.{append-nil, drop_more, drop_all, length-map}
use Rattle.trunk_sums.specs.declared.made.Change.{Change}
use Rattle.trunk_sums.specs.declared.sums.EndRow.{EndRow}
use Rattle.lab_model.specs.Shapes.{Place}
use Rattle.lab_model.specs.Rules.{no_place}
use Rattle.node_maps.specs.declared.ends.End.{End}
use Rattle.node_maps.specs.declared.index.NodeIface.{NodeIface}
use Rattle.node_maps.specs.NodeMaps.{plugs_from}
use Rattle.node_maps.specs.Indexed.{ifaces_of, fits, are_in_order}
use Rattle.node_maps.proofs.InOrder.{plugs_in_order}
use Rattle.map_state.specs.declared.search.Search.{Search}
use Rattle.map_state.specs.Nodes.{is_on, numbers_of, changes_of, no_end, no_row}
use Rattle.map_state.specs.Tables.{IsSearch}
use Rattle.map_state.specs.States.{IsNoted}
use Rattle.map_state.proofs.AloneLaws.{passed}
use Rattle.map_state.proofs.StateLaws.{placed_ends}
use Rattle.map_state.proofs.GivenAnew.{filter_placed}
use Rattle.map_state.proofs.WhereLaws.{numbered_ends}

-- one end more that fits, or doesn't
pub order_more : (at : ℕ → End) (listed : List ℕ) (xs : List NodeIface) (k d : ℕ) (x : NodeIface) → k < length listed → k < length xs
    → are_in_order (map at (drop k listed)) (drop k xs) ≡ (fits (at (get_or listed k d)) (get_or xs k x) && are_in_order (map at (drop (k + 1) listed)) (drop (k + 1) xs))
order_more at listed xs k d x lt few = (λ j. are_in_order (map at (drop_more listed k d lt j)) (drop_more xs k x few j))

-- an end without an interface
pub order_end : (at : ℕ → End) (listed : List ℕ) (xs : List NodeIface) (k d : ℕ) → k < length listed → length xs ≤ k → are_in_order (map at (drop k listed)) (drop k xs) ≡ false
order_end at listed xs k d lt past = (λ j. are_in_order (map at (drop_more listed k d lt j)) (drop_all k xs past j))

-- the changes go no further than the ends
taken_changes : (rows : List EndRow) (listed : List ℕ) (xs : List NodeIface)
    → changes_of rows listed (map (λ x. x.id) xs) ≡ changes_of rows listed (map (λ x. x.id) (take (length listed) xs))
taken_changes rows [] xs = refl
taken_changes rows (k ∷ listed) [] = refl
taken_changes rows (k ∷ listed) (x ∷ xs) = ap (λ (l : List Change). record { end = k; row = get_or rows k no_row; to = x.id } ∷ l) (taken_changes rows listed xs)

-- THE ENDS ON A NODE, each with the interface of its own place
pub noted_in_order : (x : Search) (places : List Place) (n : ℕ) (listed : List ℕ) (xs : List NodeIface) (earlier later : List Change) → IsSearch x
    → length places ≡ length x.mapper.wiring.now.nodes → listed ≡ numbers_of 0 (is_on places n) x.mapper.ends.now → xs ≡ ifaces_of 0 x.mapper.lab.now.ifaces n
    → are_in_order (map (λ k. get_or x.mapper.ends.now k no_end) listed) xs ≡ true → later ≡ earlier ++ changes_of x.table.now.rows.items listed (map (λ y. y.id) xs)
    → IsNoted x.mapper.lab.now x.table.now.rows.items x.mapper.ends.now places n earlier later
noted_in_order x places n listed xs earlier later set count is all ordered noted =
    let lab = x.mapper.lab.now in
    let es = x.mapper.ends.now in
    let rows = x.table.now.rows.items in
    let p = is_on places n in
    let own : map (λ k. get_or es k no_end) listed ≡ filter p es = ap (λ (l : List ℕ). map (λ k. get_or es k no_end) l) is ∙ numbered_ends es p no_end in
    let placed = filter_placed p (length places) es (placed_ends x places set count) in
    let on = passed (λ (e : End). (get_or places e.node no_place).0.0 ≡ n) p es (λ k d lt passes. eqb-true (get_or places (get_or es k d).node no_place).0.0 n passes) in
    let few : length (filter p es) ≡ length listed = ap (λ (l : List End). length l) (sym own) ∙ length-map listed (λ (k : ℕ). get_or es k no_end) in
    let fit : are_in_order (filter p es) (ifaces_of 0 lab.ifaces n) ≡ true = (λ j. are_in_order (sym own j) (sym all j)) ∙ ordered in
    record {
      plugs = map (λ y. y.id) (take (length listed) xs);
      given = plugs_in_order lab places n (filter p es) placed on fit ∙ (λ j. Some (map (λ y. y.id) (take (few j) (sym all j))));
      noted = noted ∙ ap (λ (l : List Change). earlier ++ l) (taken_changes rows listed xs ∙ ap (λ (l : List ℕ). changes_of rows l (map (λ y. y.id) (take (length listed) xs))) is);
    }

-- a node without ends
pub none_noted : (x : Search) (places : List Place) (n : ℕ) (earlier : List Change) → [] ≡ numbers_of 0 (is_on places n) x.mapper.ends.now
    → IsNoted x.mapper.lab.now x.table.now.rows.items x.mapper.ends.now places n earlier earlier
none_noted x places n earlier none =
    let es = x.mapper.ends.now in
    let p = is_on places n in
    let own : [] ≡ filter p es = ap (λ (l : List ℕ). map (λ k. get_or es k no_end) l) none ∙ numbered_ends es p no_end in
    record {
      plugs = [];
      given = ap (λ (l : List End). plugs_from x.mapper.lab.now places l) (sym own);
      noted = sym (append-nil earlier) ∙ ap (λ (l : List ℕ). earlier ++ changes_of x.table.now.rows.items l []) none;
    }
