-- Ends that fit the interfaces of their own places, since the slowest of these is fast enough for all of them.
use Rattle.std.proofs.Common.{◌≡◌, ◌<◌, ◌≤◌, ◌+◌, ◌∷◌, [], ℕ, suc, List, length, map, filter, get_or, Bool, true, false, cond, eqb, not, nat_le, ◌==◌, ◌&&◌, All, refl, ap, sym, subst, arith}
use Rattle.std.proofs.lemmas.Bool.{cond_both, eqb-true, le-leb}
use Rattle.std.proofs.lemmas.List.{length-map}
use Rattle.std.proofs.lemmas.List.Elements.{All-cons}
use Rattle.phys_lab.specs.declared.parts.Iface.{Iface}
use Rattle.node_maps.specs.declared.ends.End.{End}
use Rattle.node_maps.specs.declared.index.NodeIface.{NodeIface}
use Rattle.node_maps.specs.Indexed.{ifaces_of, fits, are_in_order}
use Rattle.map_state.specs.declared.search.Search.{Search}
use Rattle.map_state.specs.Nodes.{numbers_of, no_end}
use Rattle.map_state.specs.Speeds.{wanted_by}
use Rattle.map_state.specs.Tables.{IsSearch}
use Rattle.map_state.proofs.AloneLaws.{passed}
use Rattle.map_state.proofs.WhereLaws.{numbered_ends}

fits_by : (least : ℕ) (e : End) (x : NodeIface) → least < 18446744073709551615 → wanted_by e ≤ least → least ≤ x.kbps → fits e x ≡ true
fits_by least e x small slow fast = by e.multiplexed slow
  where
    by : (b : Bool) → cond b 18446744073709551615 e.kbps ≤ least → (not b && nat_le e.kbps x.kbps) ≡ true
    by true is = absurd (omega (arith, is, small))
    by false is = le-leb e.kbps x.kbps (omega (arith, is, fast))

in_order_by : (least : ℕ) (es : List End) (xs : List NodeIface) → least < 18446744073709551615 → length es ≤ length xs → All (λ (e : End). wanted_by e ≤ least) es
    → All (λ (x : NodeIface). least ≤ x.kbps) xs → are_in_order es xs ≡ true
in_order_by least [] xs small few slow fast = refl
in_order_by least (e ∷ es) [] small few slow fast = absurd (omega (arith, few))
in_order_by least (e ∷ es) (x ∷ xs) small few slow fast =
    let here = fits_by least e x small (slow 0 e (omega arith)) (fast 0 x (omega arith)) in
    let rest = in_order_by least es xs small (omega (arith, few)) (λ k d lt. slow (suc k) d (omega (arith, lt))) (λ k d lt. fast (suc k) d (omega (arith, lt))) in
    (λ j. here j && rest j)

-- the interfaces of a node have at least the speed that each interface of it in the lab has
fast_ifaces : (n : ℕ) (xs : List Iface) (node least : ℕ) → ((k : ℕ) (d : Iface) → k < length xs → (get_or xs k d).node.0 ≡ node → least ≤ (get_or xs k d).kbps)
    → All (λ (x : NodeIface). least ≤ x.kbps) (ifaces_of n xs node)
fast_ifaces n [] node least each = λ k d lt. absurd (omega (arith, lt))
fast_ifaces n (x ∷ xs) node least each =
    let Fast : NodeIface → Type 0 = λ y. least ≤ y.kbps in
    let own : NodeIface = record { id = record { 0 = n }; kbps = x.kbps } in
    let rest : All Fast (ifaces_of (n + 1) xs node) = fast_ifaces (n + 1) xs node least (λ k d lt here. each (suc k) d (omega (arith, lt)) here) in
    cond_both (eqb x.node.0 node) (own ∷ ifaces_of (n + 1) xs node) (ifaces_of (n + 1) xs node) (λ l. All Fast l)
    (λ yes. All-cons Fast own (ifaces_of (n + 1) xs node) (each 0 x (omega arith) (eqb-true x.node.0 node yes)) rest) (λ no. rest)

-- THE ENDS OF A VIRTUAL NODE on a node whose interfaces all are fast enough
pub own_in_order : (x : Search) (v n : ℕ) → IsSearch x → n < length x.mapper.lab.now.nodes
    → length (numbers_of 0 (λ e. e.node == v) x.mapper.ends.now) ≤ length (ifaces_of 0 x.mapper.lab.now.ifaces n)
    → get_or x.table.now.speeds.wanted.items v 0 ≤ get_or x.table.now.speeds.least.items n 0
    → are_in_order (map (λ k. get_or x.mapper.ends.now k no_end) (numbers_of 0 (λ e. e.node == v) x.mapper.ends.now)) (ifaces_of 0 x.mapper.lab.now.ifaces n) ≡ true
own_in_order x v n is node few slow =
    let es = x.mapper.ends.now in
    let p : End → Bool = λ e. e.node == v in
    let own = numbers_of 0 p es in
    let wanted = x.table.now.speeds.wanted.items in
    let least = get_or x.table.now.speeds.least.items n 0 in
    let On : End → Type 0 = λ e. wanted_by e ≤ least in
    let each : (k : ℕ) (d : End) → k < length es → wanted_by (get_or es k d) ≤ get_or wanted (get_or es k d).node 0 =
    subst (λ (l : List End). (k : ℕ) (d : End) → k < length l → wanted_by (get_or l k d) ≤ get_or wanted (get_or l k d).node 0) (sym is.mapper.ends) is.table.speeds.wanted in
    let passing : All On (filter p es) = passed On p es (λ k d lt passes.
    let here : (get_or es k d).node ≡ v = eqb-true (get_or es k d).node v passes in
    let want = each k d lt in
    let at : ◌≡◌ {A = ℕ} (get_or wanted (get_or es k d).node 0) (get_or wanted v 0) = ap (λ (j : ℕ). get_or wanted j 0) here in
    omega (arith, want, at, slow)) in
    let all : All On (map (λ (k : ℕ). get_or es k no_end) own) = subst (λ (l : List End). All On l) (sym (numbered_ends es p no_end)) passing in
    let count = length-map own (λ (k : ℕ). get_or es k no_end) in
    let fast = fast_ifaces 0 x.mapper.lab.now.ifaces n least (λ k d lt here.
    let law = is.table.speeds.least k d lt in
    let at : ◌≡◌ {A = ℕ} (get_or x.table.now.speeds.least.items (get_or x.mapper.lab.now.ifaces k d).node.0 0) least = ap (λ (j : ℕ). get_or x.table.now.speeds.least.items j 0) here in
    omega (arith, law, at)) in
    in_order_by least (map (λ (k : ℕ). get_or es k no_end) own) (ifaces_of 0 x.mapper.lab.now.ifaces n) (is.table.speeds.small n node) (omega (arith, count, few)) all fast
