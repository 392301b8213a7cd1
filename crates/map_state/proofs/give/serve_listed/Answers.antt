use Rattle.std.proofs.Common.{◌≡◌, ◌≤◌, ◌<◌, ◌∙◌, ℕ, List, Bool, length, map, get_or, ap, sym, subst, arith, [], Some, refl}
use Rattle.std.specs.Option.{option_map}
use Rattle.std.proofs.lemmas.List.{length-map, get_or-map, drop_all}
use Rattle.virt_topo.specs.declared.loads.Load.{Load}
use Rattle.node_maps.specs.declared.ends.End.{End}
use Rattle.node_maps.specs.NodeMaps.{plugs_in, laid_from}
use Rattle.node_maps.specs.Indexed.{Adds, AreOrdered, IsNext}
use Rattle.node_maps.proofs.PlugLaws.{more_all}
use Rattle.map_state.specs.Nodes.{no_end}
use Rattle.map_state.proofs.ListSteps.{served_more, served_none}
use Rattle.map_state.proofs.give.serve_listed.Goals as goal

abbrev at_in : List End → ℕ → End
at_in es k = get_or es k no_end

-- the n-th of the ends that are listed
listed_at : (es : List End) (listed : List ℕ) (n d : ℕ) → n < length listed → get_or (map (at_in es) listed) n no_end ≡ at_in es (get_or listed n d)
listed_at es listed n d lt = get_or-map (at_in es) listed n d no_end lt

few_at : (es : List End) (listed : List ℕ) (n : ℕ) → AreOrdered (map (at_in es) listed) → n < length listed → (at_in es (get_or listed n 0)).segment < 512
few_at es listed n is lt =
    let all = length-map listed (at_in es) in
    subst (λ (e : End). e.segment < 512) (listed_at es listed n 0 lt) (is.few n no_end (omega (arith, lt, all)))

some_at : (es : List End) (listed : List ℕ) (n : ℕ) → AreOrdered (map (at_in es) listed) → n < length listed → 1 ≤ (at_in es (get_or listed n 0)).kbps
some_at es listed n is lt =
    let all = length-map listed (at_in es) in
    subst (λ (e : End). 1 ≤ e.kbps) (listed_at es listed n 0 lt) (is.some n no_end (omega (arith, lt, all)))

order_at : (es : List End) (listed : List ℕ) (n k d : ℕ) → AreOrdered (map (at_in es) listed) → n ≤ k → k < length listed → (at_in es (get_or listed n 0)).segment ≤ (at_in es (get_or listed k d)).segment
order_at es listed n k d is le lt =
    let all = length-map listed (at_in es) in
    let rising = is.rising n k no_end le (omega (arith, lt, all)) in
    let one = ap (λ (e : End). e.segment) (listed_at es listed n 0 (omega (arith, le, lt))) in
    let other = ap (λ (e : End). e.segment) (listed_at es listed k d lt) in
    omega (arith, rising, one, other)

pub add-requires-clause-segment : goal.add-requires-clause-segment
add-requires-clause-segment c = few_at c.args.search.now.mapper.ends.now c.args.listed.now c.loop-number.number-index c.requires.ordered c.loop-number-test.true

pub returns-then-not-branch-clause-giving : goal.returns-then-not-branch-clause-giving
returns-then-not-branch-clause-giving c =
    let x = c.args.search.now.mapper in
    let es = x.ends.now in
    let n = c.loop-number.number-index in
    let inv = c.loop-number.invariant in
    let lt = c.loop-number-test.true in
    let e : End = at_in es (get_or c.args.listed.now n 0) in
    let next : IsNext e inv.had = record { some = some_at es c.args.listed.now n c.requires.ordered lt; rising = inv.rising n 0 (omega arith) lt } in
    let none = subst (λ (b : Bool). Adds x.lab.now c.args.places.now e inv.had c.add.new.self b) c.if-not-branch.true (c.in_ok-add.ensures.adds inv.had inv.marks next) in
    record { had = inv.had; marks = none.1 }

pub returns-then-not-branch-clause-given : goal.returns-then-not-branch-clause-given
returns-then-not-branch-clause-given c =
    let x = c.args.search.now.mapper in
    let es = x.ends.now in
    let n = c.loop-number.number-index in
    let inv = c.loop-number.invariant in
    let lt = c.loop-number-test.true in
    let e : End = at_in es (get_or c.args.listed.now n 0) in
    let next : IsNext e inv.had = record { some = some_at es c.args.listed.now n c.requires.ordered lt; rising = inv.rising n 0 (omega arith) lt } in
    let none = subst (λ (b : Bool). Adds x.lab.now c.args.places.now e inv.had c.add.new.self b) c.if-not-branch.true (c.in_ok-add.ensures.adds inv.had inv.marks next) in
    ap (option_map (λ laid. plugs_in laid)) (sym inv.rest ∙ served_none x.lab.now c.args.places.now (at_in es) c.args.listed.now n 0 inv.had lt none.0)

pub loop-number-preserved : goal.loop-number-preserved
loop-number-preserved c =
    let x = c.args.search.now.mapper in
    let es = x.ends.now in
    let n = c.loop-number.number-index in
    let inv = c.loop-number.invariant in
    let lt = c.loop-number-test.true in
    let e : End = at_in es (get_or c.args.listed.now n 0) in
    let next : IsNext e inv.had = record { some = some_at es c.args.listed.now n c.requires.ordered lt; rising = inv.rising n 0 (omega arith) lt } in
    let one = subst (λ (b : Bool). Adds x.lab.now c.args.places.now e inv.had c.add.new.self b) c.if-not-branch.false (c.in_ok-add.ensures.adds inv.had inv.marks next) in
    record {
      had = one.0;
      marks = one.2;
      rest = sym (served_more x.lab.now c.args.places.now (at_in es) c.args.listed.now n 0 inv.had one.0 lt one.1) ∙ inv.rest;
      rising = λ k d le less. more_all (λ (y : Load). y.segment ≤ (at_in es (get_or c.args.listed.now k d)).segment) x.lab.now c.args.places.now e inv.had one.0 one.1
          (inv.rising k d (omega (arith, le)) less) (order_at es c.args.listed.now n k d c.requires.ordered (omega (arith, le)) less);
    }

pub bounds-mapper-number : goal.bounds-mapper-number
bounds-mapper-number c = c.requires.within c.loop-number.number-index 0 c.loop-number-test.true

pub returns-clause-giving : goal.returns-clause-giving
returns-clause-giving c = record { had = c.loop-number.invariant.had; marks = c.loop-number.invariant.marks }

pub add-requires-clause-index : goal.add-requires-clause-index
add-requires-clause-index c = record { each = λ k d lt. c.requires.search.mapper.ifaces.each (get_or c.args.places.now k d).0.0 }

pub add-requires-clause-sized : goal.add-requires-clause-sized
add-requires-clause-sized c = record { used = c.loop-number.invariant.marks.used_each; last = c.loop-number.invariant.marks.last_each }

pub loop-number-init : goal.loop-number-init
loop-number-init c = record { had = []; marks = c.requires.idle.marks; rest = refl; rising = λ k d le less j y j_lt. absurd (omega (arith, j_lt)) }

pub returns-clause-given : goal.returns-clause-given
returns-clause-given c =
    let x = c.args.search.now.mapper in
    let listed = c.args.listed.now in
    let inv = c.loop-number.invariant in
    ap (option_map (λ laid. plugs_in laid))
    (sym inv.rest ∙ ap (λ (l : List ℕ). laid_from x.lab.now c.args.places.now (map (at_in x.ends.now) l) inv.had) (drop_all c.loop-number.number-index listed c.loop-number-test.false))
    ∙ ap Some (sym inv.marks.plugs)
