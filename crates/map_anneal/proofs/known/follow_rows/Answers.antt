use Rattle.std.proofs.Common.{◌≡◌, ◌<◌, ◌+◌, ◌∙◌, inl, inr, ℕ, Bool, true, false, List, [], length, map, get_or, ap, sym, subst, arith, get_or-set_same, get_or-set_other}
use Rattle.std.proofs.Math.ListN.{set}
use Rattle.std.proofs.lemmas.Bool.{cases_eq}
use Rattle.std.proofs.lemmas.List.{length-set, length-map, get_or_default, get_or-map}
use Rattle.lab_model.specs.Shapes.{Place}
use Rattle.node_maps.specs.Marked.{marked_of, marks_of}
use Rattle.node_maps.proofs.MapLaws.{candidates_count}
use Rattle.map_anneal.specs.Sought.{candidates_at, choices}
use Rattle.map_anneal.specs.Searches.{sought_of}
use Rattle.map_anneal.specs.RuledOut.{IsRow}
use Rattle.map_anneal.proofs.NoteLaws.{known_unmarked, numbers_within}
use Rattle.map_anneal.proofs.RowLaws.{row_after}
use Rattle.map_anneal.proofs.known.follow_rows.Goals as goal

-- one row more
one_more : (P : ℕ → List Bool → Type 0) (rows : List (List Bool)) (virt : ℕ) (new : List Bool) → virt < length rows → ((v : ℕ) → v < virt → P v (get_or rows v [])) → P virt new
    → (v : ℕ) → v < virt + 1 → P v (get_or (set rows virt new) v [])
one_more P rows virt new lt done here v less = elim (cases_eq v virt) [
  | inl is ↦ subst (λ (k : ℕ). P k (get_or (set rows virt new) k [])) (sym is) (subst (P virt) (sym (get_or-set_same rows virt new [] lt)) here)
  | inr apart ↦ subst (P v) (sym (get_or-set_other rows virt v new [] apart)) (done v (omega (arith, less, apart)))
]

-- the numbers of the candidates of a virtual node that are on marked nodes
numbers_are : (nodes : List Bool) (listed : List (List Place)) (marked : List (List ℕ)) (v : ℕ) (numbers : List ℕ) → numbers ≡ get_or marked v [] → marked ≡ map (marked_of nodes) listed → v < length listed
    → numbers ≡ marked_of nodes (get_or listed v [])
numbers_are nodes listed marked v numbers is all lt = is ∙ ap (λ (l : List (List ℕ)). get_or l v []) all ∙ get_or-map (marked_of nodes) listed v [] [] lt

pub of-requires : goal.of-requires
of-requires g c =
    let x = c.args._search.now.mapper in
    let marked = ap length c.requires.candidates in
    let count = length-map c.args._search.now.candidates.now (marked_of c.args.touched.now.nodes.items) in
    omega (arith, marked, count, ap length c.requires.search.listed, c.requires.rows.one_each, c.loop-virt.invariant.count, c.loop-virt-test.true, c.len-virt-end.ensures)

pub forget-requires : goal.forget-requires
forget-requires g c =
    let s = sought_of c.args._search.now c.args._rule.now.number in
    let x = c.args._search.now.mapper in
    let v = c.loop-virt.virt in
    let was = c.loop-virt.invariant in
    let rows = c.loop-virt.rows.items in
    let nodes = c.args.touched.now.nodes.items in
    let listed = c.args._search.now.candidates.now in
    let count = was.count in
    let each = c.requires.rows.one_each in
    let same : listed ≡ choices s = c.requires.search.listed in
    let all = ap length same in
    let lt : v < length rows = omega (arith, c.loop-virt-test.true, c.len-virt-end.ensures) in
    let here : v < length listed = omega (arith, lt, count, each, all) in
    let old = c.index_mut.result.now in
    let is_old : old ≡ get_or c.args.rows.now.items v [] = c.index_mut.ensures.value ∙ get_or_default rows v old [] lt ∙ was.later v (omega arith) in
    let own = (c.requires.rows.each v (omega (arith, here, all))).one_each in
    let its : ◌≡◌ {A = ℕ} (length old) (length (get_or c.args.rows.now.items v [])) = ap length is_old in
    let candidates : ◌≡◌ {A = ℕ} (length (get_or listed v [])) (length (candidates_at s v)) = ap (λ (l : List (List Place)). length (get_or l v [])) same in
    let marks = length-map (get_or listed v []) (λ (p : Place). get_or nodes p.0.0 true) in
    numbers_within (marks_of nodes (get_or listed v [])) c.of.result.now (length old)
    (numbers_are nodes listed c.args.touched.now.candidates v c.of.result.now c.of.ensures c.requires.candidates here) (omega (arith, own, its, candidates, marks))

pub loop-virt-preserved : goal.loop-virt-preserved
loop-virt-preserved g c =
    let x = c.args._search.now.mapper in
    let s = sought_of c.args._search.now c.args._rule.now.number in
    let last = c.args._last.now in
    let next = c.args._next.now in
    let touched = c.requires.touched in
    let v = c.loop-virt.virt in
    let was = c.loop-virt.invariant in
    let count = was.count in
    let all = candidates_count x.lab.now x.free.now x.wiring.now in
    let each = c.requires.rows.one_each in
    let v_in : v < length x.wiring.now.nodes = omega (arith, count, each, all) in
    let old = c.index_mut.result.now in
    let at : old ≡ get_or c.loop-virt.rows.items v [] = c.index_mut.ensures.value ∙ get_or_default c.loop-virt.rows.items v c.index_mut.result.now [] (omega (arith, count, each, all, v_in)) in
    let is_old : old ≡ get_or c.args.rows.now.items v [] = at ∙ was.later v (omega arith) in
    let forgot = c.forget.ensures in
    let nodes = c.args.touched.now.nodes.items in
    let listed = c.args._search.now.candidates.now in
    let here : v < length listed = omega (arith, v_in, all, ap length c.requires.search.listed) in
    let numbers = numbers_are nodes listed c.args.touched.now.candidates v c.of.result.now c.of.ensures c.requires.candidates here in
    let marks = length-map (get_or listed v []) (λ (p : Place). get_or nodes p.0.0 true) in
    let own = (c.requires.rows.each v (omega (arith, v_in, all))).one_each in
    let its : ◌≡◌ {A = ℕ} (length old) (length (get_or c.args.rows.now.items v [])) = ap length is_old in
    let candidates : ◌≡◌ {A = ℕ} (length (get_or listed v [])) (length (candidates_at s v)) = ap (λ (l : List (List Place)). length (get_or l v [])) c.requires.search.listed in
    let row = row_after s last next v c.args.touched.now.nodes.items old c.forget.new.self
    (record { sound = c.requires.search.mapper.sound; first = c.requires.last; second = c.requires.next })
    v_in touched.nodes (subst (λ (r : List Bool). IsRow s last v r) (sym is_old) (c.requires.rows.each v (omega (arith, v_in, all))))
    (record {
      count = forgot.one_each;
      known = λ k lt yes. forgot.known k yes;
      taken = λ k lt yes. subst (λ (l : List (List Place)). get_or (marks_of nodes (get_or l v [])) k true ≡ false) c.requires.search.listed
          (known_unmarked (marks_of nodes (get_or listed v [])) c.forget.new.self c.of.result.now k numbers forgot.gone (omega (arith, lt, own, its, candidates, marks)) yes);
      here = λ k lt yes. (touched.virts v (sym c.has-all.ensures ∙ forgot.all k yes)).here;
      class = λ k lt yes. (touched.virts v (sym c.has-all.ensures ∙ forgot.all k yes)).class;
    }) in
    record {
      count = length-set c.loop-virt.rows.items v c.forget.new.self ∙ count;
      done = one_more (λ k r. IsRow s next k r) c.loop-virt.rows.items v c.forget.new.self (omega (arith, count, each, all, v_in)) was.done row;
      later = λ k le. get_or-set_other c.loop-virt.rows.items v k c.forget.new.self [] (λ e. absurd (omega (arith, e, le))) ∙ was.later k (omega (arith, le));
    }
