use Rattle.std.proofs.Common.{◌≡◌, ◌<◌, ◌+◌, ◌∙◌, inl, inr, ℕ, Bool, List, [], length, get_or, ap, sym, subst, arith, get_or-set_same, get_or-set_other}
use Rattle.std.proofs.Math.ListN.{set}
use Rattle.std.proofs.lemmas.Bool.{cases_eq}
use Rattle.std.proofs.lemmas.List.{length-set, get_or_default}
use Rattle.node_maps.proofs.MapLaws.{candidates_count}
use Rattle.map_anneal.specs.Searches.{sought_of}
use Rattle.map_anneal.specs.RuledOut.{IsPairs}
use Rattle.map_anneal.proofs.NoteLaws.{known_unmarked, numbers_within}
use Rattle.map_anneal.proofs.PairLaws.{pairs_after}
use Rattle.map_anneal.proofs.known.follow_pairs.Goals as goal

-- one row more
one_more : (P : ℕ → List Bool → Type 0) (rows : List (List Bool)) (virt : ℕ) (new : List Bool) → virt < length rows → ((v : ℕ) → v < virt → P v (get_or rows v [])) → P virt new
    → (v : ℕ) → v < virt + 1 → P v (get_or (set rows virt new) v [])
one_more P rows virt new lt done here v less = elim (cases_eq v virt) [
  | inl is ↦ subst (λ (k : ℕ). P k (get_or (set rows virt new) k [])) (sym is) (subst (P virt) (sym (get_or-set_same rows virt new [] lt)) here)
  | inr apart ↦ subst (P v) (sym (get_or-set_other rows virt v new [] apart)) (done v (omega (arith, less, apart)))
]

pub forget-requires : goal.forget-requires
forget-requires g c =
    let x = c.args._search.now.mapper in
    let v = c.loop-virt.virt in
    let was = c.loop-virt.invariant in
    let pairs = c.loop-virt.pairs.items in
    let count = was.count in
    let each = c.requires.pairs.one_each in
    let lt : v < length pairs = omega (arith, c.loop-virt-test.true, c.len-virt-end.ensures) in
    let old = c.index_mut.result.now in
    let is_old : old ≡ get_or c.args.pairs.now.items v [] = c.index_mut.ensures.value ∙ get_or_default pairs v old [] lt ∙ was.later v (omega arith) in
    let its : ◌≡◌ {A = ℕ} (length old) (length (get_or c.args.pairs.now.items v [])) = ap length is_old in
    let own = (c.requires.pairs.each v (omega (arith, lt, count, each))).one_each in
    numbers_within c.args.touched.now.virts.items c.as_slice.result.now (length old) (c.as_slice.ensures ∙ c.requires.numbers)
    (omega (arith, its, own, c.requires.touched.one_each, candidates_count x.lab.now x.free.now x.wiring.now))

pub loop-virt-preserved : goal.loop-virt-preserved
loop-virt-preserved g c =
    let x = c.args._search.now.mapper in
    let s = sought_of c.args._search.now c.args._rule.now.number in
    let last = c.args._last.now in
    let next = c.args._next.now in
    let touched = c.requires.touched in
    let v = c.loop-virt.virt in
    let was = c.loop-virt.invariant in
    let count = was.count in
    let all = candidates_count x.lab.now x.free.now x.wiring.now in
    let each = c.requires.pairs.one_each in
    let v_in : v < length x.wiring.now.nodes = omega (arith, count, each, all) in
    let old = c.index_mut.result.now in
    let at : old ≡ get_or c.loop-virt.pairs.items v [] = c.index_mut.ensures.value ∙ get_or_default c.loop-virt.pairs.items v c.index_mut.result.now [] (omega (arith, count, each, all, v_in)) in
    let is_old : old ≡ get_or c.args.pairs.now.items v [] = at ∙ was.later v (omega arith) in
    let own = (c.requires.pairs.each v (omega (arith, v_in, all))).one_each in
    let its : ◌≡◌ {A = ℕ} (length old) (length (get_or c.args.pairs.now.items v [])) = ap length is_old in
    let forgot = c.forget.ensures in
    let pairs = pairs_after s last next c.args.touched.now v old c.forget.new.self
    (record { sound = c.requires.search.mapper.sound; first = c.requires.last; second = c.requires.next })
    all v_in touched (subst (λ (r : List Bool). IsPairs s last v r) (sym is_old) (c.requires.pairs.each v (omega (arith, v_in, all))))
    (record {
      count = forgot.one_each;
      known = λ u lt yes. forgot.known u yes;
      first = λ u lt yes. sym c.has-all.ensures ∙ forgot.all u yes;
      second = λ u lt yes. known_unmarked c.args.touched.now.virts.items c.forget.new.self c.as_slice.result.now u (c.as_slice.ensures ∙ c.requires.numbers) forgot.gone
          (omega (arith, lt, its, own, touched.one_each, all)) yes;
    }) in
    record {
      count = length-set c.loop-virt.pairs.items v c.forget.new.self ∙ count;
      done = one_more (λ k r. IsPairs s next k r) c.loop-virt.pairs.items v c.forget.new.self (omega (arith, count, each, all, v_in)) was.done pairs;
      later = λ k le. get_or-set_other c.loop-virt.pairs.items v k c.forget.new.self [] (λ e. absurd (omega (arith, e, le))) ∙ was.later k (omega (arith, le));
    }
