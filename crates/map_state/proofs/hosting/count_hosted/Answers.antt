use Rattle.std.proofs.Common.{◌≡◌, ◌<◌, ◌+◌, ◌∙◌, inl, inr, ℕ, List, length, take, get_or, Bool, cond, eqb, ap, sym, subst, arith, get_or-set_same, get_or-set_other}
use Rattle.std.proofs.Math.ListN.{set}
use Rattle.std.proofs.lemmas.Bool.{cases_eq, eq-eqb, ne_eqb}
use Rattle.std.proofs.lemmas.List.{length-set, length-take-le, get_or_read}
use Rattle.std.proofs.lemmas.List.Sums.{sum_by_more, count_by-le-length}
use Rattle.lab_model.specs.Shapes.{Place}
use Rattle.map_state.proofs.hosting.count_hosted.Goals as goal

pub overflow_add-index_mut : goal.overflow_add-index_mut
overflow_add-index_mut c =
    let places = c.args.mapping.now.places in
    let k = c.loop-place.place-index in
    let p = c.place-item.result in
    let inv = c.loop-place.invariant in
    let slice = ap length c.as_slice-place-items.ensures in
    let test = c.loop-place-test.true in
    let lt : k < length places = omega (arith, slice, test) in
    let is : p ≡ get_or places k p = c.place-item.is ∙ ap (λ (l : List Place). get_or l k p) c.as_slice-place-items.ensures in
    let node = subst (λ (q : Place). q.0.0 < length c.args.lab.now.nodes) (sym is) (c.requires.within k p lt) in
    let count = inv.one_each in
    let at : ◌≡◌ {A = ℕ} c.index_mut.result.now (get_or c.loop-place.hosted.items p.0.0 0) = get_or_read c.loop-place.hosted.items p.0.0 c.index_mut.result.now (omega (arith, node, count)) c.index_mut.ensures.value 0 in
    let hosted = inv.hosted p.0.0 node in
    let few = count_by-le-length (λ (q : Place). eqb q.0.0 p.0.0) (take k places) in
    let taken = length-take-le k places (omega (arith, lt)) in
    let all = c.requires.few in
    omega (arith, at, hosted, few, taken, lt, all)

pub loop-place-preserved : goal.loop-place-preserved
loop-place-preserved c =
    let places = c.args.mapping.now.places in
    let items = c.loop-place.hosted.items in
    let k = c.loop-place.place-index in
    let p = c.place-item.result in
    let inv = c.loop-place.invariant in
    let slice = ap length c.as_slice-place-items.ensures in
    let test = c.loop-place-test.true in
    let lt : k < length places = omega (arith, slice, test) in
    let is : p ≡ get_or places k p = c.place-item.is ∙ ap (λ (l : List Place). get_or l k p) c.as_slice-place-items.ensures in
    let node = subst (λ (q : Place). q.0.0 < length c.args.lab.now.nodes) (sym is) (c.requires.within k p lt) in
    let count = inv.one_each in
    let within : p.0.0 < length items = omega (arith, node, count) in
    let at : ◌≡◌ {A = ℕ} c.index_mut.result.now (get_or items p.0.0 0) = get_or_read items p.0.0 c.index_mut.result.now within c.index_mut.ensures.value 0 in
    record {
      one_each = length-set items p.0.0 (c.index_mut.result.now + 1) ∙ inv.one_each;
      hosted = λ n n_lt.
          let more = sum_by_more (λ (q : Place). cond (eqb q.0.0 n) 1 0) places k p lt in
          let here : ◌≡◌ {A = ℕ} (cond (eqb (get_or places k p).0.0 n) 1 0) (cond (eqb p.0.0 n) 1 0) = ap (λ (q : Place). cond (eqb q.0.0 n) 1 0) (sym is) in
          let before = inv.hosted n n_lt in
          elim (cases_eq n p.0.0) [
            | inl same ↦ (
                let new : ◌≡◌ {A = ℕ} (get_or (set items p.0.0 (c.index_mut.result.now + 1)) n 0) (c.index_mut.result.now + 1) = ap (λ (j : ℕ). get_or (set items p.0.0 (c.index_mut.result.now + 1)) j 0) same ∙ get_or-set_same items p.0.0 (c.index_mut.result.now + 1) 0 within in
                let old : ◌≡◌ {A = ℕ} (get_or items n 0) (get_or items p.0.0 0) = ap (λ (j : ℕ). get_or items j 0) same in
                let one : ◌≡◌ {A = ℕ} (cond (eqb p.0.0 n) 1 0) 1 = ap (λ (b : Bool). cond b 1 0) (eq-eqb p.0.0 n (sym same)) in
                omega (arith, new, old, at, before, more, here, one))
            | inr apart ↦ (
                let new : ◌≡◌ {A = ℕ} (get_or (set items p.0.0 (c.index_mut.result.now + 1)) n 0) (get_or items n 0) = get_or-set_other items p.0.0 n (c.index_mut.result.now + 1) 0 apart in
                let none : ◌≡◌ {A = ℕ} (cond (eqb p.0.0 n) 1 0) 0 = ap (λ (b : Bool). cond b 1 0) (ne_eqb p.0.0 n (λ e. apart (sym e))) in
                omega (arith, new, before, more, here, none))
          ];
    }
