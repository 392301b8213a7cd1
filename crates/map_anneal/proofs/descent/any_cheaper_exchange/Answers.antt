use Rattle.std.proofs.Common.{◌≡◌, ◌<◌, ◌∙◌, ℕ, [], length, get_or, subst, sym, arith}
use Rattle.std.proofs.lemmas.List.{get_or_default}
use Rattle.virt_topo.specs.declared.mapping.Mapping.{Mapping}
use Rattle.map_anneal.specs.Sought.{NoExchange, choices}
use Rattle.map_anneal.specs.Searches.{sought_of}
use Rattle.map_anneal.specs.RuledOut.{IsPairs}
use Rattle.map_anneal.proofs.PairLaws.{pairs_set}
use Rattle.map_anneal.proofs.Upward.{below_next}
use Rattle.map_anneal.proofs.descent.any_cheaper_exchange.Goals as goal

pub cheaper_exchange_of-requires-clause-row : goal.cheaper_exchange_of-requires-clause-row
cheaper_exchange_of-requires-clause-row g c =
    let s = sought_of c.args.search.now c.args.rule.now.number in
    let m = c.args.at.now.state.mapping in
    let v = c.loop-first.first in
    let was = c.loop-first.invariant in
    let rows = c.loop-first.pairs.items in
    let now = was.pairs.one_each in
    let first = c.requires.pairs.one_each in
    let lt : v < length rows = omega (arith, now, first, c.loop-first-test.true, c.len-first-end.ensures) in
    let at : c.index_mut.result.now ≡ get_or rows v [] = c.index_mut.ensures.value ∙ get_or_default rows v c.index_mut.result.now [] lt in
    subst (λ (y : Mapping). IsPairs s y v c.index_mut.result.now) (sym was.same)
    (subst (IsPairs s m v) (sym at) (was.pairs.each v (omega (arith, lt, now))))

pub returns-then-branch-clause-pairs : goal.returns-then-branch-clause-pairs
returns-then-branch-clause-pairs g c =
    let s = sought_of c.args.search.now c.args.rule.now.number in
    let m = c.args.at.now.state.mapping in
    let v = c.loop-first.first in
    let was = c.loop-first.invariant in
    let rows = c.loop-first.pairs.items in
    let now = was.pairs.one_each in
    let first = c.requires.pairs.one_each in
    let lt : v < length rows = omega (arith, now, first, c.loop-first-test.true, c.len-first-end.ensures) in
    let row = c.cheaper_exchange_of.new.row in
    pairs_set s m v rows row was.pairs lt (subst (λ (y : Mapping). IsPairs s y v row) was.same c.in_ok-cheaper_exchange_of.ensures.row)

pub loop-first-preserved : goal.loop-first-preserved
loop-first-preserved g c =
    let s = sought_of c.args.search.now c.args.rule.now.number in
    let m = c.args.at.now.state.mapping in
    let v = c.loop-first.first in
    let was = c.loop-first.invariant in
    let rows = c.loop-first.pairs.items in
    let now = was.pairs.one_each in
    let first = c.requires.pairs.one_each in
    let lt : v < length rows = omega (arith, now, first, c.loop-first-test.true, c.len-first-end.ensures) in
    let done = c.in_ok-cheaper_exchange_of.ensures in
    let row = c.cheaper_exchange_of.new.row in
    let Done : ℕ → Type 0 = λ k. (u : ℕ) → k < u → u < length (choices s) → NoExchange s m k u in
    record {
      tried = done.tried;
      same = done.same c.if-branch.false ∙ was.same;
      cost = done.same_cost c.if-branch.false ∙ was.cost;
      pairs = pairs_set s m v rows row was.pairs lt (subst (λ (y : Mapping). IsPairs s y v row) was.same done.row);
      none = λ k u below above within. below_next Done v (λ j less. λ i more in_all. was.none j i less more in_all) (subst (λ (y : Mapping). (u : ℕ) → v < u → u < length (choices s) → NoExchange s y v u) was.same (done.none c.if-branch.false)) k below u above within;
    }
