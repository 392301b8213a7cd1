use Rattle.std.proofs.Common.{◌<◌, ◌+◌, ◌∙◌, inl, inr, ℕ, length, refl, subst, sym, arith}
use Rattle.std.proofs.lemmas.Bool.{cases_lt}
use Rattle.virt_topo.specs.declared.mapping.Mapping.{Mapping}
use Rattle.map_anneal.specs.Searches.{sought_of}
use Rattle.map_anneal.specs.Sought.{NoExchange}
use Rattle.map_anneal.specs.RuledOut.{IsExchangeNoLess, IsPairs}
use Rattle.map_anneal.proofs.PairLaws.{known_no_exchange, pair_noted}
use Rattle.map_anneal.proofs.Upward.{below_next}
use Rattle.map_anneal.proofs.descent.cheaper_exchange_of.Goals as goal

pub loop-second-init : goal.loop-second-init
loop-second-init g c =
    let s = sought_of c.args.search.now c.args.rule.now.number in
    let m = c.args.at.now.state.mapping in
    let v = c.args.first in
    let found = c.unknown_from-second.ensures in
    record {
      tried = c.requires.at;
      same = refl;
      cost = refl;
      above = omega (arith, found.from);
      row = c.requires.row;
      none = λ u above below. known_no_exchange s m v u (c.requires.row.known u above (omega (arith, below, found.within)) (found.known u (omega (arith, above)) below));
    }

pub loop-second-preserved : goal.loop-second-preserved
loop-second-preserved g c =
    let s = sought_of c.args.search.now c.args.rule.now.number in
    let m = c.args.at.now.state.mapping in
    let v = c.args.first in
    let u = c.loop-second.second in
    let was = c.loop-second.invariant in
    let done = c.in_ok-cheaper_exchange.ensures in
    let lt : u < length c.loop-second.row = omega (arith, c.loop-second-test.true, c.len.ensures) in
    let noted = c.cheaper_exchange.new.at.ruled_out in
    let row : IsPairs s m v c.note.new.self = subst (IsPairs s m v) (sym c.note.ensures)
    (pair_noted s m v u c.loop-second.row noted was.row lt (λ is. subst (λ (y : Mapping). IsExchangeNoLess s y v u) was.same (done.ruled_out c.if-branch.false is))) in
    let found = c.unknown_from-second-in-loop-second.ensures in
    let Done : ℕ → Type 0 = λ n. v < n → NoExchange s m v n in
    record {
      tried = done.tried;
      same = done.same c.if-branch.false ∙ was.same;
      cost = done.same_cost c.if-branch.false ∙ was.cost;
      above = omega (arith, was.above, found.from);
      row = row;
      none = λ k above below. elim (cases_lt k (u + 1)) [
        | inl tried ↦ below_next Done u (λ n less more. was.none n more less) (λ more. subst (λ (y : Mapping). NoExchange s y v u) was.same (done.none c.if-branch.false)) k tried above
        | inr later ↦ known_no_exchange s m v k (row.known k above (omega (arith, below, found.within)) (found.known k later below))
      ];
    }
