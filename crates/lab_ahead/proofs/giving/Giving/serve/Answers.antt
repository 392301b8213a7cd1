use Rattle.std.proofs.Common.{Bool, List, length, ap, subst, arith}
use Rattle.lab_ahead.specs.declared.tree.Search.{Search}
use Rattle.lab_ahead.specs.SearchTrees.{IsSearched, owners_in, table_in}
use Rattle.lab_ahead.proofs.Exchanges.{nodes_still, none_there, one_here, table_still}
use Rattle.lab_ahead.proofs.giving.Giving.serve.Goals as goal

pub search-requires-clause-start : goal.search-requires-clause-start
search-requires-clause-start c =
    let same = table_still c.args.self.now c.loop-given.self c.loop-given.invariant.nodes in
    omega (arith, c.requires.need, ap (λ (t : List (List Bool)). length t) same)

pub exchange-requires-clause-path : goal.exchange-requires-clause-path
exchange-requires-clause-path c =
    subst (λ (s : Search). IsSearched (table_in c.loop-given.self) (owners_in c.loop-given.self) c.args.need s) c.in-Free.is c.in_ok-path.ensures

pub loop-given-preserved : goal.loop-given-preserved
loop-given-preserved c =
    let before = c.loop-given.invariant in
    let after = c.exchange.ensures in
    record {
      whole = after.whole;
      nodes = nodes_still c.args.self.now c.loop-given.self c.exchange.new.self before.nodes after.nodes;
      others = λ n ne. omega (arith, after.held n, none_there c.args.need n ne, before.others n ne);
      own = omega (arith, after.held c.args.need, one_here c.args.need, before.own);
    }

pub returns-in-Stuck-clause-answer : goal.returns-in-Stuck-clause-answer
returns-in-Stuck-clause-answer c = (
  subst (λ (s : Search). IsSearched (table_in c.loop-given.self) (owners_in c.loop-given.self) c.args.need s) c.in-Stuck.is c.in_ok-path.ensures,
  omega (arith, c.loop-given.invariant.own, c.loop-given-test.true),
)
