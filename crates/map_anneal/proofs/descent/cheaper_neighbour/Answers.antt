use Rattle.std.proofs.Common.{◌<◌, ◌∙◌, ℕ, length, sym, subst, arith}
use Rattle.std.proofs.lemmas.Bool.{false≢true}
use Rattle.virt_topo.specs.declared.mapping.Mapping.{Mapping}
use Rattle.map_anneal.specs.Sought.{choices, NoExchange}
use Rattle.map_anneal.specs.Searches.{sought_of}
use Rattle.map_anneal.specs.RuledOut.{ArePairs}
use Rattle.map_anneal.proofs.descent.cheaper_neighbour.Goals as goal

pub any_cheaper_move-requires-clause-rows : goal.any_cheaper_move-requires-clause-rows
any_cheaper_move-requires-clause-rows g c = c.requires.known.rows

pub returns-then-branch-clause-tried : goal.returns-then-branch-clause-tried
returns-then-branch-clause-tried g c = c.in_ok-any_cheaper_move.ensures.tried

pub returns-then-branch-clause-cheaper : goal.returns-then-branch-clause-cheaper
returns-then-branch-clause-cheaper g c = λ is. c.in_ok-any_cheaper_move.ensures.cheaper c.if-branch.true

pub returns-then-branch-clause-same : goal.returns-then-branch-clause-same
returns-then-branch-clause-same g c = λ is. absurd (false≢true (sym is))

pub returns-then-branch-clause-same_cost : goal.returns-then-branch-clause-same_cost
returns-then-branch-clause-same_cost g c = λ is. absurd (false≢true (sym is))

pub returns-then-branch-clause-none : goal.returns-then-branch-clause-none
returns-then-branch-clause-none g c = λ is. absurd (false≢true (sym is))

pub returns-then-branch-clause-known : goal.returns-then-branch-clause-known
returns-then-branch-clause-known g c = record { rows = c.in_ok-any_cheaper_move.ensures.rows; pairs = c.requires.known.pairs }

pub any_cheaper_exchange-requires-clause-at : goal.any_cheaper_exchange-requires-clause-at
any_cheaper_exchange-requires-clause-at g c = c.in_ok-any_cheaper_move.ensures.tried

pub any_cheaper_exchange-requires-clause-pairs : goal.any_cheaper_exchange-requires-clause-pairs
any_cheaper_exchange-requires-clause-pairs g c =
    let s = sought_of c.args.search.now c.args.rule.now.number in
    subst (λ (y : Mapping). ArePairs s y c.args.known.now.pairs.items) (sym (c.in_ok-any_cheaper_move.ensures.same c.if-branch.false)) c.requires.known.pairs

pub returns-clause-tried : goal.returns-clause-tried
returns-clause-tried g c = c.in_ok-yes.ensures.tried

pub returns-clause-cheaper : goal.returns-clause-cheaper
returns-clause-cheaper g c = λ is. omega (arith, c.in_ok-yes.ensures.cheaper is, c.in_ok-any_cheaper_move.ensures.same_cost c.if-branch.false)

pub returns-clause-same : goal.returns-clause-same
returns-clause-same g c = λ is. c.in_ok-yes.ensures.same is ∙ c.in_ok-any_cheaper_move.ensures.same c.if-branch.false

pub returns-clause-same_cost : goal.returns-clause-same_cost
returns-clause-same_cost g c = λ is. c.in_ok-yes.ensures.same_cost is ∙ c.in_ok-any_cheaper_move.ensures.same_cost c.if-branch.false

pub returns-clause-none : goal.returns-clause-none
returns-clause-none g c = λ is.
    let s = sought_of c.args.search.now c.args.rule.now.number in
    let t = c.requires.at in
    record {
      node_map = record { choice = t.state.state.choice; feasible = t.state.mapped };
      moves = c.in_ok-any_cheaper_move.ensures.none c.if-branch.false;
      exchanges = subst (λ (y : Mapping). (v u : ℕ) → v < u → u < length (choices s) → NoExchange s y v u) (c.in_ok-any_cheaper_move.ensures.same c.if-branch.false) (c.in_ok-yes.ensures.none is);
    }

pub returns-clause-known : goal.returns-clause-known
returns-clause-known g c =
    let s = sought_of c.args.search.now c.args.rule.now.number in
    record { rows = c.in_ok-any_cheaper_move.ensures.rows; pairs = subst (λ (y : Mapping). ArePairs s y c.any_cheaper_exchange.new.pairs.items) (c.in_ok-any_cheaper_move.ensures.same c.if-branch.false) c.in_ok-yes.ensures.pairs }
