use Rattle.std.proofs.Common.{◌<◌, ◌∙◌, length, subst, arith, sym}
use Rattle.virt_topo.specs.declared.mapping.Mapping.{Mapping}
use Rattle.map_anneal.specs.Sought.{NoMove}
use Rattle.map_anneal.specs.Searches.{sought_of}
use Rattle.map_anneal.specs.RuledOut.{IsRow}
use Rattle.map_anneal.proofs.TriedMoves.{rows_noted}
use Rattle.map_anneal.proofs.Upward.{below_next}
use Rattle.std.proofs.lemmas.Bool.{false≢true}
use Rattle.map_anneal.proofs.descent.any_cheaper_move.Goals as goal

pub loop-node-preserved : goal.loop-node-preserved
loop-node-preserved g c =
    let s = sought_of c.args.search.now c.args.rule.now.number in
    let m = c.args.at.now.state.mapping in
    let v = c.loop-node.node in
    let was = c.loop-node.invariant in
    let rows = c.loop-node.rows.items in
    let now = was.rows.one_each in
    let first = c.requires.rows.one_each in
    let lt : v < length rows = omega (arith, now, first, c.loop-node-test.true, c.len-node-end.ensures) in
    let done = c.in_ok-cheaper_move_of.ensures in
    let row = c.cheaper_move_of.new.row in
    record {
      tried = done.tried;
      same = done.same c.if-branch.false ∙ was.same;
      cost = done.same_cost c.if-branch.false ∙ was.cost;
      rows = rows_noted s m v rows row was.rows lt (subst (λ (y : Mapping). IsRow s y v row) was.same done.row);
      none = λ u below. below_next (λ n. NoMove s m n) v was.none (subst (λ (y : Mapping). NoMove s y v) was.same (done.none c.if-branch.false)) u below;
    }

pub index_mut-requires : goal.index_mut-requires
index_mut-requires g c =
    let was = c.loop-node.invariant in
    let now = was.rows.one_each in
    let first = c.requires.rows.one_each in
    omega (arith, now, first, c.loop-node-test.true, c.len-node-end.ensures)

pub cheaper_move_of-requires-clause-at : goal.cheaper_move_of-requires-clause-at
cheaper_move_of-requires-clause-at g c = c.loop-node.invariant.tried

pub cheaper_move_of-requires-clause-within : goal.cheaper_move_of-requires-clause-within
cheaper_move_of-requires-clause-within g c =
    let first = c.requires.rows.one_each in
    omega (arith, first, c.loop-node-test.true, c.len-node-end.ensures)

pub returns-then-branch-clause-tried : goal.returns-then-branch-clause-tried
returns-then-branch-clause-tried g c = c.in_ok-cheaper_move_of.ensures.tried

pub returns-then-branch-clause-cheaper : goal.returns-then-branch-clause-cheaper
returns-then-branch-clause-cheaper g c = λ is. omega (arith, c.in_ok-cheaper_move_of.ensures.cheaper c.if-branch.true, c.loop-node.invariant.cost)

pub returns-then-branch-clause-same : goal.returns-then-branch-clause-same
returns-then-branch-clause-same g c = λ is. absurd (false≢true (sym is))

pub returns-then-branch-clause-same_cost : goal.returns-then-branch-clause-same_cost
returns-then-branch-clause-same_cost g c = λ is. absurd (false≢true (sym is))

pub returns-then-branch-clause-none : goal.returns-then-branch-clause-none
returns-then-branch-clause-none g c = λ is. absurd (false≢true (sym is))

pub returns-then-branch-clause-rows : goal.returns-then-branch-clause-rows
returns-then-branch-clause-rows g c =
    let s = sought_of c.args.search.now c.args.rule.now.number in
    let m = c.args.at.now.state.mapping in
    let v = c.loop-node.node in
    let was = c.loop-node.invariant in
    let now = was.rows.one_each in
    let first = c.requires.rows.one_each in
    let lt : v < length c.loop-node.rows.items = omega (arith, now, first, c.loop-node-test.true, c.len-node-end.ensures) in
    let row = c.cheaper_move_of.new.row in
    rows_noted s m v c.loop-node.rows.items row was.rows lt (subst (λ (y : Mapping). IsRow s y v row) was.same c.in_ok-cheaper_move_of.ensures.row)

pub returns-clause-tried : goal.returns-clause-tried
returns-clause-tried g c = c.loop-node.invariant.tried

pub returns-clause-same : goal.returns-clause-same
returns-clause-same g c = λ is. c.loop-node.invariant.same

pub returns-clause-same_cost : goal.returns-clause-same_cost
returns-clause-same_cost g c = λ is. c.loop-node.invariant.cost

pub returns-clause-rows : goal.returns-clause-rows
returns-clause-rows g c = c.loop-node.invariant.rows

pub returns-clause-cheaper : goal.returns-clause-cheaper
returns-clause-cheaper g c = λ is. absurd (false≢true is)

pub returns-clause-none : goal.returns-clause-none
returns-clause-none g c = λ is v lt.
    let first = c.requires.rows.one_each in
    c.loop-node.invariant.none v (omega (arith, lt, first, c.loop-node-test.false, c.len-node-end.ensures))
