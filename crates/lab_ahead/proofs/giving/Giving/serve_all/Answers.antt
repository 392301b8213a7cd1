use Rattle.std.proofs.Common.{◌≡◌, ◌<◌, ◌+◌, [], Bool, List, Option, MatchOption, length, refl, ap, subst, arith}
use Rattle.std.proofs.lemmas.List.{get_or_read}
use Rattle.lab_ahead.specs.declared.fitting.Need.{Need}
use Rattle.lab_ahead.specs.declared.tree.SearchTree.{SearchTree}
use Rattle.lab_ahead.specs.SearchTrees.{IsStuck, held, owners_in, table_in}
use Rattle.lab_ahead.proofs.Exchanges.{nodes_still, table_still}
use Rattle.lab_ahead.proofs.Shown.{none_met, one_more_met, wanting}
use Rattle.lab_ahead.proofs.giving.Giving.serve_all.Goals as goal

pub loop-n-init : goal.loop-n-init
loop-n-init c = record { whole = c.requires.whole; nodes = record { table = refl; nodes = refl }; met = none_met c.args.needs.now (owners_in c.args.self.now) c.requires.none }

pub serve-requires-clause-need : goal.serve-requires-clause-need
serve-requires-clause-need c =
    let same = table_still c.args.self.now c.loop-n.self c.loop-n.invariant.nodes in
    omega (arith, c.requires.needs, c.loop-n-test.true, ap (λ (t : List (List Bool)). length t) same)

pub loop-n-preserved : goal.loop-n-preserved
loop-n-preserved c =
    let needs = c.args.needs.now in
    let n = c.loop-n.n in
    let old = owners_in c.loop-n.self in
    let new = owners_in c.serve.new.self in
    let table = table_in c.serve.new.self in
    let count = c.index-needs-n.result.count in
    let now = c.in_ok-tree.ensures in
    let read = ap (λ (need : Need). need.count) (get_or_read needs n c.index-needs-n.result c.loop-n-test.true c.index-needs-n.is (record { kind = []; count = 0 })) in
    let all : held new n ≡ held old n + count =
    subst (λ (o : Option SearchTree). MatchOption o (held new n ≡ held old n + count) (λ tree. IsStuck table new n tree × (held new n < held old n + count))) c.in_default.is now.answer in
    record {
      whole = now.whole;
      nodes = nodes_still c.args.self.now c.loop-n.self c.serve.new.self c.loop-n.invariant.nodes now.nodes;
      met = one_more_met needs n old new c.loop-n.invariant.met now.others (omega (arith, all, read));
    }

pub returns-in-Some-clause-answer : goal.returns-in-Some-clause-answer
returns-in-Some-clause-answer c =
    let needs = c.args.needs.now in
    let n = c.loop-n.n in
    let old = owners_in c.loop-n.self in
    let new = owners_in c.serve.new.self in
    let table = table_in c.serve.new.self in
    let count = c.index-needs-n.result.count in
    let now = c.in_ok-tree.ensures in
    let read = ap (λ (need : Need). need.count) (get_or_read needs n c.index-needs-n.result c.loop-n-test.true c.index-needs-n.is (record { kind = []; count = 0 })) in
    let stuck : IsStuck table new n c.in-Some.tree × (held new n < held old n + count) =
    subst (λ (o : Option SearchTree). MatchOption o (held new n ≡ held old n + count) (λ tree. IsStuck table new n tree × (held new n < held old n + count))) c.in-Some.is now.answer in
    wanting needs n old new c.loop-n.invariant.met now.others table c.in-Some.tree stuck.0 (omega (arith, stuck.1, read))
