use Rattle.std.proofs.Common.{Some, List, set, sym, subst, ◌∙◌}
use Rattle.std.proofs.lemmas.List.{length-set}
use Rattle.lab_ahead.specs.declared.tree.Step.{Step}
use Rattle.lab_ahead.specs.SearchTrees.{owners_in, step_at, table_in}
use Rattle.lab_ahead.proofs.Exchanges.{IsUnderWay, counts_last, passed_on}
use Rattle.lab_ahead.proofs.giving.Giving.exchange.Goals as goal

pub loop-place-preserved : goal.loop-place-preserved
loop-place-preserved c =
    let table = table_in c.args.self.now in
    let old = owners_in c.args.self.now in
    let steps = c.args.path.now.tree.steps.items in
    let owners = c.loop-place.self.owners.items in
    let place = c.loop-place.place in
    let way = passed_on table old steps c.args.path.now.tree.seen.items c.requires.path.tree owners c.loop-place.position place c.loop-place.invariant.way c.loop-place-test.true in
    record {
      nodes = record { table = c.loop-place.invariant.nodes.table; nodes = length-set owners c.loop-place.position _ ∙ c.loop-place.invariant.nodes.nodes };
      way = subst (λ (l : List Step). IsUnderWay table old (set owners c.loop-place.position (Some (step_at l place).need)) steps (step_at l place).position (step_at l place).parent) (sym c.as_slice-steps.ensures.value) way;
    }

pub returns-clause-held : goal.returns-clause-held
returns-clause-held c = λ n.
    counts_last (table_in c.args.self.now) (owners_in c.args.self.now) c.args.path.now.tree.steps.items c.args.path.now.tree.seen.items c.requires.path.tree c.loop-place.self.owners.items c.loop-place.position
    c.loop-place.place c.loop-place.invariant.way c.args.start n
