use Rattle.std.proofs.Common.{◌≡◌, ◌<◌, Bool, true, false, List, None, length, get_or, sym, ap, subst, ◌∙◌, arith}
use Rattle.std.proofs.lemmas.Bool.{false≢true}
use Rattle.std.proofs.lemmas.List.{get_or_read}
use Rattle.lab_ahead.specs.declared.tree.Step.{Step}
use Rattle.lab_ahead.specs.declared.tree.SearchTree.{SearchTree}
use Rattle.lab_ahead.specs.SearchTrees.{AreSteps, Extends, IsTaken, owners_in, table_in}
use Rattle.lab_ahead.proofs.TreeLaws.{reached_within, same_steps, still_alike}
use Rattle.lab_ahead.proofs.LookLaws.{all_looked, among_nodes, can_take_there, closed_more, read_step, row_is, served_within, table_length}
use Rattle.lab_ahead.proofs.giving.Giving.look.Goals as goal
use Rattle.lab_ahead.proofs.giving.Giving.look.Goals.{then-row-i+in-Some+in_ok-reach-in-Some, else-row-i}

pub index-requires-2 : goal.index-requires-2
index-requires-2 c =
    let is = ap (λ (s : Step). s.need) (read_step c.args.tree.now.steps.items c.args.place c.index.result.now c.requires.place c.index.ensures) in
    let within : c.index.result.now.need < length (table_in c.args.self.now) = reached_within c.index.result.now.need c.requires.tree (c.args.place, c.requires.place, is) in
    omega (arith, table_length c.args.self.now)

pub index-requires-then-row-i : goal.index-requires-then-row-i
index-requires-then-row-i c =
    let inside : c.loop-i.i < length c.args.self.now.owners.items = among_nodes c.args.self.now c.args.tree.now.steps.items c.loop-i.tree.steps.items c.args.tree.now.seen.items c.args.place c.index.result.now c.index-2.result.now c.as_slice-row.result.now
    c.requires.tree c.requires.place c.index.ensures c.loop-i.invariant.extends c.index-2.ensures c.as_slice-row.ensures.value c.requires.whole c.loop-i.i c.loop-i-test.true in
    omega (arith, c.args.self.now.owners.ok.0)

pub reach-requires-clause-owned : goal.reach-requires-clause-owned
reach-requires-clause-owned c =
    let inside = among_nodes c.args.self.now c.args.tree.now.steps.items c.loop-i.tree.steps.items c.args.tree.now.seen.items c.args.place c.index.result.now c.index-2.result.now c.as_slice-row.result.now
    c.requires.tree c.requires.place c.index.ensures c.loop-i.invariant.extends c.index-2.ensures c.as_slice-row.ensures.value c.requires.whole c.loop-i.i c.loop-i-test.true in
    sym (get_or_read (owners_in c.args.self.now) c.loop-i.i c.index-then-row-i.result.now inside c.index-then-row-i.ensures None) ∙ c.in-Some.is

pub reach-requires-clause-inside : goal.reach-requires-clause-inside
reach-requires-clause-inside c =
    let inside = among_nodes c.args.self.now c.args.tree.now.steps.items c.loop-i.tree.steps.items c.args.tree.now.seen.items c.args.place c.index.result.now c.index-2.result.now c.as_slice-row.result.now
    c.requires.tree c.requires.place c.index.ensures c.loop-i.invariant.extends c.index-2.ensures c.as_slice-row.ensures.value c.requires.whole c.loop-i.i c.loop-i-test.true in
    let owned = sym (get_or_read (owners_in c.args.self.now) c.loop-i.i c.index-then-row-i.result.now inside c.index-then-row-i.ensures None) ∙ c.in-Some.is in
    served_within (table_in c.args.self.now) c.in-Some.owner c.loop-i.i (c.requires.whole.served c.loop-i.i c.in-Some.owner owned)

pub reach-requires-clause-served : goal.reach-requires-clause-served
reach-requires-clause-served c =
    can_take_there c.args.self.now c.args.tree.now.steps.items c.loop-i.tree.steps.items c.args.tree.now.seen.items c.args.place c.index.result.now c.index-2.result.now c.as_slice-row.result.now
    c.requires.tree c.requires.place c.index.ensures c.loop-i.invariant.extends c.index-2.ensures c.as_slice-row.ensures.value c.loop-i.i c.if-row-i.true

pub returns-in-None-clause-answer : goal.returns-in-None-clause-answer
returns-in-None-clause-answer c =
    let inside = among_nodes c.args.self.now c.args.tree.now.steps.items c.loop-i.tree.steps.items c.args.tree.now.seen.items c.args.place c.index.result.now c.index-2.result.now c.as_slice-row.result.now
    c.requires.tree c.requires.place c.index.ensures c.loop-i.invariant.extends c.index-2.ensures c.as_slice-row.ensures.value c.requires.whole c.loop-i.i c.loop-i-test.true in
    record {
      step = omega (arith, c.requires.place, c.loop-i.invariant.extends.longer);
      inside = inside;
      free = sym (get_or_read (owners_in c.args.self.now) c.loop-i.i c.index-then-row-i.result.now inside c.index-then-row-i.ensures None) ∙ c.in-None.is;
      served = can_take_there c.args.self.now c.args.tree.now.steps.items c.loop-i.tree.steps.items c.args.tree.now.seen.items c.args.place c.index.result.now c.index-2.result.now c.as_slice-row.result.now
          c.requires.tree c.requires.place c.index.ensures c.loop-i.invariant.extends c.index-2.ensures c.as_slice-row.ensures.value c.loop-i.i c.if-row-i.true;
    }

pub loop-i-preserved : goal.loop-i-preserved
loop-i-preserved c =
    let table = table_in c.args.self.now in
    let owners = owners_in c.args.self.now in
    let before = c.loop-i.invariant in
    elim c.if-row-i.branch [
      | then-row-i+in-Some+in_ok-reach-in-Some w ↦
          let now = w.in_ok-reach-in-Some.ensures in
          let steps = ap (λ (t : SearchTree). t.steps.items) w.tree-is in
          record {
            tree = subst (λ (t : SearchTree). AreSteps table owners t.steps.items t.seen.items) (sym w.tree-is) now.tree;
            extends = subst (λ (l : List Step). Extends c.args.tree.now.steps.items l) (sym steps) (still_alike before.extends now.extends);
            closed = λ j lt can. subst (λ (l : List Step). IsTaken owners l j) (sym steps)
                (closed_more table owners c.loop-i.tree.steps.items w.reach.new.tree.steps.items c.index.result.now.need c.loop-i.i now.extends before.closed (λ _. now.reached) j lt can);
          }
      | else-row-i w ↦
          let steps = ap (λ (t : SearchTree). t.steps.items) w.tree-is in
          let row = row_is c.args.self.now c.args.tree.now.steps.items c.loop-i.tree.steps.items c.args.tree.now.seen.items c.args.place c.index.result.now c.index-2.result.now c.as_slice-row.result.now
          c.requires.tree c.requires.place c.index.ensures before.extends c.index-2.ensures c.as_slice-row.ensures.value in
          record {
            tree = subst (λ (t : SearchTree). AreSteps table owners t.steps.items t.seen.items) (sym w.tree-is) before.tree;
            extends = subst (λ (l : List Step). Extends c.args.tree.now.steps.items l) (sym steps) before.extends;
            closed = λ j lt can. subst (λ (l : List Step). IsTaken owners l j) (sym steps)
                (closed_more table owners c.loop-i.tree.steps.items c.loop-i.tree.steps.items c.index.result.now.need c.loop-i.i (same_steps c.loop-i.tree.steps.items) before.closed
                (λ here. absurd (false≢true (sym w.if-row-i.false ∙ subst (λ (l : List Bool). get_or l c.loop-i.i false ≡ true) row here))) j lt can);
          }
    ]

pub returns-clause-answer : goal.returns-clause-answer
returns-clause-answer c =
    all_looked c.args.self.now c.args.tree.now.steps.items c.loop-i.tree.steps.items c.args.tree.now.seen.items c.args.place c.index.result.now c.index-2.result.now c.as_slice-row.result.now
    c.requires.tree c.requires.place c.index.ensures c.loop-i.invariant.extends c.index-2.ensures c.as_slice-row.ensures.value (λ j lt can. c.loop-i.invariant.closed j (omega (arith, c.loop-i-test.false)) can)
