use Rattle.std.proofs.Common.{◌<◌, ◌∙◌, List, All, sym, subst, arith}
use Rattle.virt_topo.specs.declared.limits.TheConstants.{MAX_SEGMENTS}
use Rattle.virt_topo.proofs.CableLaws.{sound_limits}
use Rattle.trunk_sums.specs.declared.made.Change.{Change}
use Rattle.trunk_sums.specs.Totals.{used_of_all}
use Rattle.trunk_sums.specs.Remade.{remade}
use Rattle.map_state.specs.Planned.{planned}
use Rattle.map_state.proofs.PartSums.{uses_are}
use Rattle.map_state.proofs.PlannedLaws.{planned_shaped}
use Rattle.map_state.proofs.state.MapState.foreseen.Goals as goal

pub are_apart-requires : goal.are_apart-requires
are_apart-requires c =
    let few = (sound_limits c.args.search.now.mapper.wiring.now c.requires.search.mapper.sound).segments in
    subst (λ (l : List Change). All (λ (y : Change). y.row.segment < MAX_SEGMENTS) l) (sym c.deref.ensures.value)
    (λ k d lt. (let here = (c.requires.changes.rows k d lt).segment in omega (arith, here, few)))

pub returns-clause-parts : goal.returns-clause-parts
returns-clause-parts c =
    let x = c.args.search.now.mapper in
    let b = c.args.self.now in
    let laid = c.requires.state in
    let shaped = planned_shaped c.args.search.now b laid c.requires.changes in
    let uses = c.total_after-uses.ensures
    ∙ (λ j. used_of_all x.lab.now x.wiring.now (remade (c.as_slice-plugs.ensures j) (c.deref-2.ensures.value j)))
    ∙ uses_are x.lab.now x.wiring.now (planned b) shaped in
    let nodes = laid.hosting.nodes in
    let soft = laid.hosting.soft in
    (λ j. record { uses = uses j; nodes = nodes j; soft = soft j })

pub returns-clause-shaped : goal.returns-clause-shaped
returns-clause-shaped c = planned_shaped c.args.search.now c.args.self.now c.requires.state c.requires.changes

pub returns-then-not-are_apart-clause-shaped : goal.returns-then-not-are_apart-clause-shaped
returns-then-not-are_apart-clause-shaped c = planned_shaped c.args.search.now c.args.self.now c.requires.state c.requires.changes

pub returns-in_default-clause-shaped : goal.returns-in_default-clause-shaped
returns-in_default-clause-shaped c = planned_shaped c.args.search.now c.args.self.now c.requires.state c.requires.changes
