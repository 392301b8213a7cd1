use Rattle.std.proofs.Common.{◌∙◌, List, ap}
use Rattle.lab_base.specs.declared.ids.IfaceId.{IfaceId}
use Rattle.trunk_sums.specs.Totals.{used_of_all}
use Rattle.map_state.proofs.PartSums.{uses_are}
use Rattle.map_state.proofs.state.MapState.parts.Goals as goal

pub returns-in-Some-clause-parts : goal.returns-in-Some-clause-parts
returns-in-Some-clause-parts c =
    let x = c.args.search.now.mapper in
    let laid = c.requires.state in
    let uses = c.total.ensures ∙ ap (λ (l : List IfaceId). used_of_all x.lab.now x.wiring.now l) c.as_slice-plugs.ensures ∙ uses_are x.lab.now x.wiring.now c.args.self.now.mapping laid.shaped in
    let nodes = laid.hosting.nodes in
    let soft = laid.hosting.soft in
    (λ j. record { uses = uses j; nodes = nodes j; soft = soft j })
