use Rattle.std.proofs.Common.{sym, subst}
use Rattle.virt_topo.specs.declared.mapping.Mapping.{Mapping}
use Rattle.virt_topo.proofs.CableLaws.{sound_keeps}
use Rattle.lab_model.specs.Shapes.{IsShaped}
use Rattle.node_maps.specs.NodeMaps.{candidates, IsChoice}
use Rattle.map_state.proofs.state.MapState.of_choice.Goals as goal

pub of-requires-clause-shaped : goal.of-requires-clause-shaped
of-requires-clause-shaped c =
    let x = c.args.search.now.mapper in
    subst (λ (y : Mapping). IsShaped x.lab.now x.wiring.now y) (sym c.in_ok-mapping.ensures) c.requires.shaped

pub of-requires-2-clause-limits : goal.of-requires-2-clause-limits
of-requires-2-clause-limits c = sound_keeps c.args.search.now.mapper.wiring.now c.requires.search.mapper.sound

pub of-requires-2-clause-plugged : goal.of-requires-2-clause-plugged
of-requires-2-clause-plugged c =
    let x = c.args.search.now.mapper in
    (subst (λ (y : Mapping). IsShaped x.lab.now x.wiring.now y) (sym c.in_ok-mapping.ensures) c.requires.shaped).plugs

pub of-requires-2-clause-in_lab : goal.of-requires-2-clause-in_lab
of-requires-2-clause-in_lab c =
    let x = c.args.search.now.mapper in
    (subst (λ (y : Mapping). IsShaped x.lab.now x.wiring.now y) (sym c.in_ok-mapping.ensures) c.requires.shaped).in_lab

pub returns-clause-state : goal.returns-clause-state
returns-clause-state c =
    let x = c.args.search.now.mapper in
    let same = sym c.in_ok-mapping.ensures in
    record {
      choice = subst (λ (y : Mapping). IsChoice (candidates x.lab.now x.free.now x.wiring.now) y.places) same c.requires.choice;
      shaped = subst (λ (y : Mapping). IsShaped x.lab.now x.wiring.now y) same c.requires.shaped;
      hosting = c.in_ok-hosting.ensures;
      summed = c.in_ok-sums.ensures;
      spare = λ none. absurd (cc none);
      idle = record { marks = c.in_ok-given.ensures };
    }
