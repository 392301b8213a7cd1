use Rattle.std.proofs.Common.{◌<◌, length, sym, subst, arith, IfSome}
use Rattle.virt_topo.specs.declared.mapping.Mapping.{Mapping}
use Rattle.trunk_sums.specs.Summed.{IsSummed}
use Rattle.node_maps.specs.NodeMaps.{candidates, IsChoice}
use Rattle.node_maps.proofs.MapLaws.{candidates_count}
use Rattle.map_state.proofs.Choices.{choice_moved}
use Rattle.map_state.proofs.Alikes.{candidate_within}
use Rattle.map_state.proofs.state.MapState.place_predicted.Goals as goal

pub place_predicted-requires-clause-node : goal.place_predicted-requires-clause-node
place_predicted-requires-clause-node c =
    let x = c.args.search.now.mapper in
    let lt : c.args.virt < length c.args.self.now.mapping.places = (let all = c.requires.state.shaped.places in let virt = c.requires.virt in omega (arith, virt, all)) in
    (candidate_within x.lab.now x.free.now x.wiring.now c.args.self.now.mapping.places c.args.virt c.args.place c.requires.state.choice lt c.requires.among).0

pub place_predicted-requires-clause-typed : goal.place_predicted-requires-clause-typed
place_predicted-requires-clause-typed c =
    let x = c.args.search.now.mapper in
    let lt : c.args.virt < length c.args.self.now.mapping.places = (let all = c.requires.state.shaped.places in let virt = c.requires.virt in omega (arith, virt, all)) in
    (candidate_within x.lab.now x.free.now x.wiring.now c.args.self.now.mapping.places c.args.virt c.args.place c.requires.state.choice lt c.requires.among).1

pub returns-clause-state : goal.returns-clause-state
returns-clause-state c =
    let x = c.args.search.now.mapper in
    let m = c.args.self.now.mapping in
    let cs = candidates x.lab.now x.free.now x.wiring.now in
    let count = candidates_count x.lab.now x.free.now x.wiring.now in
    let virt = c.requires.virt in
    let choice = choice_moved cs m.places c.args.virt c.args.place c.requires.state.choice (omega (arith, virt, count)) c.requires.among in
    record {
      choice = subst (λ (y : Mapping). IsChoice cs y.places) (sym c.place_predicted.ensures.mapping) choice;
      shaped = c.place_predicted.ensures.shaped;
      hosting = c.place_predicted.ensures.hosting;
      summed = subst (λ (y : Mapping). IfSome c.args.self.now.sums (IsSummed x.lab.now x.wiring.now y.plugs)) (sym c.place_predicted.ensures.mapping) c.requires.state.summed;
      spare = c.requires.state.spare;
      idle = c.requires.state.idle;
    }
