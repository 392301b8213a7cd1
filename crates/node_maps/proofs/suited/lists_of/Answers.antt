use Rattle.std.proofs.Common.{ℕ, List}
use Rattle.virt_topo.specs.Wirings.{virt_at}
use Rattle.lab_model.specs.Shapes.{Place}
use Rattle.node_maps.specs.NodeMaps.{candidates_among}
use Rattle.node_maps.proofs.KindLaws.{numbers_more, listed_more}
use Rattle.node_maps.proofs.suited.lists_of.Goals as goal

pub candidates_at-requires-clause-virt : goal.candidates_at-requires-clause-virt
candidates_at-requires-clause-virt c = c.requires.ones c.loop-one.one-index 0 c.loop-one-test.true

pub loop-one-preserved : goal.loop-one-preserved
loop-one-preserved c =
    let places = c.args.places.now in
    let of : ℕ → List Place = λ v. candidates_among c.args.lab.now c.args.free.now c.args.wiring.now places (virt_at c.args.wiring.now v) in
    record {
      numbers = numbers_more places _ _ _ c.loop-one.invariant.numbers c.in_ok-candidates_at.ensures.numbers c.in_ok-push.ensures.items;
      places = listed_more places of c.args.ones.now c.loop-one.one-index _ _ _ c.loop-one-test.true c.loop-one.invariant.places c.in_ok-candidates_at.ensures.places c.in_ok-push.ensures.items;
    }
