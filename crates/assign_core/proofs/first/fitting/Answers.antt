use Rattle.std.proofs.Common.{◌≡◌, ◌<◌, ◌≤◌, length, sym, ap, subst, arith}
use Rattle.lab_model.specs.Shapes.{node_at}
use Rattle.lab_model.specs.Rules.{number_of}
use Rattle.node_maps.proofs.MapLaws.{candidates_count}
use Rattle.node_maps.specs.declared.rooms.Room.{Room}
use Rattle.map_state.specs.Hosted.{hosted_at}
use Rattle.map_state.proofs.HostedNodeLaws.{full}
use Rattle.assign_core.proofs.Firsts.{full_fits_none}
use Rattle.assign_core.proofs.Numbered.{candidate_at, candidate_on, room_is}
use Rattle.assign_core.proofs.first.fitting.Goals as goal

pub is_full-requires-clause-node : goal.is_full-requires-clause-node
is_full-requires-clause-node c =
    let search = c.args.search.now in
    let v = length c.args.placing.now.places.items in
    let next : c.len-next.result ≡ v = omega (arith, c.len-next.ensures, c.args.placing.now.places.ok.0) in
    let room = room_is search v c.args.number c.len-next.result c.at.result c.requires.search c.requires.more c.requires.number next c.at.ensures in
    subst (λ (r : Room). r.node.0 < length search.mapper.lab.now.nodes) (sym room) (candidate_on search v c.args.number c.requires.search c.requires.more c.requires.number).0

pub returns-then-is_full-clause-fitting : goal.returns-then-is_full-clause-fitting
returns-then-is_full-clause-fitting c =
    let search = c.args.search.now in
    let x = search.mapper in
    let places = c.args.placing.now.places.items in
    let v = length places in
    let p = candidate_at search v c.args.number in
    let next : c.len-next.result ≡ v = omega (arith, c.len-next.ensures, c.args.placing.now.places.ok.0) in
    let room = room_is search v c.args.number c.len-next.result c.at.result c.requires.search c.requires.more c.requires.number next c.at.ensures in
    let many : number_of (node_at x.lab.now p.0).types p.1 ≤ hosted_at places p.0.0 = subst (λ (r : Room). r.most ≤ hosted_at places r.node.0) room (c.is_full.ensures.0 c.if-is_full.true) in
    let more = c.requires.more in
    let listed = ap length c.requires.search.listed in
    let count = candidates_count x.lab.now x.free.now x.wiring.now in
    full_fits_none x.lab.now x.wiring.now places p (full x.lab.now x.wiring.now places p (omega (arith, more, listed, count)) many)

pub fits-requires-clause-more : goal.fits-requires-clause-more
fits-requires-clause-more c =
    let x = c.args.search.now.mapper in
    omega (arith, c.requires.more, ap length c.requires.search.listed, candidates_count x.lab.now x.free.now x.wiring.now)
