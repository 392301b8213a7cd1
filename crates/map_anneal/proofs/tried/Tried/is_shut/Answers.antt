use Rattle.std.proofs.Common.{◌<◌, ◌∙◌, length, sym, subst, arith}
use Rattle.node_maps.specs.declared.rooms.Room.{Room}
use Rattle.map_anneal.specs.Sought.{choices}
use Rattle.map_anneal.specs.Searches.{sought_of}
use Rattle.map_state.specs.Hosted.{IsFull}
use Rattle.map_state.proofs.Alikes.{candidate_within}
use Rattle.map_anneal.proofs.RoomLaws.{search_rooms, room_at, rooms_count, own_count}
use Rattle.map_anneal.proofs.RowLaws.{full_no_less}
use Rattle.map_anneal.proofs.TriedMoves.{candidate_among, candidate_at}
use Rattle.map_anneal.proofs.tried.Tried.is_shut.Goals as goal

pub is_full-requires-clause-node : goal.is_full-requires-clause-node
is_full-requires-clause-node g c =
    let search = c.args.search.now in
    let x = search.mapper in
    let s = sought_of search c.args._rule.now.number in
    let v = c.args.node in
    let m = c.args.self.now.state.mapping in
    let choice = c.requires.tried.state.state.choice in
    let lt : v < length m.places = omega (arith, c.requires.within, choice.one_each) in
    let room = c.at-room.ensures ∙ room_at x.lab.now (choices s) search.rooms.now v c.args.number (search_rooms search c.args._rule.now.number c.requires.search) c.requires.within c.requires.number in
    let within = candidate_within x.lab.now x.free.now x.wiring.now m.places v (candidate_at s v c.args.number) choice lt (candidate_among s v c.args.number c.requires.number) in
    subst (λ (r : Room). r.node.0 < length x.lab.now.nodes) (sym room) within.0

pub at-room-requires-clause-virt : goal.at-room-requires-clause-virt
at-room-requires-clause-virt g c =
    let search = c.args.search.now in
    let s = sought_of search c.args._rule.now.number in
    let count = rooms_count s.lab (choices s) search.rooms.now (search_rooms search c.args._rule.now.number c.requires.search) in
    omega (arith, count, c.requires.within)

pub at-room-requires-clause-number : goal.at-room-requires-clause-number
at-room-requires-clause-number g c =
    let search = c.args.search.now in
    let s = sought_of search c.args._rule.now.number in
    let own = own_count s.lab (choices s) search.rooms.now c.args.node (search_rooms search c.args._rule.now.number c.requires.search) c.requires.within in
    omega (arith, own, c.requires.number)

pub is_full-requires-clause-state : goal.is_full-requires-clause-state
is_full-requires-clause-state g c = c.requires.tried.state.state

pub returns-clause-none : goal.returns-clause-none
returns-clause-none g c = λ full.
    let search = c.args.search.now in
    let s = sought_of search c.args._rule.now.number in
    let v = c.args.node in
    let room = c.at-room.ensures ∙ room_at s.lab (choices s) search.rooms.now v c.args.number (search_rooms search c.args._rule.now.number c.requires.search) c.requires.within c.requires.number in
    c.is_full.ensures.none (candidate_at s v c.args.number) (candidate_among s v c.args.number c.requires.number) room full

pub returns-clause-ruled_out : goal.returns-clause-ruled_out
returns-clause-ruled_out g c = λ full below.
    let search = c.args.search.now in
    let s = sought_of search c.args._rule.now.number in
    let m = c.args.self.now.state.mapping in
    let v = c.args.node in
    let p = candidate_at s v c.args.number in
    let laid = c.requires.tried.state.state in
    let lt : v < length m.places = omega (arith, c.requires.within, laid.choice.one_each) in
    let among = candidate_among s v c.args.number c.requires.number in
    let room = c.at-room.ensures ∙ room_at s.lab (choices s) search.rooms.now v c.args.number (search_rooms search c.args._rule.now.number c.requires.search) c.requires.within c.requires.number in
    let within = candidate_within s.lab s.free s.wiring m.places v p laid.choice lt among in
    full_no_less s m v below p laid.shaped lt within.0 within.1 (subst (IsFull m.places v) room (c.is_full.ensures.full.0 full))
