-- A virtual node's candidate of a number, and its room.
use Rattle.std.proofs.Common.{◌≡◌, ◌<◌, ◌∙◌, ℕ, List, [], length, get_or, Contains, true, ap, subst, arith}
use Rattle.std.proofs.lemmas.List.{get_or_default}
use Rattle.lab_model.specs.Shapes.{Place, node_at, has_name}
use Rattle.lab_model.specs.Rules.{no_place}
use Rattle.node_maps.specs.declared.rooms.Room.{Room}
use Rattle.node_maps.specs.Rooms.{no_room, room_of}
use Rattle.map_state.proofs.Alikes.{candidate_place}
use Rattle.map_state.specs.declared.search.Search.{Search}
use Rattle.map_state.specs.Tables.{IsSearch}
use Rattle.map_anneal.proofs.RoomLaws.{room_at}

-- the candidate of that number
abbrev pub candidate_at : Search → ℕ → ℕ → Place
candidate_at search v k = get_or (get_or search.candidates.now v []) k no_place

-- it is on a node of the lab, which has its type
pub candidate_on : (search : Search) (v k : ℕ) → IsSearch search → v < length search.candidates.now → k < length (get_or search.candidates.now v [])
    → ((candidate_at search v k).0.0 < length search.mapper.lab.now.nodes) × (has_name (node_at search.mapper.lab.now (candidate_at search v k).0).types (candidate_at search v k).1 ≡ true)
candidate_on search v k are lt within =
    let x = search.mapper in
    let own = get_or search.candidates.now v [] in
    let p = candidate_at search v k in
    let among : Contains own p = (k, within, get_or_default own k p no_place within) in
    let count = ap length are.listed in
    candidate_place x.lab.now x.free.now x.wiring.now v p (omega (arith, lt, count)) (subst (λ (cs : List (List Place)). Contains (get_or cs v []) p) are.listed among)

pub room_is : (search : Search) (v k n : ℕ) (r : Room) → IsSearch search → v < length search.candidates.now → k < length (get_or search.candidates.now v []) → n ≡ v
    → r ≡ get_or (get_or search.rooms.now n []) k no_room → r ≡ room_of search.mapper.lab.now (candidate_at search v k)
room_is search v k n r are lt within same is =
    is ∙ ap (λ (j : ℕ). get_or (get_or search.rooms.now j []) k no_room) same ∙ room_at search.mapper.lab.now search.candidates.now search.rooms.now v k are.rooms lt within
