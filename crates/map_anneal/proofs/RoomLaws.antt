-- Rooms of candidates.
use Rattle.std.proofs.Common.{◌≡◌, ◌<◌, ◌≤◌, ◌^◌, ◌∙◌, ℕ, List, [], length, filter, map, get_or, Bool, ap, arith}
use Rattle.std.proofs.lemmas.List.{get_or-map, length-map}
use Rattle.std.proofs.lemmas.List.Sums.{length-filter, count_by-le-length}
use Rattle.phys_lab.specs.declared.free.Free.{Free}
use Rattle.phys_lab.specs.Kept.{IsLab}
use Rattle.phys_lab.specs.Labs.{Lab}
use Rattle.virt_topo.specs.declared.wiring.Wiring.{Wiring}
use Rattle.virt_topo.specs.Wirings.{virt_at}
use Rattle.lab_model.specs.Shapes.{Place}
use Rattle.lab_model.specs.Rules.{no_place}
use Rattle.node_maps.specs.declared.rooms.Room.{Room}
use Rattle.node_maps.specs.NodeMaps.{candidates, is_candidate, lab_places}
use Rattle.node_maps.specs.Rooms.{room_of, no_room}
use Rattle.node_maps.proofs.MapLaws.{candidates_count}
use Rattle.node_maps.proofs.Places.{few_places}
use Rattle.cost_rule.specs.declared.rule.RuleNumber.{RuleNumber}
use Rattle.map_state.specs.declared.search.Search.{Search}
use Rattle.map_anneal.specs.Sought.{choices}
use Rattle.map_state.specs.Tables.{IsSearch}
use Rattle.map_anneal.specs.Searches.{sought_of}
use Rattle.map_anneal.proofs.MayHave.{of_virt}

abbrev pub rooms_of : Lab → List (List Place) → List (List Room)
rooms_of lab cs = map (map (room_of lab)) cs

-- the rooms are those of the candidates
pub search_rooms : (search : Search) (number : RuleNumber) → IsSearch search → search.rooms.now ≡ rooms_of search.mapper.lab.now (choices (sought_of search number))
search_rooms search number are = are.rooms ∙ ap (rooms_of search.mapper.lab.now) are.listed

-- as many virtual nodes, and as many candidates of each
pub rooms_count : (lab : Lab) (cs : List (List Place)) (rooms : List (List Room)) → rooms ≡ rooms_of lab cs → length rooms ≡ length cs
rooms_count lab cs rooms are = ap length are ∙ length-map cs (map (room_of lab))

own_rooms : (lab : Lab) (cs : List (List Place)) (rooms : List (List Room)) (v : ℕ) → rooms ≡ rooms_of lab cs → v < length cs → get_or rooms v [] ≡ map (room_of lab) (get_or cs v [])
own_rooms lab cs rooms v are lt = ap (λ (l : List (List Room)). get_or l v []) are ∙ get_or-map (map (room_of lab)) cs v [] [] lt

pub own_count : (lab : Lab) (cs : List (List Place)) (rooms : List (List Room)) (v : ℕ) → rooms ≡ rooms_of lab cs → v < length cs → length (get_or rooms v []) ≡ length (get_or cs v [])
own_count lab cs rooms v are lt = ap length (own_rooms lab cs rooms v are lt) ∙ length-map (get_or cs v []) (room_of lab)

-- each room is its candidate's
pub room_at : (lab : Lab) (cs : List (List Place)) (rooms : List (List Room)) (v k : ℕ) → rooms ≡ rooms_of lab cs → v < length cs → k < length (get_or cs v [])
    → get_or (get_or rooms v []) k no_room ≡ room_of lab (get_or (get_or cs v []) k no_place)
room_at lab cs rooms v k are lt within =
    ap (λ (l : List Room). get_or l k no_room) (own_rooms lab cs rooms v are lt) ∙ get_or-map (room_of lab) (get_or cs v []) k no_place no_room within

-- a virtual node has few candidates
pub few_candidates : (lab : Lab) (free : Free) (w : Wiring) (v : ℕ) → IsLab lab → v < length (candidates lab free w) → length (get_or (candidates lab free w) v []) ≤ 2 ^ 32
few_candidates lab free w v is lt =
    let test : Place → Bool = λ p. is_candidate lab free w (virt_at w v) p in
    let within : v < length w.nodes = omega (arith, lt, candidates_count lab free w) in
    let own : length (get_or (candidates lab free w) v []) ≡ length (filter test (lab_places lab)) = ap length (of_virt lab free w v within) in
    omega (arith, own, length-filter test (lab_places lab), count_by-le-length test (lab_places lab), few_places lab is)
