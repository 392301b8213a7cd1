use Rattle.std.proofs.Common.{◌≡◌, ◌<◌, ◌%◌, ◌∙◌, ℕ, length, Option, Some, None, sym, ap, arith}
use Rattle.virt_topo.specs.declared.mapping.Mapping.{Mapping}
use Rattle.map_state.proofs.Choices.{choice_some}
use Rattle.map_anneal.specs.Sought.{Sought, choices, candidates_at, moved}
use Rattle.map_anneal.specs.Searches.{sought_of}
use Rattle.map_anneal.specs.Walk.{named}
use Rattle.map_anneal.proofs.RoomLaws.{search_rooms, rooms_count, own_count, few_candidates}
use Rattle.map_anneal.proofs.TriedMoves.{candidate_at}
use Rattle.map_anneal.proofs.tried.Tried.try_random_move.Goals as goal

pub number-number-requires-clause-some : goal.number-number-requires-clause-some
number-number-requires-clause-some g c =
    let search = c.args.search.now in
    let cs = choices (sought_of search c.args.rule.now.number) in
    let v = c.virt-node.result in
    let rooms = search_rooms search c.args.rule.now.number c.requires.search in
    let count = rooms_count search.mapper.lab.now cs search.rooms.now rooms in
    let within : v < length cs = omega (arith, c.virt-node.ensures, count, c.requires.some) in
    let own = own_count search.mapper.lab.now cs search.rooms.now v rooms within in
    let some = choice_some cs c.args.self.now.state.mapping.places v c.requires.tried.state.state.choice within in
    omega (arith, own, some)

pub number-number-requires-clause-few : goal.number-number-requires-clause-few
number-number-requires-clause-few g c =
    let search = c.args.search.now in
    let s = sought_of search c.args.rule.now.number in
    let v = c.virt-node.result in
    let rooms = search_rooms search c.args.rule.now.number c.requires.search in
    let count = rooms_count s.lab (choices s) search.rooms.now rooms in
    let within : v < length (choices s) = omega (arith, c.virt-node.ensures, count, c.requires.some) in
    let own = own_count s.lab (choices s) search.rooms.now v rooms within in
    omega (arith, own, few_candidates s.lab s.free s.wiring v c.range-kept.ensures.lab within)

pub move_on_if_cheaper-requires-clause-number : goal.move_on_if_cheaper-requires-clause-number
move_on_if_cheaper-requires-clause-number g c =
    let search = c.args.search.now in
    let cs = choices (sought_of search c.args.rule.now.number) in
    let v = c.virt-node.result in
    let rooms = search_rooms search c.args.rule.now.number c.requires.search in
    let count = rooms_count search.mapper.lab.now cs search.rooms.now rooms in
    let within : v < length cs = omega (arith, c.virt-node.ensures, count, c.requires.some) in
    let own = own_count search.mapper.lab.now cs search.rooms.now v rooms within in
    let some = choice_some cs c.args.self.now.state.mapping.places v c.requires.tried.state.state.choice within in
    omega (arith, c.number-number.ensures, own, some)

-- the move that two words name
named_is : (s : Sought) (last : Mapping) (first second v number : ℕ) → v ≡ first % length (choices s) → number ≡ second % length (candidates_at s v)
    → moved s last v (candidate_at s v number) ≡ named s last first second
unfolding named
named_is s last first second v number at is =
    ap (λ (k : ℕ). moved s last v (candidate_at s v k)) is ∙ ap (λ (u : ℕ). moved s last u (candidate_at s u (second % length (candidates_at s u)))) at

pub returns-clause-map : goal.returns-clause-map
returns-clause-map g c = λ is.
    let search = c.args.search.now in
    let s = sought_of search c.args.rule.now.number in
    let v = c.virt-node.result in
    let rooms = search_rooms search c.args.rule.now.number c.requires.search in
    let count = rooms_count s.lab (choices s) search.rooms.now rooms in
    let within : v < length (choices s) = omega (arith, c.virt-node.ensures, count, c.requires.some) in
    let own = own_count s.lab (choices s) search.rooms.now v rooms within in
    sym (named_is s c.args.self.now.state.mapping c.args.first c.args.second v c.number-number.result
    (c.virt-node.ensures ∙ ap (λ (n : ℕ). c.args.first % n) count) (c.number-number.ensures ∙ ap (λ (n : ℕ). c.args.second % n) own))
    ∙ c.in_ok-yes.ensures.map is

pub returns-clause-over : goal.returns-clause-over
returns-clause-over g c = λ is m found.
    let search = c.args.search.now in
    let s = sought_of search c.args.rule.now.number in
    let v = c.virt-node.result in
    let rooms = search_rooms search c.args.rule.now.number c.requires.search in
    let count = rooms_count s.lab (choices s) search.rooms.now rooms in
    let within : v < length (choices s) = omega (arith, c.virt-node.ensures, count, c.requires.some) in
    let own = own_count s.lab (choices s) search.rooms.now v rooms within in
    c.in_ok-yes.ensures.over is m
    (named_is s c.args.self.now.state.mapping c.args.first c.args.second v c.number-number.result
    (c.virt-node.ensures ∙ ap (λ (n : ℕ). c.args.first % n) count) (c.number-number.ensures ∙ ap (λ (n : ℕ). c.args.second % n) own)
    ∙ found)

pub move_on_if_cheaper-requires-clause-tried : goal.move_on_if_cheaper-requires-clause-tried
move_on_if_cheaper-requires-clause-tried g c = c.requires.tried

pub move_on_if_cheaper-requires-clause-within : goal.move_on_if_cheaper-requires-clause-within
move_on_if_cheaper-requires-clause-within g c =
    let search = c.args.search.now in
    let s = sought_of search c.args.rule.now.number in
    let count = rooms_count s.lab (choices s) search.rooms.now (search_rooms search c.args.rule.now.number c.requires.search) in
    omega (arith, c.virt-node.ensures, count, c.requires.some)

pub returns-clause-tried : goal.returns-clause-tried
returns-clause-tried g c = c.in_ok-yes.ensures.tried

pub returns-clause-below : goal.returns-clause-below
returns-clause-below g c = c.in_ok-yes.ensures.below

pub returns-clause-same : goal.returns-clause-same
returns-clause-same g c = c.in_ok-yes.ensures.same

pub returns-clause-same_cost : goal.returns-clause-same_cost
returns-clause-same_cost g c = c.in_ok-yes.ensures.same_cost

pub is_shut-requires-clause-number : goal.is_shut-requires-clause-number
is_shut-requires-clause-number g c =
    let search = c.args.search.now in
    let cs = choices (sought_of search c.args.rule.now.number) in
    let v = c.virt-node.result in
    let rooms = search_rooms search c.args.rule.now.number c.requires.search in
    let count = rooms_count search.mapper.lab.now cs search.rooms.now rooms in
    let within : v < length cs = omega (arith, c.virt-node.ensures, count, c.requires.some) in
    let own = own_count search.mapper.lab.now cs search.rooms.now v rooms within in
    let some = choice_some cs c.args.self.now.state.mapping.places v c.requires.tried.state.state.choice within in
    omega (arith, c.number-number.ensures, own, some)

pub is_shut-requires-clause-within : goal.is_shut-requires-clause-within
is_shut-requires-clause-within g c =
    let search = c.args.search.now in
    let s = sought_of search c.args.rule.now.number in
    let count = rooms_count s.lab (choices s) search.rooms.now (search_rooms search c.args.rule.now.number c.requires.search) in
    omega (arith, c.virt-node.ensures, count, c.requires.some)

pub is_shut-requires-clause-tried : goal.is_shut-requires-clause-tried
is_shut-requires-clause-tried g c = c.requires.tried

never : (m : Mapping) → ◌≡◌ {A = Option Mapping} None (Some m) → ⊥
never m e = absurd (cc e)

pub returns-then-is_shut-clause-over : goal.returns-then-is_shut-clause-over
returns-then-is_shut-clause-over g c = λ is m found.
    let search = c.args.search.now in
    let s = sought_of search c.args.rule.now.number in
    let v = c.virt-node.result in
    let rooms = search_rooms search c.args.rule.now.number c.requires.search in
    let count = rooms_count s.lab (choices s) search.rooms.now rooms in
    let within : v < length (choices s) = omega (arith, c.virt-node.ensures, count, c.requires.some) in
    let own = own_count s.lab (choices s) search.rooms.now v rooms within in
    absurd (never m (sym (c.is_shut.ensures.none c.if-is_shut.true)
    ∙ named_is s c.args.self.now.state.mapping c.args.first c.args.second v c.number-number.result
    (c.virt-node.ensures ∙ ap (λ (n : ℕ). c.args.first % n) count) (c.number-number.ensures ∙ ap (λ (n : ℕ). c.args.second % n) own)
    ∙ found))

pub returns-then-is_shut-clause-tried : goal.returns-then-is_shut-clause-tried
returns-then-is_shut-clause-tried g c = c.requires.tried
