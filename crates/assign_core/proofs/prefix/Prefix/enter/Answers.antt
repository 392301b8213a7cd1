use Rattle.std.proofs.Common.{◌≡◌, ◌<◌, ◌∙◌, ◌++◌, ◌∷◌, [], ℕ, length, get_or, true, ap, sym, subst, arith, length-append}
use Rattle.std.proofs.lemmas.List.{get_or_read}
use Rattle.lab_model.specs.Shapes.{Place, node_at, has_name}
use Rattle.lab_model.specs.Rules.{number_of}
use Rattle.cost_rule.specs.declared.parts.Parts.{Parts}
use Rattle.cost_rule.specs.Parts.{cost_of_parts, AreParts}
use Rattle.node_maps.specs.declared.rooms.Room.{Room}
use Rattle.node_maps.proofs.MapLaws.{candidates_count, mapped_is}
use Rattle.map_state.specs.Hosted.{hosted_at}
use Rattle.map_anneal.specs.Sought.{price}
use Rattle.map_anneal.specs.Searches.{sought_of}
use Rattle.assign_core.specs.Prefixes.{first_parts}
use Rattle.assign_core.proofs.FirstParts.{are_first_parts, first_below, placed_more}
use Rattle.assign_core.proofs.Numbered.{candidate_at, candidate_on, room_is}
use Rattle.assign_core.proofs.Passing.{full_passed}
use Rattle.assign_core.proofs.prefix.Prefix.enter.Goals as goal

pub index-requires : goal.index-requires
index-requires g c =
    let search = c.args.search.now in
    let v = length c.args.self.now.places.items in
    let next : c.len-next.result ≡ v = omega (arith, c.len-next.ensures, c.args.self.now.places.ok.0) in
    let room = room_is search v c.args.number c.len-next.result c.at-room.result c.requires.search c.requires.more c.requires.number next c.at-room.ensures in
    let node = subst (λ (r : Room). r.node.0 < length search.mapper.lab.now.nodes) (sym room) (candidate_on search v c.args.number c.requires.search c.requires.more c.requires.number).0 in
    let each = c.requires.prefix.one_each in
    let len = c.args.self.now.hosted.ok.0 in
    omega (arith, node, each, len)

pub returns-then-index-room-clause-passed : goal.returns-then-index-room-clause-passed
returns-then-index-room-clause-passed g c = λ none.
    let search = c.args.search.now in
    let s = sought_of search c.args.rule.now.number in
    let places = c.args.self.now.places.items in
    let items = c.args.self.now.hosted.items in
    let v = length places in
    let p = candidate_at search v c.args.number in
    let was = c.requires.prefix in
    let each = was.one_each in
    let next : c.len-next.result ≡ v = omega (arith, c.len-next.ensures, c.args.self.now.places.ok.0) in
    let room = room_is search v c.args.number c.len-next.result c.at-room.result c.requires.search c.requires.more c.requires.number next c.at-room.ensures in
    let on = candidate_on search v c.args.number c.requires.search c.requires.more c.requires.number in
    let node : p.0.0 < length search.mapper.lab.now.nodes = on.0 in
    let read = c.index.ensures ∙ ap (λ (r : Room). get_or items r.node.0 c.index.result.now) room in
    let count : c.index.result.now ≡ hosted_at places p.0.0 = get_or_read items p.0.0 c.index.result.now (omega (arith, node, each)) read 0 ∙ was.hosted p.0.0 node in
    let most : ◌≡◌ {A = ℕ} c.at-room.result.most (number_of (node_at search.mapper.lab.now p.0).types p.1) = ap (λ (r : Room). r.most) room in
    full_passed s places p c.args.best.now node (omega (arith, count, most, c.if-index-room.true))

pub parts_with-parts-requires-clause-more : goal.parts_with-parts-requires-clause-more
parts_with-parts-requires-clause-more g c =
    let x = c.args.search.now.mapper in
    omega (arith, c.requires.more, ap length c.requires.search.listed, candidates_count x.lab.now x.free.now x.wiring.now)

pub parts_with-parts-requires-clause-node : goal.parts_with-parts-requires-clause-node
parts_with-parts-requires-clause-node g c =
    let search = c.args.search.now in
    let v = length c.args.self.now.places.items in
    let next : c.len-next.result ≡ v = omega (arith, c.len-next.ensures, c.args.self.now.places.ok.0) in
    let is : c.at.result.now ≡ candidate_at search v c.args.number = c.at.ensures.named ∙ ap (λ (k : ℕ). candidate_at search k c.args.number) next in
    subst (λ (q : Place). q.0.0 < length search.mapper.lab.now.nodes) (sym is) (candidate_on search v c.args.number c.requires.search c.requires.more c.requires.number).0

pub are_dear-requires : goal.are_dear-requires
are_dear-requires g c =
    let search = c.args.search.now in
    let x = search.mapper in
    let places = c.args.self.now.places.items in
    let v = length places in
    let p = c.at.result.now in
    let was = c.requires.prefix in
    let grown = length-append places (p ∷ []) in
    let count = candidates_count x.lab.now x.free.now x.wiring.now in
    let listed = ap length c.requires.search.listed in
    let more = c.requires.more in
    let next : c.len-next.result ≡ v = omega (arith, c.len-next.ensures, c.args.self.now.places.ok.0) in
    let is : p ≡ candidate_at search v c.args.number = c.at.ensures.named ∙ ap (λ (k : ℕ). candidate_at search k c.args.number) next in
    let on = candidate_on search v c.args.number c.requires.search c.requires.more c.requires.number in
    let node = subst (λ (q : Place). q.0.0 < length x.lab.now.nodes) (sym is) on.0 in
    let typed = subst (λ (q : Place). has_name (node_at x.lab.now q.0).types q.1 ≡ true) (sym is) on.1 in
    subst (λ (q : Parts). AreParts q) (sym c.parts_with-parts.ensures)
    (are_first_parts x.lab.now x.wiring.now (places ++ p ∷ []) c.range-kept.ensures.lab c.requires.search.mapper.sound (omega (arith, grown)) (omega (arith, grown, count, listed, more)) (placed_more x.lab.now places p was.are node typed))

pub returns-then-are_dear-clause-passed : goal.returns-then-are_dear-clause-passed
returns-then-are_dear-clause-passed g c = λ none rest m long is.
    let search = c.args.search.now in
    let x = search.mapper in
    let s = sought_of search c.args.rule.now.number in
    let places = c.args.self.now.places.items in
    let v = length places in
    let p = candidate_at search v c.args.number in
    let next : c.len-next.result ≡ v = omega (arith, c.len-next.ensures, c.args.self.now.places.ok.0) in
    let named : c.at.result.now ≡ p = c.at.ensures.named ∙ ap (λ (k : ℕ). candidate_at search k c.args.number) next in
    let first = places ++ p ∷ [] in
    let same = (mapped_is x.lab.now x.free.now x.wiring.now (first ++ rest) m is).same_places in
    let whole = length-append first rest in
    let below = first_below c.args.rule.now.number x.lab.now x.wiring.now m first rest same (omega (arith, long, whole)) in
    let parts : c.parts_with-parts.result ≡ first_parts x.lab.now x.wiring.now first = c.parts_with-parts.ensures ∙ ap (λ (q : Place). first_parts x.lab.now x.wiring.now (places ++ q ∷ [])) named in
    let cost : ◌≡◌ {A = ℕ} (cost_of_parts c.args.rule.now.number c.parts_with-parts.result) (cost_of_parts c.args.rule.now.number (first_parts x.lab.now x.wiring.now first)) = ap (cost_of_parts c.args.rule.now.number) parts in
    c.are_dear.ensures c.if-are_dear.true (price s m) (omega (arith, cost, below))

pub put-requires-clause-more : goal.put-requires-clause-more
put-requires-clause-more g c =
    let x = c.args.search.now.mapper in
    omega (arith, c.requires.more, ap length c.requires.search.listed, candidates_count x.lab.now x.free.now x.wiring.now)

pub put-requires-clause-node : goal.put-requires-clause-node
put-requires-clause-node g c =
    let search = c.args.search.now in
    let v = length c.args.self.now.places.items in
    let next : c.len-next.result ≡ v = omega (arith, c.len-next.ensures, c.args.self.now.places.ok.0) in
    let is : c.at.result.now ≡ candidate_at search v c.args.number = c.at.ensures.named ∙ ap (λ (k : ℕ). candidate_at search k c.args.number) next in
    subst (λ (q : Place). q.0.0 < length search.mapper.lab.now.nodes) (sym is) (candidate_on search v c.args.number c.requires.search c.requires.more c.requires.number).0

pub put-requires-clause-typed : goal.put-requires-clause-typed
put-requires-clause-typed g c =
    let search = c.args.search.now in
    let v = length c.args.self.now.places.items in
    let next : c.len-next.result ≡ v = omega (arith, c.len-next.ensures, c.args.self.now.places.ok.0) in
    let is : c.at.result.now ≡ candidate_at search v c.args.number = c.at.ensures.named ∙ ap (λ (k : ℕ). candidate_at search k c.args.number) next in
    subst (λ (q : Place). has_name (node_at search.mapper.lab.now q.0).types q.1 ≡ true) (sym is) (candidate_on search v c.args.number c.requires.search c.requires.more c.requires.number).1

pub returns-clause-named : goal.returns-clause-named
returns-clause-named g c =
    let next : c.len-next.result ≡ length c.args.self.now.places.items = omega (arith, c.len-next.ensures, c.args.self.now.places.ok.0) in
    c.at.ensures.named ∙ ap (λ (k : ℕ). candidate_at c.args.search.now k c.args.number) next
