use Rattle.std.proofs.Common.{◌≡◌, ◌≢◌, ◌<◌, ◌∙◌, ℕ, Bool, List, length, get_or, true, false, ap, sym, subst, arith}
use Rattle.virt_topo.specs.declared.mapping.Mapping.{Mapping}
use Rattle.lab_model.specs.Rules.{place_at}
use Rattle.cost_rule.specs.declared.rule.RuleNumber.{RuleNumber}
use Rattle.node_maps.specs.declared.ends.End.{End}
use Rattle.node_maps.proofs.EndLists.{same_length}
use Rattle.map_state.specs.Nodes.{no_end}
use Rattle.map_state.proofs.StateLaws.{few_ends, placed_ends}
use Rattle.map_state.specs.declared.search.Search.{Search}
use Rattle.map_anneal.specs.Sought.{IsNodeMap}
use Rattle.map_state.specs.Tables.{IsSearch}
use Rattle.map_anneal.specs.Searches.{sought_of}
use Rattle.map_anneal.specs.Steps.{StaysAt}
use Rattle.map_anneal.proofs.Prices.{map_shaped}
use Rattle.map_anneal.proofs.step.touched_nodes.Goals as goal

-- each end has a plug
plugged : (search : Search) (number : RuleNumber) (m : Mapping) → IsSearch search → IsNodeMap (sought_of search number) m → length m.plugs ≡ length search.mapper.ends.now
plugged search number m is map =
    let w = search.mapper.wiring.now in
    (map_shaped (sought_of search number) m is.mapper.sound map).plugs ∙ sym (same_length w.segments) ∙ sym (ap (λ (l : List End). length l) is.mapper.ends)

pub still_segments-requires-clause-few : goal.still_segments-requires-clause-few
still_segments-requires-clause-few g c = few_ends c.args.search.now c.requires.search

pub still_segments-requires-clause-last : goal.still_segments-requires-clause-last
still_segments-requires-clause-last g c = plugged c.args.search.now c.args._rule.now.number c.args.last.now c.requires.search c.requires.last

pub still_segments-requires-clause-next : goal.still_segments-requires-clause-next
still_segments-requires-clause-next g c = plugged c.args.search.now c.args._rule.now.number c.args.next.now c.requires.search c.requires.next

pub still_segments-requires-clause-last_in : goal.still_segments-requires-clause-last_in
still_segments-requires-clause-last_in g c = (map_shaped (sought_of c.args.search.now c.args._rule.now.number) c.args.last.now c.requires.search.mapper.sound c.requires.last).in_lab

pub still_segments-requires-clause-next_in : goal.still_segments-requires-clause-next_in
still_segments-requires-clause-next_in g c = (map_shaped (sought_of c.args.search.now c.args._rule.now.number) c.args.next.now c.requires.search.mapper.sound c.requires.next).in_lab

pub mark_ends-requires : goal.mark_ends-requires
mark_ends-requires g c =
    placed_ends c.args.search.now c.args.last.now.places c.requires.search
    (map_shaped (sought_of c.args.search.now c.args._rule.now.number) c.args.last.now c.requires.search.mapper.sound c.requires.last).places

pub returns : goal.returns
returns g c =
    let x = c.args.search.now.mapper in
    let last = c.args.last.now in
    let next = c.args.next.now in
    let still = c.in_ok-still.still.items in
    let ends = c.requires.search.mapper.ends in
    let shaped = map_shaped (sought_of c.args.search.now c.args._rule.now.number) last c.requires.search.mapper.sound c.requires.last in
    let places = shaped.places in
    record {
      still = still;
      still_so = record {
        each = subst (λ (l : List End). (e : ℕ) → e < length l → get_or still (get_or l e no_end).segment false ≡ true → StaysAt x.lab.now last next e) ends c.in_ok-still.ensures;
      };
      aside = λ n off. record {
        places = λ u lt. c.mark_places.ensures.aside n (c.mark_ends.ensures.kept n off) u (omega (arith, lt, places));
        ends = subst (λ (l : List End). (e : ℕ) → e < length l → get_or still (get_or l e no_end).segment false ≡ false → (place_at last (get_or l e no_end).node).0.0 ≢ n) ends
            (subst (λ (m : List Bool). (e : ℕ) → e < length x.ends.now → get_or m (get_or x.ends.now e no_end).segment false ≡ false → (place_at last (get_or x.ends.now e no_end).node).0.0 ≢ n) c.deref.ensures.value (c.mark_ends.ensures.aside n off));
      };
    }
