use Rattle.std.proofs.Common.{◌≡◌, ◌<◌, ◌∙◌, ◌+◌, ◌++◌, ◌∷◌, [], ℕ, List, length, drop, get_or, Contains, Option, Some, None, sym, ap, subst, length-append, arith}
use Rattle.std.specs.List.{find}
use Rattle.std.specs.Prelude.{is_some}
use Rattle.std.specs.Option.{option_and_then}
use Rattle.std.proofs.lemmas.Bool.{and_parts}
use Rattle.std.proofs.lemmas.List.{drop_all}
use Rattle.lab_model.specs.Shapes.{Place}
use Rattle.node_maps.specs.NodeMaps.{candidates, plugs_of}
use Rattle.node_maps.specs.Moved.{may_share}
use Rattle.node_maps.proofs.MapLaws.{candidates_count}
use Rattle.map_state.proofs.Alikes.{candidate_place}
use Rattle.assign_core.specs.Bests.{IsPartial}
use Rattle.assign_core.specs.Exact.{fits_next, first_fit_from}
use Rattle.assign_core.proofs.Choosing.{partial_more, partial_whole}
use Rattle.assign_core.proofs.Firsts.{first_step, find_among, find_passes}
use Rattle.assign_core.proofs.first.place_all.Goals as goal

pub loop-virt-init : goal.loop-virt-init
loop-virt-init c =
    let x = c.args.search.now.mapper in
    let cs = c.args.search.now.candidates.now in
    let empty = c.requires.none in
    let none : IsPartial cs [] = record { within = omega arith; among = λ v d lt. absurd (omega (arith, lt)) } in
    record {
      placing = c.requires.placing;
      partial = subst (λ (ps : List Place). IsPartial cs ps) (sym empty) none;
      count = ap length empty;
      rest = ap (λ (ps : List Place). first_fit_from x.lab.now x.wiring.now ps cs) empty;
    }

pub first_fitting-requires-clause-placing : goal.first_fitting-requires-clause-placing
first_fitting-requires-clause-placing c = c.loop-virt.invariant.placing

pub first_fitting-requires-clause-more : goal.first_fitting-requires-clause-more
first_fitting-requires-clause-more c = omega (arith, c.loop-virt.invariant.count, c.loop-virt-test.true, c.len-virt-end.ensures)

pub put-requires-clause-more : goal.put-requires-clause-more
put-requires-clause-more c =
    let x = c.args.search.now.mapper in
    omega (arith, ap length c.in_ok-place.ensures.same, c.loop-virt.invariant.count, c.loop-virt-test.true, c.len-virt-end.ensures, ap length c.requires.search.listed, candidates_count x.lab.now x.free.now x.wiring.now)

pub put-requires-clause-node : goal.put-requires-clause-node
put-requires-clause-node c =
    let x = c.args.search.now.mapper in
    let places = c.loop-virt.placing.places.items in
    let place = c.in-Some.place in
    let among = find_among (λ p. fits_next x.lab.now x.wiring.now places p) (get_or c.args.search.now.candidates.now (length places) []) place (sym c.in_ok-place.ensures.first ∙ c.in-Some.is) in
    let lt : length places < length (candidates x.lab.now x.free.now x.wiring.now) = omega (arith, c.loop-virt.invariant.count, c.loop-virt-test.true, c.len-virt-end.ensures, ap length c.requires.search.listed) in
    (candidate_place x.lab.now x.free.now x.wiring.now (length places) place lt (subst (λ (cs : List (List Place)). Contains (get_or cs (length places) []) place) c.requires.search.listed among)).0

pub put-requires-clause-served : goal.put-requires-clause-served
put-requires-clause-served c =
    let x = c.args.search.now.mapper in
    let places = c.loop-virt.placing.places.items in
    let place = c.in-Some.place in
    let fits = find_passes (λ p. fits_next x.lab.now x.wiring.now places p) (get_or c.args.search.now.candidates.now (length places) []) place (sym c.in_ok-place.ensures.first ∙ c.in-Some.is) in
    ap (λ (ps : List Place). is_some (plugs_of x.lab.now x.wiring.now (ps ++ place ∷ []))) c.in_ok-place.ensures.same
    ∙ (and_parts (may_share x.lab.now x.wiring.now (places ++ place ∷ []) place.0.0) (is_some (plugs_of x.lab.now x.wiring.now (places ++ place ∷ []))) fits).1

pub returns-in-None-clause-places : goal.returns-in-None-clause-places
returns-in-None-clause-places c =
    let lab = c.args.search.now.mapper.lab.now in
    let w = c.args.search.now.mapper.wiring.now in
    let cs = c.args.search.now.candidates.now in
    let places = c.loop-virt.placing.places.items in
    let n = c.loop-virt._virt in
    let known = c.loop-virt.invariant in
    let lt : n < length cs = omega (arith, c.loop-virt-test.true, c.len-virt-end.ensures) in
    let fit : ℕ → Option Place = λ k. find (λ p. fits_next lab w places p) (get_or cs k []) in
    let none : fit n ≡ None = sym (c.in_ok-place.ensures.first ∙ ap fit known.count) ∙ c.in-None.is in
    sym (sym known.rest ∙ first_step lab w places cs n lt ∙ ap (λ o. option_and_then (λ p. first_fit_from lab w (places ++ p ∷ []) (drop (n + 1) cs)) o) none)

pub loop-virt-preserved : goal.loop-virt-preserved
loop-virt-preserved c =
    let lab = c.args.search.now.mapper.lab.now in
    let w = c.args.search.now.mapper.wiring.now in
    let cs = c.args.search.now.candidates.now in
    let places = c.loop-virt.placing.places.items in
    let n = c.loop-virt._virt in
    let place = c.in-Some.place in
    let known = c.loop-virt.invariant in
    let lt : n < length cs = omega (arith, c.loop-virt-test.true, c.len-virt-end.ensures) in
    let fit : ℕ → Option Place = λ k. find (λ p. fits_next lab w places p) (get_or cs k []) in
    let first : fit (length places) ≡ Some place = sym c.in_ok-place.ensures.first ∙ c.in-Some.is in
    let found : fit n ≡ Some place = sym (ap fit known.count) ∙ first in
    let among = find_among (λ p. fits_next lab w places p) (get_or cs (length places) []) place first in
    let grown : ◌≡◌ {A = List Place} c.put.new.self.places.items (places ++ place ∷ []) = c.in_ok-put-in-Some.ensures.places ∙ ap (λ (l : List Place). l ++ place ∷ []) c.in_ok-place.ensures.same in
    record {
      placing = c.in_ok-put-in-Some.ensures.placing;
      partial = subst (λ (ps : List Place). IsPartial cs ps) (sym grown) (partial_more cs places place known.partial (omega (arith, lt, known.count)) among);
      count = ap length grown ∙ length-append places (place ∷ []) ∙ ap (λ k. k + 1) known.count;
      rest = ap (λ (ps : List Place). first_fit_from lab w ps (drop (n + 1) cs)) grown
          ∙ sym (first_step lab w places cs n lt ∙ ap (λ o. option_and_then (λ p. first_fit_from lab w (places ++ p ∷ []) (drop (n + 1) cs)) o) found) ∙ known.rest;
    }

pub returns-clause-places : goal.returns-clause-places
returns-clause-places c =
    let x = c.args.search.now.mapper in
    let cs = c.args.search.now.candidates.now in
    let all = drop_all c.loop-virt._virt cs (omega (arith, c.loop-virt-test.false, c.len-virt-end.ensures)) in
    ap (λ (l : List (List Place)). first_fit_from x.lab.now x.wiring.now c.loop-virt.placing.places.items l) (sym all) ∙ c.loop-virt.invariant.rest

pub returns-clause-choice : goal.returns-clause-choice
returns-clause-choice c = λ is.
    let known = c.loop-virt.invariant in
    partial_whole c.args.search.now.candidates.now c.loop-virt.placing.places.items known.partial
    (omega (arith, c.loop-virt-test.false, c.loop-virt.auto._virt-end, c.len-virt-end.ensures, known.count))
