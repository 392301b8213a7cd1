use Rattle.std.proofs.Common.{◌≡◌, ◌<◌, ◌∙◌, ℕ, List, [], length, get_or, refl, sym, ap, arith}
use Rattle.std.specs.List.{find}
use Rattle.std.proofs.lemmas.List.{drop_all}
use Rattle.lab_model.specs.Shapes.{Place}
use Rattle.lab_model.specs.Rules.{no_place}
use Rattle.assign_core.specs.Exact.{fits_next, if_fits}
use Rattle.assign_core.proofs.Firsts.{some_fits, none_fits}
use Rattle.assign_core.proofs.first.first_fitting.Goals as goal

pub loop-number-init : goal.loop-number-init
loop-number-init c = record {
  placing = c.requires.placing;
  same = refl;
  first = refl;
}

pub fitting-requires-clause-placing : goal.fitting-requires-clause-placing
fitting-requires-clause-placing c = c.loop-number.invariant.placing

pub fitting-requires-clause-more : goal.fitting-requires-clause-more
fitting-requires-clause-more c = omega (arith, ap length c.loop-number.invariant.same, c.requires.more)

pub fitting-requires-clause-number : goal.fitting-requires-clause-number
fitting-requires-clause-number c =
    let cs = c.args.search.now.candidates.now in
    let before = length c.args.placing.now.places.items in
    let next : c.len-next.result ≡ before = omega (arith, c.len-next.ensures, c.args.placing.now.places.ok.0) in
    let listed = ap (λ (k : ℕ). length (get_or cs k [])) next in
    let same = ap (λ (ps : List Place). length (get_or cs (length ps) [])) c.loop-number.invariant.same in
    omega (arith, c.loop-number-test.true, c.count-number-end.ensures, listed, same)

pub returns-in-Some-clause-same : goal.returns-in-Some-clause-same
returns-in-Some-clause-same c = c.in_ok-place.ensures.same ∙ c.loop-number.invariant.same

pub returns-in-Some-clause-first : goal.returns-in-Some-clause-first
returns-in-Some-clause-first c =
    let x = c.args.search.now.mapper in
    let cs = c.args.search.now.candidates.now in
    let places = c.args.placing.now.places.items in
    let own = get_or cs (length places) [] in
    let k = c.loop-number.number in
    let next : c.len-next.result ≡ length places = omega (arith, c.len-next.ensures, c.args.placing.now.places.ok.0) in
    let lt : k < length own = omega (arith, c.loop-number-test.true, c.count-number-end.ensures, ap (λ (j : ℕ). length (get_or cs j [])) next) in
    let fits = ap (λ (ps : List Place). if_fits x.lab.now x.wiring.now ps (get_or (get_or cs (length ps) []) k no_place)) (sym c.loop-number.invariant.same) ∙ sym c.in_ok-place.ensures.fitting ∙ c.in-Some.is in
    sym (some_fits x.lab.now x.wiring.now places own k c.in-Some.place lt fits) ∙ c.loop-number.invariant.first

pub loop-number-preserved : goal.loop-number-preserved
loop-number-preserved c =
    let x = c.args.search.now.mapper in
    let cs = c.args.search.now.candidates.now in
    let places = c.args.placing.now.places.items in
    let own = get_or cs (length places) [] in
    let k = c.loop-number.number in
    let next : c.len-next.result ≡ length places = omega (arith, c.len-next.ensures, c.args.placing.now.places.ok.0) in
    let lt : k < length own = omega (arith, c.loop-number-test.true, c.count-number-end.ensures, ap (λ (j : ℕ). length (get_or cs j [])) next) in
    let fits = ap (λ (ps : List Place). if_fits x.lab.now x.wiring.now ps (get_or (get_or cs (length ps) []) k no_place)) (sym c.loop-number.invariant.same) ∙ sym c.in_ok-place.ensures.fitting ∙ c.in_default.is in
    record {
      placing = c.in_ok-place.ensures.placing;
      same = c.in_ok-place.ensures.same ∙ c.loop-number.invariant.same;
      first = sym (none_fits x.lab.now x.wiring.now places own k lt fits) ∙ c.loop-number.invariant.first;
    }

pub returns-clause-placing : goal.returns-clause-placing
returns-clause-placing c = c.loop-number.invariant.placing

pub returns-clause-same : goal.returns-clause-same
returns-clause-same c = c.loop-number.invariant.same

pub returns-clause-first : goal.returns-clause-first
returns-clause-first c =
    let x = c.args.search.now.mapper in
    let cs = c.args.search.now.candidates.now in
    let places = c.args.placing.now.places.items in
    let own = get_or cs (length places) [] in
    let next : c.len-next.result ≡ length places = omega (arith, c.len-next.ensures, c.args.placing.now.places.ok.0) in
    let all = drop_all c.loop-number.number own (omega (arith, c.loop-number-test.false, c.count-number-end.ensures, ap (λ (j : ℕ). length (get_or cs j [])) next)) in
    ap (λ (l : List Place). find (λ p. fits_next x.lab.now x.wiring.now places p) l) (sym all) ∙ c.loop-number.invariant.first
