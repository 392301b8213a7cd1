use Rattle.std.proofs.Common.{◌≡◌, ◌<◌, ◌∙◌, ◌++◌, ◌∷◌, [], List, length, get_or, map, take, ap, sym, arith}
use Rattle.std.proofs.lemmas.List.{map_push, take_all, take_more}
use Rattle.lab_model.specs.Shapes.{Place}
use Rattle.map_state.proofs.hosting.hosts_of.Goals as goal

pub loop-place-preserved : goal.loop-place-preserved
loop-place-preserved c =
    let places = c.args.mapping.now.places in
    let k = c.loop-place.place-index in
    let p : Place = c.place-item.result in
    let lt : k < length places = omega (arith, c.loop-place-test.true, ap length c.as_slice-place-items.ensures) in
    let is : p ≡ get_or places k p = c.place-item.is ∙ ap (λ (l : List Place). get_or l k p) c.as_slice-place-items.ensures in
    record {
      hosts = c.in_ok-push.ensures.items ∙ (λ j. c.loop-place.invariant.hosts j ++ (is j).0.0 ∷ [])
          ∙ sym (map_push (λ (q : Place). q.0.0) (take k places) (get_or places k p))
          ∙ ap (λ (l : List Place). map (λ q. q.0.0) l) (sym (take_more places k p lt));
    }

pub returns : goal.returns
returns c =
    let places = c.args.mapping.now.places in
    c.loop-place.invariant.hosts
    ∙ ap (λ (l : List Place). map (λ q. q.0.0) l) (take_all c.loop-place.place-index places (omega (arith, c.loop-place-test.false, ap length c.as_slice-place-items.ensures)))
