use Rattle.std.proofs.Common.{◌≡◌, ◌<◌, ◌∙◌, ◌++◌, ◌∷◌, [], ℕ, List, Bool, All, length, ap, sym, subst}
use Rattle.std.proofs.lemmas.List.Elements.{All-nil, All-append, All-cons}
use Rattle.lab_model.specs.Shapes.{Place}
use Rattle.node_maps.specs.NodeMaps.{is_candidate}
use Rattle.node_maps.specs.Kinds.{places_of}
use Rattle.node_maps.proofs.KindLaws.{place_passes, place_fails}
use Rattle.node_maps.proofs.suited.candidates_of.Goals as goal
use Rattle.node_maps.proofs.suited.candidates_of.Goals.{then-is_candidate+in_ok-push, else-is_candidate}

pub loop-number-preserved : goal.loop-number-preserved
loop-number-preserved c =
    let places = c.args.places.now in
    let n = c.loop-number.number in
    let x = c.index-places-number.result in
    let old = c.loop-number.numbers in
    let before = c.loop-number.invariant in
    let lt = c.loop-number-test.true in
    let p : Place → Bool = λ q. is_candidate c.args.lab.now c.args.free.now c.args.wiring.now c.args.virt.now q in
    let Within : List ℕ → Type 0 = λ l. All (λ k. k < length places) l in
    elim c.if-is_candidate.branch [
      | then-is_candidate+in_ok-push w ↦
          let pushed : c.if-is_candidate.numbers ≡ old ++ n ∷ [] = w.numbers-is ∙ w.in_ok-push.ensures.ok in
          record {
            numbers = subst Within (sym pushed) (All-append (λ k. k < length places) old (n ∷ []) before.numbers (All-cons (λ k. k < length places) n [] lt (All-nil (λ k. k < length places))));
            places = ap (places_of places) pushed ∙ place_passes p places n x old lt c.index-places-number.is before.places (sym c.is_candidate.ensures ∙ w.if-is_candidate.true);
          }
      | else-is_candidate w ↦
          record {
            numbers = subst Within (sym w.numbers-is) before.numbers;
            places = ap (places_of places) w.numbers-is ∙ place_fails p places n x old lt c.index-places-number.is before.places (sym c.is_candidate.ensures ∙ w.if-is_candidate.false);
          }
    ]
