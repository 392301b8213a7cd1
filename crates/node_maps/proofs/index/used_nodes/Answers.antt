use Rattle.std.proofs.Common.{◌≡◌, ◌<◌, ◌∙◌, inl, inr, false, get_or, length, ap, sym, subst, arith}
use Rattle.std.proofs.lemmas.Bool.{cases_eq}
use Rattle.std.proofs.lemmas.List.{get_or_default}
use Rattle.lab_model.specs.Shapes.{Place}
use Rattle.node_maps.proofs.index.used_nodes.Goals as goal

pub loop-place-preserved : goal.loop-place-preserved
loop-place-preserved c =
    let places = c.args.places.now in
    let n = c.loop-place.place-index in
    let x = c.place-item.result in
    let before = c.loop-place.invariant in
    record {
      one_each = c.mark.ensures.one_each ∙ before.one_each;
      used = λ k d lt within. elim (cases_eq k n) [
        | inl is ↦
            let at : get_or places k d ≡ x = ap (λ j. get_or places j d) is ∙ get_or_default places n d x c.loop-place-test.true ∙ sym c.place-item.is in
            let here : x.0.0 < length c.loop-place.used.items = omega (arith, subst (λ (p : Place). p.0.0 < c.args.nodes) at within, before.one_each) in
            ap (λ (p : Place). get_or c.mark.new.used.items p.0.0 false) at ∙ c.mark.ensures.marked here
        | inr apart ↦ c.mark.ensures.others (get_or places k d).0.0 (before.used k d (omega (arith, lt, apart)) within)
      ];
    }
