use Rattle.std.proofs.Common.{◌∙◌, inl, inr, List, true, get_or, ap, sym, arith}
use Rattle.std.proofs.lemmas.Bool.{cases_eq}
use Rattle.lab_model.specs.Shapes.{Place}
use Rattle.lab_model.specs.Rules.{no_place}
use Rattle.map_state.proofs.chosen.Chosen.refresh_all.Goals as goal

pub loop-virt-preserved : goal.loop-virt-preserved
loop-virt-preserved c =
    let told = c.in_ok-refresh.ensures in
    let before = c.loop-virt.invariant in
    let k = c.loop-virt.virt in
    let unserved = c.refresh.new.self.unserved.items in
    let old = c.args.self.now.state.mapping.places in
    record {
      chosen = told.chosen;
      rest = λ none. before.rest (told.rest none);
      places = told.places ∙ before.places;
      fresh = λ v lt. elim (cases_eq v k) [
        | inl is ↦
            (λ j. get_or unserved (get_or old (is j) no_place).0.0 true)
            ∙ ap (λ (l : List Place). get_or unserved (get_or l k no_place).0.0 true) (sym before.places)
            ∙ told.fresh c.if-not-branch.false
        | inr apart ↦ told.kept (get_or old v no_place).0.0 (before.fresh v (omega (arith, lt, apart)))
      ];
    }
