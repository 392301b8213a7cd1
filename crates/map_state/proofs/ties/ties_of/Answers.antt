use Rattle.std.proofs.Common.{◌≡◌, ◌∙◌, ◌++◌, ◌∷◌, [], List, true, All, ap, sym, subst, below_more}
use Rattle.std.proofs.lemmas.List.Elements.{All-append, All-cons, All-nil}
use Rattle.map_state.specs.declared.ties.Tie.{Tie}
use Rattle.map_state.specs.Ties.{IsTie, have_one_type}
use Rattle.map_state.proofs.TieLaws.{tied_more}
use Rattle.map_state.proofs.ties.ties_of.Goals.{in-Some+in_ok-push, in_default}
use Rattle.map_state.proofs.ties.ties_of.Goals as goal

pub loop-virt-preserved : goal.loop-virt-preserved
loop-virt-preserved c =
    let wiring = c.args.wiring.now in
    let v = c.loop-virt.virt in
    let ties = c.loop-virt.ties.items in
    let before = c.loop-virt.invariant in
    elim c.match-tie_of.branch [
      | in-Some+in_ok-push w ↦ (
          let tie = w.in-Some.tie in
          let made : c.match-tie_of.ties.items ≡ ties ++ tie ∷ [] = ap (λ y. y.items) w.ties-is ∙ w.in_ok-push.ensures.items in
          record {
            each = subst (λ (l : List Tie). All (IsTie wiring) l) (sym made) (All-append (IsTie wiring) ties (tie ∷ []) before.each (All-cons (IsTie wiring) tie [] w.in-Some.ensures.tie (All-nil (IsTie wiring))));
            all = λ places count all.
                tied_more wiring ties tie v w.in-Some.ensures.tie w.in-Some.ensures.member before.all places count (subst (λ (l : List Tie). All (λ t. have_one_type places t ≡ true) l) made all);
          })
      | in_default w ↦ (
          let same : c.match-tie_of.ties.items ≡ ties = ap (λ y. y.items) w.ties-is in
          record {
            each = subst (λ (l : List Tie). All (IsTie wiring) l) (sym same) before.each;
            all = λ places count all.
                below_more _ _ (before.all places count (subst (λ (l : List Tie). All (λ t. have_one_type places t ≡ true) l) same all)) (c.tie_of.ensures.none w.in_default.is places);
          })
    ]
