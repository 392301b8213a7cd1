use Rattle.std.proofs.Common.{◌≡◌, ◌∙◌, ◌&&◌, true, false, sym}
use Rattle.std.proofs.lemmas.Bool.{and_parts}
use Rattle.map_state.proofs.state.MapState.may_stay.Goals as goal

pub returns-then-not-has_types : goal.returns-then-not-has_types
returns-then-not-has_types c = (
  λ is. absurd (cc is),
  λ keeps.
      let both : false ≡ true = sym c.if-not-has_types.true ∙ c.has_types.ensures.1 keeps.typed in
      absurd (cc both),
)

pub returns : goal.returns
returns c = (
  λ is.
      let both = and_parts _ _ (sym c.in_ok-yes.ensures ∙ is) in
      record {
        first = both.0;
        second = both.1;
        typed = c.has_types.ensures.0 c.if-not-has_types.false;
      },
  λ keeps. c.in_ok-yes.ensures ∙ (λ j. keeps.first j && keeps.second j),
)
