-- The mappings to which an experiment may begin to move.
use Rattle.std.proofs.Common.{◌≡◌, ◌==◌, ℕ, true, inl, Option, Some, None, is_none, List, ◌∷◌, ◌++◌, length, refl, sym, ap, subst, ◌∙◌, ◌&&◌}
use Rattle.std.proofs.lemmas.Bool.{and_parts}
use Rattle.std.proofs.lemmas.Option.{same_Some}
use Rattle.lab_base.proofs.Members.{Has-right}
use Rattle.lab_base.proofs.Tests.{none_is}
use Rattle.phys_lab.specs.declared.free.Free.{Free}
use Rattle.virt_topo.specs.declared.experiment.Experiment.{Experiment}
use Rattle.virt_topo.specs.declared.experiment.Phase.{Phase}
use Rattle.virt_topo.specs.declared.experiment.Phase.TheVariants.{Out, In, Moving}
use Rattle.virt_topo.specs.declared.mapping.Mapped.{Mapped}
use Rattle.virt_topo.specs.declared.wiring.Wiring.{Wiring}
use Rattle.virt_topo.specs.Soundness.{IsSound}
use Rattle.lab_model.specs.Beside.{IsLeft, violation_beside, are_free_tags}
use Rattle.lab_model.specs.Claims.{Which, Old, New, claimed, claimed_in}
use Rattle.lab_model.specs.Feasible.{violation}
use Rattle.lab_model.specs.Shapes.{IsShaped, IsFreeOf}
use Rattle.lab_model.proofs.FirstViolation.{same_violation}
use Rattle.records_model.specs.Labs.{HasText, find, others, can_take, is_out}
use Rattle.records_model.proofs.Finding.{Found, found_from, none_some}
use Rattle.claims.specs.Held.{IsLeftTo}
use Rattle.claims.specs.Holds.{claim_of}
use Rattle.claims.specs.Answered.{are_free_ids}
use Rattle.claims.specs.Experiments.{ClaimsOf}
use Rattle.claims.proofs.OthersLeave.{is_left}
use Rattle.claims.proofs.FreeIds.{free_tags}
use Rattle.claims.proofs.Taking.{may_take, may_leave}
use Rattle.top_text.specs.Printable.{is_printable}
use Rattle.lab_state.specs.declared.claimed_lab.ClaimedLab.{ClaimedLab}
use Rattle.lab_state.specs.Texts.{the_texts}
use Rattle.lab_state.specs.Kept.{IsKept, ArePrintable, state_of}
use Rattle.lab_state.specs.Changes.{Begins}
use Rattle.lab_state.specs.Ends.{is_in}
use Rattle.lab_state.specs.Moves.{standing_in, moving}

-- the experiment stands still: it is out, or in
pub data IsStill (p : Phase) : Type 0 where
  IsOut : is_out p ≡ true → IsStill p
  IsIn : is_in p ≡ true → IsStill p

pub standing_claimed : (w : Wiring) (p : Phase) → IsStill p → standing_in w p ≡ claimed_in w p New
standing_claimed w Out still = refl
standing_claimed w (In mapping tags) still = refl
standing_claimed w (Moving old new) (IsOut h) = absurd (cc h)
standing_claimed w (Moving old new) (IsIn h) = absurd (cc h)

-- what is known of an experiment that stands still in a lab that is kept
module _ (claimed_lab : ClaimedLab) (es : List Experiment) (exp : List ℕ) (e : Experiment) (kept : IsKept (Some claimed_lab) es) (found : find exp es ≡ Some e) where
  at_exp : Found exp es e
  at_exp = found_from exp es e found

  was : IsKept (Some claimed_lab) (at_exp.before ++ e ∷ at_exp.after)
  was = subst (λ l. IsKept (Some claimed_lab) l) at_exp.whole kept

  pub own_found : find e.name es ≡ Some e
  own_found = ap (λ n. find n es) at_exp.name_is ∙ found

  rest : others e.name es ≡ at_exp.before ++ at_exp.after
  rest = ap (λ n. others n es) at_exp.name_is ∙ at_exp.others_are

  pub own_sound : IsSound e.wiring
  own_sound = was.sane.wirings e (Has-right at_exp.before (e ∷ at_exp.after) e (inl refl))

  pub own_printable : ArePrintable e
  own_printable = was.printable e (Has-right at_exp.before (e ∷ at_exp.after) e (inl refl))

  -- the mapping with which it stands suits the lab
  pub standing_suits : (m : Mapped) → standing_in e.wiring e.phase ≡ Some m → IsSound m.wiring × IsShaped claimed_lab.lab m.wiring m.mapping
  standing_suits m is = by e.phase refl
    where
      fits : claimed e New ≡ Some m → IsSound m.wiring × IsShaped claimed_lab.lab m.wiring m.mapping
      fits h = let suits = was.sane.holding.fits e New m (Has-right at_exp.before (e ∷ at_exp.after) e (inl refl)) h in (suits.sound, suits.shaped)

      by : (p : Phase) → e.phase ≡ p → IsSound m.wiring × IsShaped claimed_lab.lab m.wiring m.mapping
      by Out p = none_some m (sym (ap (standing_in e.wiring) p) ∙ is)
      by (In mapping tags) p = fits (ap (λ q. claimed_in e.wiring q New) p ∙ sym (ap (standing_in e.wiring) p) ∙ is)
      by (Moving old new) p = none_some m (sym (ap (standing_in e.wiring) p) ∙ is)

  -- what the claims leave to it is what the others leave
  left_is : (free : Free) → IsLeftTo claimed_lab.claims exp free → IsLeft claimed_lab.lab (at_exp.before ++ at_exp.after) e free
  left_is free left =
      is_left claimed_lab.lab at_exp.before at_exp.after e claimed_lab.claims was.claims free was.sane.is_lab was.sane.holding was.sane.names (subst (λ n. IsLeftTo claimed_lab.claims n free) (sym at_exp.name_is) left)

  pub free_of : (free : Free) → IsLeftTo claimed_lab.claims exp free → IsFreeOf claimed_lab.lab free
  free_of free left = (left_is free left).sizes

  -- the checker and the free VLAN ids decide whether it can take a mapping
  pub can_is : (free : Free) (new : Mapped) → IsLeftTo claimed_lab.claims exp free → IsShaped claimed_lab.lab new.wiring new.mapping
      → (is_none (violation claimed_lab.lab free new.wiring new.mapping) && ((length new.tags == length new.wiring.segments) && are_free_ids claimed_lab.claims new.tags)) ≡ can_take claimed_lab.lab es e new
  can_is free new left shaped =
      let checked : violation claimed_lab.lab free new.wiring new.mapping ≡ violation_beside claimed_lab.lab (others e.name es) e new.wiring new.mapping
      = same_violation claimed_lab.lab (at_exp.before ++ at_exp.after) e free new.wiring new.mapping (left_is free left) shaped
      ∙ ap (λ l. violation_beside claimed_lab.lab l e new.wiring new.mapping) (sym rest) in
      let tags : ((length new.tags == length new.wiring.segments) && are_free_ids claimed_lab.claims new.tags) ≡ are_free_tags claimed_lab.lab es new.wiring new.tags
      = sym (free_tags claimed_lab.lab es claimed_lab.claims new.wiring new.tags kept.sane.names kept.claims) in
      (λ i. is_none (checked i) && tags i)

  module _ (still : IsStill e.phase) where
    from_claimed : (new : Option Mapped) → (moving e new).phase ≡ Moving (claimed e New) new
    from_claimed new = ap (λ o. Moving o new) (standing_claimed e.wiring e.phase still)

    old_printable : (m : Mapped) → standing_in e.wiring e.phase ≡ Some m → is_printable m.wiring ≡ true
    old_printable m is = own_printable.moving New m (sym (standing_claimed e.wiring e.phase still) ∙ is)

    to_printable : (new : Option Mapped) → ((m : Mapped) → new ≡ Some m → is_printable m.wiring ≡ true) → ArePrintable (moving e new)
    to_printable new each = record { wiring = own_printable.wiring; moving = by }
      where
        by : (which : Which) (m : Mapped) → claimed (moving e new) which ≡ Some m → is_printable m.wiring ≡ true
        by Old m h = old_printable m h
        by New m h = each m h

    -- a move to a mapping that it can take
    pub begins_to : (new : Mapped) → HasText the_texts new.wiring → IsShaped claimed_lab.lab new.wiring new.mapping → can_take claimed_lab.lab es e new ≡ true
        → Begins (state_of (Some claimed_lab) es) (moving e (Some new)) (claim_of claimed_lab.lab (moving e (Some new)))
    begins_to new text shaped can =
        let tests : (is_none (violation_beside claimed_lab.lab (others e.name es) e new.wiring new.mapping) ≡ true) × (are_free_tags claimed_lab.lab es new.wiring new.tags ≡ true) = and_parts _ _ can in
        let none : violation_beside claimed_lab.lab (at_exp.before ++ at_exp.after) e new.wiring new.mapping ≡ None = none_is _ (subst (λ l. is_none (violation_beside claimed_lab.lab l e new.wiring new.mapping) ≡ true) rest tests.0) in
        let free : are_free_tags claimed_lab.lab (at_exp.before ++ e ∷ at_exp.after) new.wiring new.tags ≡ true = subst (λ l. are_free_tags claimed_lab.lab l new.wiring new.tags ≡ true) at_exp.whole tests.1 in
        record {
          lab = claimed_lab.lab;
          is_lab = refl;
          before = e;
          found = own_found;
          moving = refl;
          printable = to_printable (Some new) (λ m h. subst (λ (x : Mapped). is_printable x.wiring ≡ true) (same_Some new m h) text.printable);
          claimed = refl;
          may = λ held of_es. may_take claimed_lab.lab at_exp.before at_exp.after e (moving e (Some new)) held was.sane.holding was.sane.names (subst (λ l. ClaimsOf claimed_lab.lab l held) at_exp.whole of_es) new (from_claimed (Some new)) none text.sound shaped free;
        }

    -- a move out
    pub begins_out : Begins (state_of (Some claimed_lab) es) (moving e None) (claim_of claimed_lab.lab (moving e None))
    begins_out = record {
      lab = claimed_lab.lab;
      is_lab = refl;
      before = e;
      found = own_found;
      moving = refl;
      printable = to_printable None (λ m h. none_some m h);
      claimed = refl;
      may = λ held of_es. may_leave claimed_lab.lab at_exp.before at_exp.after e (moving e None) held was.sane.holding was.sane.names (subst (λ l. ClaimsOf claimed_lab.lab l held) at_exp.whole of_es) (from_claimed None);
    }
