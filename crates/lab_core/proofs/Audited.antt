-- The lab step of an audit: all stays as it was.
use Rattle.std.proofs.Common.{◌≡◌, true, false, ℕ, List, [], Option, Some, None, Err, refl, sym, ap, ◌∙◌, subst}
use Rattle.std.specs.Prelude.{is_some}
use Rattle.std.proofs.lemmas.Option.{same_Some}
use Rattle.lab_base.specs.Lists.{Has}
use Rattle.plant.specs.Events.{Event}
use Rattle.records_model.specs.Labs.{LabState}
use Rattle.swap_turns.specs.Pieces.{has_outer}
use Rattle.swap_turns.specs.Swaps.{Moves}
use Rattle.script_text.specs.declared.command.Command.TheVariants as commands
use Rattle.script_text.specs.declared.reply.Reply.{Reply}
use Rattle.script_text.specs.declared.reply.Reply.TheVariants as replies
use Rattle.lab_core.specs.Auditing.{Audits, no_lab, told, unread, no_memory}
use Rattle.lab_core.specs.LabSteps.{StepOf, opened, not_opened}
use Rattle.lab_core.specs.Moments.{with_more}
use Rattle.lab_core.specs.Sessions.{OpenSwap, Session, Setting, After, Closed, Open, Terms}
use Rattle.lab_core.specs.Tells.{AllMove, IsAtRest, opens_of}
use Rattle.lab_core.proofs.OuterReplies.{breaks_so, of_drill_if}
use Rattle.lab_core.proofs.OuterSteps.{CommandTells, plain, still_as, tell_after, unread as unread_so}
use Rattle.lab_core.proofs.Others.{Stays, both_stay, same_stays}
use Rattle.lab_core.proofs.Places.{breaks_place, place_as, TellsPlace}
use Rattle.lab_core.proofs.StepLaws.{begins_stay, broke, step_stays, step_stops}
use Rattle.lab_core.proofs.Sessions.{not_shut}

none_some : {X : Type 0} (reply : Reply) → None ≡ Some reply → X
none_some reply is = absurd (cc is)

-- WHAT AN AUDIT LEAVES
module _ (trace : Option (List Event)) (s : LabState) (opens : List OpenSwap) (own : List Event) (after : After) where
  pub kept : Audits trace s opens own after → after.lab ≡ s
  kept (no_lab none d) = ap (λ (a : After). a.lab) d.after_is
  kept (told report nothing tells is) = ap (λ (a : After). a.lab) is
  kept (unread name own_is is) = ap (λ (a : After). a.lab) is
  kept (no_memory wants) = ap (λ (a : After). a.lab) wants.after_is

  -- its steps and the reply, after an opening
  stops : (opening : List Event) → has_outer opening ≡ false → (reply : Reply) → after.reply ≡ Some reply → Audits trace s opens own after → CommandTells commands.Audit opening own reply
  stops opening quiet reply is (no_lab none d) = plain (tell_after opening own reply quiet (still_as own replies.NoLab reply (ap has_outer d.nothing) refl (sym (ap (λ (a : After). a.reply) d.after_is) ∙ is)))
  stops opening quiet reply is (told report nothing tells after_is) =
      plain (tell_after opening own reply quiet (still_as own (replies.Audit report) reply (ap has_outer nothing) refl (sym (ap (λ (a : After). a.reply) after_is) ∙ is)))
  stops opening quiet reply is (unread name own_is after_is) = unread_so name refl quiet own_is (sym (same_Some (replies.Unread name) reply (sym (ap (λ (a : After). a.reply) after_is) ∙ is)))
  stops opening quiet reply is (no_memory wants) = none_some reply (sym (ap (λ (a : After). a.reply) wants.after_is) ∙ is)

  -- and the open swaps, while the controller stays open
  pub opens_stay : (to : List OpenSwap) → after.session ≡ Open to → Audits trace s opens own after → to ≡ opens
  opens_stay to is (no_lab none d) = let both : Open opens ≡ Open to = sym (ap (λ (a : After). a.session) d.after_is) ∙ is in sym (let same : opens ≡ to = cc both in same)
  opens_stay to is (told report nothing tells after_is) = let both : Open opens ≡ Open to = sym (ap (λ (a : After). a.session) after_is) ∙ is in sym (let same : opens ≡ to = cc both in same)
  opens_stay to is (unread name own_is after_is) = let both : Open opens ≡ Open to = sym (ap (λ (a : After). a.session) after_is) ∙ is in sym (let same : opens ≡ to = cc both in same)
  opens_stay to is (no_memory wants) = not_shut to (sym (ap (λ (a : After). a.session) wants.after_is) ∙ is)

  place : (reply : Reply) → after.reply ≡ Some reply → Audits trace s opens own after → TellsPlace reply after.lab
  place reply is (no_lab none d) = place_as after.lab replies.NoLab reply (sym (ap (λ (a : After). a.reply) d.after_is) ∙ is) tt
  place reply is (told report nothing tells after_is) = place_as after.lab (replies.Audit report) reply (sym (ap (λ (a : After). a.reply) after_is) ∙ is) tt
  place reply is (unread name own_is after_is) = place_as after.lab (replies.Unread name) reply (sym (ap (λ (a : After). a.reply) after_is) ∙ is) tt
  place reply is (no_memory wants) = none_some reply (sym (ap (λ (a : After). a.reply) wants.after_is) ∙ is)

  no_drill : Audits trace s opens own after → of_drill_if after.reply ≡ false
  no_drill (no_lab none d) = ap (λ (a : After). of_drill_if a.reply) d.after_is
  no_drill (told report nothing tells after_is) = ap (λ (a : After). of_drill_if a.reply) after_is
  no_drill (unread name own_is after_is) = ap (λ (a : After). of_drill_if a.reply) after_is
  no_drill (no_memory wants) = ap (λ (a : After). of_drill_if a.reply) wants.after_is

-- THE LAB STEP
module _ (terms : Terms) (at : Option (List Event)) (set : Setting) (s : LabState) (opening own : List Event) (after : After) where
  abbrev Step : Session → Type 0
  Step session = StepOf None (λ opens mid steps ends. Audits (with_more at opening) mid opens steps ends) terms s session opening own after

  pub audit_stops : (session : Session) (reply : Reply) → after.reply ≡ Some reply → Step session → CommandTells commands.Audit opening own reply
  audit_stops Closed reply is (opened mid opens done) = stops (with_more at opening) mid [] own after opening opens.no_outer reply is done
  audit_stops Closed reply is (not_opened breaks) = plain (step_stops own after reply is None (Err replies.NoLab) terms set s Closed commands.Status opening (broke refl refl breaks))
  audit_stops (Open opens) reply is (none, done) = stops (with_more at opening) s opens own after opening (ap has_outer none) reply is done

  pub audit_stays : (session : Session) (name : List ℕ) → is_some s.lab ≡ true → (session ≡ Closed → IsAtRest s name) → Step session → Stays name s after.lab
  audit_stays Closed name there rests (opened mid opens done) =
      let first = begins_stay name own after s there Closed commands.Status (λ is. rests refl) opening Closed (λ is. rests refl) mid [] (record { no_drill = refl; at = opens; quiet = opens.no_outer; are = refl }) in
      both_stay name s mid after.lab first (same_stays name mid after.lab first.set (kept (with_more at opening) mid [] own after done))
  audit_stays Closed name there rests (not_opened breaks) =
      step_stays name own after s there Closed commands.Status (λ is. rests refl) opening (Err replies.NoLab) terms set (λ is. let none : ◌≡◌ {A = Option (List ℕ)} None (Some name) = is in cc none) (broke refl refl breaks)
  audit_stays (Open opens) name there rests (none, done) = same_stays name s after.lab there (kept (with_more at opening) s opens own after done)

  pub audit_opens : (session : Session) (now : List OpenSwap) → after.session ≡ Open now → Step session → now ≡ opens_of session
  audit_opens Closed now is (opened mid opens done) = opens_stay (with_more at opening) mid [] own after now is done
  audit_opens Closed now is (not_opened breaks) = not_shut now (sym breaks.session ∙ is)
  audit_opens (Open opens) now is (none, done) = opens_stay (with_more at opening) s opens own after now is done

  pub audit_moves : (session : Session) → AllMove (opens_of session) s → (now : List OpenSwap) → after.session ≡ Open now → Step session → AllMove now after.lab
  audit_moves Closed all now is step = λ o there. absurd (subst (λ l. Has l o) (audit_opens Closed now is step) there)
  audit_moves (Open opens) all now is (none, done) = λ o there.
      subst (λ (u : LabState). Moves o.running.swap u) (sym (kept (with_more at opening) s opens own after done)) (all o (subst (λ l. Has l o) (opens_stay (with_more at opening) s opens own after now is done) there))

  pub audit_place : (session : Session) (reply : Reply) → after.reply ≡ Some reply → Step session → TellsPlace reply after.lab
  audit_place Closed reply is (opened mid opens done) = place (with_more at opening) mid [] own after reply is done
  audit_place Closed reply is (not_opened breaks) = breaks_place own after reply is opening breaks.breaks
  audit_place (Open opens) reply is (none, done) = place (with_more at opening) s opens own after reply is done

  pub audit_no_drill : (session : Session) → Step session → of_drill_if after.reply ≡ false
  audit_no_drill Closed (opened mid opens done) = no_drill (with_more at opening) mid [] own after done
  audit_no_drill Closed (not_opened b) = breaks_so opening after.reply b.breaks
  audit_no_drill (Open opens) (none, done) = no_drill (with_more at opening) s opens own after done
