-- A list keeps each thing that its commands keep.
use Rattle.std.proofs.Common.{◌≡◌, false, ◌||◌, List, Option, Some, None, refl, sym, ap, ◌∙◌, subst}
use Rattle.std.proofs.lemmas.List.Folds.{list_any-append}
use Rattle.std.proofs.lemmas.Option.{same_Some}
use Rattle.plant.specs.Events.{Event}
use Rattle.records_model.specs.Labs.{LabState}
use Rattle.swap_turns.specs.Pieces.{has_outer, is_outer}
use Rattle.script_text.specs.declared.reply.Reply.{Reply}
use Rattle.script_text.specs.declared.reply.Reply.TheVariants as replies
use Rattle.lab_core.specs.Sessions.{OpenSwap, After, open_by, shut_by}
use Rattle.lab_core.specs.Lists.{DoesNext, Ground, Listing, Lists, Past, broken, last_reply, more, none, over, wanting}
use Rattle.lab_core.proofs.OuterSteps.{Tells, restarts, still, still_as, tell_after, tells_step}

module _ {X : Type 0} (l : Listing X) (ground : Ground) (trace : Option (List Event)) where
  -- WHAT HOLDS OF THE PLACES, from one to the next
  module _ (Holds : X → Type 0) (on : (at : X) (reply : Reply) → Holds at → Holds (l.behind at reply)) where
    pub past_holds : (start : X) (s : LabState) (opens : List OpenSwap) (own : List Event) (at : X) (lab : LabState) (to : List OpenSwap) → Holds start → Past l ground trace start s opens own at lab to → Holds at
    past_holds start s opens own at lab to first none = first
    past_holds start s opens own at lab to first (more front place mid between past steps reply lab' to' next) = on place reply (past_holds start s opens front place mid between first past)

  -- A RELATION of labs and open swaps that holds of each command that leaves the controller open, and goes on from one to the next
  module _ (Holds : X → Type 0) (on : (at : X) (reply : Reply) → Holds at → Holds (l.behind at reply)) (R : LabState → List OpenSwap → LabState → List OpenSwap → Type 0) (same : (s : LabState) (opens : List OpenSwap) → R s opens s opens)
      (both : (s t u : LabState) (a b c : List OpenSwap) → R s a t b → R t b u c → R s a u c)
      (each : (front : List Event) (at : X) → Holds at → (s : LabState) (opens : List OpenSwap) (steps : List Event) (reply : Reply) (lab : LabState) (to : List OpenSwap) → DoesNext l ground trace front at s opens steps (open_by reply lab to) → R s opens lab to) where
    pub past_keeps : (start : X) (s : LabState) (opens : List OpenSwap) (own : List Event) (at : X) (lab : LabState) (to : List OpenSwap) → Holds start → Past l ground trace start s opens own at lab to → R s opens lab to
    past_keeps start s opens own at lab to first none = same s opens
    past_keeps start s opens own at lab to first (more front place mid between past steps reply lab' to' next) =
        both s mid lab opens between to (past_keeps start s opens front place mid between first past) (each front place (past_holds Holds on start s opens front place mid between first past) mid between steps reply lab to next)

    -- and of labs alone where it is closed
    module _ (L : LabState → LabState → Type 0) (weaker : (s u : LabState) (a b : List OpenSwap) → R s a u b → L s u) (then' : (s t u : LabState) → L s t → L t u → L s u)
        (last : (front : List Event) (at : X) → Holds at → (s : LabState) (opens : List OpenSwap) (steps : List Event) (reply : Option Reply) (lab : LabState) → DoesNext l ground trace front at s opens steps (shut_by reply lab) → L s lab) where
      pub lists_keep : (start : X) (s : LabState) (opens : List OpenSwap) (own : List Event) (after : After) → Holds start → Lists l ground trace start s opens own after → L s after.lab
      lists_keep start s opens own after first (over at lab to past is_over after_is) = subst (λ (a : After). L s a.lab) (sym after_is) (weaker s lab opens to (past_keeps start s opens own at lab to first past))
      lists_keep start s opens own after first (broken front steps at mid between reply lab own_is past next after_is) =
          subst (λ (a : After). L s a.lab) (sym after_is) (then' s mid lab (weaker s mid opens between (past_keeps start s opens front at mid between first past)) (last front at (past_holds Holds on start s opens front at mid between first past) mid between steps reply lab next))
      lists_keep start s opens own after first (wanting at lab to past after_is) = subst (λ (a : After). L s a.lab) (sym after_is) (weaker s lab opens to (past_keeps start s opens own at lab to first past))

  -- THE STEPS THAT THE REPLY TELLS OF, where that holds of each
  module _ (Holds : X → Type 0) (on : (at : X) (reply : Reply) → Holds at → Holds (l.behind at reply)) (quiet : (front : List Event) (at : X) → Holds at → (s : LabState) (opens : List OpenSwap) (steps : List Event) (reply : Reply) (lab : LabState) (to : List OpenSwap) → DoesNext l ground trace front at s opens steps (open_by reply lab to) → has_outer steps ≡ false)
      (stops : (front : List Event) (at : X) → Holds at → (s : LabState) (opens : List OpenSwap) (steps : List Event) (reply : Reply) (lab : LabState) → DoesNext l ground trace front at s opens steps (shut_by (Some reply) lab) → Tells steps reply)
      (calm : (at : X) → tells_step (l.whole at) ≡ false) where
    pub past_quiet : (start : X) (s : LabState) (opens : List OpenSwap) (own : List Event) (at : X) (lab : LabState) (to : List OpenSwap) → Holds start → Past l ground trace start s opens own at lab to → has_outer own ≡ false
    past_quiet start s opens own at lab to first none = refl
    past_quiet start s opens own at lab to first (more front place mid between past steps reply lab' to' next) =
        list_any-append is_outer front steps ∙ (λ i. past_quiet start s opens front place mid between first past i || quiet front place (past_holds Holds on start s opens front place mid between first past) mid between steps reply lab to next i)

    last_stops : (at : X) (told reply : Reply) (steps : List Event) → last_reply l at (Some told) ≡ Some reply → Tells steps told → Tells steps reply
    last_stops at replies.Stopped reply steps is tells = subst (λ r. Tells steps r) (same_Some replies.Stopped reply is) tells
    last_stops at told reply steps is (still quiet calm') = still_as steps (l.whole (l.behind at told)) reply quiet (calm (l.behind at told)) is
    last_stops at told reply steps is (restarts ends other) = absurd (cc other)

    pub lists_stop : (start : X) (s : LabState) (opens : List OpenSwap) (own : List Event) (after : After) (reply : Reply) → Holds start → Lists l ground trace start s opens own after → after.reply ≡ Some reply → Tells own reply
    lists_stop start s opens own after reply first (over at lab to past is_over after_is) told =
        still_as own (l.whole at) reply (past_quiet start s opens own at lab to first past) (calm at) (sym (ap (λ (a : After). a.reply) after_is) ∙ told)
    lists_stop start s opens own after reply first (broken front steps at mid between None lab own_is past next after_is) told = let none' : None ≡ Some reply = sym (ap (λ (a : After). a.reply) after_is) ∙ told in absurd (cc none')
    lists_stop start s opens own after reply first (broken front steps at mid between (Some last) lab own_is past next after_is) told =
        subst (λ l. Tells l reply) (sym own_is)
        (tell_after front steps reply (past_quiet start s opens front at mid between first past)
        (last_stops at last reply steps (sym (ap (λ (a : After). a.reply) after_is) ∙ told) (stops front at (past_holds Holds on start s opens front at mid between first past) mid between steps last lab next)))
    lists_stop start s opens own after reply first (wanting at lab to past after_is) told = let none' : None ≡ Some reply = sym (ap (λ (a : After). a.reply) after_is) ∙ told in absurd (cc none')
