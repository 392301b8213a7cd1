-- The promises of a batch, by its text and the replies to its runs.
use Rattle.std.proofs.Common.{◌≡◌, ℕ, Bool, true, false, List, [], ◌∷◌, ◌++◌, append_assoc, drop, Some, refl, sym, ◌∙◌, ap, subst, Option}
use Rattle.plant.specs.Events.{Event}
use Rattle.cost_rule.specs.declared.rule.RuleNumber.{RuleNumber}
use Rattle.records_model.specs.Labs.{LabState, Sane}
use Rattle.lab_ahead.specs.declared.batch.Batch.{Batch}
use Rattle.lab_ahead.specs.declared.batch.Run.{Run}
use Rattle.lab_ahead.specs.declared.ends.End.{End}
use Rattle.script_text.specs.Replies.{served_of}
use Rattle.script_text.specs.declared.reply.Reply.{Reply}
use Rattle.script_text.specs.declared.reply.Reply.TheVariants as replies
use Rattle.script_text.specs.declared.reply.Served.{Served}
use Rattle.lab_judge.specs.Serving.{Serving, first_run}
use Rattle.lab_core.specs.BatchList.{after_run, runs_in_turn, with_end}
use Rattle.lab_core.specs.Commands.{Serves, ground_by}
use Rattle.lab_core.specs.Lists.{Ground, Past, broken, listed, more, no_memory, none, over, refused, wanting}
use Rattle.lab_core.specs.Promises.{AreKept, KeepsPromises, end_if, ends_of}
use Rattle.lab_core.specs.Sessions.{OpenSwap, Open, Setting, After}
use Rattle.lab_core.proofs.FoundMaps.{found_shaped}
use Rattle.lab_core.proofs.PromiseNodes.{LeftNodes}
use Rattle.lab_core.proofs.PromiseRuns.{keeps_promises}
use Rattle.lab_core.proofs.Runs.{batch_first, batch_refuses}

-- THE PLACE after some replies
abbrev rest_of : List Run → List Reply → List Run
rest_of runs [] = runs
rest_of [] (reply ∷ told) = []
rest_of (run ∷ runs) (reply ∷ told) = rest_of runs told

rest_more : (runs : List Run) (told : List Reply) (reply : Reply) → rest_of runs (told ++ reply ∷ []) ≡ drop 1 (rest_of runs told)
rest_more [] [] reply = refl
rest_more (run ∷ runs) [] reply = refl
rest_more [] (x ∷ told) reply = refl
rest_more (run ∷ runs) (x ∷ told) reply = rest_more runs told reply

module _ (moment : ℕ) where
  after_front : (left : List Run) (reply : Reply) (front ends : List End) → with_end moment left reply (front ++ ends) ≡ front ++ with_end moment left reply ends
  after_front [] reply front ends = refl
  after_front (run ∷ left) (replies.In exp) front ends = append_assoc front ends _
  after_front (run ∷ left) reply front ends = refl

  first_end : (run : Run) (left : List Run) (reply : Reply) → end_if moment run reply ++ [] ≡ with_end moment (run ∷ left) reply []
  first_end run left (replies.In exp) = refl
  first_end run left reply = refl

  ends_more : (runs : List Run) (told : List Reply) (reply : Reply) → ends_of moment runs (told ++ reply ∷ []) ≡ with_end moment (rest_of runs told) reply (ends_of moment runs told)
  ends_more [] [] reply = refl
  ends_more (run ∷ runs) [] reply = first_end run runs reply
  ends_more [] (x ∷ told) reply = refl
  ends_more (run ∷ runs) (x ∷ told) reply = ap (λ l. end_if moment run x ++ l) (ends_more runs told reply) ∙ sym (after_front (rest_of runs told) reply (end_if moment run x) (ends_of moment runs told))

  record IsPlace (batch : Batch) (at : Serving) : Type 0 where
    promises : at.promises ≡ batch.promises
    left : at.left ≡ rest_of batch.runs at.told
    ends : at.ends ≡ ends_of moment batch.runs at.told

  place_on : (batch : Batch) (at : Serving) (reply : Reply) → IsPlace batch at → IsPlace batch (after_run moment at reply)
  place_on batch at reply is = record {
    promises = is.promises;
    left = ap (drop 1) is.left ∙ sym (rest_more batch.runs at.told reply);
    ends = (λ i. with_end moment (is.left i) reply (is.ends i)) ∙ sym (ends_more batch.runs at.told reply);
  }

  module _ (rule : RuleNumber) (base : Ground) (trace : Option (List Event)) (s : LabState) (opens : List OpenSwap) (batch : Batch) (start : Serving) (first : start ≡ first_run batch) where
    past_place : (own : List Event) (at : Serving) (u : LabState) (to : List OpenSwap) → Past (runs_in_turn rule moment) base trace start s opens own at u to → IsPlace batch at
    past_place own at u to none = subst (λ (p : Serving). IsPlace batch p) (sym first) (record { promises = refl; left = refl; ends = refl })
    past_place own at u to (more front at' mid between past steps reply lab to' next) = place_on batch at' reply (past_place front at' mid between past)

abbrev is_served : Reply → Bool
is_served (replies.Served served) = true
is_served reply = false

-- A BATCH THAT WAS SERVED
module _ (nodes : LeftNodes) (rule : RuleNumber) (moment : ℕ) (text : List ℕ) (trace : Option (List Event)) (set : Setting) (s : LabState) (opens : List OpenSwap) (own : List Event) (after : After) (served : Served) (to : List OpenSwap) (sane : Sane s)
    (is : after.reply ≡ Some (replies.Served served)) (open_now : after.session ≡ Open to) where
  told_so : (reply : Reply) → after.reply ≡ Some reply → reply ≡ replies.Served served
  told_so reply told = let both : Some reply ≡ Some (replies.Served served) = sym told ∙ is in cc both

  pub serves_keeps : Serves rule moment text trace set opens s own after → KeepsPromises moment text served after.lab
  serves_keeps (refused reply judged d) =
      let same = told_so reply (ap (λ (a : After). a.reply) d.after_is) in
      absurd (cc (sym (batch_refuses is_served refl (λ fault. refl) s text reply judged) ∙ ap is_served same))
  serves_keeps (no_memory wants) = absurd (cc (sym is ∙ ap (λ (a : After). a.reply) wants.after_is))
  serves_keeps (listed start judged (broken front steps at mid between told lab own_is past next after_is)) = absurd (cc (sym open_now ∙ ap (λ (a : After). a.session) after_is))
  serves_keeps (listed start judged (wanting at lab to' past after_is)) = absurd (cc (sym open_now ∙ ap (λ (a : After). a.session) after_is))
  serves_keeps (listed start judged (over at lab to' past over_here after_is)) =
      let b = batch_first s text start judged in
      let place = past_place moment rule (ground_by set) trace s opens b.0 start b.2 own at lab to' past in
      let same = told_so (replies.Served (served_of at.told)) (ap (λ (a : After). a.reply) after_is) in (
        b.0,
        at.told,
        b.1,
        let told : served ≡ served_of at.told = cc (sym same) in told,
        λ calm.
            subst (λ (u : LabState). AreKept u moment b.0.promises (ends_of moment b.0.runs at.told)) (sym (ap (λ (a : After). a.lab) after_is))
            (subst (λ l. AreKept lab moment b.0.promises l) place.ends
            (subst (λ l. AreKept lab moment l at.ends) place.promises
            (keeps_promises nodes found_shaped rule moment (ground_by set) trace s opens text start at own lab to' sane judged past calm))),
      )
