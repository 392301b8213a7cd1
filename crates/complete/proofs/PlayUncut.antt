-- `play` among steps that go well: each event is answered `in`, or refused, so that no course of it is cut.
use Rattle.std.proofs.Common.{◌≡◌, ℕ, false, codes, List, [], ◌∷◌, ◌++◌, append_assoc, Option, Some, None, length, refl, ◌∙◌, ap, subst}
use Rattle.plant.specs.Events.{Event}
use Rattle.records_model.specs.Labs.{LabState}
use Rattle.virt_topo.specs.declared.wiring.Wiring.{Wiring}
use Rattle.ns_events.specs.declared.event.Event.{Event as LinkEvent}
use Rattle.script_text.specs.Replies.{last_text, text_of}
use Rattle.script_text.specs.declared.reply.Reply.{Reply}
use Rattle.script_text.specs.declared.reply.Reply.TheVariants as replies
use Rattle.recovery.specs.Due.{is_busy}
use Rattle.lab_core.specs.Commands.{Plays, ground_by}
use Rattle.lab_core.specs.LabSteps.{IsDoneBy, does, no_memory}
use Rattle.lab_core.specs.Lists.{Ground, Past, broken, last_reply, listed, more, no_memory as list_no_memory, none, over, refused, wanting}
use Rattle.lab_core.specs.PlayList.{JudgedNext, after_event, events_in_turn}
use Rattle.lab_tasks.specs.Playing.{Playing}
use Rattle.lab_core.specs.Sessions.{OpenSwap, Setting, After, name_in, names_of}
use Rattle.lab_core.proofs.Events.{plays_first, refuse_so, stand_in}
use Rattle.complete.specs.Booted.{GoesWell}
use Rattle.complete.specs.Complete.{begins_with}
use Rattle.complete.proofs.DoneUncut.{cut_if, does_uncut}
use Rattle.complete.proofs.GoingWell.{well_after}
use Rattle.complete.proofs.JudgedUncut.{cuts, event_turns as no_turn, event_uncut, idle_uncut}

-- THE TEXT of a reply that tells of no cut course
calm_text : (reply : Reply) → cuts reply ≡ false → begins_with (codes "failed ") (text_of reply) ≡ false
calm_text (replies.Failed exp end what) calm = absurd (cc calm)
calm_text (replies.Served served) calm = absurd (cc calm)
calm_text (replies.Listed [] nodes vlans) calm = refl
calm_text (replies.Listed (e ∷ experiments) nodes vlans) calm = refl
calm_text reply calm = refl

calm_last : (ended : Option Reply) → cut_if ended ≡ false → begins_with (codes "failed ") (last_text ended) ≡ false
calm_last None calm = refl
calm_last (Some reply) calm = calm_text reply calm

module _ (exp : List ℕ) where
  -- an event
  next_uncut : (set : Setting) (s : LabState) (opens : List OpenSwap) (text : Wiring) (left : List LinkEvent) (own rest : List Event) (after : After) → GoesWell (own ++ rest) → IsDoneBy (JudgedNext exp text left s opens) set s opens own after → cut_if after.reply ≡ false
  next_uncut set s opens text [] own rest after well (does j judged d) = absurd judged
  next_uncut set s opens text (event ∷ left) own rest after well (does j judged d) =
      does_uncut own rest well set s opens after (stand_in exp) (λ o has turns. absurd (no_turn (name_in o) exp turns)) j (event_uncut s (is_busy (names_of opens) exp) (length opens) exp text event j judged) d
  next_uncut set s opens text left own rest after well (no_memory wants) = ap (λ (x : After). cut_if x.reply) wants.after_is

  -- the place after a reply
  after_calm : (at : Playing) (reply : Reply) → cut_if at.ended ≡ false → cuts reply ≡ false → cut_if (after_event exp at reply).ended ≡ false
  after_calm at (replies.In name) before calm = before
  after_calm at reply before calm = calm

  module _ (base : Ground) (trace : Option (List Event)) (s : LabState) (opens : List OpenSwap) (start : Playing) (first : start.ended ≡ None) where
    past_calm : (own : List Event) (at : Playing) (u : LabState) (to : List OpenSwap) → Past (events_in_turn exp) base trace start s opens own at u to → (rest : List Event) → GoesWell (own ++ rest) → cut_if at.ended ≡ false
    past_calm own at u to none rest well = ap cut_if first
    past_calm own at u to (more front at' mid between past steps reply lab to' next) rest well =
        let all = subst GoesWell (append_assoc front steps rest) well in
        after_calm at' reply (past_calm front at' mid between past (steps ++ rest) all) (next_uncut _ mid between at'.text at'.left steps rest _ (well_after front (steps ++ rest) all) next.done)

    last_calm : (at : Playing) (told : Option Reply) → cut_if at.ended ≡ false → cut_if told ≡ false → cut_if (last_reply (events_in_turn exp) at told) ≡ false
    last_calm at None before calm = refl
    last_calm at (Some replies.Stopped) before calm = absurd (cc calm)
    last_calm at (Some reply) before calm = calm_last (after_event exp at reply).ended (after_calm at reply before calm)

  pub plays_uncut : (from until : ℕ) (text : List ℕ) (trace : Option (List Event)) (set : Setting) (s : LabState) (opens : List OpenSwap) (own rest : List Event) (after : After) → GoesWell (own ++ rest) → Plays exp from until text trace set opens s own after → cut_if after.reply ≡ false
  plays_uncut from until text trace set s opens own rest after well (refused reply judged d) =
      ap (λ (x : After). cut_if x.reply) d.after_is ∙ refuse_so cuts (λ s busy exp reply is. idle_uncut s busy 0 exp reply is) (λ exp fault. refl) s opens exp from until text reply judged
  plays_uncut from until text trace set s opens own rest after well (list_no_memory wants) = ap (λ (x : After). cut_if x.reply) wants.after_is
  plays_uncut from until text trace set s opens own rest after well (listed start judged (over at lab to past over_here after_is)) =
      ap (λ (x : After). cut_if x.reply) after_is ∙ calm_last at.ended (past_calm (ground_by set) trace s opens start (plays_first s opens exp from until text start judged) own at lab to past rest well)
  plays_uncut from until text trace set s opens own rest after well (listed start judged (broken front steps at mid between told lab own_is past next after_is)) =
      let all = subst GoesWell (ap (λ l. l ++ rest) own_is ∙ append_assoc front steps rest) well in
      let before = past_calm (ground_by set) trace s opens start (plays_first s opens exp from until text start judged) front at mid between past (steps ++ rest) all in
      ap (λ (x : After). cut_if x.reply) after_is
      ∙ last_calm (ground_by set) trace s opens start (plays_first s opens exp from until text start judged) at told before (next_uncut _ mid between at.text at.left steps rest _ (well_after front (steps ++ rest) all) next.done)
  plays_uncut from until text trace set s opens own rest after well (listed start judged (wanting at lab to past after_is)) = ap (λ (x : After). cut_if x.reply) after_is
