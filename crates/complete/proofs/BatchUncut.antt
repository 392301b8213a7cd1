-- `batch` among steps that go well: each run is answered `in`, or refused, or waits, so that no course of it is cut.
use Rattle.std.proofs.Common.{◌≡◌, ℕ, Bool, false, ◌||◌, List, [], ◌∷◌, ◌++◌, append_assoc, Option, Some, None, length, refl, ◌∙◌, ap, subst}
use Rattle.std.specs.List.{list_any}
use Rattle.plant.specs.Events.{Event}
use Rattle.records_model.specs.Labs.{LabState}
use Rattle.cost_rule.specs.declared.rule.RuleNumber.{RuleNumber}
use Rattle.lab_ahead.specs.declared.batch.Promise.{Promise}
use Rattle.lab_ahead.specs.declared.batch.Run.{Run}
use Rattle.lab_ahead.specs.declared.ends.End.{End}
use Rattle.script_text.specs.Replies.{tells_failed}
use Rattle.script_text.specs.declared.reply.Reply.{Reply}
use Rattle.script_text.specs.declared.reply.Reply.TheVariants as replies
use Rattle.script_text.proofs.ToldRuns.{any_more}
use Rattle.recovery.specs.Due.{is_busy}
use Rattle.lab_core.specs.Commands.{Serves, ground_by}
use Rattle.lab_core.specs.LabSteps.{IsDoneBy, does, has_space, no_memory}
use Rattle.lab_core.specs.Lists.{Ground, Past, broken, last_reply, listed, more, no_memory as list_no_memory, none, over, refused, wanting}
use Rattle.lab_core.specs.BatchList.{JudgedNextRun, runs_in_turn}
use Rattle.lab_judge.specs.Serving.{Serving}
use Rattle.lab_core.specs.Sessions.{OpenSwap, Setting, After, name_in, names_of}
use Rattle.lab_core.proofs.Runs.{batch_first, batch_refuses, stand_in}
use Rattle.complete.specs.Booted.{GoesWell}
use Rattle.complete.specs.Complete.{is_cut}
use Rattle.complete.proofs.DoneUncut.{cut_if, does_uncut}
use Rattle.complete.proofs.GoingWell.{well_after}
use Rattle.complete.proofs.JudgedUncut.{cuts, run_turns as no_turn, run_uncut}

-- the reply to one command, and that to the whole
abbrev pub told_cut : Option Reply → Bool
told_cut None = false
told_cut (Some reply) = is_cut reply

one_told : (reply : Reply) → cuts reply ≡ false → is_cut reply ≡ false
one_told (replies.Served served) calm = absurd (cc calm)
one_told reply calm = calm

pub cut_told : (reply : Option Reply) → cut_if reply ≡ false → told_cut reply ≡ false
cut_told None calm = refl
cut_told (Some reply) calm = one_told reply calm

-- one that cuts no course tells of no swap that failed
calm_one : (reply : Reply) → cuts reply ≡ false → tells_failed reply ≡ false
calm_one (replies.Failed exp end what) calm = absurd (cc calm)
calm_one reply calm = refl

module _ (rule : RuleNumber) (moment : ℕ) where
  -- a run
  next_uncut : (set : Setting) (s : LabState) (opens : List OpenSwap) (promises : List Promise) (ends : List End) (left : List Run) (own rest : List Event) (after : After) → GoesWell (own ++ rest)
      → IsDoneBy (JudgedNextRun rule moment promises ends left (λ entry. has_space set entry) s opens) set s opens own after → cut_if after.reply ≡ false
  next_uncut set s opens promises ends [] own rest after well (does j judged d) = absurd judged
  next_uncut set s opens promises ends (run ∷ left) own rest after well (does j judged d) =
      does_uncut own rest well set s opens after (stand_in run.exp) (λ o has turns. absurd (no_turn (name_in o) run.exp turns)) j
      (run_uncut s (is_busy (names_of opens) run.exp) (length opens) rule moment promises ends run (λ entry. has_space set entry) j judged) d
  next_uncut set s opens promises ends left own rest after well (no_memory wants) = ap (λ (x : After). cut_if x.reply) wants.after_is

  -- what is told after a reply
  after_calm : (told : List Reply) (reply : Reply) → list_any tells_failed told ≡ false → cuts reply ≡ false → list_any tells_failed (told ++ reply ∷ []) ≡ false
  after_calm told reply before calm = any_more tells_failed told reply ∙ (λ i. before i || calm_one reply calm i)

  module _ (base : Ground) (trace : Option (List Event)) (s : LabState) (opens : List OpenSwap) (start : Serving) (first : start.told ≡ []) where
    past_calm : (own : List Event) (at : Serving) (u : LabState) (to : List OpenSwap) → Past (runs_in_turn rule moment) base trace start s opens own at u to → (rest : List Event) → GoesWell (own ++ rest) → list_any tells_failed at.told ≡ false
    past_calm own at u to none rest well = ap (list_any tells_failed) first
    past_calm own at u to (more front at' mid between past steps reply lab to' next) rest well =
        let all = subst GoesWell (append_assoc front steps rest) well in
        after_calm at'.told reply (past_calm front at' mid between past (steps ++ rest) all) (next_uncut _ mid between at'.promises at'.ends at'.left steps rest _ (well_after front (steps ++ rest) all) next.done)

    last_calm : (at : Serving) (told : Option Reply) → list_any tells_failed at.told ≡ false → cut_if told ≡ false → told_cut (last_reply (runs_in_turn rule moment) at told) ≡ false
    last_calm at None before calm = refl
    last_calm at (Some replies.Stopped) before calm = absurd (cc calm)
    last_calm at (Some reply) before calm = after_calm at.told reply before calm

  pub batch_uncut : (text : List ℕ) (trace : Option (List Event)) (set : Setting) (s : LabState) (opens : List OpenSwap) (own rest : List Event) (after : After) → GoesWell (own ++ rest) → Serves rule moment text trace set opens s own after → told_cut after.reply ≡ false
  batch_uncut text trace set s opens own rest after well (refused reply judged d) = ap (λ (x : After). told_cut x.reply) d.after_is ∙ batch_refuses is_cut refl (λ fault. refl) s text reply judged
  batch_uncut text trace set s opens own rest after well (list_no_memory wants) = ap (λ (x : After). told_cut x.reply) wants.after_is
  batch_uncut text trace set s opens own rest after well (listed start judged (over at lab to past over_here after_is)) =
      ap (λ (x : After). told_cut x.reply) after_is ∙ past_calm (ground_by set) trace s opens start (ap (λ (p : Serving). p.told) (batch_first s text start judged).2) own at lab to past rest well
  batch_uncut text trace set s opens own rest after well (listed start judged (broken front steps at mid between told lab own_is past next after_is)) =
      let all = subst GoesWell (ap (λ l. l ++ rest) own_is ∙ append_assoc front steps rest) well in
      let none_told = ap (λ (p : Serving). p.told) (batch_first s text start judged).2 in
      let before = past_calm (ground_by set) trace s opens start none_told front at mid between past (steps ++ rest) all in
      ap (λ (x : After). told_cut x.reply) after_is
      ∙ last_calm (ground_by set) trace s opens start none_told at told before (next_uncut _ mid between at.promises at.ends at.left steps rest _ (well_after front (steps ++ rest) all) next.done)
  batch_uncut text trace set s opens own rest after well (listed start judged (wanting at lab to past after_is)) = ap (λ (x : After). told_cut x.reply) after_is
