-- The state after a call that begins or turns a swap, by its end.
use Rattle.std.proofs.Common.{◌≡◌, ℕ, true, false, List, [], ◌∷◌, ◌++◌, Option, Some, None, IfSome, Result, Ok, refl, sym, ap, ◌∙◌, subst}
use Rattle.std.proofs.lemmas.Bool.{false_from_ne_true}
use Rattle.std.proofs.lemmas.List.{append-nil}
use Rattle.std.proofs.lemmas.Option.{same_Some}
use Rattle.std.proofs.lemmas.Slice.Eq.{bytes_eq-Decides}
use Rattle.std.specs.Prelude.{◌≢◌}
use Rattle.std.specs.Str.{bytes_eq}
use Rattle.lab_base.specs.Counts.{Rose}
use Rattle.lab_base.specs.Lists.{Has}
use Rattle.plant.specs.Events.{Event, Restarted}
use Rattle.plant.specs.Seen.{Seen}
use Rattle.plant.specs.Told.{with_steps}
use Rattle.virt_topo.specs.declared.mapping.Mapped.{Mapped}
use Rattle.journal_disk.specs.Standing.{limit_of}
use Rattle.lab_base.specs.declared.what.What.{What}
use Rattle.lab_base.specs.declared.what.What.TheVariants as whats
use Rattle.lab_base.proofs.Tests.{never_both}
use Rattle.lab_model.specs.Courses.{Trouble as AnyTrouble, Device, Late, Unlawful}
use Rattle.records_model.specs.Labs.{LabState}
use Rattle.records_model.specs.Works.{IsSound}
use Rattle.records_model.proofs.Finding.{none_some}
use Rattle.lab_state.specs.Texts.{the_texts}
use Rattle.swap_txn.specs.Troubles.{what_of}
use Rattle.swap_turns.specs.Causes.{IsCaused, IsLater}
use Rattle.swap_turns.specs.Closing.{Closes}
use Rattle.swap_turns.specs.Lengths.{IsLonger}
use Rattle.swap_turns.specs.Legs.{Forth, Undo, Settling}
use Rattle.swap_turns.specs.Swaps.{Swap as SwapOf}
use Rattle.swap_turns.specs.Turning.{Outcome, More, TurnsBack, Ended, Stuck, Unwritten, Stopped}
use Rattle.script_text.specs.Replies.{blames_device, closes}
use Rattle.script_text.specs.declared.reply.FailedEnd.{FailedEnd}
use Rattle.script_text.specs.declared.reply.FailedEnd.TheVariants as ends
use Rattle.script_text.specs.declared.reply.Reply.{Reply}
use Rattle.script_text.specs.declared.reply.Reply.TheVariants as replies
use Rattle.lab_core.specs.declared.fault.CoreFault.{CoreFault}
use Rattle.lab_core.specs.Breaks.{StartsAfter}
use Rattle.lab_core.specs.Controller.{Control, WorksWith}
use Rattle.lab_tasks.specs.Tasks.{Task}
use Rattle.lab_core.specs.LabSteps.{done_reply, end_session, turn_reply, undone_end}
use Rattle.lab_core.specs.Obey.{start_of, Obeyed}
use Rattle.lab_core.specs.Sessions.{OpenSwap, Session, Closed, Open, HasRisenBy, blames_now, counted_from, ends_swap, name_in}
use Rattle.lab_core.proofs.Obey.{as_open, closed_by, false_true, goes_on, halted, now_blames, IsDone}
use Rattle.lab_core.proofs.Told.{IsAnswer, Halts}
use Rattle.lab_core.proofs.HowFar.{WereOpen}

-- replies that blame no device, and those that leave the controller open
done_mild : (exp : List ℕ) (o : Option Mapped) → (closes (done_reply exp o) ≡ false) × (blames_device (done_reply exp o) ≡ false)
done_mild exp None = (refl, refl)
done_mild exp (Some m) = (refl, refl)

-- they end the swap of that name alone
abbrev Ends : Reply → List ℕ → List ℕ → Type 0
Ends reply exp name = bytes_eq exp name ≡ false → ends_swap (Some reply) name ≡ false

done_ends : (exp : List ℕ) (o : Option Mapped) (name : List ℕ) → Ends (done_reply exp o) exp name
done_ends exp None name apart = apart
done_ends exp (Some m) name apart = apart

failed_ends : (exp : List ℕ) (end : FailedEnd) (why : AnyTrouble) (name : List ℕ) → Ends (replies.Failed exp end (what_of why)) exp name
failed_ends exp ends.Out (Device device) name apart = apart
failed_ends exp ends.Out (Late node) name apart = apart
failed_ends exp ends.Out (Unlawful node from to) name apart = apart
failed_ends exp ends.In (Device device) name apart = apart
failed_ends exp ends.In (Late node) name apart = apart
failed_ends exp ends.In (Unlawful node from to) name apart = apart
failed_ends exp ends.Stuck (Device device) name apart = apart
failed_ends exp ends.Stuck (Late node) name apart = apart
failed_ends exp ends.Stuck (Unlawful node from to) name apart = apart

apart_bytes : (name exp : List ℕ) → name ≢ exp → bytes_eq exp name ≡ false
apart_bytes name exp apart = false_from_ne_true (bytes_eq exp name) (λ h. apart (sym ((bytes_eq-Decides exp name).0 h)))

failed_goes : (exp : List ℕ) (end : FailedEnd) (why : AnyTrouble) → closes (replies.Failed exp end (what_of why)) ≡ false
failed_goes exp ends.Out why = refl
failed_goes exp ends.In why = refl
failed_goes exp ends.Stuck (Device name) = refl
failed_goes exp ends.Stuck (Late node) = refl
failed_goes exp ends.Stuck (Unlawful node from to) = refl

failed_blames : (exp : List ℕ) (end : FailedEnd) (why : AnyTrouble) (devices now : ℕ) → HasRisenBy (Undo why) devices now → blames_device (replies.Failed exp end (what_of why)) ≡ true → Rose devices now
failed_blames exp end (Device name) devices now cause h = cause
failed_blames exp end (Late node) devices now cause h = false_true h
failed_blames exp end (Unlawful node from to) devices now cause h = false_true h

trouble_blames : (exp : List ℕ) (why : AnyTrouble) (devices now : ℕ) → HasRisenBy (Undo why) devices now → blames_device (replies.Trouble exp (what_of why)) ≡ true → Rose devices now
trouble_blames exp (Device name) devices now cause h = cause
trouble_blames exp (Late node) devices now cause h = false_true h
trouble_blames exp (Unlawful node from to) devices now cause h = false_true h

-- WHAT CAUSED IT, of the counts since the swap was opened
abbrev pub IsCausedSince : Outcome → ℕ → Seen → Seen → Type 0
IsCausedSince (TurnsBack why) devices before now = HasRisenBy (Undo why) devices now.faults.devices
IsCausedSince (Ended (Undo why)) devices before now = HasRisenBy (Undo why) devices now.faults.devices
IsCausedSince (Stuck why) devices before now = HasRisenBy (Undo why) devices now.faults.devices
IsCausedSince Unwritten devices before now = Rose before.faults.disk now.faults.disk
IsCausedSince outcome devices before now = Unit {0}

-- and in this call
abbrev pub IsCausedNow : Outcome → Seen → Seen → Type 0
IsCausedNow (TurnsBack why) before now = IsCaused why before now
IsCausedNow (Stuck why) before now = IsCaused why before now
IsCausedNow outcome before now = Unit {0}

trouble_now : (exp : List ℕ) (why : AnyTrouble) (before now : Seen) → IsCaused why before now → blames_now (replies.Trouble exp (what_of why)) ≡ true → Rose before.faults.devices now.faults.devices
trouble_now exp (Device name) before now cause h = cause
trouble_now exp (Late node) before now cause h = false_true h
trouble_now exp (Unlawful node from to) before now cause h = false_true h

stuck_now : (exp : List ℕ) (why : AnyTrouble) (before now : Seen) → IsCaused why before now → blames_now (replies.Failed exp ends.Stuck (what_of why)) ≡ true → Rose before.faults.devices now.faults.devices
stuck_now exp (Device name) before now cause h = cause
stuck_now exp (Late node) before now cause h = false_true h
stuck_now exp (Unlawful node from to) before now cause h = false_true h

-- what an undo ends with came before
undone_not : {X : Type 0} (exp : List ℕ) (old : Option Mapped) (what : What) → blames_now (replies.Failed exp (undone_end old) what) ≡ true → X
undone_not exp None what h = false_true h
undone_not exp (Some m) what h = false_true h

-- each of those that are open was open before, and where the swap has ended none has its name
abbrev pub HasEnded : Outcome → Type 0
HasEnded (Ended leg) = Unit {0}
HasEnded (Stuck why) = Unit {0}
HasEnded outcome = ⊥

abbrev pub LeavesOpen : List ℕ → Outcome → List OpenSwap → List OpenSwap → Type 0
LeavesOpen name outcome old new = WereOpen old new × (HasEnded outcome → (o : OpenSwap) → Has new o → name_in o ≢ name)

-- the steps `Is` of a swap, after which these swaps are open
module _ (devices : ℕ) (before now : Seen) (IsJudged : Result Task Reply → Type 0) (old new : Control) (opens : List OpenSwap) (to : Outcome → List OpenSwap) (p : SwapOf) (exp : List ℕ) (steps : List Event) (told : now.told ≡ with_steps before.told steps)
    (sound : IfSome before.told (λ w. IsSound the_texts w.trace → IsSound the_texts (w.trace ++ steps))) (later : IsLater before now) (limit : limit_of new.journal ≡ limit_of old.journal)
    (were : (outcome : Outcome) → LeavesOpen p.name outcome opens (to outcome)) (Is : Outcome → List Event → LabState → Type 0)
    (done : (outcome : Outcome) (lab : LabState) (behind : List Event) (reply : Reply) (session : Session) → Is outcome steps lab → StartsAfter outcome behind → turn_reply p outcome ≡ Some reply → session ≡ end_session (to outcome) outcome
    → IsDone IsJudged (start_of devices old opens) (steps ++ behind) (Some reply) lab session) where
  abbrev Left : Result Reply CoreFault → Type 0
  Left result = Obeyed devices before now IsJudged old new opens (Some exp) result

  -- it goes on with that lab, or it is closed
  abbrev pub Leads : Outcome → Type 0
  Leads Unwritten = Closes the_texts before.told steps (λ steps lab. Is Unwritten steps lab)
  Leads Stopped = Closes the_texts before.told steps (λ steps lab. Is Stopped steps lab)
  Leads outcome = Is outcome steps new.lab × WorksWith now new (to outcome) × IsLonger old.journal new.journal steps

  on : (outcome : Outcome) (reply : Reply) → ((o : OpenSwap) → Has (to outcome) o → ends_swap (Some reply) (name_in o) ≡ false) → closes reply ≡ false → turn_reply p outcome ≡ Some reply → Open (to outcome) ≡ end_session (to outcome) outcome → StartsAfter outcome [] → (blames_device reply ≡ true → Rose (counted_from opens (Some exp) devices) now.faults.devices)
      → (blames_now reply ≡ true → Rose before.faults.devices now.faults.devices) → Is outcome steps new.lab × WorksWith now new (to outcome) × IsLonger old.journal new.journal steps → (now.stopped ≡ true → ⊥) → Left (Ok reply)
  on outcome reply stays goes reply_is session_is starts blame here is running =
      goes_on devices before now IsJudged old new opens (to outcome) (Some exp) steps told sound later limit reply goes (as_open (Some exp) (Some reply) opens (to outcome) devices stays (were outcome).0)
      (subst (λ (l : List Event). IsDone IsJudged (start_of devices old opens) l (Some reply) new.lab (Open (to outcome))) (append-nil steps) (done outcome new.lab [] reply (Open (to outcome)) is.0 starts reply_is session_is)) is.1 is.2 blame here (λ _. running)

  -- the answer has that reply
  answered : (outcome : Outcome) (reply : Reply) (result : Result Reply CoreFault) → (r : Reply) × (turn_reply p outcome ≡ Some r) × (result ≡ Ok r) → turn_reply p outcome ≡ Some reply → Left (Ok reply) → Left result
  answered outcome reply result is reply_is left =
      let same : reply ≡ is.0 = same_Some reply is.0 (sym reply_is ∙ is.1) in
      subst Left (sym (is.2 ∙ ap (λ (r : Reply). let x : Result Reply CoreFault = Ok r in x) (sym same))) left

  -- WHATEVER ITS OUTCOME
  pub by_outcome : (outcome : Outcome) → Leads outcome → IsCausedSince outcome (counted_from opens (Some exp) devices) before now → IsCausedNow outcome before now → (Halts outcome → now.stopped ≡ true) → (now.stopped ≡ true → Halts outcome) → (result : Result Reply CoreFault)
      → IsAnswer p outcome result → Left result
  by_outcome More leads cause here stop running result is = answered More (replies.More p.name) result is refl (on More (replies.More p.name) (λ o has. refl) refl refl refl refl (λ blaming. false_true blaming) (λ blaming. false_true blaming) leads running)
  by_outcome (TurnsBack why) leads cause here stop running result is =
      let reply = replies.Trouble p.name (what_of why) in
      answered (TurnsBack why) reply result is refl (on (TurnsBack why) reply (λ o has. refl) refl refl refl refl (trouble_blames p.name why _ now.faults.devices cause) (trouble_now p.name why before now here) leads running)
  by_outcome (Ended Forth) leads cause here stop running result is =
      let mild = done_mild p.name p.new in
      answered (Ended Forth) (done_reply p.name p.new) result is refl (on (Ended Forth) (done_reply p.name p.new) (λ o has. done_ends p.name p.new (name_in o) (apart_bytes (name_in o) p.name ((were (Ended Forth)).1 tt o has))) mild.0 refl refl refl (λ blaming. never_both _ blaming mild.1) (λ blaming. never_both _ (now_blames (done_reply p.name p.new) blaming) mild.1) leads running)
  by_outcome (Ended (Undo why)) leads cause here stop running result is =
      let reply = replies.Failed p.name (undone_end p.old) (what_of why) in
      answered (Ended (Undo why)) reply result is refl (on (Ended (Undo why)) reply (λ o has. failed_ends p.name (undone_end p.old) why (name_in o) (apart_bytes (name_in o) p.name ((were (Ended (Undo why))).1 tt o has))) (failed_goes p.name (undone_end p.old) why) refl refl refl (failed_blames p.name (undone_end p.old) why _ now.faults.devices cause) (λ blaming. undone_not p.name p.old (what_of why) blaming) leads running)
  by_outcome (Ended Settling) leads cause here stop running result is = none_some is.0 is.1
  by_outcome (Stuck why) leads cause here stop running result is =
      let reply = replies.Failed p.name ends.Stuck (what_of why) in
      answered (Stuck why) reply result is refl (on (Stuck why) reply (λ o has. failed_ends p.name ends.Stuck why (name_in o) (apart_bytes (name_in o) p.name ((were (Stuck why)).1 tt o has))) (failed_goes p.name ends.Stuck why) refl refl refl (failed_blames p.name ends.Stuck why _ now.faults.devices cause) (stuck_now p.name why before now here) leads running)
  by_outcome Unwritten leads cause here stop running result is =
      let reply = replies.Failed p.name ends.Stuck whats.Journal in
      answered Unwritten reply result is refl
      (closed_by devices before now IsJudged old new opens (to Unwritten) (Some exp) steps told sound later limit (were Unwritten).0 reply refl refl _ leads (λ lab all. done Unwritten lab [] reply Closed all refl refl refl) cause (λ _. running))
  by_outcome Stopped leads cause here stop running result is =
      subst Left (sym is)
      (halted devices before now IsJudged old new opens (to Stopped) (Some exp) steps told sound later limit (were Stopped).0 _ leads (λ lab all a b. done Stopped lab (Restarted a b ∷ []) replies.Stopped Closed all (a, b, refl) refl refl) (λ _. stop tt))
