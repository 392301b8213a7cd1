-- Laws of the lab step hold of a list of commands: experiments of other names stay, the same swaps are open, and their steps are as its reply tells.
use Rattle.std.proofs.Common.{◌≡◌, ◌≢◌, inl, ℕ, Bool, true, false, is_some, List, length, Option, Some, None, Result, Ok, Err, refl, sym, ap, ◌∙◌, subst}
use Rattle.std.proofs.lemmas.Option.{same_Some}
use Rattle.plant.specs.Events.{Event}
use Rattle.records_model.specs.Labs.{LabState}
use Rattle.journal_rec.specs.declared.record.Record.{Record}
use Rattle.journal_rec.specs.declared.record.Record.TheVariants.{Begin}
use Rattle.recovery.specs.Due.{is_busy}
use Rattle.script_text.specs.declared.command.Command.{Command}
use Rattle.script_text.specs.declared.command.Command.TheVariants as commands
use Rattle.script_text.specs.declared.reply.Reply.{Reply}
use Rattle.script_text.specs.declared.reply.Reply.TheVariants as replies
use Rattle.swap_turns.specs.Legs.{Forth, Undo, Settling}
use Rattle.swap_turns.specs.Swaps.{Swap as SwapOf}
use Rattle.swap_turns.specs.Turning.{Outcome, More, TurnsBack, Ended, Stuck, Unwritten, Stopped as Halted}
use Rattle.lab_tasks.specs.Tasks.{Task, Tell, Swap}
use Rattle.lab_core.specs.LabSteps.{Does, IfSpace, IsAnswered, IsDoneBy, Replies, Swaps, does, done_reply, end_reply, end_session, has_space, is_told, no_memory}
use Rattle.lab_core.specs.Sessions.{OpenSwap, Setting, After, Closed, Open, names_of, open_by, shut_by}
use Rattle.lab_tasks.specs.OpenNames.{is_among, name_of}
use Rattle.lab_judge.proofs.Fits.{IsFit}
use Rattle.lab_core.proofs.TasksApart.{IsTaskApart, task_apart}
use Rattle.lab_core.proofs.OpenLaws.{does_next}
use Rattle.lab_core.proofs.Others.{Stays, both_stay, same_stays}
use Rattle.lab_core.proofs.OuterSteps.{Tells, no_step_of, still_steps, tells_step}
use Rattle.lab_core.proofs.StepLaws.{does_stays, does_stop, done_calm}
use Rattle.lab_core.specs.Lists.{DoesNext, Ground, Listing, Lists, Past, broken, over, set_at, wanting}
use Rattle.lab_core.proofs.Keeping.{lists_keep, lists_stop, past_holds, past_keeps}

-- a judgement that refuses, tells, or swaps
abbrev pub IsPlain : Result Task Reply → Type 0
IsPlain (Err reply) = Unit {0}
IsPlain (Ok (Tell reply)) = Unit {0}
IsPlain (Ok (Swap exp way)) = Unit {0}
IsPlain judgement = ⊥

-- it is fit as that of a command about one of these experiments
pub record IsFitFor (about : List ℕ → Bool) (s : LabState) (opens : List OpenSwap) (j : Result Task Reply) : Type 0 where
  pub command : Command
  pub fit : IsFit s command (is_among (names_of opens) (name_of command)) (length opens) j
  pub named : (n : List ℕ) → name_of command ≡ Some n → about n ≡ true
  pub other : command ≢ commands.Recover
  pub plain : IsPlain j

-- A LISTING ABOUT THESE EXPERIMENTS, at the places of which this holds
pub record IsAboutThese {X : Type 0} (l : Listing X) (Holds : X → Type 0) (about : List ℕ → Bool) : Type 0 where
  pub on : (at : X) (reply : Reply) → Holds at → Holds (l.behind at reply)
  pub each : (at : X) → Holds at → (set : Setting) (s : LabState) (opens : List OpenSwap) (j : Result Task Reply) → l.Judges at set s opens j → IsFitFor about s opens j

open_not : {X : Type 0} (opens : List OpenSwap) → Open opens ≡ Closed → X
open_not opens is = absurd (cc is)

none_some : {X : Type 0} (reply : Reply) → Some reply ≡ None → X
none_some reply is = absurd (cc is)

-- a swap that leaves the controller open told of no start and of no reading
end_calm : (p : SwapOf) (outcome : Outcome) (opens to : List OpenSwap) (reply : Reply) → end_reply p outcome ≡ Some reply → Open to ≡ end_session opens outcome → tells_step reply ≡ false
end_calm p (Ended Forth) opens to reply is session = ap tells_step (sym (same_Some (done_reply p.name p.new) reply is)) ∙ done_calm p.name p.new
end_calm p (Ended (Undo why)) opens to reply is session = ap tells_step (sym (same_Some _ reply is))
end_calm p (Ended Settling) opens to reply is session = let none : None ≡ Some reply = is in absurd (cc none)
end_calm p (Stuck why) opens to reply is session = ap tells_step (sym (same_Some _ reply is))
end_calm p Unwritten opens to reply is session = open_not to session
end_calm p Halted opens to reply is session = open_not to session
end_calm p More opens to reply is session = let none : None ≡ Some reply = is in absurd (cc none)
end_calm p (TurnsBack why) opens to reply is session = let none : None ≡ Some reply = is in absurd (cc none)

module _ (about : List ℕ → Bool) (set : Setting) (s : LabState) (opens : List OpenSwap) (steps : List Event) where
  replied_calm : (told reply : Reply) (lab : LabState) (to : List OpenSwap) → tells_step told ≡ false → Replies s opens told steps (open_by reply lab to) → tells_step reply ≡ false
  replied_calm told reply lab to calm d = ap tells_step (same_Some reply told (ap (λ (a : After). a.reply) d.after_is)) ∙ calm

  swapped_calm : (exp : List ℕ) (entry : Record) (reply : Reply) (lab : LabState) (to : List OpenSwap) → Swaps s opens exp entry steps (open_by reply lab to) → tells_step reply ≡ false
  swapped_calm exp entry reply lab to d = by d.answered
    where
      by : IsAnswered (end_reply d.swap d.outcome) opens d.outcome d.behind (open_by reply lab to) → tells_step reply ≡ false
      by (is_told starts told session) = end_calm d.swap d.outcome opens to reply (sym told) session

  does_calm : (c : Command) (busy : Bool) (count : ℕ) (j : Result Task Reply) → IsFit s c busy count j → IsPlain j → (reply : Reply) (lab : LabState) (to : List OpenSwap) → Does set s opens j steps (open_by reply lab to) → tells_step reply ≡ false
  does_calm c busy count (Err refusal) fit plain reply lab to d = replied_calm refusal reply lab to (no_step_of refusal fit) d
  does_calm c busy count (Ok (Tell told)) fit plain reply lab to d = replied_calm told reply lab to (no_step_of told fit) d
  does_calm c busy count (Ok (Swap exp way)) fit plain reply lab to d = by (has_space set (Begin exp way)) d
    where
      by : (b : Bool) → IfSpace b set.length s opens (Swaps s opens exp (Begin exp way) steps (open_by reply lab to)) steps (open_by reply lab to) → tells_step reply ≡ false
      by true d = swapped_calm exp (Begin exp way) reply lab to d
      by false d = replied_calm (replies.FullJournal set.length) reply lab to refl d
  does_calm c busy count j fit plain reply lab to d = absurd plain

  next_same : (j : Result Task Reply) → IsPlain j → (reply : Reply) (lab : LabState) (to : List OpenSwap) → Does set s opens j steps (open_by reply lab to) → to ≡ opens
  next_same (Err refusal) plain reply lab to d = does_next (open_by reply lab to) to refl s opens steps set (Err refusal) d
  next_same (Ok (Tell told)) plain reply lab to d = does_next (open_by reply lab to) to refl s opens steps set (Ok (Tell told)) d
  next_same (Ok (Swap exp way)) plain reply lab to d = does_next (open_by reply lab to) to refl s opens steps set (Ok (Swap exp way)) d
  next_same j plain reply lab to d = absurd plain

module _ {X : Type 0} (l : Listing X) (ground : Ground) (trace : Option (List Event)) (Holds : X → Type 0) (about : List ℕ → Bool) (is : IsAboutThese l Holds about) where
  -- THE SAME SWAPS ARE OPEN
  open_each : (front : List Event) (at : X) → Holds at → (s : LabState) (opens : List OpenSwap) (steps : List Event) (reply : Reply) (lab : LabState) (to : List OpenSwap) → DoesNext l ground trace front at s opens steps (open_by reply lab to) → to ≡ opens
  open_each front at holds s opens steps reply lab to next = by next.done
    where
      by : IsDoneBy (l.Judges at (set_at ground next.length) s opens) (set_at ground next.length) s opens steps (open_by reply lab to) → to ≡ opens
      by (does j judged d) = next_same about (set_at ground next.length) s opens steps j (is.each at holds (set_at ground next.length) s opens j judged).plain reply lab to d
      by (no_memory wants) = open_not to (ap (λ (a : After). a.session) wants.after_is)

  pub same_open : (start : X) (s : LabState) (opens : List OpenSwap) (own : List Event) (at : X) (lab : LabState) (to : List OpenSwap) → Holds start → Past l ground trace start s opens own at lab to → to ≡ opens
  same_open = past_keeps l ground trace Holds is.on (λ s a t b. b ≡ a) (λ s opens. refl) (λ s t u a b c first second. second ∙ first) open_each

  -- EXPERIMENTS OF OTHER NAMES STAY
  module _ (name : List ℕ) (apart : about name ≡ false) where
    done_stays : (at : X) → Holds at → (set : Setting) (s : LabState) (opens : List OpenSwap) (steps : List Event) (after : After) → IsDoneBy (l.Judges at set s opens) set s opens steps after → is_some s.lab ≡ true → Stays name s after.lab
    done_stays at holds set s opens steps after (no_memory wants) there = same_stays name s after.lab there (ap (λ (a : After). a.lab) wants.after_is)
    done_stays at holds set s opens steps after (does j judged d) there =
        let f = is.each at holds set s opens j judged in
        let busy = is_among (names_of opens) (name_of f.command) in
        does_stays name steps after s there opens set j
        (λ task same. task_apart name (names_of opens) s f.command busy (length opens) task (subst (λ (x : Result Task Reply). IsFit s f.command busy (length opens) x) same f.fit) (λ recovers. absurd (f.other recovers)) there
        (λ named. let both : true ≡ false = sym (f.named name named) ∙ apart in cc both)) d

    pub others_stay : (start : X) (s : LabState) (opens : List OpenSwap) (own : List Event) (after : After) → Holds start → Lists l ground trace start s opens own after → is_some s.lab ≡ true → Stays name s after.lab
    others_stay =
        lists_keep l ground trace Holds is.on (λ s a t b. is_some s.lab ≡ true → Stays name s t) (λ s opens there. same_stays name s s there refl) (λ s t u a b c first second there. let f = first there in both_stay name s t u f (second f.set))
        (λ front at holds s opens steps reply lab to next. done_stays at holds (set_at ground next.length) s opens steps (open_by reply lab to) next.done) (λ s t. is_some s.lab ≡ true → Stays name s t) (λ s u a b h. h)
        (λ s t u first second there. let f = first there in both_stay name s t u f (second f.set)) (λ front at holds s opens steps reply lab next. done_stays at holds (set_at ground next.length) s opens steps (shut_by reply lab) next.done)

  -- AN EXPERIMENT WITH AN OPEN SWAP STAYS, whatever comes
  module _ (name : List ℕ) where
    busy_apart : (s : LabState) (opens : List OpenSwap) (command : Command) (task : Task) → IsFit s command (is_among (names_of opens) (name_of command)) (length opens) (Ok task) → IsPlain (Ok task) → is_some s.lab ≡ true → is_busy (names_of opens) name ≡ true
        → IsTaskApart name (names_of opens) s task
    busy_apart s opens command (Tell reply) fit plain there busy = tt
    busy_apart s opens command (Swap exp way) fit plain there busy =
        task_apart name (names_of opens) s command (is_among (names_of opens) (name_of command)) (length opens) (Swap exp way) fit (λ recovers. inl busy) there
        (λ named. let both : true ≡ false = sym busy ∙ sym (ap (λ (o : Option (List ℕ)). is_among (names_of opens) o) named) ∙ fit.1 in cc both)
    busy_apart s opens command task fit plain there busy = absurd plain

    busy_stays : (at : X) → Holds at → (set : Setting) (s : LabState) (opens : List OpenSwap) (steps : List Event) (after : After) → IsDoneBy (l.Judges at set s opens) set s opens steps after → is_some s.lab ≡ true → is_busy (names_of opens) name ≡ true → Stays name s after.lab
    busy_stays at holds set s opens steps after (no_memory wants) there busy = same_stays name s after.lab there (ap (λ (a : After). a.lab) wants.after_is)
    busy_stays at holds set s opens steps after (does j judged d) there busy =
        let f = is.each at holds set s opens j judged in
        does_stays name steps after s there opens set j
        (λ task same. busy_apart s opens f.command task (subst (λ (x : Result Task Reply). IsFit s f.command (is_among (names_of opens) (name_of f.command)) (length opens) x) same f.fit) (subst IsPlain same f.plain) there busy) d

    pub past_stays : (start : X) (s : LabState) (opens : List OpenSwap) (own : List Event) (at : X) (lab : LabState) (to : List OpenSwap) → Holds start → Past l ground trace start s opens own at lab to → is_some s.lab ≡ true → is_busy (names_of opens) name ≡ true
        → Stays name s lab × (is_busy (names_of to) name ≡ true)
    past_stays start s opens own at lab to holds past there busy =
        past_keeps l ground trace Holds is.on (λ s a t b. is_some s.lab ≡ true → is_busy (names_of a) name ≡ true → Stays name s t × (is_busy (names_of b) name ≡ true)) (λ s opens there busy. (same_stays name s s there refl, busy))
        (λ s t u a b c first second there busy. let f = first there busy in let g = second f.0.set f.1 in (both_stay name s t u f.0 g.0, g.1))
        (λ front at holds s opens steps reply lab to next there busy. (
          busy_stays at holds (set_at ground next.length) s opens steps (open_by reply lab to) next.done there busy,
          subst (λ (o : List OpenSwap). is_busy (names_of o) name ≡ true) (sym (open_each front at holds s opens steps reply lab to next)) busy,
        )) start s opens own at lab to holds past there busy

    pub lists_stay : (start : X) (s : LabState) (opens : List OpenSwap) (own : List Event) (after : After) → Holds start → Lists l ground trace start s opens own after → is_some s.lab ≡ true → is_busy (names_of opens) name ≡ true → Stays name s after.lab
    lists_stay start s opens own after holds (over at lab to past is_over after_is) there busy = subst (λ (a : After). Stays name s a.lab) (sym after_is) (past_stays start s opens own at lab to holds past there busy).0
    lists_stay start s opens own after holds (broken front steps at mid between reply lab own_is past next after_is) there busy =
        let p = past_stays start s opens front at mid between holds past there busy in
        let q = busy_stays at (past_holds l ground trace Holds is.on start s opens front at mid between holds past) (set_at ground next.length) mid between steps (shut_by reply lab) next.done p.0.set p.1 in
        subst (λ (a : After). Stays name s a.lab) (sym after_is) (both_stay name s mid lab p.0 q)
    lists_stay start s opens own after holds (wanting at lab to past after_is) there busy = subst (λ (a : After). Stays name s a.lab) (sym after_is) (past_stays start s opens own at lab to holds past there busy).0

  -- THE STEPS THAT THE REPLY TELLS OF
  stop_by : (at : X) → Holds at → (set : Setting) (s : LabState) (opens : List OpenSwap) (steps : List Event) (after : After) (reply : Reply) → after.reply ≡ Some reply → IsDoneBy (l.Judges at set s opens) set s opens steps after → Tells steps reply
  stop_by at holds set s opens steps after reply told (no_memory wants) = none_some reply (sym told ∙ ap (λ (a : After). a.reply) wants.after_is)
  stop_by at holds set s opens steps after reply told (does j judged d) =
      let f = is.each at holds set s opens j judged in
      does_stop steps after reply told set s opens f.command (is_among (names_of opens) (name_of f.command)) (length opens) j f.fit d

  calm_by : (at : X) → Holds at → (set : Setting) (s : LabState) (opens : List OpenSwap) (steps : List Event) (reply : Reply) (lab : LabState) (to : List OpenSwap) → IsDoneBy (l.Judges at set s opens) set s opens steps (open_by reply lab to) → tells_step reply ≡ false
  calm_by at holds set s opens steps reply lab to (no_memory wants) = open_not to (ap (λ (a : After). a.session) wants.after_is)
  calm_by at holds set s opens steps reply lab to (does j judged d) =
      let f = is.each at holds set s opens j judged in
      does_calm about set s opens steps f.command (is_among (names_of opens) (name_of f.command)) (length opens) j f.fit f.plain reply lab to d

  pub stops : ((at : X) → tells_step (l.whole at) ≡ false) → (start : X) (s : LabState) (opens : List OpenSwap) (own : List Event) (after : After) (reply : Reply) → Holds start → Lists l ground trace start s opens own after → after.reply ≡ Some reply → Tells own reply
  stops calm =
      lists_stop l ground trace Holds is.on
      (λ front at holds s opens steps reply lab to next. still_steps steps reply (stop_by at holds (set_at ground next.length) s opens steps (open_by reply lab to) reply refl next.done) (calm_by at holds (set_at ground next.length) s opens steps reply lab to next.done))
      (λ front at holds s opens steps reply lab next. stop_by at holds (set_at ground next.length) s opens steps (shut_by (Some reply) lab) reply refl next.done) calm
