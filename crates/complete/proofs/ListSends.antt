-- How many device commands a list of commands sends at most.
use Rattle.std.specs.Prelude.{is_some}
use Rattle.std.proofs.Common.{◌≡◌, inl, inr, ℕ, ◌+◌, ◌≤◌, Bool, true, List, [], ◌∷◌, ◌++◌, Option, Some, None, Result, Ok, refl, sym, ◌∙◌, ap, subst, arith}
use Rattle.std.proofs.lemmas.List.{append-nil}
use Rattle.std.proofs.lemmas.Slice.Eq.{bytes_eq-Decides}
use Rattle.plant.specs.Events.{Event}
use Rattle.plant.specs.Told.{Told}
use Rattle.records_model.specs.Labs.{LabState, lab_in}
use Rattle.records_model.specs.Works.{IsSound}
use Rattle.lab_state.specs.Texts.{the_texts}
use Rattle.lab_base.specs.declared.fault.TextFault.{TextFault}
use Rattle.lab_ahead.specs.Batches.{batch_of_text}
use Rattle.lab_ahead.specs.declared.batch.Batch.{Batch}
use Rattle.swap_turns.specs.Legs.{Forth}
use Rattle.script_text.specs.declared.command.Command.{Command}
use Rattle.script_text.specs.declared.command.Command.TheVariants.{Batch as BatchOf, Play}
use Rattle.script_text.specs.declared.reply.Reply.{Reply}
use Rattle.lab_judge.specs.Serving.{JudgedBatch, Serving}
use Rattle.lab_core.specs.BatchList.{has_run, runs_in_turn}
use Rattle.lab_core.specs.Commands.{DoesCommand, LabStep, ground_by, is_about}
use Rattle.lab_core.specs.LabSteps.{StepOf, not_opened, opened}
use Rattle.lab_core.specs.Lists.{DoesList, DoesNext, Ground, Listing, Lists, Past, broken, listed, more, no_memory, none as none_past, over, refused, wanting}
use Rattle.lab_core.specs.PlayList.{JudgedPlay, events_in_turn}
use Rattle.lab_core.specs.Sessions.{After, Closed, Open, OpenSwap, Session, Setting, Terms}
use Rattle.lab_core.proofs.Events.{events_are}
use Rattle.lab_core.proofs.Listings.{IsAboutThese}
use Rattle.lab_core.proofs.Runs.{AreOf, batch_first, runs_are}
use Rattle.lab_top.specs.declared.status.Status.{Status}
use Rattle.lab_top.specs.Pieces.{Begun, trace_after}
use Rattle.lab_top.specs.Ran.{Outside, Ran}
use Rattle.lab_words.specs.Words.{Choices}
use Rattle.lab_top.proofs.RunLaws.{done}
use Rattle.complete.specs.Bounds.{commands_in, most_from}
use Rattle.complete.specs.Sends.{SwapsWithin, calm, is_list, none, swaps}
use Rattle.complete.proofs.RunSends.{nothing_after, of_these}
use Rattle.complete.proofs.Sending.{commands_both}
use Rattle.complete.proofs.StepSends.{next_within}
use Rattle.lab_core.specs.Moments.{with_more}

-- so many in all
swaps_few : (about : List ℕ → Bool) (own : List Event) (most : ℕ) → SwapsWithin about own most → commands_in own ≤ most
swaps_few about own most none = omega arith
swaps_few about own most (calm front steps most' before is) = omega (arith, swaps_few about front most before, commands_both front steps, is)
swaps_few about own most (swaps front steps fewer before s exp of begins) = omega (arith, swaps_few about front fewer before, commands_both front steps, begins.few)

-- A LIST from one of its places
abbrev pub ListWithin : (List ℕ → Bool) → List Event → Type 0
ListWithin about own = (most : ℕ) × SwapsWithin about own most × (commands_in own ≤ most)

whole : (about : List ℕ → Bool) (own : List Event) → (most : ℕ) × SwapsWithin about own most → ListWithin about own
whole about own within = (within.0, within.1, swaps_few about own within.0 within.1)

module _ {X : Type 0} (l : Listing X) (Holds : X → Type 0) (about : List ℕ → Bool) (are : IsAboutThese l Holds about) (base : Ground) (trace : Option (List Event)) where
  abbrev Within : List Event → Type 0
  Within own = (most : ℕ) × SwapsWithin about own most

  holds_past : (start : X) (s : LabState) (opens : List OpenSwap) (own : List Event) (at : X) (u : LabState) (to : List OpenSwap) → Holds start → Past l base trace start s opens own at u to → Holds at
  holds_past start s opens own at u to holds none_past = holds
  holds_past start s opens own at u to holds (more front place mid between past steps reply u' to' next) = are.on place reply (holds_past start s opens front place mid between holds past)

  one_more : (front : List Event) (at : X) (s : LabState) (opens : List OpenSwap) (steps : List Event) (after : After) → Holds at → Within front → DoesNext l base trace front at s opens steps after → Within (front ++ steps)
  one_more front at s opens steps after holds before next = elim (next_within l Holds about are base trace front at s opens steps after holds next) [
    | inl quiet ↦ (before.0, calm front steps before.0 before.1 quiet)
    | inr x ↦ (before.0 + most_from (lab_in x.2.state.lab) x.2.swap Forth, swaps front steps before.0 before.1 s x.0 x.1 x.2)
  ]

  past_within : (start : X) (s : LabState) (opens : List OpenSwap) (own : List Event) (at : X) (u : LabState) (to : List OpenSwap) → Holds start → Past l base trace start s opens own at u to → Within own
  past_within start s opens own at u to holds none_past = (0, none)
  past_within start s opens own at u to holds (more front place mid between past steps reply u' to' next) =
      one_more front place mid between steps _ (holds_past start s opens front place mid between holds past) (past_within start s opens front place mid between holds past) next

  lists_within : (start : X) (s : LabState) (opens : List OpenSwap) (own : List Event) (after : After) → Holds start → Lists l base trace start s opens own after → Within own
  lists_within start s opens own after holds (over at u to past ends is) = past_within start s opens own at u to holds past
  lists_within start s opens own after holds (broken front steps at mid between told u own_is past next is) =
      subst Within (sym own_is) (one_more front at mid between steps _ (holds_past start s opens front at mid between holds past) (past_within start s opens front at mid between holds past) next)
  lists_within start s opens own after holds (wanting at u to past is) = past_within start s opens own at u to holds past

  list_within : (Judged : Result X Reply → Type 0) → ((start : X) → Judged (Ok start) → Holds start) → (s : LabState) (opens : List OpenSwap) (own : List Event) (after : After) → DoesList l Judged base trace s opens own after → Within own
  list_within Judged starts s opens own after (refused r judged d) = subst Within (sym d.nothing) (0, none)
  list_within Judged starts s opens own after (no_memory wants) = subst Within (sym wants.nothing) (0, none)
  list_within Judged starts s opens own after (listed start judged lists) = lists_within start s opens own after (starts start judged) lists

-- A LAB STEP of a list
module _ (terms : Terms) (at : Option (List Event)) (set : Setting) (s : LabState) (opening own : List Event) (after : After) where
  by_does : (about : List ℕ → Bool) (Does : List OpenSwap → LabState → List Event → After → Type 0) → ((opens : List OpenSwap) (mid : LabState) → Does opens mid own after → (most : ℕ) × SwapsWithin about own most) → (session : Session)
      → StepOf None Does terms s session opening own after → (most : ℕ) × SwapsWithin about own most
  by_does about Does within Closed (opened mid opens d) = within [] mid d
  by_does about Does within Closed (not_opened b) = subst (λ l. (most : ℕ) × SwapsWithin about l most) (sym b.nothing) (0, none)
  by_does about Does within (Open opens) d = within opens s d.1

  its_runs : (meaning : Result Batch TextFault) (batch : Batch) → meaning ≡ Ok batch → AreOf (has_run meaning) batch.runs
  its_runs meaning batch is = subst (λ m. AreOf (has_run m) batch.runs) (sym is) (of_these batch.runs)

  starts : (text : List ℕ) (u : LabState) (start : Serving) → JudgedBatch u text (Ok start) → AreOf (has_run (batch_of_text text)) start.left
  starts text u start judged = let first = batch_first u text start judged in subst (λ (p : Serving). AreOf (has_run (batch_of_text text)) p.left) (sym first.2) (its_runs (batch_of_text text) first.0 first.1)

  pub step_list : (command : Command) → is_list command ≡ true → (session : Session) → LabStep terms at set s session command opening own after → ListWithin (is_about command) own
  step_list (Play exp from until lines text) yes' session step =
      whole (is_about (Play exp from until lines text)) own (by_does (is_about (Play exp from until lines text)) (DoesCommand terms.rule (Play exp from until lines text) (with_more at opening) set) (λ opens mid d. list_within (events_in_turn exp) (λ p. Unit {0}) (is_about (Play exp from until lines text)) (events_are exp (is_about (Play exp from until lines text)) ((bytes_eq-Decides exp exp).1 refl)) (ground_by set) (with_more at opening)
      (JudgedPlay mid opens exp from until text) (λ start judged. tt) mid opens own after d) session step)
  step_list (BatchOf moment lines text) yes' session step =
      whole (has_run (batch_of_text text)) own (by_does (has_run (batch_of_text text)) (DoesCommand terms.rule (BatchOf moment lines text) (with_more at opening) set) (λ opens mid d. list_within (runs_in_turn terms.rule moment) (λ p. AreOf (has_run (batch_of_text text)) p.left) (has_run (batch_of_text text)) (runs_are terms.rule moment (has_run (batch_of_text text))) (ground_by set) (with_more at opening)
      (JudgedBatch mid text) (starts text mid) mid opens own after d) session step)
  step_list command yes' session step = absurd (cc yes')

-- A COMMAND OF A RUN
module _ (terms : Terms) (choices : Option Choices) (old new : Outside) (status : Status) (before after : List Begun) (b : Begun) (t : Told) (ran : Ran terms choices old new status (before ++ b ∷ after)) (told : old.plant.told ≡ Some t) (sound : IsSound the_texts t.trace) where
  pub list_sends : is_some b.piece.reply ≡ true → is_list b.piece.command ≡ true → ListWithin (is_about b.piece.command) b.piece.own
  list_sends answered listed_it =
      let l = (done terms choices old new status before after b t ran told sound).leads in
      let none_behind = nothing_after terms choices old new status before after b t ran told sound b.piece.reply answered b.piece.to l.steps.session l.steps.told l.steps.behind l.steps.is_told in
      let own_is : b.piece.own ++ l.steps.behind ≡ b.piece.own = ap (λ m. b.piece.own ++ m) none_behind ∙ append-nil b.piece.own in
      subst (λ o. ListWithin (is_about b.piece.command) o) own_is
      (step_list terms (Some (trace_after t.trace before)) _ l.first b.piece.opening (b.piece.own ++ l.steps.behind) _ b.piece.command listed_it b.piece.from l.steps.step)
