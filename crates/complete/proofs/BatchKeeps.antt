-- A batch of a run keeps its promises.
use Rattle.std.proofs.Common.{◌≡◌, ℕ, ◌^◌, Bool, true, false, List, [], ◌∷◌, ◌++◌, Option, Some, refl, sym, ◌∙◌, ap, subst}
use Rattle.plant.specs.Events.{Event}
use Rattle.plant.specs.Told.{Told}
use Rattle.journal_rec.specs.declared.record.Record.TheVariants as records
use Rattle.records_model.specs.Labs.{LabState, Sane, moved}
use Rattle.records_model.specs.Works.{IsSound}
use Rattle.records_model.proofs.LabLaws.{follows_sane}
use Rattle.lab_state.specs.Texts.{the_texts}
use Rattle.swap_turns.specs.Legs.{commits, last_move_by}
use Rattle.swap_turns.specs.Settling.{Settles, SettlesOne}
use Rattle.swap_turns.specs.Swaps.{Swap}
use Rattle.swap_turns.specs.Turning.{Outcome, More, TurnsBack, Ended, Stuck, Unwritten, Stopped}
use Rattle.cost_rule.specs.declared.rule.RuleNumber.{RuleNumber}
use Rattle.script_text.specs.declared.command.Command.{Command}
use Rattle.script_text.specs.declared.command.Command.TheVariants.{Batch}
use Rattle.script_text.specs.declared.reply.Reply.TheVariants.{Served as ServedReply}
use Rattle.script_text.specs.declared.reply.Served.{Served}
use Rattle.lab_core.specs.Commands.{LabStep, Serves}
use Rattle.lab_core.specs.LabSteps.{opened, not_opened}
use Rattle.lab_core.specs.Moments.{AllStandFor, with_more}
use Rattle.lab_core.specs.Promises.{KeepsPromises}
use Rattle.lab_core.specs.Sessions.{OpenSwap, Session, Closed, Open, Setting, After, Terms}
use Rattle.lab_top.specs.declared.status.Status.{Status}
use Rattle.lab_top.specs.Pieces.{Begun, ImagesAfter, Leads, is_closed, is_early, leaves_one, trace_after}
use Rattle.lab_top.specs.Ran.{Outside, Ran}
use Rattle.lab_words.specs.Words.{Choices}
use Rattle.lab_top.proofs.Pieces.{trace-push}
use Rattle.lab_top.proofs.RunLaws.{done, first_sane, told_of}

-- law `promises` of lab_core, clause `served`
abbrev pub ServesKeep : Type 0
ServesKeep = (rule : RuleNumber) (moment : ℕ) (text : List ℕ) (trace : Option (List Event)) (set : Setting) (s : LabState) (opens to : List OpenSwap) (own : List Event) (after : After) (served : Served)
    → Sane s → Serves rule moment text trace set opens s own after → after.reply ≡ Some (ServedReply served) → after.session ≡ Open to → KeepsPromises moment text served after.lab

-- A SETTLING leads from a sane lab to a sane one
last_sane : (s : LabState) (forth : Bool) (name : List ℕ) (after : LabState) → Sane s → moved s (last_move_by forth name) ≡ Some after → Sane after
last_sane s true name after sane gives = follows_sane the_texts s (records.Commit name) after sane (record { move = last_move_by true name; says = refl; gives = gives })
last_sane s false name after sane gives = follows_sane the_texts s (records.Abort name) after sane (record { move = last_move_by false name; says = refl; gives = gives })

one_sane : (s : LabState) (p : Swap) (outcome : Outcome) (steps : List Event) (after : LabState) → Sane s → SettlesOne s p outcome steps after → Sane after
one_sane s p (Ended leg) steps after sane one = last_sane s (commits one.is.at.swap leg) one.is.at.swap.name after sane one.is.turn.0.1.moves
one_sane s p (Stuck trouble) steps after sane one = subst Sane (sym one.is.turn.3) sane
one_sane s p More steps after sane one = absurd one.settled
one_sane s p (TurnsBack why) steps after sane one = absurd one.settled
one_sane s p Unwritten steps after sane one = absurd one.settled
one_sane s p Stopped steps after sane one = absurd one.settled

settled_sane : (s : LabState) (ps : List Swap) (outcomes : List Outcome) (steps : List Event) (after : LabState) → Sane s → Settles s ps outcomes steps after → Sane after
settled_sane s [] [] steps after sane h = subst Sane (sym h.1) sane
settled_sane s [] (outcome ∷ outcomes) steps after sane h = absurd h
settled_sane s (p ∷ ps) [] steps after sane h = absurd h
settled_sane s (p ∷ ps) (outcome ∷ outcomes) steps after sane h = settled_sane h.2 ps outcomes h.1 after (one_sane s p outcome h.0 h.2 sane h.3) h.4

-- A LAB STEP of a batch that leaves the controller open
step_keeps : ServesKeep → (terms : Terms) (at : Option (List Event)) (set : Setting) (s : LabState) (moment lines : ℕ) (text : List ℕ) (opening own : List Event) (after : After) (served : Served) (to : List OpenSwap) → Sane s
    → after.reply ≡ Some (ServedReply served) → after.session ≡ Open to → (session : Session) → LabStep terms at set s session (Batch moment lines text) opening own after → KeepsPromises moment text served after.lab
step_keeps law terms at set s moment lines text opening own after served to sane is open_now Closed (opened mid opens d) =
    law terms.rule moment text (with_more at opening) set mid [] to own after served (settled_sane s _ opens.outcomes opens.moving mid sane opens.settles) d is open_now
step_keeps law terms at set s moment lines text opening own after served to sane is open_now Closed (not_opened b) = absurd (cc (sym b.session ∙ open_now))
step_keeps law terms at set s moment lines text opening own after served to sane is open_now (Open opens) step = law terms.rule moment text (with_more at opening) set s opens to own after served sane step.1 is open_now

module _ (law : ServesKeep) (terms : Terms) (choices : Option Choices) (old new : Outside) (status : Status) (before after : List Begun) (b : Begun) (t : Told) (ran : Ran terms choices old new status (before ++ b ∷ after)) (told : old.plant.told ≡ Some t) (sound : IsSound the_texts t.trace) where
  abbrev l : Leads terms (trace_after t.trace before) b.piece
  l = (done terms choices old new status before after b t ran told sound).leads

  abbrev set : Setting
  set = record { length = l.steps.length; limit = 2 ^ 32; devices = b.piece.faults.devices }

  abbrev ends : After
  ends = record { reply = l.steps.told; lab = l.last; session = l.steps.session }

  abbrev StepAs : Command → Type 0
  StepAs command = LabStep terms (Some (trace_after t.trace before)) set l.first b.piece.from command b.piece.opening (b.piece.own ++ l.steps.behind) ends

  pub batch_keeps : (moment lines : ℕ) (text : List ℕ) (served : Served) → b.piece.command ≡ Batch moment lines text → b.piece.reply ≡ Some (ServedReply served) → is_closed b.piece.to ≡ false
      → (u : LabState) × AllStandFor (trace_after t.trace (before ++ b ∷ [])) u × KeepsPromises moment text served u
  batch_keeps moment lines text served asks replied open_to = by b.piece.to refl
    where
      by : (to : Session) → b.piece.to ≡ to → (u : LabState) × AllStandFor (trace_after t.trace (before ++ b ∷ [])) u × KeepsPromises moment text served u
      by Closed is = absurd (cc (sym open_to ∙ ap is_closed is))
      by (Open opens) is =
          let its = told_of terms (trace_after t.trace before) b.piece l.first l.last l.steps (ServedReply served) replied in
          let one : leaves_one b.piece.to b.piece.reply ≡ true = ap (λ x. leaves_one x b.piece.reply) is in
          let all = subst (λ x. ImagesAfter terms x (trace_after t.trace before) b.piece l.last) one (done terms choices old new status before after b t ran told sound).images in (
            l.last,
            subst (λ tr. AllStandFor tr l.last) (sym (trace-push t.trace before b)) all,
            step_keeps law terms (Some (trace_after t.trace before)) set l.first moment lines text b.piece.opening (b.piece.own ++ l.steps.behind) ends served opens
                (first_sane (is_early b.piece) (trace_after t.trace before) l.first l.before) its.0 (its.1 ∙ is) b.piece.from
                (subst StepAs asks l.steps.step),
          )
