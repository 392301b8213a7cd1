-- Laws of the lab step.
use Rattle.std.proofs.Common.{◌≡◌, ◌≢◌, ◌⊎◌, inl, inr, ℕ, ◌||◌, Bool, true, false, is_none, is_some, List, [], ◌∷◌, ◌++◌, length, not, Option, Some, None, Result, Ok, Err, refl, sym, ap, ◌∙◌, subst}
use Rattle.std.proofs.lemmas.Bool.{cases_Bool}
use Rattle.std.proofs.lemmas.List.{append-nil}
use Rattle.std.proofs.lemmas.Option.{same_Some}
use Rattle.plant.specs.Events.{Event, Restarted}
use Rattle.plant.specs.declared.drill.Drill.{Drill}
use Rattle.journal_rec.specs.declared.record.Record.{Record}
use Rattle.journal_rec.specs.declared.record.Record.TheVariants.{Begin}
use Rattle.journal_rec.specs.declared.record.Way.{Way}
use Rattle.lab_base.specs.declared.what.What.TheVariants as whats
use Rattle.lab_model.specs.Courses.{Trouble as AnyTrouble, Device, Late, Unlawful}
use Rattle.virt_topo.specs.declared.mapping.Mapped.{Mapped}
use Rattle.records_model.specs.Labs.{LabState, Move, Says, Commits, Aborts, moved}
use Rattle.records_model.proofs.LabLaws.{says_once}
use Rattle.swap_turns.specs.Pieces.{has_miss, has_outer, has_restart, is_restart}
use Rattle.journal_model.specs.Appends.{All}
use Rattle.swap_turns.proofs.Endings.{append_quiet, ended_quiet}
use Rattle.recovery.specs.Due.{is_busy}
use Rattle.lab_state.specs.Texts.{the_texts}
use Rattle.lab_state.proofs.Canonical.{texts_once}
use Rattle.script_text.specs.Drills.{drill_of}
use Rattle.script_text.specs.declared.command.Command.{Command}
use Rattle.script_text.specs.declared.command.Command.TheVariants as commands
use Rattle.script_text.specs.declared.reply.Reply.{Reply}
use Rattle.script_text.specs.declared.reply.FailedEnd.TheVariants as ends
use Rattle.script_text.specs.declared.reply.Reply.TheVariants.{More as MoreReply, Trouble, Failed, FullJournal, Down, Planned, NoDrill, Stopped as StoppedReply}
use Rattle.swap_txn.specs.Troubles.{what_of}
use Rattle.swap_turns.specs.Swaps.{Swap as SwapOf}
use Rattle.swap_turns.specs.Beginning.{opened as opened_swap}
use Rattle.swap_turns.specs.Finishing.{Onward}
use Rattle.swap_turns.specs.Legs.{Forth, Undo, Settling}
use Rattle.swap_turns.specs.Running.{OpenSwap as TurnsOpen}
use Rattle.swap_turns.specs.Turning.{Outcome, More, TurnsBack, Ended, Stuck, Unwritten, Stopped as Halted}
use Rattle.swap_turns.specs.Whole.{SwapSteps, begun, unwritten, stopped as stopped_so}
use Rattle.swap_turns.proofs.Finishing.{onward_swap}
use Rattle.swap_turns.proofs.Showing.{finish_shows, settles_show, swap_shows, turn_shows}
use Rattle.cost_rule.specs.declared.rule.RuleNumber.{RuleNumber}
use Rattle.lab_tasks.specs.Tasks.{Task, Tell, Append, Swap, BeginOnly, Turn, Finish, Recover}
use Rattle.lab_core.specs.LabSteps.{DoesBy, Replies, WantsMemory, AppendEnds, whole, broken, Appends, done_reply, undone_end, end_reply, turn_reply, IsAnswered, is_told, Swaps, BeginSteps, Begins as BeginsSwap, Turns, EndsSwap, has_space, IfSpace, Does, IsDoneBy, does, no_memory, FromClosed, opened, not_opened, Drills, is_planned, is_refused, wants_memory, StepOf, IsThis, JudgedBeside}
use Rattle.lab_core.specs.Breaks.{Breaks, StartsAfter, stopped, failed, unanswered}
use Rattle.lab_core.specs.Recovery.{BreaksOpening, OpensInPart, reading, settling, shifting, Recovers, settled, broken_off}
use Rattle.lab_core.specs.Sessions.{OpenSwap, Session, Closed, Open, Setting, After, names_of, Terms}
use Rattle.lab_tasks.specs.OpenNames.{is_among, name_of}
use Rattle.lab_core.specs.Tells.{BeginsAt, GoBy, IsAtRest, IsNoSwap, TellsBroken, TellsLab, opens_of, settles}
use Rattle.lab_judge.proofs.Fits.{IsFit, fits}
use Rattle.lab_core.proofs.TasksApart.{IsTaskApart, task_apart}
use Rattle.lab_core.proofs.Others.{IsSpared, Stays, begun_stays, both_stay, either_stays, ended_stays, in_part_stay, move_stays, rests_on, same_stays, settled_stay, settles_stay, some_stay, swap_stays, turned_stays}
use Rattle.lab_core.proofs.OuterSteps.{Tells, broken_tells, no_step_of, restarts, still_as, tell_after, tells_step}

-- where none is told
pub none_told : {X : Type 0} (told : Option Reply) (reply : Reply) → told ≡ None → told ≡ Some reply → X
none_told told reply none is = let both : None ≡ Some reply = sym none ∙ is in absurd (cc both)

-- WHAT A SWAP'S REPLY TELLS
onward_at : (p : SwapOf) (u : LabState) (front : List Event) (at : TurnsOpen) → Onward u (opened_swap p) front at → at.swap ≡ p
onward_at p u front at onward = onward_swap u (opened_swap p) front at onward

end_tells : (p : SwapOf) (s after : LabState) (exp : List ℕ) (entry : Record) (move : Move) (steps : List Event) (outcome : Outcome) (reply : Reply) → p.name ≡ exp → end_reply p outcome ≡ Some reply → SwapSteps p s entry move steps after outcome → TellsLab s exp move reply after
end_tells p s after exp entry move steps (Ended Forth) reply name is (begun b) = subst (λ (r : Reply). TellsLab s exp move r after) (same_Some (done_reply p.name p.new) reply is) (by p.new)
  where
    go : GoBy s move (Commits exp) after
    go = (b.state, b.begins.moves, ap (λ (n : List ℕ). moved b.state (Commits n)) (sym (ap (λ (q : SwapOf). q.name) (onward_at p b.state b.finishes.front b.finishes.at b.finishes.onward) ∙ name)) ∙ b.finishes.turn.0.1.moves)

    by : (new : Option Mapped) → TellsLab s exp move (done_reply p.name new) after
    by None = (name, go)
    by (Some m) = (name, go)
end_tells p s after exp entry move steps (Ended (Undo why)) reply name is (begun b) = subst (λ (r : Reply). TellsLab s exp move r after) (same_Some (Failed p.name (undone_end p.old) (what_of why)) reply is) (by p.old)
  where
    go : GoBy s move (Aborts exp) after
    go = (b.state, b.begins.moves, ap (λ (n : List ℕ). moved b.state (Aborts n)) (sym (ap (λ (q : SwapOf). q.name) (onward_at p b.state b.finishes.front b.finishes.at b.finishes.onward) ∙ name)) ∙ b.finishes.turn.0.1.moves)

    by : (old : Option Mapped) → TellsLab s exp move (Failed p.name (undone_end old) (what_of why)) after
    by None = (name, go)
    by (Some m) = (name, go)
end_tells p s after exp entry move steps (Stuck trouble) reply name is (begun b) = subst (λ (r : Reply). TellsLab s exp move r after) (same_Some (Failed p.name ends.Stuck (what_of trouble)) reply is) (by trouble)
  where
    stays : moved s move ≡ Some after
    stays = b.begins.moves ∙ ap (λ (u : LabState). Some u) (sym b.finishes.turn.3)

    by : (trouble : AnyTrouble) → TellsLab s exp move (Failed p.name ends.Stuck (what_of trouble)) after
    by (Device device) = (name, stays)
    by (Late node) = (name, stays)
    by (Unlawful node from to) = (name, stays)
end_tells p s after exp entry move steps Unwritten reply name is h = subst (λ (r : Reply). TellsLab s exp move r after) (same_Some (Failed p.name ends.Stuck whats.Journal) reply is) name
end_tells p s after exp entry move steps Halted reply name is h = subst (λ (r : Reply). TellsLab s exp move r after) (same_Some StoppedReply reply is) tt
end_tells p s after exp entry move steps outcome reply name is (unwritten b other) = subst (λ (r : Reply). TellsLab s exp move r after) (same_Some (Failed p.name ends.Stuck whats.Journal) reply (sym (ap (λ (x : Outcome). end_reply p x) other) ∙ is)) name
end_tells p s after exp entry move steps outcome reply name is (stopped_so b other) = subst (λ (r : Reply). TellsLab s exp move r after) (same_Some StoppedReply reply (sym (ap (λ (x : Outcome). end_reply p x) other) ∙ is)) tt
end_tells p s after exp entry move steps More reply name is (begun b) = let none : None ≡ Some reply = is in absurd (cc none)
end_tells p s after exp entry move steps (TurnsBack why) reply name is (begun b) = let none : None ≡ Some reply = is in absurd (cc none)
end_tells p s after exp entry move steps (Ended Settling) reply name is (begun b) = let none : None ≡ Some reply = is in absurd (cc none)

-- WHERE THE COMMAND'S OWN PART BEGINS, with those open swaps
pub record Begins (drill : Option Drill) (session : Session) (s : LabState) (opening : List Event) (mid : LabState) (opens : List OpenSwap) : Type 0 where
  pub no_drill : drill ≡ None
  pub at : BeginsAt session s opening mid
  pub quiet : has_outer opening ≡ false
  pub are : opens ≡ opens_of session

-- WHAT A STEP WAS, by its judgement: that was done from there, or memory was wanting; or the opening broke off; or it was a drill
pub data Was (drill : Option Drill) (judgement : Result Task Reply) (terms : Terms) (set : Setting) (s : LabState) (session : Session) (command : Command) (opening own : List Event) (after : After) : Type 0 where
  done : (mid : LabState) (opens : List OpenSwap) → Begins drill session s opening mid opens → JudgedBeside terms.rule command opens mid judgement → Does set mid opens judgement own after → Was drill judgement terms set s session command opening own after
  wanting : (mid : LabState) (opens : List OpenSwap) → Begins drill session s opening mid opens → WantsMemory mid own after → Was drill judgement terms set s session command opening own after
  broke : drill ≡ None → session ≡ Closed → BreaksOpening s opening own after → Was drill judgement terms set s session command opening own after
  drilled : is_some drill ≡ true → opening ≡ [] → Drills terms.takes s session own after → Was drill judgement terms set s session command opening own after

module _ (judgement : Result Task Reply) (terms : Terms) (set : Setting) (s : LabState) (command : Command) (opening own : List Event) (after : After) where
  was_done : (session : Session) (mid : LabState) (opens : List OpenSwap) → Begins None session s opening mid opens → IsDoneBy (IsThis judgement terms.rule command opens mid) set mid opens own after → Was None judgement terms set s session command opening own after
  was_done session mid opens begins (does other is d) = done mid opens begins (subst (λ (j : Result Task Reply). JudgedBeside terms.rule command opens mid j) is.0 is.1) (subst (λ (j : Result Task Reply). Does set mid opens j own after) is.0 d)
  was_done session mid opens begins (no_memory wants) = wanting mid opens begins wants

  pub was : (drill : Option Drill) (session : Session) → StepOf drill (DoesBy (IsThis judgement terms.rule command) set) terms s session opening own after → Was drill judgement terms set s session command opening own after
  was (Some drill) session step = drilled refl step.0 step.1
  was None Closed (opened mid opens d) = was_done Closed mid [] (record { no_drill = refl; at = opens; quiet = opens.no_outer; are = refl }) d
  was None Closed (not_opened breaks) = broke refl refl breaks
  was None (Open opens) step = was_done (Open opens) s opens (record { no_drill = refl; at = refl; quiet = ap has_outer step.0; are = refl }) step.1

-- A STEP IS BY ONE JUDGEMENT
one_done : (rule : RuleNumber) (set : Setting) (s : LabState) (opens : List OpenSwap) (command : Command) (own : List Event) (after : After) → IsDoneBy (JudgedBeside rule command opens s) set s opens own after → (judgement : Result Task Reply) × IsDoneBy (IsThis judgement rule command opens s) set s opens own after
one_done rule set s opens command own after (does judgement is d) = (judgement, does judgement (refl, is) d)
one_done rule set s opens command own after (no_memory wants) = (Err NoDrill, no_memory wants)

one_opened : (rule : RuleNumber) (set : Setting) (s : LabState) (command : Command) (opening own : List Event) (after : After) → FromClosed (DoesBy (JudgedBeside rule command) set []) s opening own after → (judgement : Result Task Reply) × FromClosed (DoesBy (IsThis judgement rule command) set []) s opening own after
one_opened rule set s command opening own after (opened mid opens d) = let one = one_done rule set mid [] command own after d in (one.0, opened mid opens one.1)
one_opened rule set s command opening own after (not_opened breaks) = (Err NoDrill, not_opened breaks)

pub by_one : (o : Option Drill) (terms : Terms) (set : Setting) (s : LabState) (session : Session) (command : Command) (opening own : List Event) (after : After) → StepOf o (DoesBy (JudgedBeside terms.rule command) set) terms s session opening own after
    → (judgement : Result Task Reply) × StepOf o (DoesBy (IsThis judgement terms.rule command) set) terms s session opening own after
by_one (Some drill) terms set s session command opening own after step = (Err NoDrill, step)
by_one None terms set s Closed command opening own after step = one_opened terms.rule set s command opening own after step
by_one None terms set s (Open opens) command opening own after step = let one = one_done terms.rule set s opens command own after step.1 in (one.0, (step.0, one.1))

-- A DRILL leaves all as it was
pub drill_is : (terms : Terms) (s : LabState) (session : Session) (own : List Event) (after : After) → Drills terms.takes s session own after → (own ≡ []) × (after.lab ≡ s)
drill_is terms s session own after (is_planned yes' none after_is) = (none, ap (λ (a : After). a.lab) after_is)
drill_is terms s session own after (is_refused no' none after_is) = (none, ap (λ (a : After). a.lab) after_is)
drill_is terms s session own after (wants_memory wants) = (wants.nothing, ap (λ (a : After). a.lab) wants.after_is)

pub drills_leave : (o : Option Drill) (terms : Terms) (set : Setting) (s : LabState) (session : Session) (Judges : List OpenSwap → LabState → Result Task Reply → Type 0) (opening own : List Event) (after : After) → is_some o ≡ true → StepOf o (DoesBy Judges set) terms s session opening own after → (opening ≡ []) × (own ≡ []) × (after.lab ≡ s)
drills_leave None terms set s session Judges opening own after is step = absurd (cc is)
drills_leave (Some drill) terms set s session Judges opening own after is step = let both = drill_is terms s session own after step.1 in (step.0, both.0, both.1)

-- a refusal, and a telling, have no steps
module _ (drill : Option Drill) (reply : Reply) (terms : Terms) (set : Setting) (s : LabState) (session : Session) (command : Command) (opening own : List Event) (after : After) where
  pub no_steps_refused : Was drill (Err reply) terms set s session command opening own after → own ≡ []
  no_steps_refused (done mid opens begins judged d) = d.nothing
  no_steps_refused (wanting mid opens begins wants) = wants.nothing
  no_steps_refused (broke no' closed breaks) = breaks.nothing
  no_steps_refused (drilled some none drills) = (drill_is terms s session own after drills).0

  pub no_steps_told : Was drill (Ok (Tell reply)) terms set s session command opening own after → own ≡ []
  no_steps_told (done mid opens begins judged d) = d.nothing
  no_steps_told (wanting mid opens begins wants) = wants.nothing
  no_steps_told (broke no' closed breaks) = breaks.nothing
  no_steps_told (drilled some none drills) = (drill_is terms s session own after drills).0

-- ONE REPLY AND ONE LAB, where nothing failed and nothing stopped
abbrev pub Went : List Event → Type 0
Went own = (has_restart own ≡ false) × (has_miss own ≡ false)

or_true : (x r : Bool) → r ≡ true → (x || r) ≡ true
or_true true r h = refl
or_true false r h = h

has_started : (front : List Event) (a b : List ℕ) → has_restart (front ++ Restarted a b ∷ []) ≡ true
has_started [] a b = refl
has_started (event ∷ front) a b = or_true (is_restart event) (has_restart (front ++ Restarted a b ∷ [])) (has_started front a b)

did_go : (own : List Event) (told : Option Reply) (reply : Reply) → Went own → told ≡ Some reply → Breaks own told → ⊥
did_go own told reply went is (stopped ends replied) = let both : true ≡ false = sym (ap has_restart ends.is ∙ has_started ends.front ends.a ends.b) ∙ went.0 in cc both
did_go own told reply went is (failed no' miss replied) = let both : true ≡ false = sym miss ∙ went.1 in cc both
did_go own told reply went is (unanswered none) = none_told told reply none is

module _ (s : LabState) (opens : List OpenSwap) (own : List Event) (reply other : Reply) (after later : After) (is : after.reply ≡ Some reply) (also : later.reply ≡ Some other) where
  replies_once : (told : Reply) → Replies s opens told own after → Replies s opens told own later → (reply ≡ other) × (after.lab ≡ later.lab)
  replies_once told one two =
      let first : told ≡ reply = same_Some told reply (sym (ap (λ (a : After). a.reply) one.after_is) ∙ is) in
      let second : told ≡ other = same_Some told other (sym (ap (λ (a : After). a.reply) two.after_is) ∙ also) in
      (sym first ∙ second, ap (λ (a : After). a.lab) one.after_is ∙ sym (ap (λ (a : After). a.lab) two.after_is))

  append_whole : (entry : Record) (told : Reply) (x : After) (y : Reply) → Went own → x.reply ≡ Some y → (a : Appends s opens entry told own x) → (told ≡ y) × (moved s a.move ≡ Some x.lab)
  append_whole entry told x y went y_is a = by a.ends
    where
      by : AppendEnds s opens a.state told a.run a.more own x → (told ≡ y) × (moved s a.move ≡ Some x.lab)
      by (whole all none x_is) = (same_Some told y (sym (ap (λ (v : After). v.reply) x_is) ∙ y_is), a.moves ∙ ap Some (sym (ap (λ (v : After). v.lab) x_is)))
      by (broken breaks said either session) = absurd (did_go own x.reply y went y_is breaks)

  appends_once : (entry : Record) (told : Reply) → Went own → Appends s opens entry told own after → Appends s opens entry told own later → (reply ≡ other) × (after.lab ≡ later.lab)
  appends_once entry told went one two =
      let first = append_whole entry told after reply went is one in
      let second = append_whole entry told later other went also two in
      let same : one.move ≡ two.move = says_once the_texts s entry one.move two.move texts_once one.says two.says in
      (sym first.0 ∙ second.0, same_Some after.lab later.lab (sym first.1 ∙ ap (λ (m : Move). moved s m) same ∙ second.1))

  does_once : (set : Setting) (judgement : Result Task Reply) → IsNoSwap judgement → Went own → Does set s opens judgement own after → Does set s opens judgement own later → (reply ≡ other) × (after.lab ≡ later.lab)
  does_once set (Err refusal) no_swap went one two = replies_once refusal one two
  does_once set (Ok (Tell told)) no_swap went one two = replies_once told one two
  does_once set (Ok (Append entry told)) no_swap went one two = by (has_space set entry) one two
    where
      by : (b : Bool) → IfSpace b set.length s opens (Appends s opens entry told own after) own after → IfSpace b set.length s opens (Appends s opens entry told own later) own later → (reply ≡ other) × (after.lab ≡ later.lab)
      by true one two = appends_once entry told went one two
      by false one two = replies_once (FullJournal set.length) one two
  does_once set (Ok (Swap exp way)) no_swap went one two = absurd no_swap
  does_once set (Ok (BeginOnly exp way)) no_swap went one two = absurd no_swap
  does_once set (Ok (Turn exp)) no_swap went one two = absurd no_swap
  does_once set (Ok (Finish exp)) no_swap went one two = absurd no_swap
  does_once set (Ok Recover) no_swap went one two = absurd no_swap

  drills_once : (terms : Terms) → Drills terms.takes s (Open opens) own after → Drills terms.takes s (Open opens) own later → (reply ≡ other) × (after.lab ≡ later.lab)
  drills_once terms one two =
      let labs = (drill_is terms s (Open opens) own after one).1 ∙ sym (drill_is terms s (Open opens) own later two).1 in
      (by one two, labs)
    where
      told_by : (x : After) (y told : Reply) (session : Session) → x.reply ≡ Some y → x ≡ record { reply = Some told; lab = s; session = session } → y ≡ told
      told_by x y told session y_is x_is = sym (same_Some told y (sym (ap (λ (v : After). v.reply) x_is) ∙ y_is))

      by : Drills terms.takes s (Open opens) own after → Drills terms.takes s (Open opens) own later → reply ≡ other
      by (is_planned yes' none a) (is_planned yes'' none' b) = told_by after reply Planned (Open opens) is a ∙ sym (told_by later other Planned (Open opens) also b)
      by (is_planned yes' none a) (is_refused no' none' b) = let both : true ≡ false = sym yes' ∙ no' in absurd (cc both)
      by (is_refused no' none a) (is_planned yes' none' b) = let both : true ≡ false = sym yes' ∙ no' in absurd (cc both)
      by (is_refused no' none a) (is_refused no'' none' b) = told_by after reply NoDrill (Open opens) is a ∙ sym (told_by later other NoDrill (Open opens) also b)
      by (wants_memory wants) q = none_told after.reply reply (ap (λ (v : After). v.reply) wants.after_is) is
      by (is_planned yes' none a) (wants_memory wants) = none_told later.reply other (ap (λ (v : After). v.reply) wants.after_is) also
      by (is_refused no' none a) (wants_memory wants) = none_told later.reply other (ap (λ (v : After). v.reply) wants.after_is) also

  done_once : (rule : RuleNumber) (set : Setting) (command : Command) (judgement : Result Task Reply) → IsNoSwap judgement → Went own → IsDoneBy (IsThis judgement rule command opens s) set s opens own after → IsDoneBy (IsThis judgement rule command opens s) set s opens own later → (reply ≡ other) × (after.lab ≡ later.lab)
  done_once rule set command judgement no_swap went (does j p one) (does k q two) =
      does_once set judgement no_swap went (subst (λ (x : Result Task Reply). Does set s opens x own after) p.0 one) (subst (λ (x : Result Task Reply). Does set s opens x own later) q.0 two)
  done_once rule set command judgement no_swap went (no_memory wants) two = none_told after.reply reply (ap (λ (v : After). v.reply) wants.after_is) is
  done_once rule set command judgement no_swap went (does j p one) (no_memory wants) = none_told later.reply other (ap (λ (v : After). v.reply) wants.after_is) also

  pub step_once : (o : Option Drill) (terms : Terms) (set : Setting) (command : Command) (judgement : Result Task Reply) → IsNoSwap judgement → Went own → StepOf o (DoesBy (IsThis judgement terms.rule command) set) terms s (Open opens) [] own after → StepOf o (DoesBy (IsThis judgement terms.rule command) set) terms s (Open opens) [] own later
      → (reply ≡ other) × (after.lab ≡ later.lab)
  step_once None terms set command judgement no_swap went one two = done_once terms.rule set command judgement no_swap went one.1 two.1
  step_once (Some drill) terms set command judgement no_swap went one two = drills_once terms one.1 two.1

-- THE REPLY TO A SWAP
module _ (exp : List ℕ) (way : Way) (own : List Event) (after : After) (reply : Reply) (is : after.reply ≡ Some reply) where
  module _ (s : LabState) (move : Move) (says : Says the_texts s (Begin exp way) move) where
    swaps_tell : (opens : List OpenSwap) → Swaps s opens exp (Begin exp way) own after → TellsLab s exp move reply after.lab
    swaps_tell opens d = by d.answered
      where
        same : d.move ≡ move
        same = says_once the_texts s (Begin exp way) d.move move texts_once d.says says

        by : IsAnswered (end_reply d.swap d.outcome) opens d.outcome d.behind after → TellsLab s exp move reply after.lab
        by (is_told starts told session) =
            subst (λ (m : Move). TellsLab s exp m reply after.lab) same (end_tells d.swap s after.lab exp (Begin exp way) d.move d.steps d.outcome reply d.name (sym told ∙ is) d.ends)

    pub does_tell : (b : Bool) (length : ℕ) (opens : List OpenSwap) → IfSpace b length s opens (Swaps s opens exp (Begin exp way) own after) own after → TellsLab s exp move reply after.lab
    does_tell true length opens d = swaps_tell opens d
    does_tell false length opens d =
        subst (λ (r : Reply). TellsLab s exp move r after.lab) (same_Some (FullJournal length) reply (sym (ap (λ (a : After). a.reply) d.after_is) ∙ is)) (ap (λ (a : After). a.lab) d.after_is)

  breaks_tell : (events : List Event) → Breaks events after.reply → TellsBroken reply
  breaks_tell events (stopped ends told) = subst TellsBroken (same_Some StoppedReply reply (sym told ∙ is)) tt
  breaks_tell events (failed no' miss told) = subst TellsBroken (same_Some Down reply (sym told ∙ is)) tt
  breaks_tell events (unanswered none) = none_told after.reply reply none is

  pub swap_tells : (drill : Option Drill) (terms : Terms) (set : Setting) (s : LabState) (session : Session) (command : Command) (opening : List Event) → drill ≡ None → Was drill (Ok (Swap exp way)) terms set s session command opening own after
      → TellsBroken reply ⊎ ((mid : LabState) × BeginsAt session s opening mid × ((move : Move) → Says the_texts mid (Begin exp way) move → TellsLab mid exp move reply after.lab))
  swap_tells drill terms set s session command opening no' (done mid opens begins judged d) = inr (mid, begins.at, λ move says. does_tell mid move says (has_space set (Begin exp way)) set.length opens d)
  swap_tells drill terms set s session command opening no' (wanting mid opens begins wants) = none_told after.reply reply (ap (λ (v : After). v.reply) wants.after_is) is
  swap_tells drill terms set s session command opening no' (broke none closed breaks) = inl (breaks_tell opening breaks.breaks)
  swap_tells drill terms set s session command opening no' (drilled some none drills) = let both : false ≡ true = ap is_some (sym no') ∙ some in absurd (cc both)

-- THE STEPS THAT A REPLY TELLS OF: starts of the plant, and failed readings
nothing_after : (steps behind : List Event) → has_outer steps ≡ false → behind ≡ [] → has_outer (steps ++ behind) ≡ false
nothing_after steps behind quiet none = ap (λ l. has_outer (steps ++ l)) none ∙ ap has_outer (append-nil steps) ∙ quiet

pub done_calm : (exp : List ℕ) (o : Option Mapped) → tells_step (done_reply exp o) ≡ false
done_calm exp None = refl
done_calm exp (Some m) = refl

end_stops : (p : SwapOf) (outcome : Outcome) (steps behind : List Event) (reply : Reply) → has_outer steps ≡ false → StartsAfter outcome behind → end_reply p outcome ≡ Some reply → Tells (steps ++ behind) reply
end_stops p Halted steps behind reply quiet (a, b, starts) is = restarts (record { front = steps; a = a; b = b; is = ap (λ l. steps ++ l) starts; once = quiet }) (sym (same_Some StoppedReply reply is))
end_stops p More steps behind reply quiet starts is = let none : None ≡ Some reply = is in absurd (cc none)
end_stops p (TurnsBack why) steps behind reply quiet starts is = let none : None ≡ Some reply = is in absurd (cc none)
end_stops p (Ended Settling) steps behind reply quiet starts is = let none : None ≡ Some reply = is in absurd (cc none)
end_stops p (Ended Forth) steps behind reply quiet starts is = still_as (steps ++ behind) (done_reply p.name p.new) reply (nothing_after steps behind quiet starts) (done_calm p.name p.new) is
end_stops p (Ended (Undo why)) steps behind reply quiet starts is = still_as (steps ++ behind) (Failed p.name (undone_end p.old) (what_of why)) reply (nothing_after steps behind quiet starts) refl is
end_stops p (Stuck why) steps behind reply quiet starts is = still_as (steps ++ behind) (Failed p.name ends.Stuck (what_of why)) reply (nothing_after steps behind quiet starts) refl is
end_stops p Unwritten steps behind reply quiet starts is = still_as (steps ++ behind) (Failed p.name ends.Stuck whats.Journal) reply (nothing_after steps behind quiet starts) refl is

turn_stops : (p : SwapOf) (outcome : Outcome) (steps behind : List Event) (reply : Reply) → has_outer steps ≡ false → StartsAfter outcome behind → turn_reply p outcome ≡ Some reply → Tells (steps ++ behind) reply
turn_stops p More steps behind reply quiet starts is = still_as (steps ++ behind) (MoreReply p.name) reply (nothing_after steps behind quiet starts) refl is
turn_stops p (TurnsBack why) steps behind reply quiet starts is = still_as (steps ++ behind) (Trouble p.name (what_of why)) reply (nothing_after steps behind quiet starts) refl is
turn_stops p (Ended leg) steps behind reply quiet starts is = end_stops p (Ended leg) steps behind reply quiet starts is
turn_stops p (Stuck why) steps behind reply quiet starts is = end_stops p (Stuck why) steps behind reply quiet starts is
turn_stops p Unwritten steps behind reply quiet starts is = end_stops p Unwritten steps behind reply quiet starts is
turn_stops p Halted steps behind reply quiet starts is = end_stops p Halted steps behind reply quiet starts is

-- the append that begins a swap has none
begin_quiet : (p : SwapOf) (s after : LabState) (entry : Record) (move : Move) (steps : List Event) (outcome : Outcome) → BeginSteps s entry move steps after outcome → has_outer steps ≡ false
begin_quiet p s after entry move steps More b = ap has_outer b.steps_are ∙ (append_quiet b.side b.gate entry All).1
begin_quiet p s after entry move steps Unwritten b = (swap_shows p s entry move steps after Unwritten (unwritten b refl)).outer
begin_quiet p s after entry move steps Halted b = (swap_shows p s entry move steps after Halted (stopped_so b refl)).outer
begin_quiet p s after entry move steps (TurnsBack why) b = absurd b
begin_quiet p s after entry move steps (Ended leg) b = absurd b
begin_quiet p s after entry move steps (Stuck trouble) b = absurd b

module _ (own : List Event) (after : After) (reply : Reply) (is : after.reply ≡ Some reply) where
  calm : (told : Reply) → tells_step told ≡ false → after.reply ≡ Some told → has_outer own ≡ false → Tells own reply
  calm told goes told_is quiet = still_as own told reply quiet goes (sym told_is ∙ is)

  replies_stop : (s : LabState) (opens : List OpenSwap) (told : Reply) → tells_step told ≡ false → Replies s opens told own after → Tells own reply
  replies_stop s opens told goes d = calm told goes (ap (λ (a : After). a.reply) d.after_is) (ap has_outer d.nothing)

  space_stop : (s : LabState) (opens : List OpenSwap) (b : Bool) (length : ℕ) (Done : Type 0) → (Done → Tells own reply) → IfSpace b length s opens Done own after → Tells own reply
  space_stop s opens true length Done each d = each d
  space_stop s opens false length Done each d = replies_stop s opens (FullJournal length) refl d

  append_stops : (s : LabState) (opens : List OpenSwap) (entry : Record) (told : Reply) → tells_step told ≡ false → Appends s opens entry told own after → Tells own reply
  append_stops s opens entry told goes d = by d.ends
    where
      by : AppendEnds s opens d.state told d.run d.more own after → Tells own reply
      by (whole all none after_is) = calm told goes (ap (λ (a : After). a.reply) after_is) (ap has_outer d.steps ∙ (ended_quiet d.side d.gate entry d.run d.more (Ok tt) (all, none)).1)
      by (broken breaks said either session) = broken_tells own after.reply reply breaks is

  -- a swap, or a turn, was answered
  answered_stops : (told : Option Reply) (to : List OpenSwap) (outcome : Outcome) (steps behind : List Event) → own ≡ steps ++ behind → (StartsAfter outcome behind → told ≡ Some reply → Tells (steps ++ behind) reply)
      → IsAnswered told to outcome behind after → Tells own reply
  answered_stops told to outcome steps behind own_is each (is_told starts replied session) = subst (λ l. Tells l reply) (sym own_is) (each starts (sym replied ∙ is))

  swap_stops : (s : LabState) (opens : List OpenSwap) (exp : List ℕ) (entry : Record) → Swaps s opens exp entry own after → Tells own reply
  swap_stops s opens exp entry d =
      answered_stops _ opens d.outcome d.steps d.behind d.own_is (end_stops d.swap d.outcome d.steps d.behind reply (swap_shows d.swap s entry d.move d.steps after.lab d.outcome d.ends).outer) d.answered

  begin_stops : (s : LabState) (opens : List OpenSwap) (devices : ℕ) (exp : List ℕ) (entry : Record) → BeginsSwap s opens devices exp entry own after → Tells own reply
  begin_stops s opens devices exp entry d =
      answered_stops _ _ d.outcome d.steps d.behind d.own_is (turn_stops d.swap d.outcome d.steps d.behind reply (begin_quiet d.swap s after.lab entry d.move d.steps d.outcome d.begins)) d.answered

  one_stops : (s : LabState) (opens : List OpenSwap) (exp : List ℕ) → Turns s opens exp own after → Tells own reply
  one_stops s opens exp d =
      answered_stops _ _ d.outcome d.steps d.behind d.own_is
      (turn_stops d.one.swap.running.swap d.outcome d.steps d.behind reply (turn_shows s d.one.swap.running d.steps d.outcome after.lab d.turn).outer) d.answered

  finish_stops : (s : LabState) (opens : List OpenSwap) (exp : List ℕ) → EndsSwap s opens exp own after → Tells own reply
  finish_stops s opens exp d =
      answered_stops _ _ d.outcome d.steps d.behind d.own_is
      (end_stops d.one.swap.running.swap d.outcome d.steps d.behind reply (finish_shows s d.one.swap.running d.steps d.outcome after.lab d.finishes).outer) d.answered

  recover_stops : (s : LabState) (opens : List OpenSwap) → Recovers s opens own after → Tells own reply
  recover_stops s opens (settled outcomes settles told session) = calm _ refl told (settles_show s _ outcomes own after.lab settles).outer
  recover_stops s opens (broken_off part breaks session) = broken_tells own after.reply reply breaks is

  pub does_stop : (set : Setting) (s : LabState) (opens : List OpenSwap) (command : Command) (busy : Bool) (count : ℕ) (judgement : Result Task Reply) → IsFit s command busy count judgement → Does set s opens judgement own after → Tells own reply
  does_stop set s opens command busy count (Err refusal) inner d = replies_stop s opens refusal (no_step_of refusal inner) d
  does_stop set s opens command busy count (Ok (Tell told)) inner d = replies_stop s opens told (no_step_of told inner) d
  does_stop set s opens command busy count (Ok (Append entry told)) inner d = space_stop s opens _ set.length (Appends s opens entry told own after) (append_stops s opens entry told (no_step_of told inner.0)) d
  does_stop set s opens command busy count (Ok (Swap exp way)) inner d = space_stop s opens _ set.length (Swaps s opens exp (Begin exp way) own after) (swap_stops s opens exp (Begin exp way)) d
  does_stop set s opens command busy count (Ok (BeginOnly exp way)) inner d = space_stop s opens _ set.length (BeginsSwap s opens set.devices exp (Begin exp way) own after) (begin_stops s opens set.devices exp (Begin exp way)) d
  does_stop set s opens command busy count (Ok (Turn exp)) inner d = one_stops s opens exp d
  does_stop set s opens command busy count (Ok (Finish exp)) inner d = finish_stops s opens exp d
  does_stop set s opens command busy count (Ok Recover) inner d = recover_stops s opens d

  drill_stops : (terms : Terms) (s : LabState) (session : Session) → Drills terms.takes s session own after → Tells own reply
  drill_stops terms s session (is_planned yes' none a) = calm Planned refl (ap (λ (v : After). v.reply) a) (ap has_outer none)
  drill_stops terms s session (is_refused no' none a) = calm NoDrill refl (ap (λ (v : After). v.reply) a) (ap has_outer none)
  drill_stops terms s session (wants_memory wants) = none_told after.reply reply (ap (λ (v : After). v.reply) wants.after_is) is

  pub step_stops : (drill : Option Drill) (judgement : Result Task Reply) (terms : Terms) (set : Setting) (s : LabState) (session : Session) (command : Command) (opening : List Event) → Was drill judgement terms set s session command opening own after → Tells (opening ++ own) reply
  step_stops drill judgement terms set s session command opening (done mid opens begins judged d) =
      tell_after opening own reply begins.quiet (does_stop set mid opens command (is_among (names_of opens) (name_of command)) (length opens) judgement (fits mid (is_among (names_of opens) (name_of command)) (length opens) terms.rule command judgement judged) d)
  step_stops drill judgement terms set s session command opening (wanting mid opens begins wants) = none_told after.reply reply (ap (λ (v : After). v.reply) wants.after_is) is
  step_stops drill judgement terms set s session command opening (broke no' closed breaks) = subst (λ l. Tells (opening ++ l) reply) (sym breaks.nothing) (subst (λ l. Tells l reply) (sym (append-nil opening)) (broken_tells opening after.reply reply breaks.breaks is))
  step_stops drill judgement terms set s session command opening (drilled some none drills) = subst (λ l. Tells (l ++ own) reply) (sym none) (drill_stops terms s session drills)

-- EXPERIMENTS OF OTHER NAMES
module _ (name : List ℕ) (own : List Event) (after : After) where
  module _ (s : LabState) (there : is_some s.lab ≡ true) (opens : List OpenSwap) where
    after_stays : after.lab ≡ s → Stays name s after.lab
    after_stays same = same_stays name s after.lab there same

    append_stays : (entry : Record) (told : Reply) → IsTaskApart name (names_of opens) s (Append entry told) → Appends s opens entry told own after → Stays name s after.lab
    append_stays entry told apart d = either_stays name s d.state after.lab there (move_stays name s d.state d.move there (apart d.move d.says) d.moves) (by d.ends)
      where
        by : AppendEnds s opens d.state told d.run d.more own after → (after.lab ≡ s) ⊎ (after.lab ≡ d.state)
        by (whole all none after_is) = inr (ap (λ (a : After). a.lab) after_is)
        by (broken breaks said either session) = either

    space_stays : (b : Bool) (length : ℕ) (Done : Type 0) → (Done → Stays name s after.lab) → IfSpace b length s opens Done own after → Stays name s after.lab
    space_stays true length Done each d = each d
    space_stays false length Done each d = after_stays (ap (λ (a : After). a.lab) d.after_is)

    recover_stays : IsSpared (names_of opens) s name → Recovers s opens own after → Stays name s after.lab
    recover_stays spared (settled outcomes settles told session) = settled_stay name (names_of opens) outcomes s after.lab own there spared settles
    recover_stays spared (broken_off part breaks session) = in_part_stay name (names_of opens) s after.lab own there spared part

    pub does_stays : (set : Setting) (judgement : Result Task Reply) → ((task : Task) → judgement ≡ Ok task → IsTaskApart name (names_of opens) s task) → Does set s opens judgement own after → Stays name s after.lab
    does_stays set (Err refusal) apart d = after_stays (ap (λ (a : After). a.lab) d.after_is)
    does_stays set (Ok (Tell told)) apart d = after_stays (ap (λ (a : After). a.lab) d.after_is)
    does_stays set (Ok (Append entry told)) apart d = space_stays _ set.length (Appends s opens entry told own after) (append_stays entry told (apart (Append entry told) refl)) d
    does_stays set (Ok (Swap exp way)) apart d =
        let task = apart (Swap exp way) refl in
        space_stays _ set.length (Swaps s opens exp (Begin exp way) own after) (λ d. swap_stays name d.swap s after.lab (Begin exp way) d.move d.steps d.outcome there (task.1 d.move d.says) (λ same. task.0 (sym d.name ∙ same)) d.ends) d
    does_stays set (Ok (BeginOnly exp way)) apart d =
        space_stays _ set.length (BeginsSwap s opens set.devices exp (Begin exp way) own after)
        (λ d. begun_stays name s after.lab (Begin exp way) d.move d.steps d.outcome there ((apart (BeginOnly exp way) refl).1 d.move d.says) d.begins) d
    does_stays set (Ok (Turn exp)) apart d = turned_stays name s after.lab d.one.swap.running d.steps d.outcome there (λ same. apart (Turn exp) refl (sym d.one.name ∙ same)) d.turn
    does_stays set (Ok (Finish exp)) apart d = ended_stays name s after.lab d.one.swap.running d.steps d.outcome there (λ same. apart (Finish exp) refl (sym d.one.name ∙ same)) d.finishes
    does_stays set (Ok Recover) apart d = recover_stays (apart Recover refl) d

  module _ (s : LabState) (there : is_some s.lab ≡ true) (session : Session) (command : Command) (rests : settles session command name ≡ true → IsAtRest s name) (opening : List Event) where
    pub begins_stay : (session : Session) → (settles session command name ≡ true → IsAtRest s name) → (mid : LabState) (opens : List OpenSwap) → Begins (drill_of command) session s opening mid opens → Stays name s mid
    begins_stay Closed rests mid opens begins = settles_stay name _ begins.at.outcomes s mid begins.at.moving there (rests (ap is_none begins.no_drill)) begins.at.settles
    begins_stay (Open old) rests mid opens begins = same_stays name s mid there begins.at

    -- `recover` settles what moves and has no open swap
    if_recover : (session : Session) → (settles session command name ≡ true → IsAtRest s name) → command ≡ commands.Recover → IsSpared (names_of (opens_of session)) s name
    if_recover Closed rests is = inr (rests (ap (λ (c : Command). is_none (drill_of c)) is))
    if_recover (Open old) rests is = elim (cases_Bool (is_busy (names_of old) name)) [
      | inl yes' ↦ inl yes'
      | inr no' ↦ inr (rests (ap (λ (c : Command). settles (Open old) c name) is ∙ ap not no'))
    ]

    spared_on : (mid : LabState) (opens : List OpenSwap) → Stays name s mid → opens ≡ opens_of session → IsSpared (names_of (opens_of session)) s name → IsSpared (names_of opens) mid name
    spared_on mid opens first are (inl busy) = inl (ap (λ (l : List OpenSwap). is_busy (names_of l) name) are ∙ busy)
    spared_on mid opens first are (inr at_rest) = inr (rests_on name s mid first at_rest)

    part_stays : OpensInPart s opening after.lab → IsAtRest s name → Stays name s after.lab
    part_stays (reading reads same) at_rest = same_stays name s after.lab there same
    part_stays (settling front moving is reads no_miss no_outer part) at_rest = some_stay name s after.lab [] moving there at_rest part
    part_stays (shifting front moving behind is reads no_miss no_outer outcomes all shifts) at_rest = settles_stay name _ outcomes s after.lab moving there at_rest all

    pub step_stays : (judgement : Result Task Reply) (terms : Terms) (set : Setting) → name_of command ≢ Some name → Was (drill_of command) judgement terms set s session command opening own after → Stays name s after.lab
    step_stays judgement terms set other (done mid opens begins judged d) =
        let first = begins_stay session rests mid opens begins in
        let busy = is_among (names_of opens) (name_of command) in
        both_stay name s mid after.lab first
        (does_stays mid first.set opens set judgement
        (λ task is. task_apart name (names_of opens) mid command busy (length opens) task (subst (IsFit mid command busy (length opens)) is (fits mid busy (length opens) terms.rule command judgement judged))
        (λ recovers. spared_on mid opens first begins.are (if_recover session rests recovers)) first.set other) d)
    step_stays judgement terms set other (wanting mid opens begins wants) = let first = begins_stay session rests mid opens begins in both_stay name s mid after.lab first (same_stays name mid after.lab first.set (ap (λ (a : After). a.lab) wants.after_is))
    step_stays judgement terms set other (broke no' closed breaks) = part_stays breaks.part (rests (ap (λ (x : Session). settles x command name) closed ∙ ap is_none no'))
    step_stays judgement terms set other (drilled some none drills) = same_stays name s after.lab there (drill_is terms s session own after drills).1
