-- The lines of a batch tell what is so in the lab after it.
use Rattle.std.proofs.Common.{◌≡◌, inl, inr, arith, ℕ, Bool, true, false, ◌||◌, is_some, List, [], ◌∷◌, ◌++◌, drop, length, Option, Some, None, Result, Ok, Err, refl, sym, ap, subst, ◌∙◌, append_assoc}
use Rattle.std.specs.Str.{bytes_eq}
use Rattle.std.proofs.lemmas.Bool.{cases_Bool}
use Rattle.std.proofs.lemmas.List.{map-append}
use Rattle.std.proofs.lemmas.List.Folds.{list_any-append}
use Rattle.std.proofs.lemmas.Option.{same_Some}
use Rattle.std.proofs.lemmas.Slice.Eq.{bytes_eq-Decides}
use Rattle.lab_base.proofs.Tests.{or_first, or_rest}
use Rattle.plant.specs.Events.{Event}
use Rattle.phys_lab.specs.Labs.{Lab}
use Rattle.virt_topo.specs.declared.experiment.Phase.{Phase}
use Rattle.records_model.specs.Labs.{LabState, is_out}
use Rattle.recovery.specs.Due.{is_busy}
use Rattle.cost_rule.specs.declared.rule.RuleNumber.{RuleNumber}
use Rattle.lab_ahead.specs.declared.batch.Promise.{Promise}
use Rattle.lab_ahead.specs.declared.batch.Run.{Run}
use Rattle.lab_ahead.specs.declared.ends.End.{End}
use Rattle.script_text.specs.Replies.{served_of}
use Rattle.script_text.specs.declared.reply.Served.{Served}
use Rattle.script_text.specs.declared.reply.Reply.{Reply}
use Rattle.script_text.specs.declared.reply.Reply.TheVariants as replies
use Rattle.script_text.specs.declared.reply.FailedEnd.TheVariants as ends
use Rattle.script_text.specs.declared.command.Command.TheVariants as commands
use Rattle.lab_tasks.specs.Tasks.{Task}
use Rattle.lab_tasks.specs.Needs.{asked, need_lab, refused}
use Rattle.lab_judge.specs.Serving.{JudgedBatch, JudgedRunAt, Serving}
use Rattle.lab_judge.proofs.Fits.{IsFit}
use Rattle.lab_core.specs.BatchLines.{AllTell, BatchTells, Line, LinesTell, TellsBefore, replies_of, runs_of, there_in}
use Rattle.lab_core.specs.BatchList.{JudgedNextRun, is_run_of, no_runs, runs_in_turn}
use Rattle.lab_core.specs.Breaks.{Breaks, failed, stopped, unanswered}
use Rattle.lab_core.specs.Commands.{LabStep, ground_by}
use Rattle.lab_core.specs.LabSteps.{IsDoneBy, does, has_space, no_memory, not_opened, opened}
use Rattle.lab_core.specs.Lists.{DoesList, Ground, Lists, Past, broken, last_reply, listed, more, no_memory as list_no_memory, none, over, refused as list_refused, set_at, wanting}
use Rattle.lab_core.specs.Sessions.{After, Closed, Open, OpenSwap, Session, Setting, Terms, names_of, open_by, shut_by}
use Rattle.lab_core.specs.Tells.{IsThere, is_in}
use Rattle.lab_core.proofs.Others.{Stays}
use Rattle.lab_core.proofs.Places.{does_place, TellsPlace}
use Rattle.lab_core.proofs.Runs.{batch_first, batch_refuses, run_here, stand_in}
use Rattle.lab_core.proofs.StepLaws.{does_stays}
use Rattle.lab_core.proofs.TasksApart.{task_apart}
use Rattle.lab_core.specs.Moments.{with_more}

-- ONE LINE MORE
pub last_tells : (lab : LabState) (reply : Reply) → TellsPlace reply lab → TellsBefore (there_in lab) [] reply
last_tells lab (replies.In exp) here = λ apart. here
last_tells lab (replies.Out exp) here = λ apart. here
last_tells lab (replies.Failed exp ends.In what) here = λ apart. here
last_tells lab (replies.Failed exp ends.Out what) here = λ apart. here
last_tells lab (replies.Failed exp ends.Stuck what) here = tt
last_tells lab reply here = tt

module _ (run : Run) (mid lab : LabState) (stays : (name : List ℕ) → bytes_eq run.exp name ≡ false → Stays name mid lab) where
  still_there : (is : Phase → Bool) (later : List Run) (exp : List ℕ) → (is_run_of later exp ≡ false → IsThere is mid exp) → is_run_of (later ++ run ∷ []) exp ≡ false → IsThere is lab exp
  still_there is later exp was apart =
      let both : (is_run_of later exp || (bytes_eq run.exp exp || false)) ≡ false = sym (list_any-append (λ (r : Run). bytes_eq r.exp exp) later (run ∷ [])) ∙ apart in
      let there = was (or_first (is_run_of later exp) _ both) in
      let here = stays exp (or_first (bytes_eq run.exp exp) false (or_rest (is_run_of later exp) _ both)) in
      record { experiment = there.experiment; found = here.same ∙ there.found; is_so = there.is_so }

  still_tells : (later : List Run) (reply : Reply) → TellsBefore (there_in mid) later reply → TellsBefore (there_in lab) (later ++ run ∷ []) reply
  still_tells later (replies.In exp) was = still_there is_in later exp was
  still_tells later (replies.Out exp) was = still_there is_out later exp was
  still_tells later (replies.Failed exp ends.In what) was = still_there is_in later exp was
  still_tells later (replies.Failed exp ends.Out what) was = still_there is_out later exp was
  still_tells later (replies.Failed exp ends.Stuck what) was = tt
  still_tells later reply was = tt

  one_more : (lines : List Line) (reply : Reply) → TellsPlace reply lab → AllTell (there_in mid) lines → AllTell (there_in lab) (lines ++ record { run = run; reply = reply } ∷ [])
  one_more [] reply here all = (last_tells lab reply here, tt)
  one_more (line ∷ later) reply here all = (
    subst (λ (l : List Run). TellsBefore (there_in lab) l line.reply) (sym (map-append (λ (x : Line). x.run) later (record { run = run; reply = reply } ∷ []))) (still_tells (runs_of later) line.reply all.0),
    one_more later reply here all.1,
  )

-- WHAT IS DONE OF A RUN: its reply tells where its experiment is, and the others stay
module _ (rule : RuleNumber) (moment : ℕ) (promises : List Promise) (ends_at : List End) (run : Run) (set : Setting) (s : LabState) (opens : List OpenSwap) (there : is_some s.lab ≡ true) (steps : List Event) (after : After) where
  abbrev Judges : Result Task Reply → Type 0
  Judges = JudgedRunAt rule moment promises ends_at run (λ entry. has_space set entry) s (is_busy (names_of opens) run.exp) (length opens)

  run_place : (reply : Reply) → after.reply ≡ Some reply → IsDoneBy Judges set s opens steps after → TellsPlace reply after.lab
  run_place reply told (no_memory wants) = let none' : None ≡ Some reply = sym (ap (λ (a : After). a.reply) wants.after_is) ∙ told in absurd (cc none')
  run_place reply told (does j judged d) =
      does_place steps after reply told set s opens (stand_in run.exp) (is_busy (names_of opens) run.exp) (length opens) j (run_here s (is_busy (names_of opens) run.exp) (length opens) rule moment promises ends_at run (λ entry. has_space set entry) j judged).0 d

  run_stays : (name : List ℕ) → bytes_eq run.exp name ≡ false → (reply : Reply) → after.reply ≡ Some reply → IsDoneBy Judges set s opens steps after → Stays name s after.lab
  run_stays name other reply told (no_memory wants) = let none' : None ≡ Some reply = sym (ap (λ (a : After). a.reply) wants.after_is) ∙ told in absurd (cc none')
  run_stays name other reply told (does j judged d) =
      let busy = is_busy (names_of opens) run.exp in
      let fit = (run_here s busy (length opens) rule moment promises ends_at run (λ entry. has_space set entry) j judged).0 in
      does_stays name steps after s there opens set j
      (λ task same. task_apart name (names_of opens) s (stand_in run.exp) busy (length opens) task (subst (λ (x : Result Task Reply). IsFit s (stand_in run.exp) busy (length opens) x) same fit) (λ recovers. absurd (cc recovers)) there
      (λ named. let same : run.exp ≡ name = same_Some run.exp name named in let both : true ≡ false = sym ((bytes_eq-Decides run.exp name).1 same) ∙ other in absurd (cc both))) d

longer : (exp : List ℕ) → bytes_eq exp (0 ∷ exp) ≡ false
longer exp = elim (cases_Bool (bytes_eq exp (0 ∷ exp))) [
  | inl yes' ↦ let same : length exp ≡ length (0 ∷ exp) = ap length ((bytes_eq-Decides exp (0 ∷ exp)).0 yes') in absurd (omega (arith, same))
  | inr no' ↦ no'
]

-- THE LINES of the runs after some of them
module _ (rule : RuleNumber) (moment : ℕ) (runs : List Run) where
  pub record At (told : List Reply) (left : List Run) (u : LabState) : Type 0 where
    lines : List Line
    runs_are : runs ≡ runs_of lines ++ left
    told_are : told ≡ replies_of lines
    tell : AllTell (there_in u) lines
    there : is_some u.lab ≡ true

  -- after the next one, by what is left
  next_at : (promises : List Promise) (ends_at : List End) (told : List Reply) (left : List Run) (set : Setting) (s : LabState) (opens : List OpenSwap) (steps : List Event) (after : After) (reply : Reply) → after.reply ≡ Some reply → At told left s
      → IsDoneBy (JudgedNextRun rule moment promises ends_at left (λ entry. has_space set entry) s opens) set s opens steps after → no_runs left ≡ false → At (told ++ reply ∷ []) (drop 1 left) after.lab
  next_at promises ends_at told [] set s opens steps after reply replied at done more_left = absurd (cc more_left)
  next_at promises ends_at told (run ∷ left) set s opens steps after reply replied at done more_left =
      let line : Line = record { run = run; reply = reply } in
      let stays = λ (name : List ℕ) (other : bytes_eq run.exp name ≡ false). run_stays rule moment promises ends_at run set s opens at.there steps after name other reply replied done in
      record {
        lines = at.lines ++ line ∷ [];
        runs_are = at.runs_are ∙ sym (append_assoc (runs_of at.lines) (run ∷ []) left) ∙ ap (λ (l : List Run). l ++ left) (sym (map-append (λ (x : Line). x.run) at.lines (line ∷ [])));
        told_are = ap (λ (l : List Reply). l ++ reply ∷ []) at.told_are ∙ sym (map-append (λ (x : Line). x.reply) at.lines (line ∷ []));
        tell = one_more run s after.lab stays at.lines reply (run_place rule moment promises ends_at run set s opens at.there steps after reply replied done) at.tell;
        there = (stays (0 ∷ run.exp) (longer run.exp)).set;
      }

  ends_with : (at : Serving) (last : Reply) (served : Served) → last_reply (runs_in_turn rule moment) at (Some last) ≡ Some (replies.Served served) → served ≡ served_of (at.told ++ last ∷ [])
  ends_with at replies.Stopped served is = absurd (cc is)
  ends_with at last served is = let same : replies.Served (served_of (at.told ++ last ∷ [])) ≡ replies.Served served = same_Some _ _ is in let back : served_of (at.told ++ last ∷ []) ≡ served = cc same in sym back

  -- after some of them
  module _ (base : Ground) (trace : Option (List Event)) where
    past_at : (start : Serving) (s : LabState) (opens : List OpenSwap) (own : List Event) (at : Serving) (u : LabState) (to : List OpenSwap) → At start.told start.left s → Past (runs_in_turn rule moment) base trace start s opens own at u to → At at.told at.left u
    past_at start s opens own at u to first none = first
    past_at start s opens own at u to first (more front place mid between past steps reply u' to' next) =
        next_at place.promises place.ends place.told place.left (set_at base next.length) mid between steps (open_by reply u to) reply refl (past_at start s opens front place mid between first past) next.done next.more

    -- and of the whole list
    lists_at : (start : Serving) (s : LabState) (opens : List OpenSwap) (own : List Event) (after : After) (served : Served) → At start.told start.left s → after.reply ≡ Some (replies.Served served) → Lists (runs_in_turn rule moment) base trace start s opens own after
        → (told : List Reply) × (served ≡ served_of told) × LinesTell (there_in after.lab) runs told
    lists_at start s opens own after served first replied (over at u to past is_over after_is) =
        let l = past_at start s opens own at u to first past in
        let same : replies.Served served ≡ replies.Served (served_of at.told) = same_Some _ _ (sym replied ∙ ap (λ (a : After). a.reply) after_is) in
        (at.told, (let is : served ≡ served_of at.told = cc same in is), subst (λ (a : After). LinesTell (there_in a.lab) runs at.told) (sym after_is) (record { lines = l.lines; left = at.left; runs_are = l.runs_are; told_are = l.told_are; tell = l.tell }))
    lists_at start s opens own after served first replied (wanting at u to past after_is) = let none' : None ≡ Some (replies.Served served) = sym (ap (λ (a : After). a.reply) after_is) ∙ replied in absurd (cc none')
    lists_at start s opens own after served first replied (broken front steps at mid between None u own_is past next after_is) =
        let none' : None ≡ Some (replies.Served served) = sym (ap (λ (a : After). a.reply) after_is) ∙ replied in absurd (cc none')
    lists_at start s opens own after served first replied (broken front steps at mid between (Some last) u own_is past next after_is) =
        let l = next_at at.promises at.ends at.told at.left (set_at base next.length) mid between steps (shut_by (Some last) u) last refl (past_at start s opens front at mid between first past) next.done next.more in
        let is : served ≡ served_of (at.told ++ last ∷ []) = ends_with at last served (sym (ap (λ (a : After). a.reply) after_is) ∙ replied) in
        (at.told ++ last ∷ [], is, subst (λ (a : After). LinesTell (there_in a.lab) runs (at.told ++ last ∷ [])) (sym after_is) (record { lines = l.lines; left = drop 1 at.left; runs_are = l.runs_are; told_are = l.told_are; tell = l.tell }))

-- A BATCH
abbrev is_served : Reply → Bool
is_served (replies.Served served) = true
is_served reply = false

batch_lab : (s : LabState) (text : List ℕ) (start : Serving) → JudgedBatch s text (Ok start) → is_some s.lab ≡ true
batch_lab s text start (refused r needed is) = let none' : ◌≡◌ {A = Result Serving Reply} (Ok start) (Err r) = is in absurd (cc none')
batch_lab s text start (asked lab needed judged) = has s.lab needed
  where
    has : (o : Option Lab) → need_lab o ≡ Ok lab → is_some o ≡ true
    has None is = absurd (cc is)
    has (Some l) is = refl

module _ (rule : RuleNumber) (moment : ℕ) (text : List ℕ) (base : Ground) (trace : Option (List Event)) (after : After) (served : Served) (replied : after.reply ≡ Some (replies.Served served)) where
  serves_tell : (s : LabState) (opens : List OpenSwap) (own : List Event) → DoesList (runs_in_turn rule moment) (JudgedBatch s text) base trace s opens own after → BatchTells (there_in after.lab) text served
  serves_tell s opens own (list_refused r judged d) =
      let same : replies.Served served ≡ r = same_Some _ _ (sym replied ∙ ap (λ (a : After). a.reply) d.after_is) in
      let not : is_served r ≡ false = batch_refuses is_served refl (λ fault. refl) s text r judged in
      let both : true ≡ false = ap is_served same ∙ not in
      absurd (cc both)
  serves_tell s opens own (list_no_memory wants) = let none' : None ≡ Some (replies.Served served) = sym (ap (λ (a : After). a.reply) wants.after_is) ∙ replied in absurd (cc none')
  serves_tell s opens own (listed start judged lists) =
      let first = batch_first s text start judged in
      let at : At rule moment first.0.runs start.told start.left s = subst (λ (p : Serving). At rule moment first.0.runs p.told p.left s) (sym first.2) (record { lines = []; runs_are = refl; told_are = refl; tell = tt; there = batch_lab s text start judged }) in
      let l = lists_at rule moment first.0.runs base trace start s opens own after served at replied lists in
      record { batch = first.0; means = first.1; told = l.0; served_is = l.1; tells = l.2 }

breaks_not : {X : Type 0} (events : List Event) (reply : Option Reply) (served : Served) → reply ≡ Some (replies.Served served) → Breaks events reply → X
breaks_not events reply served is (stopped ended told) = let both : replies.Served served ≡ replies.Stopped = same_Some _ _ (sym is ∙ told) in absurd (cc both)
breaks_not events reply served is (failed once miss told) = let both : replies.Served served ≡ replies.Down = same_Some _ _ (sym is ∙ told) in absurd (cc both)
breaks_not events reply served is (unanswered none') = let both : None ≡ Some (replies.Served served) = sym none' ∙ is in absurd (cc both)

-- A LAB STEP of `batch`
pub batch_tells : (terms : Terms) (at : Option (List Event)) (set : Setting) (s : LabState) (session : Session) (moment lines : ℕ) (text : List ℕ) (opening own : List Event) (after : After) (served : Served) → after.reply ≡ Some (replies.Served served)
    → LabStep terms at set s session (commands.Batch moment lines text) opening own after → BatchTells (there_in after.lab) text served
batch_tells terms at set s Closed moment lines text opening own after served is (opened mid opens done) = serves_tell terms.rule moment text (ground_by set) (with_more at opening) after served is mid [] own done
batch_tells terms at set s Closed moment lines text opening own after served is (not_opened b) = breaks_not opening after.reply served is b.breaks
batch_tells terms at set s (Open opens) moment lines text opening own after served is (none', done) = serves_tell terms.rule moment text (ground_by set) (with_more at opening) after served is s opens own done

-- WHAT IS TOLD of one thing is told of another that follows from it
module _ (Was Is : (Phase → Bool) → List ℕ → Type 0) (to_in : (exp : List ℕ) → Was is_in exp → Is is_in exp) (to_out : (exp : List ℕ) → Was is_out exp → Is is_out exp) where
  pub line_so : (later : List Run) (reply : Reply) → TellsBefore Was later reply → TellsBefore Is later reply
  line_so later (replies.In exp) was = λ apart. to_in exp (was apart)
  line_so later (replies.Out exp) was = λ apart. to_out exp (was apart)
  line_so later (replies.Failed exp ends.In what) was = λ apart. to_in exp (was apart)
  line_so later (replies.Failed exp ends.Out what) was = λ apart. to_out exp (was apart)
  line_so later (replies.Failed exp ends.Stuck what) was = tt
  line_so later reply was = tt

  lines_so : (lines : List Line) → AllTell Was lines → AllTell Is lines
  lines_so [] all = tt
  lines_so (line ∷ later) all = (line_so (runs_of later) line.reply all.0, lines_so later all.1)

  pub batch_so : (text : List ℕ) (served : Served) → BatchTells Was text served → BatchTells Is text served
  batch_so text served was =
      let l = was.tells in
      record { batch = was.batch; means = was.means; told = was.told; served_is = was.served_is; tells = record { lines = l.lines; left = l.left; runs_are = l.runs_are; told_are = l.told_are; tell = lines_so l.lines l.tell } }
