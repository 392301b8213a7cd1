-- Laws of the lab step, of a command that is a list.
use Rattle.std.specs.Str.{bytes_eq}
use Rattle.std.proofs.Common.{◌≡◌, ◌≢◌, ◌⊎◌, inl, inr, ℕ, Bool, true, false, not, ◌||◌, is_some, List, [], ◌∷◌, ◌++◌, Option, Some, None, Result, Ok, Err, refl, sym, ap, ◌∙◌, subst}
use Rattle.std.proofs.lemmas.Bool.{cases_Bool}
use Rattle.std.proofs.lemmas.Option.{same_Some}
use Rattle.std.proofs.lemmas.Slice.Eq.{bytes_eq-Decides}
use Rattle.lab_base.specs.Lists.{AllDiffer, Has}
use Rattle.lab_base.proofs.Members.{Has-mapped}
use Rattle.plant.specs.Events.{Event}
use Rattle.plant.specs.declared.drill.Drill.{Drill}
use Rattle.swap_turns.specs.Pieces.{has_outer}
use Rattle.records_model.specs.Labs.{LabState, find}
use Rattle.recovery.specs.Due.{is_busy}
use Rattle.cost_rule.specs.declared.rule.RuleNumber.{RuleNumber}
use Rattle.lab_base.specs.declared.fault.TextFault.{TextFault}
use Rattle.lab_ahead.specs.declared.batch.Batch.{Batch}
use Rattle.lab_ahead.specs.declared.batch.Run.{Run}
use Rattle.lab_ahead.specs.Batches.{batch_of_text}
use Rattle.script_text.specs.Drills.{drill_of}
use Rattle.script_text.specs.declared.command.Command.{Command}
use Rattle.script_text.specs.declared.command.Command.TheVariants as commands
use Rattle.script_text.specs.declared.reply.Reply.{Reply}
use Rattle.script_text.specs.declared.reply.Reply.TheVariants as replies
use Rattle.swap_turns.specs.Swaps.{Moves}
use Rattle.lab_core.specs.LabSteps.{DoesBy, JudgedBeside, StepOf, not_opened, opened}
use Rattle.lab_core.specs.Commands.{LabStep, ground_by, is_about, is_named}
use Rattle.lab_tasks.specs.Tasks.{Task}
use Rattle.lab_judge.specs.Judge.{is_unjudged}
use Rattle.lab_core.specs.Lists.{DoesList, Ground, Listing, broken, last_reply, listed, no_memory, over, refused, wanting}
use Rattle.lab_core.specs.PlayList.{JudgedPlay, events_in_turn}
use Rattle.lab_tasks.specs.Playing.{Playing}
use Rattle.lab_judge.specs.Serving.{JudgedBatch, Serving}
use Rattle.lab_core.specs.BatchList.{has_run, is_run_of, runs_in_turn}
use Rattle.lab_core.specs.Sessions.{OpenSwap, Session, Setting, After, Closed, Open, Terms, name_in, names_of}
use Rattle.lab_tasks.specs.OpenNames.{name_of}
use Rattle.lab_core.specs.Tells.{AllMove, IsAtRest, busy_of, is_of_drill, opens_of, settles}
use Rattle.lab_core.proofs.Audited.{audit_moves, audit_no_drill, audit_opens, audit_place, audit_stays, audit_stops}
use Rattle.lab_core.proofs.Events.{events_are, plays_refuse}
use Rattle.lab_judge.proofs.Fits.{is_outer}
use Rattle.lab_core.proofs.Listings.{IsAboutThese, lists_stay, others_stay, past_stays, same_open, stops}
use Rattle.lab_core.proofs.Runs.{AreOf, batch_first, batch_refuses, runs_are}
use Rattle.lab_core.proofs.OuterReplies.{breaks_so, no_drill_of, step_so, of_drill_if}
use Rattle.lab_core.proofs.OuterSteps.{CommandTells, Tells, no_step_of, plain, still_as, tell_after, tells_step}
use Rattle.lab_core.proofs.Others.{Stays, both_stay, same_stays}
use Rattle.lab_core.proofs.OpenLaws.{Leaves, leaves}
use Rattle.lab_tasks.proofs.Busy.{has_busy}
use Rattle.lab_core.proofs.OpenMoves.{moves_on, set_by, step_moves}
use Rattle.lab_core.proofs.Places.{breaks_place, no_place, place_as, step_place, TellsPlace}
use Rattle.lab_core.proofs.StepLaws.{begins_stay, broke, by_one, drills_leave, step_stays, step_stops, was}
use Rattle.lab_core.proofs.Sessions.{not_shut}
use Rattle.lab_core.specs.Moments.{with_more}

-- one that is none is done by one judgement
pub plain_step : (terms : Terms) (at : Option (List Event)) (set : Setting) (s : LabState) (session : Session) (command : Command) (opening own : List Event) (after : After) → is_unjudged command ≡ false → LabStep terms at set s session command opening own after
    → StepOf (drill_of command) (DoesBy (JudgedBeside terms.rule command) set) terms s session opening own after
plain_step terms at set s session (commands.Play exp from to lines text) opening own after no' step = absurd (cc no')
plain_step terms at set s session (commands.Batch moment lines text) opening own after no' step = absurd (cc no')
plain_step terms at set s session commands.Audit opening own after no' step = absurd (cc no')
plain_step terms at set s session command opening own after no' step = step

none_some : {X : Type 0} (reply : Reply) → None ≡ Some reply → X
none_some reply is = absurd (cc is)

-- WHAT A LIST OF COMMANDS TELLS: no outer reply refuses it, and the reply to the whole is none, and tells of no place
pub record TellsOfWhole {X : Type 0} (l : Listing X) (JudgedList : Result X Reply → Type 0) : Type 0 where
  pub refuses : (reply : Reply) → JudgedList (Err reply) → is_outer reply ≡ false
  pub calm : (at : X) → tells_step (l.whole at) ≡ false
  pub places : (at : X) (s : LabState) → TellsPlace (l.whole at) s
  pub drillless : (at : X) → is_of_drill (l.whole at) ≡ false

-- OF A LIST, whose places hold that, about these experiments
module _ {X : Type 0} (l : Listing X) (JudgedList : Result X Reply → Type 0) (tells : TellsOfWhole l JudgedList) (base : Ground) (trace : Option (List Event)) (s : LabState) (opens : List OpenSwap) (own : List Event) (after : After) where
  abbrev Done : Type 0
  Done = DoesList l JudgedList base trace s opens own after

  last_place : (at : X) (told : Option Reply) (reply : Reply) → last_reply l at told ≡ Some reply → TellsPlace reply after.lab
  last_place at None reply is = none_some reply is
  last_place at (Some replies.Stopped) reply is = place_as after.lab _ reply is tt
  last_place at (Some told) reply is = place_as after.lab _ reply is (tells.places (l.behind at told) after.lab)

  -- no reply to the whole tells where an experiment is
  done_place : (reply : Reply) → after.reply ≡ Some reply → Done → TellsPlace reply after.lab
  done_place reply is (refused r judged d) = place_as after.lab r reply (sym (ap (λ (a : After). a.reply) d.after_is) ∙ is) (no_place after.lab r (tells.refuses r judged))
  done_place reply is (no_memory wants) = none_some reply (sym (ap (λ (a : After). a.reply) wants.after_is) ∙ is)
  done_place reply is (listed start judged (over at lab new past over_here after_is)) = place_as after.lab _ reply (sym (ap (λ (a : After). a.reply) after_is) ∙ is) (tells.places at after.lab)
  done_place reply is (listed start judged (broken front steps at mid between told lab own_is past next after_is)) = last_place at told reply (sym (ap (λ (a : After). a.reply) after_is) ∙ is)
  done_place reply is (listed start judged (wanting at lab new past after_is)) = none_some reply (sym (ap (λ (a : After). a.reply) after_is) ∙ is)

  -- and none is of a drill
  last_no_drill : (at : X) (reply : Option Reply) → of_drill_if (last_reply l at reply) ≡ false
  last_no_drill at None = refl
  last_no_drill at (Some replies.Stopped) = refl
  last_no_drill at (Some reply) = tells.drillless (l.behind at reply)

  done_no_drill : Done → of_drill_if after.reply ≡ false
  done_no_drill (refused r judged d) = ap (λ (a : After). of_drill_if a.reply) d.after_is ∙ no_drill_of r (tells.refuses r judged)
  done_no_drill (no_memory wants) = ap (λ (a : After). of_drill_if a.reply) wants.after_is
  done_no_drill (listed start judged (over at lab new past over_here after_is)) = ap (λ (a : After). of_drill_if a.reply) after_is ∙ tells.drillless at
  done_no_drill (listed start judged (broken front steps at mid between reply lab own_is past next after_is)) = ap (λ (a : After). of_drill_if a.reply) after_is ∙ last_no_drill at reply
  done_no_drill (listed start judged (wanting at lab new past after_is)) = ap (λ (a : After). of_drill_if a.reply) after_is

  module _ (Holds : X → Type 0) (about : List ℕ → Bool) (about_these : IsAboutThese l Holds about) (starts : (start : X) → JudgedList (Ok start) → Holds start) where
    -- the steps that the reply tells of
    done_stop : (reply : Reply) → after.reply ≡ Some reply → Done → Tells own reply
    done_stop reply is (refused r judged d) = still_as own r reply (ap has_outer d.nothing) (no_step_of r (tells.refuses r judged)) (sym (ap (λ (a : After). a.reply) d.after_is) ∙ is)
    done_stop reply is (no_memory wants) = none_some reply (sym (ap (λ (a : After). a.reply) wants.after_is) ∙ is)
    done_stop reply is (listed start judged lists) = stops l base trace Holds about about_these tells.calm start s opens own after reply (starts start judged) lists is

    -- others stay
    done_stay : (name : List ℕ) → about name ≡ false → is_some s.lab ≡ true → Done → Stays name s after.lab
    done_stay name apart there (refused r judged d) = same_stays name s after.lab there (ap (λ (a : After). a.lab) d.after_is)
    done_stay name apart there (no_memory wants) = same_stays name s after.lab there (ap (λ (a : After). a.lab) wants.after_is)
    done_stay name apart there (listed start judged lists) = others_stay l base trace Holds about about_these name apart start s opens own after (starts start judged) lists there

    -- the same swaps are open
    done_open : (to : List OpenSwap) → after.session ≡ Open to → Done → to ≡ opens
    done_open to is (refused r judged d) = let both : Open opens ≡ Open to = sym (ap (λ (a : After). a.session) d.after_is) ∙ is in sym (let same : opens ≡ to = cc both in same)
    done_open to is (no_memory wants) = not_shut to (sym (ap (λ (a : After). a.session) wants.after_is) ∙ is)
    done_open to is (listed start judged (over at lab new past over_here after_is)) =
        let both : Open new ≡ Open to = sym (ap (λ (a : After). a.session) after_is) ∙ is in
        let same : new ≡ to = cc both in
        sym same ∙ same_open l base trace Holds about about_these start s opens own at lab new (starts start judged) past
    done_open to is (listed start judged (broken front steps at mid between reply lab own_is past next after_is)) = not_shut to (sym (ap (λ (a : After). a.session) after_is) ∙ is)
    done_open to is (listed start judged (wanting at lab new past after_is)) = not_shut to (sym (ap (λ (a : After). a.session) after_is) ∙ is)

    -- the experiment of each open swap moves: none of the list's swaps is of it
    done_move : ((o : OpenSwap) → Has opens o → s.lab ≡ None → s.experiments ≡ []) → AllMove opens s → (to : List OpenSwap) → after.session ≡ Open to → Done → AllMove to after.lab
    done_move empty all to is (refused r judged d) = λ o there.
        subst (λ (u : LabState). Moves o.running.swap u) (sym (ap (λ (a : After). a.lab) d.after_is)) (all o (subst (λ l. Has l o) (done_open to is (refused r judged d)) there))
    done_move empty all to is (no_memory wants) = not_shut to (sym (ap (λ (a : After). a.session) wants.after_is) ∙ is)
    done_move empty all to is (listed start judged (over at lab new past over_here after_is)) = λ o there.
        let was : Has opens o = subst (λ l. Has l o) (done_open to is (listed start judged (over at lab new past over_here after_is))) there in
        let busy : is_busy (names_of opens) (name_in o) ≡ true = has_busy (names_of opens) (name_in o) (Has-mapped name_in opens o was) in
        let stays = past_stays l base trace Holds about about_these (name_in o) start s opens own at lab new (starts start judged) past (set_by o.running.swap s (empty o was) (all o was)) busy in
        moves_on o.running.swap s after.lab (ap (λ (a : After). find (name_in o) a.lab.experiments) after_is ∙ stays.0.same) (all o was)
    done_move empty all to is (listed start judged (broken front steps at mid between reply lab own_is past next after_is)) = not_shut to (sym (ap (λ (a : After). a.session) after_is) ∙ is)
    done_move empty all to is (listed start judged (wanting at lab new past after_is)) = not_shut to (sym (ap (λ (a : After). a.session) after_is) ∙ is)

    -- and stays, however the list ends
    done_busy : (name : List ℕ) → is_some s.lab ≡ true → is_busy (names_of opens) name ≡ true → Done → Stays name s after.lab
    done_busy name there busy (refused r judged d) = same_stays name s after.lab there (ap (λ (a : After). a.lab) d.after_is)
    done_busy name there busy (no_memory wants) = same_stays name s after.lab there (ap (λ (a : After). a.lab) wants.after_is)
    done_busy name there busy (listed start judged lists) = lists_stay l base trace Holds about about_these name start s opens own after (starts start judged) lists there busy

-- THE LAB STEP of a list of commands, by what is judged of it in a lab and beside open swaps
pub record ListLaws {X : Type 0} (l : Listing X) (Judged : List OpenSwap → LabState → Result X Reply → Type 0) (about : List ℕ → Bool) : Type 1 where
  pub tells : (opens : List OpenSwap) (s : LabState) → TellsOfWhole l (Judged opens s)
  pub Holds : X → Type 0
  pub about_these : IsAboutThese l Holds about
  pub starts : (opens : List OpenSwap) (s : LabState) (start : X) → Judged opens s (Ok start) → Holds start

module _ {X : Type 0} (l : Listing X) (Judged : List OpenSwap → LabState → Result X Reply → Type 0) (about : List ℕ → Bool) (laws : ListLaws l Judged about) (terms : Terms) (at : Option (List Event)) (set : Setting) (s : LabState) (opening own : List Event) (after : After) where
  abbrev Does : List OpenSwap → LabState → List Event → After → Type 0
  Does opens s own after = DoesList l (Judged opens s) (ground_by set) (with_more at opening) s opens own after

  abbrev Step : Session → Type 0
  Step session = StepOf None Does terms s session opening own after

  list_stops : (session : Session) (reply : Reply) → after.reply ≡ Some reply → Step session → Tells (opening ++ own) reply
  list_stops Closed reply is (opened mid opens done) =
      tell_after opening own reply opens.no_outer (done_stop l (Judged [] mid) (laws.tells [] mid) (ground_by set) (with_more at opening) mid [] own after laws.Holds about laws.about_these (laws.starts [] mid) reply is done)
  list_stops Closed reply is (not_opened breaks) = step_stops own after reply is None (Err replies.NoLab) terms set s Closed commands.Status opening (broke refl refl breaks)
  list_stops (Open opens) reply is (none, done) =
      tell_after opening own reply (ap has_outer none) (done_stop l (Judged opens s) (laws.tells opens s) (ground_by set) (with_more at opening) s opens own after laws.Holds about laws.about_these (laws.starts opens s) reply is done)

  list_stays : (session : Session) (name : List ℕ) → is_some s.lab ≡ true → about name ≡ false → (session ≡ Closed → IsAtRest s name) → Step session → Stays name s after.lab
  list_stays Closed name there apart rests (opened mid opens done) =
      let first = begins_stay name own after s there Closed commands.Status (λ is. rests refl) opening Closed (λ is. rests refl) mid [] (record { no_drill = refl; at = opens; quiet = opens.no_outer; are = refl }) in
      both_stay name s mid after.lab first (done_stay l (Judged [] mid) (laws.tells [] mid) (ground_by set) (with_more at opening) mid [] own after laws.Holds about laws.about_these (laws.starts [] mid) name apart first.set done)
  list_stays Closed name there apart rests (not_opened breaks) =
      step_stays name own after s there Closed commands.Status (λ is. rests refl) opening (Err replies.NoLab) terms set (λ is. let none : ◌≡◌ {A = Option (List ℕ)} None (Some name) = is in cc none) (broke refl refl breaks)
  list_stays (Open opens) name there apart rests (none, done) = done_stay l (Judged opens s) (laws.tells opens s) (ground_by set) (with_more at opening) s opens own after laws.Holds about laws.about_these (laws.starts opens s) name apart there done

  list_opens : (session : Session) (now : List OpenSwap) → after.session ≡ Open now → Step session → now ≡ opens_of session
  list_opens Closed now is (opened mid opens done) = done_open l (Judged [] mid) (laws.tells [] mid) (ground_by set) (with_more at opening) mid [] own after laws.Holds about laws.about_these (laws.starts [] mid) now is done
  list_opens Closed now is (not_opened breaks) = not_shut now (sym breaks.session ∙ is)
  list_opens (Open opens) now is (none, done) = done_open l (Judged opens s) (laws.tells opens s) (ground_by set) (with_more at opening) s opens own after laws.Holds about laws.about_these (laws.starts opens s) now is done

  list_moves : (session : Session) → (s.lab ≡ None → s.experiments ≡ []) → AllMove (opens_of session) s → (now : List OpenSwap) → after.session ≡ Open now → Step session → AllMove now after.lab
  list_moves Closed empty all now is step = λ o there. absurd (subst (λ l. Has l o) (list_opens Closed now is step) there)
  list_moves (Open opens) empty all now is (none, done) = done_move l (Judged opens s) (laws.tells opens s) (ground_by set) (with_more at opening) s opens own after laws.Holds about laws.about_these (laws.starts opens s) (λ o there. empty) all now is done

  list_place : (session : Session) (reply : Reply) → after.reply ≡ Some reply → Step session → TellsPlace reply after.lab
  list_place Closed reply is (opened mid opens done) = done_place l (Judged [] mid) (laws.tells [] mid) (ground_by set) (with_more at opening) mid [] own after reply is done
  list_place Closed reply is (not_opened breaks) = breaks_place own after reply is opening breaks.breaks
  list_place (Open opens) reply is (none, done) = done_place l (Judged opens s) (laws.tells opens s) (ground_by set) (with_more at opening) s opens own after reply is done

  list_busy : (opens : List OpenSwap) (name : List ℕ) → is_some s.lab ≡ true → is_busy (names_of opens) name ≡ true → Step (Open opens) → Stays name s after.lab
  list_busy opens name there busy (none, done) = done_busy l (Judged opens s) (laws.tells opens s) (ground_by set) (with_more at opening) s opens own after laws.Holds about laws.about_these (laws.starts opens s) name there busy done

  list_no_drill : (session : Session) → Step session → of_drill_if after.reply ≡ false
  list_no_drill Closed (opened mid opens done) = done_no_drill l (Judged [] mid) (laws.tells [] mid) (ground_by set) (with_more at opening) mid [] own after done
  list_no_drill Closed (not_opened b) = breaks_so opening after.reply b.breaks
  list_no_drill (Open opens) (none, done) = done_no_drill l (Judged opens s) (laws.tells opens s) (ground_by set) (with_more at opening) s opens own after done

-- OF `play`, about its experiment
abbrev pub playing : List ℕ → ℕ → ℕ → List ℕ → List OpenSwap → LabState → Result Playing Reply → Type 0
playing exp from to text opens s = JudgedPlay s opens exp from to text

plays_are : (exp : List ℕ) (from to : ℕ) (text : List ℕ) (about : List ℕ → Bool) → about exp ≡ true → ListLaws (events_in_turn exp) (playing exp from to text) about
plays_are exp from to text about own = record {
  tells = λ opens s. record { refuses = plays_refuse s opens exp from to text; calm = λ at. refl; places = λ at u. tt; drillless = λ at. refl };
  Holds = λ at. Unit {0};
  about_these = events_are exp about own;
  starts = λ opens s start judged. tt;
}

-- OF `batch`, about the experiments of its runs
abbrev pub serving : List ℕ → List OpenSwap → LabState → Result Serving Reply → Type 0
serving text opens s = JudgedBatch s text

batches_are : (rule : RuleNumber) (moment : ℕ) (text : List ℕ) (about : List ℕ → Bool) → ((batch : Batch) → batch_of_text text ≡ Ok batch → AreOf about batch.runs) → ListLaws (runs_in_turn rule moment) (serving text) about
batches_are rule moment text about of = record {
  tells = λ opens s. record { refuses = batch_refuses is_outer refl (λ fault. refl) s text; calm = λ at. refl; places = λ at u. tt; drillless = λ at. refl };
  Holds = λ at. AreOf about at.left;
  about_these = runs_are rule moment about;
  starts = λ opens s start judged. let first = batch_first s text start judged in subst (λ (p : Serving). AreOf about p.left) (sym first.2) (of first.0 first.1);
}

-- of any experiments, and of none with another name
pub plays_any : (exp : List ℕ) (from to : ℕ) (text : List ℕ) → ListLaws (events_in_turn exp) (playing exp from to text) (λ n. true)
plays_any exp from to text = plays_are exp from to text (λ n. true) refl

pub batches_any : (rule : RuleNumber) (moment : ℕ) (text : List ℕ) → ListLaws (runs_in_turn rule moment) (serving text) (λ n. true)
batches_any rule moment text = batches_are rule moment text (λ n. true) (λ batch means run has. refl)

abbrev but : List ℕ → List ℕ → Bool
but name n = not (bytes_eq n name)

but_not : (name : List ℕ) → but name name ≡ false
but_not name = ap not ((bytes_eq-Decides name name).1 refl)

no_run : (runs : List Run) (name : List ℕ) → is_run_of runs name ≡ false → AreOf (but name) runs
no_run [] name no' run has = absurd has
no_run (first ∷ runs) name no' run has = elim (cases_Bool (bytes_eq first.exp name)) [
  | inl yes' ↦ let both : true ≡ false = sym (ap (λ b. b || is_run_of runs name) yes') ∙ no' in absurd (cc both)
  | inr other ↦ elim has [
    | inl here ↦ ap not (subst (λ (r : Run). bytes_eq r.exp name ≡ false) here other)
    | inr there ↦ no_run runs name (sym (ap (λ b. b || is_run_of runs name) other) ∙ no') run there
  ]
]

no_run_in : (meaning : Result Batch TextFault) (name : List ℕ) → has_run meaning name ≡ false → (batch : Batch) → meaning ≡ Ok batch → AreOf (but name) batch.runs
no_run_in (Ok one) name no' batch is = let same : one ≡ batch = cc is in no_run batch.runs name (subst (λ (b : Batch). is_run_of b.runs name ≡ false) same no')
no_run_in (Err fault) name no' batch is = absurd (cc is)

-- a command that isn't about a name
named_not : (o : Option (List ℕ)) (name : List ℕ) → is_named o name ≡ false → o ≢ Some name
named_not None name no' is = cc is
named_not (Some exp) name no' is = let same : exp ≡ name = same_Some exp name is in let both : true ≡ false = sym ((bytes_eq-Decides exp name).1 same) ∙ no' in cc both

pub about_not : (command : Command) (name : List ℕ) → is_about command name ≡ false → name_of command ≢ Some name
about_not (commands.Batch moment lines text) name other = λ is. cc is
about_not command name other = named_not (name_of command) name other

-- an experiment with an open swap stays in a batch, whatever its runs name
pub batch_stays : (terms : Terms) (at : Option (List Event)) (set : Setting) (s : LabState) (opens : List OpenSwap) (moment lines : ℕ) (text : List ℕ) (opening own : List Event) (after : After) (name : List ℕ) → is_some s.lab ≡ true → is_busy (names_of opens) name ≡ true
    → LabStep terms at set s (Open opens) (commands.Batch moment lines text) opening own after → Stays name s after.lab
batch_stays terms at set s opens moment lines text opening own after name there busy step = list_busy (runs_in_turn terms.rule moment) (serving text) _ (batches_any terms.rule moment text) terms at set s opening own after opens name there busy step

-- a name that isn't that of a command
pub named_so : (o : Option (List ℕ)) (name : List ℕ) → o ≢ Some name → is_named o name ≡ false
named_so None name other = refl
named_so (Some exp) name other = elim (cases_Bool (bytes_eq exp name)) [
  | inl yes' ↦ absurd (other (ap (λ (n : List ℕ). Some n) ((bytes_eq-Decides exp name).0 yes')))
  | inr no' ↦ no'
]

-- OF EACH COMMAND
module _ (terms : Terms) (at : Option (List Event)) (set : Setting) (s : LabState) (session : Session) (opening own : List Event) (after : After) where
  plain_stops : (command : Command) → is_unjudged command ≡ false → (reply : Reply) → after.reply ≡ Some reply → LabStep terms at set s session command opening own after → CommandTells command opening own reply
  plain_stops command no' reply is step =
      let one = by_one (drill_of command) terms set s session command opening own after (plain_step terms at set s session command opening own after no' step) in
      plain (step_stops own after reply is (drill_of command) one.0 terms set s session command opening (was one.0 terms set s command opening own after (drill_of command) session one.1))

  pub all_stop : (command : Command) (reply : Reply) → after.reply ≡ Some reply → LabStep terms at set s session command opening own after → CommandTells command opening own reply
  all_stop (commands.Play exp from to lines text) reply is step = plain (list_stops (events_in_turn exp) (playing exp from to text) _ (plays_any exp from to text) terms at set s opening own after session reply is step)
  all_stop (commands.Batch moment lines text) reply is step = plain (list_stops (runs_in_turn terms.rule moment) (serving text) _ (batches_any terms.rule moment text) terms at set s opening own after session reply is step)
  all_stop commands.Audit reply is step = audit_stops terms at set s opening own after session reply is step
  all_stop command reply is step = plain_stops command refl reply is step

  plain_stays : (command : Command) → is_unjudged command ≡ false → (name : List ℕ) → is_some s.lab ≡ true → name_of command ≢ Some name → (settles session command name ≡ true → IsAtRest s name) → LabStep terms at set s session command opening own after → Stays name s after.lab
  plain_stays command no' name there other rests step =
      let one = by_one (drill_of command) terms set s session command opening own after (plain_step terms at set s session command opening own after no' step) in
      step_stays name own after s there session command rests opening one.0 terms set other (was one.0 terms set s command opening own after (drill_of command) session one.1)

  pub all_stay : (command : Command) (name : List ℕ) → is_some s.lab ≡ true → is_about command name ≡ false → (settles session command name ≡ true → IsAtRest s name) → LabStep terms at set s session command opening own after → Stays name s after.lab
  all_stay (commands.Play exp from to lines text) name there other rests step =
      list_stays (events_in_turn exp) (playing exp from to text) (but name) (plays_are exp from to text (but name) (ap not other)) terms at set s opening own after session name there (but_not name)
      (λ closed. rests (ap (λ (x : Session). settles x (commands.Play exp from to lines text) name) closed)) step
  all_stay (commands.Batch moment lines text) name there other rests step =
      list_stays (runs_in_turn terms.rule moment) (serving text) (but name) (batches_are terms.rule moment text (but name) (no_run_in (batch_of_text text) name other)) terms at set s opening own after session name there (but_not name)
      (λ closed. rests (ap (λ (x : Session). settles x (commands.Batch moment lines text) name) closed)) step
  all_stay commands.Audit name there other rests step = audit_stays terms at set s opening own after session name there (λ closed. rests (ap (λ (x : Session). settles x commands.Audit name) closed)) step
  all_stay command name there other rests step = plain_stays command refl name there (about_not command name other) rests step

  plain_drills : (command : Command) → is_unjudged command ≡ false → is_some (drill_of command) ≡ true → LabStep terms at set s session command opening own after → (opening ≡ []) × (own ≡ []) × (after.lab ≡ s)
  plain_drills command no' is step = drills_leave (drill_of command) terms set s session (JudgedBeside terms.rule command) opening own after is (plain_step terms at set s session command opening own after no' step)

  pub all_drills : (command : Command) → is_some (drill_of command) ≡ true → LabStep terms at set s session command opening own after → (opening ≡ []) × (own ≡ []) × (after.lab ≡ s)
  all_drills (commands.Play exp from to lines text) is step = absurd (cc is)
  all_drills (commands.Batch moment lines text) is step = absurd (cc is)
  all_drills commands.Audit is step = absurd (cc is)
  all_drills command is step = plain_drills command refl is step

  -- which swaps are open
  plain_leaves : (command : Command) → is_unjudged command ≡ false → (to : List OpenSwap) → after.session ≡ Open to → LabStep terms at set s session command opening own after → (judgement : Result Task Reply) × Leaves set session command judgement to
  plain_leaves command no' to is step =
      let one = by_one (drill_of command) terms set s session command opening own after (plain_step terms at set s session command opening own after no' step) in
      (one.0, leaves (drill_of command) one.0 terms set s session command opening own after to is (was one.0 terms set s command opening own after (drill_of command) session one.1))

  -- a list and an audit leave the same ones open
  pub unjudged_leave : (command : Command) → is_unjudged command ≡ true → (to : List OpenSwap) → after.session ≡ Open to → LabStep terms at set s session command opening own after → to ≡ opens_of session
  unjudged_leave (commands.Play exp from to' lines text) yes' to is step = list_opens (events_in_turn exp) (playing exp from to' text) _ (plays_any exp from to' text) terms at set s opening own after session to is step
  unjudged_leave (commands.Batch moment lines text) yes' to is step = list_opens (runs_in_turn terms.rule moment) (serving text) _ (batches_any terms.rule moment text) terms at set s opening own after session to is step
  unjudged_leave commands.Audit yes' to is step = audit_opens terms at set s opening own after session to is step
  unjudged_leave command yes' to is step = absurd (cc yes')

  -- the same are open; or as its judgement says
  pub all_leave : (command : Command) (to : List OpenSwap) → after.session ≡ Open to → LabStep terms at set s session command opening own after → (to ≡ opens_of session) ⊎ ((judgement : Result Task Reply) × Leaves set session command judgement to)
  all_leave command to is step = by (is_unjudged command) refl
    where
      by : (b : Bool) → is_unjudged command ≡ b → (to ≡ opens_of session) ⊎ ((judgement : Result Task Reply) × Leaves set session command judgement to)
      by true yes' = inl (unjudged_leave command yes' to is step)
      by false no' = inr (plain_leaves command no' to is step)

  plain_moves : (command : Command) → is_unjudged command ≡ false → (to : List OpenSwap) → after.session ≡ Open to → (s.lab ≡ None → s.experiments ≡ []) → AllDiffer (busy_of session) → AllMove (opens_of session) s → LabStep terms at set s session command opening own after → AllMove to after.lab
  plain_moves command no' to is empty differ all step =
      let one = by_one (drill_of command) terms set s session command opening own after (plain_step terms at set s session command opening own after no' step) in
      step_moves (drill_of command) one.0 terms set s session command opening own after to is empty differ all (was one.0 terms set s command opening own after (drill_of command) session one.1)

  pub all_move : (command : Command) (to : List OpenSwap) → after.session ≡ Open to → (s.lab ≡ None → s.experiments ≡ []) → AllDiffer (busy_of session) → AllMove (opens_of session) s → LabStep terms at set s session command opening own after → AllMove to after.lab
  all_move (commands.Play exp from to' lines text) to is empty differ all step = list_moves (events_in_turn exp) (playing exp from to' text) _ (plays_any exp from to' text) terms at set s opening own after session empty all to is step
  all_move (commands.Batch moment lines text) to is empty differ all step = list_moves (runs_in_turn terms.rule moment) (serving text) _ (batches_any terms.rule moment text) terms at set s opening own after session empty all to is step
  all_move commands.Audit to is empty differ all step = audit_moves terms at set s opening own after session all to is step
  all_move command to is empty differ all step = plain_moves command refl to is empty differ all step

  plain_place : (command : Command) → is_unjudged command ≡ false → (reply : Reply) → after.reply ≡ Some reply → LabStep terms at set s session command opening own after → TellsPlace reply after.lab
  plain_place command no' reply is step = step_place terms set s session command opening own after reply is (plain_step terms at set s session command opening own after no' step)

  pub all_place : (command : Command) (reply : Reply) → after.reply ≡ Some reply → LabStep terms at set s session command opening own after → TellsPlace reply after.lab
  all_place (commands.Play exp from to lines text) reply is step = list_place (events_in_turn exp) (playing exp from to text) _ (plays_any exp from to text) terms at set s opening own after session reply is step
  all_place (commands.Batch moment lines text) reply is step = list_place (runs_in_turn terms.rule moment) (serving text) _ (batches_any terms.rule moment text) terms at set s opening own after session reply is step
  all_place commands.Audit reply is step = audit_place terms at set s opening own after session reply is step
  all_place command reply is step = plain_place command refl reply is step

-- NO REPLY OF A DRILL
pub all_no_drill : (terms : Terms) (at : Option (List Event)) (set : Setting) (s : LabState) (session : Session) (command : Command) (opening own : List Event) (after : After) → drill_of command ≡ None → LabStep terms at set s session command opening own after → of_drill_if after.reply ≡ false
all_no_drill terms at set s session (commands.Play exp from to lines text) opening own after is step = list_no_drill (events_in_turn exp) (playing exp from to text) _ (plays_any exp from to text) terms at set s opening own after session step
all_no_drill terms at set s session (commands.Batch moment lines text) opening own after is step = list_no_drill (runs_in_turn terms.rule moment) (serving text) _ (batches_any terms.rule moment text) terms at set s opening own after session step
all_no_drill terms at set s session commands.Audit opening own after is step = audit_no_drill terms at set s opening own after session step
all_no_drill terms at set s session command opening own after is step = plain_no_drill command refl is step
  where
    plain_no_drill : (command : Command) → is_unjudged command ≡ false → drill_of command ≡ None → LabStep terms at set s session command opening own after → of_drill_if after.reply ≡ false
    plain_no_drill command no' is step =
        step_so terms set s session command opening own after (subst (λ (d : Option Drill). StepOf d (DoesBy (JudgedBeside terms.rule command) set) terms s session opening own after) is (plain_step terms at set s session command opening own after no' step))
