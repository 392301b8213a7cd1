-- The experiment of each open swap moves, and a lab step leaves it so while the swap is open.
use Rattle.std.proofs.Common.{◌≡◌, ◌≢◌, ◌⊎◌, inl, inr, ⊎_elim, ℕ, Bool, true, false, is_some, List, [], ◌∷◌, ◌++◌, length, Option, Some, None, Result, Ok, Err, refl, sym, ap, ◌∙◌, subst}
use Rattle.std.proofs.lemmas.Option.{same_Some}
use Rattle.lab_base.specs.Lists.{AllDiffer, Has}
use Rattle.lab_base.proofs.Members.{Apart-across, Apart-right, Has-append, Has-left, Has-mapped, Has-right}
use Rattle.plant.specs.Events.{Event}
use Rattle.plant.specs.declared.drill.Drill.{Drill}
use Rattle.phys_lab.specs.Labs.{Lab}
use Rattle.journal_rec.specs.declared.record.Record.{Record}
use Rattle.journal_rec.specs.declared.record.Record.TheVariants as records
use Rattle.journal_rec.specs.declared.record.Way.{Way}
use Rattle.records_model.specs.Labs.{LabState, find, moved}
use Rattle.records_model.proofs.Finding.{none_some}
use Rattle.script_text.specs.declared.command.Command.{Command}
use Rattle.script_text.specs.declared.reply.Reply.{Reply}
use Rattle.swap_turns.specs.Swaps.{Swap as SwapOf, Moves}
use Rattle.swap_turns.specs.Turning.{Outcome, More, TurnsBack, Ended, Stuck, Unwritten, Stopped as Halted, TurnSteps}
use Rattle.lab_tasks.specs.Tasks.{Task, Tell, Append, Swap, BeginOnly, Turn, Finish, Recover, EndsNoMove}
use Rattle.lab_core.specs.LabSteps.{AppendEnds, whole, broken, Appends, IsAnswered, is_told, end_session, turn_reply, BeginSteps, Begins as BeginsSwap, begun_at, IsOneOf, turned_on, has_space, IfSpace, Does}
use Rattle.lab_core.specs.Sessions.{OpenSwap, Session, Closed, Open, Setting, After, name_in, names_of, Terms}
use Rattle.lab_tasks.specs.OpenNames.{is_among, name_of}
use Rattle.lab_core.specs.Tells.{AllMove, BeginsAt, busy_of, opens_of}
use Rattle.lab_judge.proofs.Fits.{IsFit, IsOwn, fits}
use Rattle.lab_core.proofs.TasksApart.{task_apart}
use Rattle.lab_core.proofs.OpenLaws.{answered_next, does_next, drill_stands, names_split, not_closed, open_is}
use Rattle.lab_tasks.proofs.Busy.{has_busy}
use Rattle.lab_core.proofs.Others.{record_leaves}
use Rattle.lab_core.proofs.StepLaws.{Was, done, wanting, broke, drilled, does_stays, drill_is}

-- it moves so where its experiment is as it was
pub moves_on : (p : SwapOf) (s u : LabState) → find p.name u.experiments ≡ find p.name s.experiments → Moves p s → Moves p u
moves_on p s u same m = record { is_swap = m.is_swap; short = m.short; exp = m.exp; found = same ∙ m.found; moving = m.moving }

-- where one moves the lab is set
pub set_by : (p : SwapOf) (s : LabState) → (s.lab ≡ None → s.experiments ≡ []) → Moves p s → is_some s.lab ≡ true
set_by p s empty m = by s.lab refl
  where
    by : (o : Option Lab) → s.lab ≡ o → is_some s.lab ≡ true
    by None is = none_some m.exp (sym (ap (λ l. find p.name l) (empty is)) ∙ m.found)
    by (Some lab) is = ap is_some is

-- one of open swaps, whose names all differ, has another name than each beside it
pub beside_one : (front rest : List OpenSwap) (one q : OpenSwap) → AllDiffer (names_of (front ++ one ∷ rest)) → Has front q ⊎ Has rest q → name_in one ≢ name_in q
beside_one front rest one q differ there = by there
  where
    split : AllDiffer (names_of front ++ names_of (one ∷ rest))
    split = subst (λ l. AllDiffer l) (names_split front (one ∷ rest)) differ

    by : Has front q ⊎ Has rest q → name_in one ≢ name_in q
    by (inl before) = λ same. Apart-across (λ x y. x ≢ y) (names_of front) (names_of (one ∷ rest)) (name_in q) (name_in one) split (Has-mapped name_in front q before) (inl refl) (sym same)
    by (inr behind) = λ same. (Apart-right (λ x y. x ≢ y) (names_of front) (names_of (one ∷ rest)) split).0 (name_in q) (Has-mapped name_in rest q behind) same

-- a swap that is open after its turn is the one that was turned, and the lab is as it was
turned_same : (s after : LabState) (o q : OpenSwap) (steps : List Event) (outcome : Outcome) → Has (turned_on o steps outcome) q → TurnSteps s o.running steps outcome after → (q.running.swap ≡ o.running.swap) × (after ≡ s)
turned_same s after o q steps More (inl is) turn = (ap (λ (x : OpenSwap). x.running.swap) (sym is), turn.2)
turned_same s after o q steps (TurnsBack why) (inl is) turn = (ap (λ (x : OpenSwap). x.running.swap) (sym is), turn.4)
turned_same s after o q steps More (inr none) turn = absurd none
turned_same s after o q steps (TurnsBack why) (inr none) turn = absurd none
turned_same s after o q steps (Ended leg) there turn = absurd there
turned_same s after o q steps (Stuck trouble) there turn = absurd there
turned_same s after o q steps Unwritten there turn = absurd there
turned_same s after o q steps Halted there turn = absurd there

own_ends_none : (s : LabState) (name : Option (List ℕ)) (entry : Record) → IsOwn s name entry → EndsNoMove entry
own_ends_none s name (records.Lab ptop) own = tt
own_ends_none s name (records.Create exp top) own = tt
own_ends_none s name (records.Create2 exp top) own = tt
own_ends_none s name (records.Delete exp) own = tt
own_ends_none s name entry own = absurd own

-- WHAT AN OPEN CONTROLLER DOES leaves each experiment moving whose swap is open after it
module _ (own : List Event) (after : After) (to : List OpenSwap) (is : after.session ≡ Open to) (s : LabState) (opens : List OpenSwap) (empty : (o : OpenSwap) → Has opens o → s.lab ≡ None → s.experiments ≡ []) (differ : AllDiffer (names_of opens)) (all : AllMove opens s)
    (set : Setting) (command : Command) (count : ℕ) where
  abbrev Fits : Result Task Reply → Type 0
  Fits judgement = IsFit s command (is_among (names_of opens) (name_of command)) count judgement

  abbrev Next : Type 0
  Next = AllMove to after.lab

  so_by : ((o : OpenSwap) → Has opens o → Moves o.running.swap after.lab) → to ≡ opens → Next
  so_by each next o there = each o (subst (λ l. Has l o) next there)

  unmoved : after.lab ≡ s → (o : OpenSwap) → Has opens o → Moves o.running.swap after.lab
  unmoved same o there = subst (λ u. Moves o.running.swap u) (sym same) (all o there)

  replied : (reply : Option Reply) → after ≡ record { reply = reply; lab = s; session = Open opens } → Next
  replied reply after_is = so_by (unmoved (ap (λ (a : After). a.lab) after_is)) (open_is after to is opens (ap (λ (a : After). a.session) after_is))

  spaced : (b : Bool) (length : ℕ) (Done : Type 0) → (Done → Next) → IfSpace b length s opens Done own after → Next
  spaced true length Done each d = each d
  spaced false length Done each d = replied _ d.after_is

  appended : (entry : Record) (told : Reply) → EndsNoMove entry → Appends s opens entry told own after → Next
  appended entry told no_end d = by d.ends
    where
      each : after.lab ≡ d.state → (o : OpenSwap) → Has opens o → Moves o.running.swap after.lab
      each lab_is o there =
          let m = all o there in
          let left = record_leaves s d.state entry d.move o.running.swap (empty o there) no_end d.says m d.moves in
          moves_on o.running.swap s after.lab (ap (λ (u : LabState). find o.running.swap.name u.experiments) lab_is ∙ left.1) m

      by : AppendEnds s opens d.state told d.run d.more own after → Next
      by (whole ran none after_is) = so_by (each (ap (λ (a : After). a.lab) after_is)) (open_is after to is opens (ap (λ (a : After). a.session) after_is))
      by (broken breaks said either closed) = not_closed after to is closed

  -- an experiment that the command is not about
  others : (judgement : Result Task Reply) → Fits judgement → Does set s opens judgement own after → (o : OpenSwap) → Has opens o → name_of command ≢ Some (name_in o) → Moves o.running.swap after.lab
  others judgement fit d o there other =
      let m = all o there in
      let there_is = set_by o.running.swap s (empty o there) m in
      let busy = is_among (names_of opens) (name_of command) in
      moves_on o.running.swap s after.lab
      (does_stays (name_in o) own after s there_is opens set judgement
      (λ task same. task_apart (name_in o) (names_of opens) s command busy count task (subst (λ (j : Result Task Reply). Fits j) same fit)
      (λ recovers. inl (has_busy (names_of opens) (name_in o) (Has-mapped name_in opens o there))) there_is other) d).same m

  idle : is_among (names_of opens) (name_of command) ≡ false → (o : OpenSwap) → Has opens o → name_of command ≢ Some (name_in o)
  idle free o there = λ same. (let both : false ≡ true = sym free ∙ ap (λ n. is_among (names_of opens) n) same ∙ has_busy (names_of opens) (name_in o) (Has-mapped name_in opens o there) in cc both)

  -- a swap that is only begun
  begun : (exp : List ℕ) (way : Way) → Fits (Ok (BeginOnly exp way)) → Does set s opens (Ok (BeginOnly exp way)) own after → BeginsSwap s opens set.devices exp (records.Begin exp way) own after → Next
  begun exp way fit d w o there = ⊎_elim (λ old. others (Ok (BeginOnly exp way)) fit d o old (idle fit.1 o old)) (λ new. at_new new) (Has-append opens (begun_at w.swap set.devices ∷ []) o (subst (λ l. Has l o) next there))
    where
      next : to ≡ opens ++ begun_at w.swap set.devices ∷ []
      next = answered_next after to is _ (opens ++ begun_at w.swap set.devices ∷ []) w.outcome w.behind w.answered

      by_outcome : (outcome : Outcome) → BeginSteps s (records.Begin exp way) w.move w.steps after.lab outcome → after.session ≡ end_session (opens ++ begun_at w.swap set.devices ∷ []) outcome → moved s w.move ≡ Some after.lab
      by_outcome More b session = b.moves
      by_outcome Unwritten b session = not_closed after to is session
      by_outcome Halted b session = not_closed after to is session
      by_outcome (TurnsBack why) b session = absurd b
      by_outcome (Ended leg) b session = absurd b
      by_outcome (Stuck trouble) b session = absurd b

      by : IsAnswered (turn_reply w.swap w.outcome) (opens ++ begun_at w.swap set.devices ∷ []) w.outcome w.behind after → moved s w.move ≡ Some after.lab
      by (is_told starts told session) = by_outcome w.outcome w.begins session

      at_new : Has (begun_at w.swap set.devices ∷ []) o → Moves o.running.swap after.lab
      at_new (inl same) = subst (λ (p : SwapOf). Moves p after.lab) (ap (λ (x : OpenSwap). x.running.swap) same) (w.moves after.lab (by w.answered))
      at_new (inr none) = absurd none

  -- those beside the one that the command turns
  among : (exp : List ℕ) (one : IsOneOf opens exp) (o : OpenSwap) → Has one.front o ⊎ Has one.rest o → Has opens o
  among exp one o (inl before) = subst (λ l. Has l o) (sym one.are) (Has-left one.front (one.swap ∷ one.rest) o before)
  among exp one o (inr behind) = subst (λ l. Has l o) (sym one.are) (Has-right one.front (one.swap ∷ one.rest) o (inr behind))

  beside : (exp : List ℕ) (judgement : Result Task Reply) → name_of command ≡ Some exp → Fits judgement → Does set s opens judgement own after → (one : IsOneOf opens exp) (o : OpenSwap) → Has one.front o ⊎ Has one.rest o → Moves o.running.swap after.lab
  beside exp judgement named fit d one o there =
      others judgement fit d o (among exp one o there)
      (λ same. beside_one one.front one.rest one.swap o (subst (λ l. AllDiffer (names_of l)) one.are differ) there (one.name ∙ same_Some exp (name_in o) (sym named ∙ same)))

  pub goes_on_moving : (judgement : Result Task Reply) → Fits judgement → Does set s opens judgement own after → Next
  goes_on_moving (Err refusal) fit d = replied _ d.after_is
  goes_on_moving (Ok (Tell told)) fit d = replied _ d.after_is
  goes_on_moving (Ok (Append entry told)) fit d = spaced (has_space set entry) set.length (Appends s opens entry told own after) (appended entry told (own_ends_none s (name_of command) entry fit.1)) d
  goes_on_moving (Ok (Swap exp way)) fit d = so_by (λ o there. others (Ok (Swap exp way)) fit d o there (idle fit.1 o there)) (does_next after to is s opens own set (Ok (Swap exp way)) d)
  goes_on_moving (Ok (BeginOnly exp way)) fit d =
      spaced (has_space set (records.Begin exp way)) set.length (BeginsSwap s opens set.devices exp (records.Begin exp way) own after) (begun exp way fit d) d
  goes_on_moving (Ok (Turn exp)) fit d = λ o there.
      let on = turned_on d.one.swap d.steps d.outcome in
      let next = answered_next after to is _ (d.one.front ++ (on ++ d.one.rest)) d.outcome d.behind d.answered in
      ⊎_elim (λ before. beside exp (Ok (Turn exp)) fit.0 fit d d.one o (inl before))
      (λ more. ⊎_elim
      (λ it.
      let same = turned_same s after.lab d.one.swap o d.steps d.outcome it d.turn in
      subst (λ (u : LabState). Moves o.running.swap u) (sym same.1) (subst (λ (p : SwapOf). Moves p s) (sym same.0) d.moves))
      (λ behind. beside exp (Ok (Turn exp)) fit.0 fit d d.one o (inr behind)) (Has-append on d.one.rest o more))
      (Has-append d.one.front (on ++ d.one.rest) o (subst (λ l. Has l o) next there))
  goes_on_moving (Ok (Finish exp)) fit d = λ o there.
      let next = answered_next after to is _ (d.one.front ++ d.one.rest) d.outcome d.behind d.answered in
      beside exp (Ok (Finish exp)) fit.0 fit d d.one o (Has-append d.one.front d.one.rest o (subst (λ l. Has l o) next there))
  goes_on_moving (Ok Recover) fit d = so_by (λ o there. others (Ok Recover) fit d o there (λ same. (let none : None ≡ Some (name_in o) = sym (ap name_of fit) ∙ same in cc none))) (does_next after to is s opens own set (Ok Recover) d)

-- A LAB STEP that leaves the controller open
pub step_moves : (drill : Option Drill) (judgement : Result Task Reply) (terms : Terms) (set : Setting) (s : LabState) (session : Session) (command : Command) (opening own : List Event) (after : After) (to : List OpenSwap) → after.session ≡ Open to
    → (s.lab ≡ None → s.experiments ≡ []) → AllDiffer (busy_of session) → AllMove (opens_of session) s → Was drill judgement terms set s session command opening own after → AllMove to after.lab
step_moves drill judgement terms set s session command opening own after to is empty differ all (done mid opens begins judged d) = by session begins.at begins.are all differ
  where
    goes : ((o : OpenSwap) → Has opens o → mid.lab ≡ None → mid.experiments ≡ []) → AllDiffer (names_of opens) → AllMove opens mid → AllMove to after.lab
    goes empty differ all =
        goes_on_moving own after to is mid opens empty differ all set command (length opens) judgement (fits mid (is_among (names_of opens) (name_of command)) (length opens) terms.rule command judgement judged) d

    by : (from : Session) → BeginsAt from s opening mid → opens ≡ opens_of from → AllMove (opens_of from) s → AllDiffer (busy_of from) → AllMove to after.lab
    by Closed at are all differ =
        goes (λ o there. absurd (subst (λ l. Has l o) are there)) (subst (λ l. AllDiffer (names_of l)) (sym are) differ) (λ o there. absurd (subst (λ l. Has l o) are there))
    by (Open old) at are all differ =
        goes (λ o there none. ap (λ (u : LabState). u.experiments) at ∙ empty (ap (λ (u : LabState). u.lab) (sym at) ∙ none)) (subst (λ l. AllDiffer (names_of l)) (sym are) differ)
        (λ o there. subst (λ (u : LabState). Moves o.running.swap u) (sym at) (all o (subst (λ l. Has l o) are there)))
step_moves drill judgement terms set s session command opening own after to is empty differ all (wanting mid opens begins wants) = not_closed after to is (ap (λ (a : After). a.session) wants.after_is)
step_moves drill judgement terms set s session command opening own after to is empty differ all (broke none closed breaks) = not_closed after to is breaks.session
step_moves drill judgement terms set s session command opening own after to is empty differ all (drilled some none drills) = λ o there.
    subst (λ (u : LabState). Moves o.running.swap u) (sym (drill_is terms s session own after drills).1) (all o (subst (λ l. Has l o) (drill_stands terms s session own after to is drills) there))
