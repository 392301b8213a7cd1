-- Laws of open swaps: which are open after a lab step.
use Rattle.std.specs.Prelude.{nat_le}
use Rattle.std.specs.Str.{bytes_eq}
use Rattle.std.proofs.Common.{◌≡◌, ◌≢◌, ◌⊎◌, inl, inr, ◌≤◌, ℕ, Bool, true, false, cond, List, [], ◌∷◌, ◌++◌, length, Option, Some, Result, Ok, Err, refl, sym, ap, ◌∙◌, subst, arith}
use Rattle.std.proofs.lemmas.Bool.{cond-false, leb-false, false_from_ne_true, or_parts}
use Rattle.std.proofs.lemmas.List.{append-nil, length-append, map-append}
use Rattle.std.proofs.lemmas.Slice.Eq.{bytes_eq-Decides}
use Rattle.std.proofs.lemmas.Option.{same_Some}
use Rattle.lab_base.specs.Lists.{Has, AllDiffer}
use Rattle.lab_model.proofs.ListLaws.{apart_drop}
use Rattle.plant.specs.Events.{Event}
use Rattle.plant.specs.declared.drill.Drill.{Drill}
use Rattle.journal_rec.specs.declared.record.Record.{Record}
use Rattle.journal_rec.specs.declared.record.Record.TheVariants.{Begin}
use Rattle.journal_rec.specs.declared.record.Way.{Way}
use Rattle.records_model.specs.Labs.{LabState}
use Rattle.recovery.specs.Due.{is_busy}
use Rattle.lab_base.specs.declared.what.What.TheVariants as whats
use Rattle.lab_base.proofs.Members.{Apart-append}
use Rattle.script_text.specs.declared.command.Command.{Command}
use Rattle.script_text.specs.declared.reply.Reply.{Reply}
use Rattle.script_text.specs.declared.reply.Reply.TheVariants as replies
use Rattle.script_text.specs.declared.reply.FailedEnd.TheVariants as ends
use Rattle.swap_turns.specs.Swaps.{Swap as SwapOf}
use Rattle.swap_turns.specs.Turning.{Outcome, More, TurnsBack, Ended, Stuck, Unwritten, Stopped as Halted}
use Rattle.lab_core.specs.Breaks.{Breaks, stopped, failed, unanswered}
use Rattle.lab_tasks.specs.Tasks.{Task, Tell, Append, Swap, BeginOnly, Turn, Finish, Recover}
use Rattle.lab_core.specs.LabSteps.{AppendEnds, whole, broken, Appends, IsAnswered, is_told, end_session, turn_reply, Swaps, BeginSteps, Begins as BeginsSwap, begun_at, IsOneOf, turned_on, has_space, IfSpace, Does, Drills, is_planned, is_refused, wants_memory, JudgedBeside}
use Rattle.lab_core.specs.Recovery.{Recovers, settled, broken_off}
use Rattle.lab_core.specs.Sessions.{OpenSwap, Session, Closed, Open, Setting, After, name_in, names_of, open_at, Terms}
use Rattle.lab_tasks.specs.OpenNames.{is_among, name_of}
use Rattle.lab_core.specs.Tells.{IsOpened, busy_of, opens_of}
use Rattle.lab_judge.proofs.Fits.{IsFit, fits}
use Rattle.lab_core.proofs.StepLaws.{Was, done, wanting, broke, drilled, none_told}

-- OPEN SWAPS BY NAME, without one of another name, and with it
pub at_without : (name : List ℕ) (front rest : List OpenSwap) (o : OpenSwap) → name_in o ≢ name → open_at name (front ++ o ∷ rest) ≡ open_at name (front ++ rest)
at_without name [] rest o apart = cond-false (bytes_eq (name_in o) name) (Some o) (open_at name rest) (false_from_ne_true (bytes_eq (name_in o) name) (λ h. apart ((bytes_eq-Decides (name_in o) name).0 h)))
at_without name (x ∷ front) rest o apart = ap (λ (at : Option OpenSwap). cond (bytes_eq (name_in x) name) (Some x) at) (at_without name front rest o apart)

pub at_turned : (name : List ℕ) (front rest : List OpenSwap) (o : OpenSwap) (steps : List Event) (outcome : Outcome) → name_in o ≢ name → open_at name (front ++ (turned_on o steps outcome ++ rest)) ≡ open_at name (front ++ o ∷ rest)
at_turned name front rest o steps More apart = at_without name front rest _ apart ∙ sym (at_without name front rest o apart)
at_turned name front rest o steps (TurnsBack why) apart = at_without name front rest _ apart ∙ sym (at_without name front rest o apart)
at_turned name front rest o steps (Ended leg) apart = sym (at_without name front rest o apart)
at_turned name front rest o steps (Stuck trouble) apart = sym (at_without name front rest o apart)
at_turned name front rest o steps Unwritten apart = sym (at_without name front rest o apart)
at_turned name front rest o steps Halted apart = sym (at_without name front rest o apart)

-- WHICH ARE OPEN after a judgement was done, where the controller stays open
abbrev pub IsNext : ℕ → List OpenSwap → Result Task Reply → List OpenSwap → Type 0
IsNext devices opens (Ok (BeginOnly exp way)) to = (to ≡ opens) ⊎ ((p : SwapOf) × (p.name ≡ exp) × (to ≡ opens ++ begun_at p devices ∷ []))
IsNext devices opens (Ok (Turn exp)) to = (one : IsOneOf opens exp) × (steps : List Event) × (outcome : Outcome) × (to ≡ one.front ++ (turned_on one.swap steps outcome ++ one.rest))
IsNext devices opens (Ok (Finish exp)) to = (one : IsOneOf opens exp) × (to ≡ one.front ++ one.rest)
IsNext devices opens judgement to = to ≡ opens

module _ (after : After) (to : List OpenSwap) (is : after.session ≡ Open to) where
  pub not_closed : {X : Type 0} → after.session ≡ Closed → X
  not_closed closed = let both : Closed ≡ Open to = sym closed ∙ is in absurd (cc both)

  pub open_is : (opens : List OpenSwap) → after.session ≡ Open opens → to ≡ opens
  open_is opens opened = let both : Open to ≡ Open opens = sym is ∙ opened in cc both

  by_outcome : (opens : List OpenSwap) (outcome : Outcome) → after.session ≡ end_session opens outcome → to ≡ opens
  by_outcome opens More ends = open_is opens ends
  by_outcome opens (TurnsBack why) ends = open_is opens ends
  by_outcome opens (Ended leg) ends = open_is opens ends
  by_outcome opens (Stuck trouble) ends = open_is opens ends
  by_outcome opens Unwritten ends = not_closed ends
  by_outcome opens Halted ends = not_closed ends

  pub answered_next : (told : Option Reply) (opens : List OpenSwap) (outcome : Outcome) (behind : List Event) → IsAnswered told opens outcome behind after → to ≡ opens
  answered_next told opens outcome behind (is_told starts replied session) = by_outcome opens outcome session

  module _ (s : LabState) (opens : List OpenSwap) (own : List Event) where
    replied_next : {lab : LabState} {reply : Option Reply} → after ≡ record { reply = reply; lab = lab; session = Open opens } → to ≡ opens
    replied_next after_is = open_is opens (ap (λ (a : After). a.session) after_is)

    append_next : (entry : Record) (told : Reply) → Appends s opens entry told own after → to ≡ opens
    append_next entry told a = by a.ends
      where
        by : AppendEnds s opens a.state told a.run a.more own after → to ≡ opens
        by (whole all none after_is) = replied_next after_is
        by (broken breaks said either closed) = not_closed closed

    space_next : (b : Bool) (length : ℕ) (Done Next : Type 0) → (Done → Next) → (to ≡ opens → Next) → IfSpace b length s opens Done own after → Next
    space_next true length Done Next each full d = each d
    space_next false length Done Next each full d = full (replied_next d.after_is)

    recover_next : Recovers s opens own after → to ≡ opens
    recover_next (settled outcomes settles told session) = open_is opens session
    recover_next (broken_off part breaks closed) = not_closed closed

    pub does_next : (set : Setting) (judgement : Result Task Reply) → Does set s opens judgement own after → IsNext set.devices opens judgement to
    does_next set (Err refusal) d = replied_next d.after_is
    does_next set (Ok (Tell told)) d = replied_next d.after_is
    does_next set (Ok (Append entry told)) d = space_next (has_space set entry) set.length (Appends s opens entry told own after) (to ≡ opens) (append_next entry told) (λ same. same) d
    does_next set (Ok (Swap exp way)) d =
        space_next (has_space set (Begin exp way)) set.length (Swaps s opens exp (Begin exp way) own after) (to ≡ opens) (λ w. answered_next _ opens w.outcome w.behind w.answered) (λ same. same) d
    does_next set (Ok (BeginOnly exp way)) d =
        space_next (has_space set (Begin exp way)) set.length (BeginsSwap s opens set.devices exp (Begin exp way) own after) (IsNext set.devices opens (Ok (BeginOnly exp way)) to)
        (λ w. inr (w.swap, w.name, answered_next _ (opens ++ begun_at w.swap set.devices ∷ []) w.outcome w.behind w.answered)) (λ same. inl same) d
    does_next set (Ok (Turn exp)) d = (d.one, d.steps, d.outcome, answered_next _ (d.one.front ++ (turned_on d.one.swap d.steps d.outcome ++ d.one.rest)) d.outcome d.behind d.answered)
    does_next set (Ok (Finish exp)) d = (d.one, answered_next _ (d.one.front ++ d.one.rest) d.outcome d.behind d.answered)
    does_next set (Ok Recover) d = recover_next d

-- WHAT THE STEP LEFT OPEN: what its judgement did with the open swaps that it began with, or just these
pub data Leaves (set : Setting) (session : Session) (command : Command) (judgement : Result Task Reply) (to : List OpenSwap) : Type 0 where
  goes : (mid : LabState) → IsFit mid command (is_among (busy_of session) (name_of command)) (length (opens_of session)) judgement → IsNext set.devices (opens_of session) judgement to → Leaves set session command judgement to
  stands : to ≡ opens_of session → Leaves set session command judgement to

pub drill_stands : (terms : Terms) (s : LabState) (session : Session) (own : List Event) (after : After) (to : List OpenSwap) → after.session ≡ Open to → Drills terms.takes s session own after → to ≡ opens_of session
drill_stands terms s session own after to is (is_planned yes' none after_is) = sym (ap opens_of (sym (ap (λ (a : After). a.session) after_is) ∙ is))
drill_stands terms s session own after to is (is_refused no' none after_is) = sym (ap opens_of (sym (ap (λ (a : After). a.session) after_is) ∙ is))
drill_stands terms s session own after to is (wants_memory wants) = not_closed after to is (ap (λ (a : After). a.session) wants.after_is)

pub leaves : (drill : Option Drill) (judgement : Result Task Reply) (terms : Terms) (set : Setting) (s : LabState) (session : Session) (command : Command) (opening own : List Event) (after : After) (to : List OpenSwap)
    → after.session ≡ Open to → Was drill judgement terms set s session command opening own after → Leaves set session command judgement to
leaves drill judgement terms set s session command opening own after to is (done mid opens begins judged d) =
    goes mid (fits mid (is_among (busy_of session) (name_of command)) (length (opens_of session)) terms.rule command judgement (subst (λ (l : List OpenSwap). JudgedBeside terms.rule command l mid judgement) begins.are judged))
    (subst (λ (l : List OpenSwap). IsNext set.devices l judgement to) begins.are (does_next after to is mid opens own set judgement d))
leaves drill judgement terms set s session command opening own after to is (wanting mid opens begins wants) = not_closed after to is (ap (λ (a : After). a.session) wants.after_is)
leaves drill judgement terms set s session command opening own after to is (broke none closed breaks) = not_closed after to is breaks.session
leaves drill judgement terms set s session command opening own after to is (drilled some none drills) = stands (drill_stands terms s session own after to is drills)

-- EACH OF ANOTHER NAME than the command's is open as it was
module _ (command : Command) (name : List ℕ) (other : name_of command ≢ Some name) (opens to : List OpenSwap) where
  apart_from : (own exp : List ℕ) → own ≡ exp → name_of command ≡ Some exp → own ≢ name
  apart_from own exp own_is is = λ same. other (is ∙ ap (λ (n : List ℕ). Some n) (sym own_is ∙ same))

  as_it_was : to ≡ opens → open_at name to ≡ open_at name opens
  as_it_was same = ap (λ (l : List OpenSwap). open_at name l) same

  next_others : (mid : LabState) (devices : ℕ) (judgement : Result Task Reply) → IsFit mid command (is_among (names_of opens) (name_of command)) (length opens) judgement → IsNext devices opens judgement to → open_at name to ≡ open_at name opens
  next_others mid devices (Err refusal) may next = as_it_was next
  next_others mid devices (Ok (Tell told)) may next = as_it_was next
  next_others mid devices (Ok (Append entry told)) may next = as_it_was next
  next_others mid devices (Ok (Swap exp way)) may next = as_it_was next
  next_others mid devices (Ok Recover) may next = as_it_was next
  next_others mid devices (Ok (BeginOnly exp way)) may (inl same) = as_it_was same
  next_others mid devices (Ok (BeginOnly exp way)) may (inr (p, named, is)) =
      ap (λ (l : List OpenSwap). open_at name l) is ∙ at_without name opens [] (begun_at p devices) (apart_from p.name exp named may.0)
      ∙ ap (λ (l : List OpenSwap). open_at name l) (append-nil opens)
  next_others mid devices (Ok (Turn exp)) may (one, steps, outcome, is) =
      ap (λ (l : List OpenSwap). open_at name l) is ∙ at_turned name one.front one.rest one.swap steps outcome (apart_from (name_in one.swap) exp one.name may.0)
      ∙ ap (λ (l : List OpenSwap). open_at name l) (sym one.are)
  next_others mid devices (Ok (Finish exp)) may (one, is) =
      ap (λ (l : List OpenSwap). open_at name l) is ∙ sym (at_without name one.front one.rest one.swap (apart_from (name_in one.swap) exp one.name may.0))
      ∙ ap (λ (l : List OpenSwap). open_at name l) (sym one.are)

pub others_as_they_were : (set : Setting) (session : Session) (command : Command) (judgement : Result Task Reply) (to : List OpenSwap) (name : List ℕ) → name_of command ≢ Some name → Leaves set session command judgement to → open_at name to ≡ open_at name (opens_of session)
others_as_they_were set session command judgement to name other (goes mid may next) = next_others command name other (opens_of session) to mid set.devices judgement may next
others_as_they_were set session command judgement to name other (stands same) = as_it_was command name other (opens_of session) to same

-- THEIR NAMES DIFFER
not_busy : (names : List (List ℕ)) (exp name : List ℕ) → is_busy names exp ≡ false → Has names name → name ≢ exp
not_busy [] exp name idle there = absurd there
not_busy (n ∷ names) exp name idle (inl same) = λ is.
    let first = (or_parts (bytes_eq n exp) (is_busy names exp) idle).0 in
    (let both : false ≡ true = sym first ∙ (bytes_eq-Decides n exp).1 (same ∙ is) in cc both)
not_busy (n ∷ names) exp name idle (inr there) = not_busy names exp name (or_parts (bytes_eq n exp) (is_busy names exp) idle).1 there

pub names_split : (front rest : List OpenSwap) → names_of (front ++ rest) ≡ names_of front ++ names_of rest
names_split front rest = map-append name_in front rest

with_one : (opens : List OpenSwap) (o : OpenSwap) → is_busy (names_of opens) (name_in o) ≡ false → AllDiffer (names_of opens) → AllDiffer (names_of (opens ++ o ∷ []))
with_one opens o idle differ =
    subst (λ l. AllDiffer l) (sym (names_split opens (o ∷ [])))
    (Apart-append (λ x y. x ≢ y) (names_of opens) (name_in o ∷ []) differ ((λ y h. absurd h), tt)
    (λ x y there last. elim last [ inl same ↦ (λ is. not_busy (names_of opens) (name_in o) x idle there (is ∙ sym same)) | inr none ↦ absurd none ]))

without_one : (front rest : List OpenSwap) (o : OpenSwap) → AllDiffer (names_of (front ++ o ∷ rest)) → AllDiffer (names_of (front ++ rest))
without_one front rest o differ =
    subst (λ l. AllDiffer l) (sym (names_split front rest)) (apart_drop (λ x y. x ≢ y) (names_of front) (names_of rest) (name_in o) (subst (λ l. AllDiffer l) (names_split front (o ∷ rest)) differ))

-- one stands in the place of another of its name
in_place : (front rest : List OpenSwap) (o q : OpenSwap) → name_in q ≡ name_in o → AllDiffer (names_of (front ++ o ∷ rest)) → AllDiffer (names_of (front ++ q ∷ rest))
in_place front rest o q named differ =
    subst (λ l. AllDiffer l) (names_split front (o ∷ rest) ∙ ap (λ n. names_of front ++ n ∷ names_of rest) (sym named) ∙ sym (names_split front (q ∷ rest))) differ

turned_differ : (front rest : List OpenSwap) (o : OpenSwap) (steps : List Event) (outcome : Outcome) → AllDiffer (names_of (front ++ o ∷ rest)) → AllDiffer (names_of (front ++ (turned_on o steps outcome ++ rest)))
turned_differ front rest o steps More differ = in_place front rest o _ refl differ
turned_differ front rest o steps (TurnsBack why) differ = in_place front rest o _ refl differ
turned_differ front rest o steps (Ended leg) differ = without_one front rest o differ
turned_differ front rest o steps (Stuck trouble) differ = without_one front rest o differ
turned_differ front rest o steps Unwritten differ = without_one front rest o differ
turned_differ front rest o steps Halted differ = without_one front rest o differ

-- there are no more than sixteen
with_one_few : (opens : List OpenSwap) (o : OpenSwap) → nat_le 16 (length opens) ≡ false → length (opens ++ o ∷ []) ≤ 16
with_one_few opens o free = omega (arith, length-append opens (o ∷ []), leb-false 16 (length opens) free)

turned_few : (o : OpenSwap) (steps : List Event) (outcome : Outcome) → length (turned_on o steps outcome) ≤ 1
turned_few o steps More = omega arith
turned_few o steps (TurnsBack why) = omega arith
turned_few o steps (Ended leg) = omega arith
turned_few o steps (Stuck trouble) = omega arith
turned_few o steps Unwritten = omega arith
turned_few o steps Halted = omega arith

-- what holds of these open swaps holds of those after the step: that their names differ, and that they are few
module _ (P : List OpenSwap → Type 0) (opens to : List OpenSwap) (holds : P opens) (command : Command)
    (one_more : (o : OpenSwap) → name_of command ≡ Some (name_in o) → is_among (names_of opens) (name_of command) ≡ false → nat_le 16 (length opens) ≡ false → P (opens ++ o ∷ []))
    (turned : (front rest : List OpenSwap) (o : OpenSwap) (steps : List Event) (outcome : Outcome) → P (front ++ o ∷ rest) → P (front ++ (turned_on o steps outcome ++ rest)))
    (ended : (front rest : List OpenSwap) (o : OpenSwap) → P (front ++ o ∷ rest) → P (front ++ rest)) where
  stays : to ≡ opens → P to
  stays same = subst P (sym same) holds

  next_holds : (mid : LabState) (devices : ℕ) (judgement : Result Task Reply) → IsFit mid command (is_among (names_of opens) (name_of command)) (length opens) judgement → IsNext devices opens judgement to → P to
  next_holds mid devices (Err refusal) may next = stays next
  next_holds mid devices (Ok (Tell told)) may next = stays next
  next_holds mid devices (Ok (Append entry told)) may next = stays next
  next_holds mid devices (Ok (Swap exp way)) may next = stays next
  next_holds mid devices (Ok Recover) may next = stays next
  next_holds mid devices (Ok (BeginOnly exp way)) may (inl same) = stays same
  next_holds mid devices (Ok (BeginOnly exp way)) may (inr (p, named, is)) =
      subst P (sym is) (one_more (begun_at p devices) (may.0 ∙ ap (λ (n : List ℕ). Some n) (sym named)) may.1 may.2)
  next_holds mid devices (Ok (Turn exp)) may (one, steps, outcome, is) = subst P (sym is) (turned one.front one.rest one.swap steps outcome (subst P one.are holds))
  next_holds mid devices (Ok (Finish exp)) may (one, is) = subst P (sym is) (ended one.front one.rest one.swap (subst P one.are holds))

pub names_differ : (set : Setting) (session : Session) (command : Command) (judgement : Result Task Reply) (to : List OpenSwap) → AllDiffer (busy_of session) → Leaves set session command judgement to → AllDiffer (names_of to)
names_differ set session command judgement to differ (goes mid may next) =
    next_holds (λ l. AllDiffer (names_of l)) (opens_of session) to differ command
    (λ o is idle free. with_one (opens_of session) o (sym (ap (λ n. is_among (busy_of session) n) is) ∙ idle) differ) turned_differ without_one mid set.devices judgement may next
names_differ set session command judgement to differ (stands same) = subst (λ l. AllDiffer (names_of l)) (sym same) differ

pub they_are_few : (set : Setting) (session : Session) (command : Command) (judgement : Result Task Reply) (to : List OpenSwap) → length (opens_of session) ≤ 16 → Leaves set session command judgement to → length to ≤ 16
they_are_few set session command judgement to few (goes mid may next) =
    next_holds (λ l. length l ≤ 16) (opens_of session) to few command (λ o is idle free. with_one_few (opens_of session) o free)
    (λ front rest o steps outcome h. omega (
      arith,
      h,
      length-append front (o ∷ rest),
      length-append front (turned_on o steps outcome ++ rest),
      length-append (turned_on o steps outcome) rest,
      turned_few o steps outcome,
    ))
    (λ front rest o h. omega (arith, h, length-append front (o ∷ rest), length-append front rest)) mid set.devices judgement may next
they_are_few set session command judgement to few (stands same) = subst (λ l. length l ≤ 16) (sym same) few

-- ONE THAT `open` BEGAN
module _ (own : List Event) (after : After) (exp name : List ℕ) (way : Way) (is : after.reply ≡ Some (replies.More name)) where
  abbrev HasBegun : ℕ → List OpenSwap → Type 0
  HasBegun devices opens = (name ≡ exp) × ((to : List OpenSwap) × (after.session ≡ Open to) × IsOpened exp devices after.lab opens to)

  tells_other : {X : Type 0} (told : Reply) → after.reply ≡ Some told → (told ≡ replies.More name → ⊥) → X
  tells_other told told_is no' = absurd (no' (same_Some told (replies.More name) (sym told_is ∙ is)))

  begun_by : (s : LabState) (opens : List OpenSwap) (devices : ℕ) → BeginsSwap s opens devices exp (Begin exp way) own after → HasBegun devices opens
  begun_by s opens devices d = by d.answered
    where
      to : List OpenSwap
      to = opens ++ begun_at d.swap devices ∷ []

      by_outcome : (outcome : Outcome) → BeginSteps s (Begin exp way) d.move d.steps after.lab outcome → after.reply ≡ turn_reply d.swap outcome → after.session ≡ end_session to outcome → HasBegun devices opens
      by_outcome More b told session =
          let same : replies.More name ≡ replies.More d.swap.name = same_Some (replies.More name) (replies.More d.swap.name) (sym is ∙ told) in
          ((let one : name ≡ d.swap.name = cc same in one ∙ d.name), (to, session, record { swap = d.swap; name = d.name; moves = d.moves after.lab b.moves; is = refl }))
      by_outcome Unwritten b told session = tells_other (replies.Failed d.swap.name ends.Stuck whats.Journal) told (λ h. cc h)
      by_outcome Halted b told session = tells_other replies.Stopped told (λ h. cc h)
      by_outcome (TurnsBack why) b told session = absurd b
      by_outcome (Ended leg) b told session = absurd b
      by_outcome (Stuck trouble) b told session = absurd b

      by : IsAnswered (turn_reply d.swap d.outcome) to d.outcome d.behind after → HasBegun devices opens
      by (is_told starts told session) = by_outcome d.outcome d.begins told session

  if_space : (s : LabState) (opens : List OpenSwap) (devices : ℕ) (b : Bool) (length : ℕ) → IfSpace b length s opens (BeginsSwap s opens devices exp (Begin exp way) own after) own after → HasBegun devices opens
  if_space s opens devices true length d = begun_by s opens devices d
  if_space s opens devices false length d = tells_other (replies.FullJournal length) (ap (λ (a : After). a.reply) d.after_is) (λ h. cc h)

  breaks_not : {X : Type 0} (events : List Event) → Breaks events after.reply → X
  breaks_not events (stopped ends told) = tells_other replies.Stopped told (λ h. cc h)
  breaks_not events (failed no' miss told) = tells_other replies.Down told (λ h. cc h)
  breaks_not events (unanswered none) = none_told after.reply (replies.More name) none is

  drill_not : {X : Type 0} (terms : Terms) (s : LabState) (session : Session) → Drills terms.takes s session own after → X
  drill_not terms s session (is_planned yes' none a) = tells_other replies.Planned (ap (λ (v : After). v.reply) a) (λ h. cc h)
  drill_not terms s session (is_refused no' none a) = tells_other replies.NoDrill (ap (λ (v : After). v.reply) a) (λ h. cc h)
  drill_not terms s session (wants_memory wants) = none_told after.reply (replies.More name) (ap (λ (v : After). v.reply) wants.after_is) is

  pub one_begun : (drill : Option Drill) (terms : Terms) (set : Setting) (s : LabState) (session : Session) (command : Command) (opening : List Event) → Was drill (Ok (BeginOnly exp way)) terms set s session command opening own after → HasBegun set.devices (opens_of session)
  one_begun drill terms set s session command opening (done mid opens begins judged d) = subst (λ l. HasBegun set.devices l) begins.are (if_space mid opens set.devices (has_space set (Begin exp way)) set.length d)
  one_begun drill terms set s session command opening (wanting mid opens begins wants) = none_told after.reply (replies.More name) (ap (λ (a : After). a.reply) wants.after_is) is
  one_begun drill terms set s session command opening (broke no' closed breaks) = breaks_not opening breaks.breaks
  one_begun drill terms set s session command opening (drilled some none drills) = drill_not terms s session drills
