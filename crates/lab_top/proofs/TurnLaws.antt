-- Laws of a run in which many swaps are open: commands that are about others leave an open swap as it is, and the experiment with it.
use Rattle.std.proofs.Common.{◌≡◌, ◌≢◌, ◌⊎◌, inl, inr, ⊎_elim, ℕ, ◌^◌, Bool, true, false, ◌||◌, List, [], ◌∷◌, ◌++◌, length, arith, Option, Some, None, Result, Ok, Err, refl, sym, ◌∙◌, ap, subst, if◌then◌else◌}
use Rattle.std.specs.Prelude.{is_some, not, ◌≤◌}
use Rattle.std.specs.Str.{bytes_eq}
use Rattle.std.proofs.lemmas.List.{append-nil}
use Rattle.lab_base.specs.Lists.{AllDiffer, Has}
use Rattle.plant.specs.Events.{Event}
use Rattle.plant.specs.Told.{Told}
use Rattle.plant.specs.declared.drill.Drill.{Drill}
use Rattle.plant.specs.declared.moment.Faults.{Faults}
use Rattle.plant.specs.Worlds.{world_of}
use Rattle.virt_topo.specs.declared.experiment.Experiment.{Experiment}
use Rattle.records_model.specs.Labs.{LabState, lab_in}
use Rattle.records_model.specs.Works.{IsSound}
use Rattle.records_model.proofs.LabLaws.{lab_sane}
use Rattle.lab_state.specs.Texts.{the_texts}
use Rattle.swap_turns.specs.Pieces.{has_command, has_miss, has_restart}
use Rattle.recovery.specs.Due.{is_busy}
use Rattle.script_text.specs.Drills.{drill_of}
use Rattle.script_text.specs.declared.command.Command.{Command}
use Rattle.script_text.specs.declared.command.Command.TheVariants as commands
use Rattle.script_text.specs.declared.reply.Reply.{Reply}
use Rattle.script_text.specs.Replies.{closes}
use Rattle.lab_tasks.specs.Tasks.{Task, Turn}
use Rattle.lab_model.specs.Leavings.{SameFor}
use Rattle.lab_core.specs.Moments.{IsLabAt}
use Rattle.lab_core.specs.LabSteps.{Does, IsDoneBy, JudgedBeside, does, no_memory, not_opened, opened}
use Rattle.lab_core.specs.Commands.{LabStep, is_about}
use Rattle.lab_core.specs.Sessions.{OpenSwap, Session, Closed, Open, Setting, After, name_in, names_of, open_at, Terms}
use Rattle.lab_tasks.specs.OpenNames.{is_among}
use Rattle.lab_core.specs.Tells.{IsTurn, IsTurnOf, SendsOne, busy_of, is_stopped, opens_of, settles}
use Rattle.lab_core.proofs.OpenLaws.{Leaves, names_differ, others_as_they_were, they_are_few}
use Rattle.lab_core.proofs.ListSteps.{about_not, all_leave}
use Rattle.lab_core.proofs.OtherWorlds.{others_spared, turn_or_refused}
use Rattle.lab_core.proofs.SameSwaps.{same_swap}
use Rattle.lab_core.proofs.StepLaws.{Was, was}
use Rattle.std.proofs.lemmas.Option.{same_Some}
use Rattle.lab_core.proofs.TurnLaws.{one_turn, turn_at_most_one}
use Rattle.lab_top.specs.Pieces.{Piece, Begun, AllHave, AreHandedOn, AreOthers, ArePieces, ButForReply, Counts, Finds, IsPiece, Leads, StayOpen, StepsFrom, is_closed, session_after, stays_open, steps_of, trace_after}
use Rattle.lab_top.specs.Ran.{Outside, Ran}
use Rattle.lab_words.specs.Words.{Choices}
use Rattle.lab_top.specs.declared.status.Status.{Status}
use Rattle.lab_top.proofs.Pieces.{trace-push}
use Rattle.lab_top.proofs.RunLaws.{AreSparing, kept_along, piece_at, pieces_of, told_of, was_of}

-- a piece that leaves the session open is answered
pub replied : (terms : Terms) (trace : List Event) (piece : Piece) (reply : Option Reply) → piece.reply ≡ reply → IsPiece terms trace piece → is_closed piece.to ≡ false → is_some piece.reply ≡ true
replied terms trace piece (Some reply) told is open_now = ap is_some told
replied terms trace piece None told is open_now = absurd (cc (ap is_closed (is.leaves (ap stays_open told)), open_now))

-- ONE PIECE that leaves the session open: what it left open, by its judgement; or it was a drill, and the session is as it was
module _ (terms : Terms) (trace : List Event) (piece : Piece) (is : IsPiece terms trace piece) (open_now : is_closed piece.to ≡ false) where
  abbrev LeavesSo : Type 0
  LeavesSo = (opens_of piece.to ≡ opens_of piece.from) ⊎ ((to : List OpenSwap) × (piece.to ≡ Open to) × (set : Setting) × (judgement : Result Task Reply) × Leaves set piece.from piece.command judgement to)

  answered : is_some piece.reply ≡ true
  answered = replied terms trace piece piece.reply refl is open_now

  by_step : (l : Leads terms trace piece) (to : Session) → piece.to ≡ to → l.steps.session ≡ to → is_closed to ≡ false → LeavesSo
  by_step l Closed is_to ended goes = absurd (cc goes)
  by_step l (Open others) is_to ended goes =
      let s = l.steps in
      let at : Setting = record { length = s.length; limit = 2 ^ 32; devices = piece.faults.devices } in
      let own = piece.own ++ s.behind in
      let after : After = record { reply = s.told; lab = l.last; session = s.session } in
      ⊎_elim (λ same. inl (ap opens_of is_to ∙ same)) (λ one. inr (others, is_to, at, one.0, one.1)) (all_leave terms (Some trace) at l.first piece.from piece.opening own after piece.command others ended s.step)

  told_to : (l : Leads terms trace piece) (reply : Option Reply) → piece.reply ≡ reply → is_some reply ≡ true → l.steps.session ≡ piece.to
  told_to l None told there = absurd (cc there)
  told_to l (Some reply) told there = (subst (λ (o : Option Reply). ButForReply o piece.to l.steps.told l.steps.session l.steps.behind) told l.steps.is_told).1

  pub leaves_so : LeavesSo
  leaves_so = by (drill_of piece.command) refl
    where
      by : (drill : Option Drill) → drill_of piece.command ≡ drill → LeavesSo
      by (Some drill) it = let finds = subst (λ (d : Option Drill). Finds d piece.from trace piece) it is.finds in inl (ap opens_of (finds.2 answered))
      by None it = let l = is.leads it open_now in by_step l piece.to refl (told_to l piece.reply refl answered) open_now

  -- an open swap of another name than the command's
  pub swap_stays : (name : List ℕ) → is_about piece.command name ≡ false → open_at name (opens_of piece.to) ≡ open_at name (opens_of piece.from)
  swap_stays name other =
      ⊎_elim (λ same. ap (open_at name) same) (λ x. ap (λ s. open_at name (opens_of s)) x.1 ∙ others_as_they_were x.2 piece.from piece.command x.3 x.0 name (about_not piece.command name other) x.4) leaves_so

  -- one that stays open is the same swap
  pub stays_same : (name : List ℕ) (o q : OpenSwap) → AllDiffer (busy_of piece.from) → open_at name (opens_of piece.from) ≡ Some o → open_at name (opens_of piece.to) ≡ Some q → q.running.swap ≡ o.running.swap
  stays_same name o q differ was_at is_at =
      ⊎_elim (λ same. ap (λ (y : OpenSwap). y.running.swap) (same_Some q o (sym is_at ∙ ap (open_at name) same ∙ was_at)))
      (λ x. same_swap name x.2 piece.from piece.command x.3 x.0 o q differ was_at (sym (ap (λ s. open_at name (opens_of s)) x.1) ∙ is_at) x.4) leaves_so

  -- their names differ, and they are few
  pub are_few : length (opens_of piece.from) ≤ 16 → length (opens_of piece.to) ≤ 16
  are_few few = ⊎_elim (λ same. subst (λ l. length l ≤ 16) (sym same) few) (λ x. subst (λ s. length (opens_of s) ≤ 16) (sym x.1) (they_are_few x.2 piece.from piece.command x.3 x.0 few x.4)) leaves_so

  pub they_differ : AllDiffer (busy_of piece.from) → AllDiffer (busy_of piece.to)
  they_differ differ = ⊎_elim (λ same. subst (λ l. AllDiffer (names_of l)) (sym same) differ) (λ x. subst (λ s. AllDiffer (busy_of s)) (sym x.1) (names_differ x.2 piece.from piece.command x.3 x.0 differ x.4)) leaves_so

-- OVER ALL PIECES
pub all_few : (terms : Terms) (trace : List Event) (session : Session) (made after : List Begun) → ArePieces terms trace (made ++ after) → AreHandedOn session (made ++ after) → length (opens_of session) ≤ 16 → AllDiffer (busy_of session)
    → (length (opens_of (session_after session made)) ≤ 16) × AllDiffer (busy_of (session_after session made))
all_few terms trace session [] after are handed few differ = (few, differ)
all_few terms trace session (b ∷ made) after are handed few differ =
    all_few terms (trace ++ steps_of b.piece) b.piece.to made after are.1 handed.1
    (few_to b.piece.to refl)
    (differ_to b.piece.to refl)
  where
    few_to : (to : Session) → b.piece.to ≡ to → length (opens_of b.piece.to) ≤ 16
    few_to Closed is = subst (λ s. length (opens_of s) ≤ 16) (sym is) (omega arith)
    few_to (Open opens) is = are_few terms trace b.piece are.0 (ap is_closed is) (subst (λ s. length (opens_of s) ≤ 16) (sym handed.0) few)

    differ_to : (to : Session) → b.piece.to ≡ to → AllDiffer (busy_of b.piece.to)
    differ_to Closed is = subst (λ s. AllDiffer (busy_of s)) (sym is) tt
    differ_to (Open opens) is = they_differ terms trace b.piece are.0 (ap is_closed is) (subst (λ s. AllDiffer (busy_of s)) (sym handed.0) differ)

-- each open swap has the count of a mark
pub all_marked : (terms : Terms) (entry exit : Faults) (session : Session) (made after : List Begun) (o : OpenSwap) → Counts terms entry (made ++ after) exit → AreHandedOn session (made ++ after) → Has (opens_of (session_after session made)) o
    → ((q : OpenSwap) × Has (opens_of session) q × (name_in q ≡ name_in o) × (q.devices ≡ o.devices)) ⊎ ((front : List Begun) × (b : Begun) × (rest : List Begun) × (made ≡ front ++ b ∷ rest) × (b.piece.faults.devices ≡ o.devices))
all_marked terms entry exit session [] after o counts handed there = inl (o, there, refl, refl)
all_marked terms entry exit session (b ∷ made) after o counts handed there =
    ⊎_elim
    (λ x. ⊎_elim (λ same. inr ([], b, made, refl, sym same.2 ∙ x.3)) (λ (_, q). inl (q.0, subst (λ s. Has (opens_of s) q.0) handed.0 q.1, q.2 ∙ x.2, q.3 ∙ x.3)) (counts.1.opened x.0 x.1))
    (λ x. inr (b ∷ x.0, x.1, x.2, ap (λ l. b ∷ l) x.3, x.4))
    (all_marked terms b.later exit b.piece.to made after o counts.2 handed.1 there)

-- AND ALL
pub swaps_stay : (terms : Terms) (trace : List Event) (session : Session) (middle after : List Begun) (name : List ℕ) → ArePieces terms trace (middle ++ after) → AreHandedOn session (middle ++ after) → StayOpen middle → AreOthers name middle
    → open_at name (opens_of (session_after session middle)) ≡ open_at name (opens_of session)
swaps_stay terms trace session [] after name are handed open_now others = refl
swaps_stay terms trace session (b ∷ middle) after name are handed open_now others =
    swaps_stay terms (trace ++ steps_of b.piece) b.piece.to middle after name are.1 handed.1 open_now.1 others.1 ∙ swap_stays terms trace b.piece are.0 open_now.0 name others.0 ∙ ap (λ s. open_at name (opens_of s)) handed.0

-- AN EXPERIMENT WITH AN OPEN SWAP is settled by none of them
if_some : (x : Bool) (o : OpenSwap) (more : Option OpenSwap) (rest : Bool) (q : OpenSwap) → (more ≡ Some q → rest ≡ true) → (if x then Some o else more) ≡ Some q → x || rest ≡ true
if_some true o more rest q busy is = refl
if_some false o more rest q busy is = busy is

busy_at : (name : List ℕ) (opens : List OpenSwap) (o : OpenSwap) → open_at name opens ≡ Some o → is_busy (names_of opens) name ≡ true
busy_at name [] o is = absurd (cc is)
busy_at name (x ∷ opens) o is = if_some (bytes_eq (name_in x) name) x (open_at name opens) (is_busy (names_of opens) name) o (λ more. busy_at name opens o more) is

settles_none : {X : Type 0} (session : Session) (command : Command) (name : List ℕ) (o : OpenSwap) → open_at name (opens_of session) ≡ Some o → settles session command name ≡ true → X
settles_none Closed command name o is settled = absurd (cc is)
settles_none (Open opens) commands.Recover name o is settled = absurd (cc (ap not (busy_at name opens o is), settled))
settles_none (Open opens) command name o is settled = absurd (cc settled)

sparing : (terms : Terms) (trace : List Event) (session : Session) (middle after : List Begun) (e : Experiment) (o : OpenSwap) → ArePieces terms trace (middle ++ after) → AreHandedOn session (middle ++ after) → StayOpen middle → AreOthers e.name middle
    → open_at e.name (opens_of session) ≡ Some o → AreSparing e middle
sparing terms trace session [] after e o are handed open_now others is = tt
sparing terms trace session (b ∷ middle) after e o are handed open_now others is =
    let here = ap (λ s. open_at e.name (opens_of s)) handed.0 ∙ is in (
      (λ settled. settles_none b.piece.from b.piece.command e.name o here settled),
      sparing terms (trace ++ steps_of b.piece) b.piece.to middle after e o are.1 handed.1 open_now.1 others.1 (swap_stays terms trace b.piece are.0 open_now.0 e.name others.0 ∙ here),
    )

-- the pieces after the first, with the session that they are handed
pub handed_after : (session : Session) (before rest : List Begun) → AreHandedOn session (before ++ rest) → AreHandedOn (session_after session before) rest
handed_after session [] rest handed = handed
handed_after session (b ∷ before) rest handed = handed_after b.piece.to before rest handed.1

pub pieces_after : (terms : Terms) (trace : List Event) (before rest : List Begun) → ArePieces terms trace (before ++ rest) → ArePieces terms (trace_after trace before) rest
pieces_after terms trace [] rest are = are
pieces_after terms trace (b ∷ before) rest are = pieces_after terms (trace ++ steps_of b.piece) before rest are.1

pub sessions_join : (session : Session) (before middle : List Begun) → session_after session (before ++ middle) ≡ session_after (session_after session before) middle
sessions_join session [] middle = refl
sessions_join session (b ∷ before) middle = sessions_join b.piece.to before middle

-- IN ONE RUN
module _ (terms : Terms) (choices : Option Choices) (old new : Outside) (status : Status) (before middle after : List Begun) (t : Told) (r : Ran terms choices old new status (before ++ (middle ++ after))) (is : old.plant.told ≡ Some t) where
  abbrev session : Session
  session = session_after Closed before

  are : ArePieces terms (trace_after t.trace before) (middle ++ after)
  are = pieces_after terms t.trace before (middle ++ after) (pieces_of terms choices old new status (before ++ (middle ++ after)) t r is)

  handed : AreHandedOn session (middle ++ after)
  handed = handed_after Closed before (middle ++ after) r.sessions

  pub swaps_kept : (name : List ℕ) → StayOpen middle → AreOthers name middle → open_at name (opens_of (session_after Closed (before ++ middle))) ≡ open_at name (opens_of session)
  swaps_kept name open_now others = ap (λ s. open_at name (opens_of s)) (sessions_join Closed before middle) ∙ swaps_stay terms (trace_after t.trace before) session middle after name are handed open_now others

  pub moving_kept : (e : Experiment) (o : OpenSwap) → IsSound the_texts t.trace → open_at e.name (opens_of session) ≡ Some o → AllHave (trace_after t.trace before) e → StayOpen middle → AreOthers e.name middle → AllHave (trace_after t.trace (before ++ middle)) e
  moving_kept e o sound there have open_now others =
      kept_along terms choices old new status before middle after t e r is sound (sparing terms (trace_after t.trace before) session middle after e o are handed open_now others there) have others

-- up to any of its moments
module _ (terms : Terms) (choices : Option Choices) (old new : Outside) (status : Status) (before after : List Begun) (r : Ran terms choices old new status (before ++ after)) where
  pub few_open : (t : Told) → old.plant.told ≡ Some t → (length (opens_of (session_after Closed before)) ≤ 16) × AllDiffer (busy_of (session_after Closed before))
  few_open t is = all_few terms t.trace Closed before after (pieces_of terms choices old new status (before ++ after) t r is) r.sessions (omega arith) tt

  pub marked_at : (o : OpenSwap) → Has (opens_of (session_after Closed before)) o → (front : List Begun) × (b : Begun) × (rest : List Begun) × (before ≡ front ++ b ∷ rest) × (b.piece.faults.devices ≡ o.devices)
  marked_at o there = ⊎_elim (λ none. absurd none.1) (λ x. x) (all_marked terms old.plant.faults new.plant.faults Closed before after o r.counts r.sessions there)

-- no device command, or one and no step of the journal after it
abbrev SendsOneAtMost : List Event → Type 0
SendsOneAtMost own = (has_command own ≡ false) ⊎ SendsOne own

-- A TURN over an open controller does nothing of its own, or is the step of a turn
module _ (terms : Terms) (set : Setting) (s : LabState) (opens : List OpenSwap) (exp : List ℕ) (own : List Event) (after : After) where
  abbrev WasTurn : Type 0
  WasTurn = Was None (Ok (Turn exp)) terms set s (Open opens) (commands.Turn exp) [] own after

  as_judged : IsDoneBy (JudgedBeside terms.rule (commands.Turn exp) opens s) set s opens own after → (own ≡ []) ⊎ WasTurn
  as_judged (no_memory wants) = inl wants.nothing
  as_judged (does judgement judged d) =
      ⊎_elim (λ refused. let told : Does set s opens (Err refused.0) own after = subst (λ (j : Result Task Reply). Does set s opens j own after) (judged ∙ refused.1) d in inl told.nothing)
      (λ turns.
      let task : Result Task Reply = Ok (Turn exp) in
      let did : Does set s opens task own after = subst (λ (j : Result Task Reply). Does set s opens j own after) (judged ∙ turns) d in
      inr (was task terms set s (commands.Turn exp) [] own after None (Open opens) (refl, does task (refl, sym turns) did)))
      (turn_or_refused s (is_among (names_of opens) (Some exp)) exp)

  at_most_one : IsDoneBy (JudgedBeside terms.rule (commands.Turn exp) opens s) set s opens own after → SendsOneAtMost own
  at_most_one done = ⊎_elim (λ none. inl (ap has_command none)) (λ turn. turn_at_most_one None terms set s (Open opens) (commands.Turn exp) [] own after exp turn) (as_judged done)

-- what it does of its own, where it is answered and the session stays open
abbrev TurnsOnly : List Event → Type 0
TurnsOnly own = (own ≡ []) ⊎ IsTurn own

turn_of : (terms : Terms) (trace : List Event) (set : Setting) (s : LabState) (from : Session) (exp : List ℕ) (opening own : List Event) (after : After) (reply : Reply) → after.reply ≡ Some reply → closes reply ≡ false → is_stopped reply ≡ false → is_closed from ≡ false
    → LabStep terms (Some trace) set s from (commands.Turn exp) opening own after → TurnsOnly own
turn_of terms trace set s Closed exp opening own after reply is goes runs open_now step = absurd (cc open_now)
turn_of terms trace set s (Open opens) exp opening own after reply is goes runs open_now step =
    ⊎_elim (λ none. inl none) (λ turn. inr (one_turn own after reply is goes runs None terms set s opens (commands.Turn exp) [] exp refl turn)) (as_judged terms set s opens exp own after step.1)

-- and always
one_of : (terms : Terms) (trace : List Event) (set : Setting) (s : LabState) (from : Session) (exp : List ℕ) (opening own : List Event) (after : After) → LabStep terms (Some trace) set s from (commands.Turn exp) opening own after → SendsOneAtMost own
one_of terms trace set s Closed exp opening own after (opened mid opens done) = at_most_one terms set mid [] exp own after done
one_of terms trace set s Closed exp opening own after (not_opened broke) = inl (ap has_command broke.nothing)
one_of terms trace set s (Open opens) exp opening own after step = at_most_one terms set s opens exp own after step.1

-- of a run
module _ (terms : Terms) (choices : Option Choices) (old new : Outside) (status : Status) (before after : List Begun) (b : Begun) (t : Told) (r : Ran terms choices old new status (before ++ b ∷ after)) (told : old.plant.told ≡ Some t) (exp : List ℕ) (reply : Reply)
    (asks : b.piece.command ≡ commands.Turn exp) (replied : b.piece.reply ≡ Some reply) where
  abbrev trace : List Event
  trace = trace_after t.trace before

  module _ (s last : LabState) (steps : StepsFrom terms trace b.piece s last) where
    abbrev set_of : Setting
    set_of = record { length = steps.length; limit = 2 ^ 32; devices = b.piece.faults.devices }

    abbrev ends : After
    ends = record { reply = steps.told; lab = last; session = steps.session }

    abbrev all : List Event
    all = b.piece.own ++ steps.behind

    step_by : LabStep terms (Some trace) set_of s b.piece.from (commands.Turn exp) b.piece.opening all ends
    step_by = subst (λ (c : Command). LabStep terms (Some trace) set_of s b.piece.from c b.piece.opening all ends) asks steps.step

  -- by what holds of the steps of a lab step
  by_steps : (P : List Event → Type 0) → P [] → ((s last : LabState) (steps : StepsFrom terms trace b.piece s last) → steps.told ≡ Some reply → P (b.piece.own ++ steps.behind)) → P b.piece.own
  by_steps P none each =
      ⊎_elim (λ broke. subst P (sym broke.1) none)
      (λ x. let so = told_of terms trace b.piece x.0 x.1 x.2 reply replied in subst P (ap (λ l. b.piece.own ++ l) so.2 ∙ append-nil b.piece.own) (each x.0 x.1 x.2 so.0))
      (was_of terms choices old new status before after b t r told reply replied (ap drill_of asks))

  pub turned_alone : closes reply ≡ false → is_stopped reply ≡ false → is_closed b.piece.from ≡ false → TurnsOnly b.piece.own
  turned_alone goes runs open_now =
      by_steps TurnsOnly (inl refl) (λ s last steps is. turn_of terms trace (set_of s last steps) s b.piece.from exp b.piece.opening (all s last steps) (ends s last steps) reply is goes runs open_now (step_by s last steps))

  pub sends_one : SendsOneAtMost b.piece.own
  sends_one =
      by_steps SendsOneAtMost (inl refl) (λ s last steps is. one_of terms trace (set_of s last steps) s b.piece.from exp b.piece.opening (all s last steps) (ends s last steps) (step_by s last steps))

-- THE WORLD of the other experiments, by a turn, or by all up to the end
module _ (terms : Terms) (choices : Option Choices) (old new : Outside) (status : Status) (before after : List Begun) (b : Begun) (t : Told) (r : Ran terms choices old new status (before ++ b ∷ after)) (told : old.plant.told ≡ Some t) (s : LabState) (exp : List ℕ)
    (e : Experiment) (reply : Reply) (turns : IsTurnOf exp b.piece.command) (replied : b.piece.reply ≡ Some reply) (at : IsLabAt (trace_after t.trace before) s) (listed : Has s.experiments e) (other : e.name ≢ exp) where
  abbrev past : List Event
  past = trace_after t.trace before

  abbrev Spared : List Event → Type 0
  Spared trace = SameFor (lab_in s.lab) e (world_of past) (world_of trace)

  piece : IsPiece terms past b.piece
  piece = piece_at terms t.trace before after b (pieces_of terms choices old new status (before ++ b ∷ after) t r told)

  no_drill : drill_of b.piece.command ≡ None
  no_drill = ⊎_elim (λ is. ap drill_of is) (λ is. ap drill_of is) turns

  spared_by : (last : LabState) (steps : StepsFrom terms past b.piece s last) (opens : List OpenSwap) → b.piece.from ≡ Open opens → b.piece.opening ≡ [] → Spared (trace_after t.trace (before ++ b ∷ []))
  spared_by last steps opens from none =
      let set : Setting = record { length = steps.length; limit = 2 ^ 32; devices = b.piece.faults.devices } in
      let ends : After = record { reply = steps.told; lab = last; session = steps.session } in
      let all : b.piece.own ++ steps.behind ≡ steps_of b.piece =
      ap (λ l. b.piece.own ++ l) (told_of terms past b.piece s last steps reply replied).2 ∙ append-nil b.piece.own ∙ ap (λ l. l ++ b.piece.own) (sym none) in
      let step : LabStep terms (Some past) set s (Open opens) b.piece.command b.piece.opening (b.piece.own ++ steps.behind) ends =
      subst (λ (f : Session). LabStep terms (Some past) set s f b.piece.command b.piece.opening (b.piece.own ++ steps.behind) ends) from steps.step in
      subst Spared (ap (λ l. past ++ l) all ∙ sym (trace-push t.trace before b))
      (others_spared terms (Some past) set s opens b.piece.command b.piece.opening (b.piece.own ++ steps.behind) ends past exp e (lab_sane the_texts at.records s at.lab_of) turns listed other step)

  spared_from : (from : Session) → b.piece.from ≡ from → is_closed from ≡ false → Spared (trace_after t.trace (before ++ b ∷ []))
  spared_from Closed is open_now = absurd (cc open_now)
  spared_from (Open opens) is open_now =
      let none : b.piece.opening ≡ [] = opened_before (drill_of b.piece.command) b.piece.from opens no_drill is piece.finds in
      let x = piece.steps no_drill (ap is_some replied) (ap has_miss none) (ap has_restart none) s at in
      spared_by x.0 x.1 opens is none
    where
      opened_before : (drill : Option Drill) (from : Session) (opens : List OpenSwap) → drill ≡ None → from ≡ Open opens → Finds drill from past b.piece → b.piece.opening ≡ []
      opened_before (Some drill) from opens none is finds = finds.0
      opened_before None Closed opens none is finds = absurd (cc is)
      opened_before None (Open others) opens none is finds = finds

  pub world_kept : is_closed b.piece.from ≡ false → Spared (trace_after t.trace (before ++ b ∷ []))
  world_kept open_now = spared_from b.piece.from refl open_now
