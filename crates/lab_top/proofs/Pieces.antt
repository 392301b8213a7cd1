-- A run of commands goes on, one piece after another.
use Rattle.std.proofs.Common.{Bool, ◌≡◌, ◌⊎◌, inl, inr, ℕ, ◌+◌, ◌^◌, arith, true, false, ◌&&◌, List, [], ◌∷◌, ◌++◌, length, take, Option, Some, None, Ok, Err, refl, sym, ◌∙◌, ap, subst}
use Rattle.std.specs.Prelude.{IfSome, is_some}
use Rattle.std.specs.Io.KnownBytes.{append_known}
use Rattle.std.proofs.lemmas.List.{append-nil, map-append}
use Rattle.std.proofs.lemmas.List.Folds.{list_all-append}
use Rattle.std.proofs.lemmas.Grind.{flat_map-append}
use Rattle.lab_base.proofs.Tests.{some_weaker}
use Rattle.lab_io.proofs.Known.{append_known-append, append_known-nil}
use Rattle.plant.specs.declared.moment.Faults.{Faults}
use Rattle.plant.specs.declared.step.Side.{Side}
use Rattle.plant.specs.declared.step.Side.TheVariants.{A, B}
use Rattle.plant.specs.Disks.{disk, ArePossible}
use Rattle.plant.specs.Events.{Event}
use Rattle.plant.specs.declared.drill.Drill.{Drill}
use Rattle.plant.specs.Seen.{Seen}
use Rattle.plant.specs.Told.{Told, with_mark, with_steps}
use Rattle.journal_model.specs.Journals.{gate_after, journal_length, size_of}
use Rattle.records_model.specs.Works.{IsSound}
use Rattle.swap_turns.proofs.Stood.{sound_not_bad, sound_follows, sound_room}
use Rattle.lab_state.specs.Texts.{the_texts}
use Rattle.lab_state.proofs.Canonical.{texts_once}
use Rattle.script_text.specs.declared.command.Command.{Command}
use Rattle.script_text.specs.declared.reply.Reply.{Reply}
use Rattle.script_text.specs.Replies.{text_of}
use Rattle.lab_core.specs.Moments.{IsNoJournal, bad, cannot_follow, no_room, trace_in, with_more}
use Rattle.lab_core.specs.Controller.{Control}
use Rattle.lab_core.specs.Sessions.{Session, Closed, Terms, Open}
use Rattle.lab_top.specs.declared.command.CommandFault.TheVariants as faults
use Rattle.lab_top.specs.declared.status.Status.TheVariants as statuses
use Rattle.lab_top.specs.declared.status.Status.{Status}
use Rattle.lab_top.specs.Answering.{Moment, HasSession, Made, Answered, marked, held_first, held_of, piece_of, StandsAt}
use Rattle.lab_top.specs.Pieces.{Begun, steps_of, commands_of, planned_of, trace_after, traces_after, with_drill_if, with_piece, with_pieces, IsCaused, Counts, FindsNone, IsPiece, AreHandedOn, ArePieces, reply_text, reply_texts, session_after, WantsOnly, GoesFrom, Held, HandLabsOn, held_after, is_closed}
use Rattle.lab_top.specs.Ran.{AreAnswered, BegunCommands, EndsSo, GoesOn, LastFindsNone, LastIsNot, Outside, Ran, WroteReplies, Answered as StatusAnswered}
use Rattle.lab_words.specs.Words.{Choices, Usual}
use Rattle.lab_top.proofs.Obeyed.{goes_closed, map_both, map_three, trace_steps}
use Rattle.lab_top.proofs.Stepping.{all_some}
use Rattle.records_model.specs.Labs.{LabState, at_first}
use Rattle.script_text.specs.Drills.{drill_of}

-- ONE PIECE MORE

session-push : (session : Session) (begun : List Begun) (b : Begun) → session_after session (begun ++ b ∷ []) ≡ b.piece.to
session-push session [] b = refl
session-push session (x ∷ begun) b = session-push x.piece.to begun b

pub trace-push : (trace : List Event) (begun : List Begun) (b : Begun) → trace_after trace (begun ++ b ∷ []) ≡ trace_after trace begun ++ steps_of b.piece
trace-push trace [] b = refl
trace-push trace (x ∷ begun) b = trace-push (trace ++ steps_of x.piece) begun b

pieces-push : (terms : Terms) (trace : List Event) (begun : List Begun) (b : Begun) → ArePieces terms trace begun → IsPiece terms (trace_after trace begun) b.piece → ArePieces terms trace (begun ++ b ∷ [])
pieces-push terms trace [] b are is = (is, tt)
pieces-push terms trace (x ∷ begun) b are is = (are.0, pieces-push terms (trace ++ steps_of x.piece) begun b are.1 is)

sessions-push : (session : Session) (begun : List Begun) (b : Begun) → AreHandedOn session begun → b.piece.from ≡ session_after session begun → AreHandedOn session (begun ++ b ∷ [])
sessions-push session [] b are from = (from, tt)
sessions-push session (x ∷ begun) b are from = (are.0, sessions-push x.piece.to begun b are.1 from)

told-push : (told : Option Told) (begun : List Begun) (b : Begun) → with_pieces told (begun ++ b ∷ []) ≡ with_piece (with_pieces told begun) b
told-push told [] b = refl
told-push told (x ∷ begun) b = told-push (with_piece told x) begun b

counts-push : (terms : Terms) (entry mid : Faults) (begun : List Begun) (b : Begun) → Counts terms entry begun mid → b.piece.faults ≡ mid → IsCaused terms b → Counts terms entry (begun ++ b ∷ []) b.later
counts-push terms entry mid [] b is first caused = (first ∙ is, caused, refl)
counts-push terms entry mid (x ∷ begun) b are first caused = (are.0, are.1, counts-push terms x.later mid begun b are.2 first caused)

pub commands-push : (begun : List Begun) (b : Begun) → commands_of (begun ++ b ∷ []) ≡ commands_of begun ++ b.piece.command ∷ []
commands-push begun b = map-append (λ (x : Begun). x.piece.command) begun (b ∷ [])

texts-push : (begun : List Begun) (b : Begun) → reply_texts (begun ++ b ∷ []) ≡ reply_texts begun ++ reply_text b
texts-push begun b = flat_map-append reply_text begun (b ∷ []) ∙ ap (λ (l : List ℕ). reply_texts begun ++ l) (append-nil (reply_text b))

answered-push : (begun : List Begun) (b : Begun) → AreAnswered begun → is_some b.piece.reply ≡ true → AreAnswered (begun ++ b ∷ [])
answered-push begun b are is = list_all-append (λ (x : Begun). is_some x.piece.reply) begun (b ∷ []) ∙ (λ i. are i && (is i && true))

-- THE TRACE STAYS SOUND
pub sound_after : (terms : Terms) (trace : List Event) (begun : List Begun) → ArePieces terms trace begun → IsSound the_texts trace → IsSound the_texts (trace_after trace begun)
sound_after terms trace [] are sound = sound
sound_after terms trace (b ∷ begun) are sound = sound_after terms (trace ++ steps_of b.piece) begun are.1 (are.0.done sound).sound

-- WHAT THE PLANT TELLS after pieces is the trace after them
abbrev next_told : Told → Begun → Told
next_told t b = record { trace = t.trace ++ steps_of b.piece; marks = t.marks ++ record { at = length t.trace; faults = b.piece.faults } ∷ []; drills = t.drills }

-- a drill leaves the trace as it is
undrilled : (t : Told) (drill : Option Drill) (Q : Option Told → Type 0) (R : List Event → Type 0) → ((u : Told) → Q (Some u) → R u.trace) → Q (with_drill_if (Some t) drill) → R t.trace
undrilled t None Q R to h = to t h
undrilled t (Some drill) Q R to h = to (record t { drills = t.drills ++ record { at = length t.trace; drill = drill } ∷ [] }) h

drilled : (t : Told) (drill : Option Drill) (Q : Option Told → Type 0) (R : List Event → Type 0) → ((u : Told) → R u.trace → Q (Some u)) → R t.trace → Q (with_drill_if (Some t) drill)
drilled t None Q R to h = to t h
drilled t (Some drill) Q R to h = to (record t { drills = t.drills ++ record { at = length t.trace; drill = drill } ∷ [] }) h

untold : (drill : Option Drill) → with_drill_if None drill ≡ None
untold None = refl
untold (Some drill) = refl

pub trace_of : (t : Told) (begun : List Begun) (P : List Event → Type 0) → IfSome (with_pieces (Some t) begun) (λ u. P u.trace) → P (trace_after t.trace begun)
trace_of t [] P h = h
trace_of t (b ∷ begun) P h = undrilled (next_told t b) (planned_of b) (λ (o : Option Told). IfSome (with_pieces o begun) (λ u. P u.trace)) (λ (l : List Event). P (trace_after l begun)) (λ u g. trace_of u begun P g) h

of_trace : (t : Told) (begun : List Begun) (P : List Event → Type 0) → P (trace_after t.trace begun) → IfSome (with_pieces (Some t) begun) (λ u. P u.trace)
of_trace t [] P h = h
of_trace t (b ∷ begun) P h = drilled (next_told t b) (planned_of b) (λ (o : Option Told). IfSome (with_pieces o begun) (λ u. P u.trace)) (λ (l : List Event). P (trace_after l begun)) (λ u g. of_trace u begun P g) h

none_after : (begun : List Begun) → with_pieces None begun ≡ None
none_after [] = refl
none_after (b ∷ begun) = ap (λ (o : Option Told). with_pieces o begun) (untold (planned_of b)) ∙ none_after begun

-- over what is told at the start, and at the end
pub from_told : (old new : Option Told) (begun : List Begun) → new ≡ with_pieces old begun → (P : List Event → Type 0) → IfSome new (λ u. P u.trace) → IfSome old (λ t. P (trace_after t.trace begun))
from_told None new begun is P h = tt
from_told (Some t) new begun is P h = trace_of t begun P (subst (λ (o : Option Told). IfSome o (λ u. P u.trace)) is h)

pub to_told : (old new : Option Told) (begun : List Begun) → new ≡ with_pieces old begun → (P : List Event → Type 0) → IfSome old (λ t. P (trace_after t.trace begun)) → IfSome new (λ u. P u.trace)
to_told None new begun is P h = subst (λ (o : Option Told). IfSome o (λ u. P u.trace)) (sym (is ∙ none_after begun)) tt
to_told (Some t) new begun is P h = subst (λ (o : Option Told). IfSome o (λ u. P u.trace)) (sym is) (of_trace t begun P h)

unmarked : (told : Option Told) (faults : Faults) (P : List Event → Type 0) → IfSome (with_mark told faults) (λ u. P u.trace) → IfSome told (λ u. P u.trace)
unmarked None faults P h = tt
unmarked (Some t) faults P h = h

-- THE LABS, and the traces where they are told
traced_drill : (told : Option Told) (drill : Option Drill) → trace_in (with_drill_if told drill) ≡ trace_in told
traced_drill None None = refl
traced_drill None (Some drill) = refl
traced_drill (Some t) None = refl
traced_drill (Some t) (Some drill) = refl

traced_mark : (told : Option Told) (faults : Faults) → trace_in (with_mark told faults) ≡ trace_in told
traced_mark None faults = refl
traced_mark (Some t) faults = refl

traced : (told : Option Told) (begun : List Begun) → trace_in (with_pieces told begun) ≡ traces_after (trace_in told) begun
traced told [] = refl
traced told (b ∷ begun) =
    traced (with_piece told b) begun
    ∙ ap (λ (o : Option (List Event)). traces_after o begun)
    (traced_drill (with_steps (with_mark told b.piece.faults) (steps_of b.piece)) (planned_of b) ∙ trace_steps (with_mark told b.piece.faults) (steps_of b.piece) ∙ ap (λ (o : Option (List Event)). with_more o (steps_of b.piece)) (traced_mark told b.piece.faults))

labs-push : (terms : Terms) (trace : Option (List Event)) (first last : Held) (begun : List Begun) (b : Begun) → HandLabsOn terms trace first begun last → (at : Held) (after : LabState) → (is_closed b.piece.from ≡ false → at ≡ last)
    → GoesFrom (drill_of b.piece.command) terms (with_more (traces_after trace begun) b.piece.opening) b.piece at after → HandLabsOn terms trace first (begun ++ b ∷ []) (held_after b.piece at after)
labs-push terms trace first last [] b is at after from goes = (at, after, λ open_now. from open_now ∙ is, goes, refl)
labs-push terms trace first last (x ∷ begun) b are at after from goes =
    (are.0, are.1, are.2, are.3, labs-push terms (with_more trace (steps_of x.piece)) (held_after x.piece are.0 are.1) last begun b are.4 at after from goes)

-- where the session is open, its lab and the length of its journal are those of the controller
held_there : (plant : Seen) (k : Option Control) (from : Session) (at last : Held) → StandsAt plant k from → IfSome k (λ c. at ≡ held_of c) → IfSome k (λ c. held_of c ≡ last) → is_closed from ≡ false → at ≡ last
held_there plant None Closed at last stands first then open_now = absurd (cc open_now)
held_there plant (Some c) (Open swaps) at last stands first then open_now = first ∙ then
held_there plant None (Open swaps) at last stands first then open_now = absurd stands
held_there plant (Some c) Closed at last stands first then open_now = absurd stands

-- THE PIECES SO FAR, from the first moment to this one
pub record PiecesSoFar (terms : Terms) (start now : Moment) (begun : List Begun) : Type 0 where
  pub told : now.plant.told ≡ with_pieces start.plant.told begun
  pub counts : Counts terms start.plant.faults begun now.plant.faults
  pub sessions : AreHandedOn Closed begun
  pub are : IfSome start.plant.told (λ t. ArePieces terms t.trace begun)
  pub first : Held
  pub last : Held
  pub labs : HandLabsOn terms (trace_in start.plant.told) first begun last

module _ (terms : Terms) (start before now : Moment) (begun : List Begun) (so : PiecesSoFar terms start before begun) (command : Command) (to : Session) (reply : Option Reply)
    (made : Made terms command (marked before) now (session_after Closed begun) to reply) where
  abbrev pub next : Begun
  next = record {
    piece = piece_of command before.plant.faults (session_after Closed begun) to made.begun.opening made.begun.own reply;
    planned = made.begun.planned;
    later = now.plant.faults;
  }

  -- what holds over the trace at the mark
  pub at_mark : (P : List Event → Type 0) → IfSome (marked before).plant.told (λ u. P u.trace) → IfSome start.plant.told (λ t. P (trace_after t.trace begun))
  at_mark P h = from_told start.plant.told before.plant.told begun so.told P (unmarked before.plant.told before.plant.faults P h)

  pub one_more : StandsAt before.plant before.controller (session_after Closed begun) → IfSome before.controller (λ c. held_of c ≡ so.last) → PiecesSoFar terms start now (begun ++ next ∷ [])
  one_more stands held = record {
    told = made.begun.told ∙ ap (λ (o : Option Told). with_piece o next) so.told ∙ sym (told-push start.plant.told begun next);
    counts = counts-push terms start.plant.faults before.plant.faults begun next so.counts refl
        (record { later = made.later; disk = made.disk; device = made.device; here = made.here; opened = made.opened; planned = made.begun.planned_by; shut = made.shut });
    sessions = sessions-push Closed begun next so.sessions refl;
    are = map_both start.plant.told (λ t are is. pieces-push terms t.trace begun next are is) so.are (at_mark (λ l. IsPiece terms l next.piece) made.begun.is_piece);
    first = so.first;
    last = held_after next.piece made.labs.at made.labs.after;
    labs =
        labs-push terms (trace_in start.plant.told) so.first so.last begun next so.labs made.labs.at made.labs.after
        (held_there before.plant before.controller (session_after Closed begun) made.labs.at so.last stands made.labs.first held)
        (subst (λ (o : Option (List Event)). GoesFrom (drill_of command) terms (with_more o made.begun.opening) next.piece made.labs.at made.labs.after)
        (traced_mark before.plant.told before.plant.faults ∙ ap trace_in so.told ∙ traced start.plant.told begun) made.labs.goes);
  }

-- THE RUN SO FAR: all commands that were begun are answered, and the session after them stands
pub record Going (terms : Terms) (start now : Moment) (first written : Option (List ℕ)) (begun : List Begun) : Type 0 where
  pub so : PiecesSoFar terms start now begun
  pub goes_on : HasSession now (session_after Closed begun)
  pub held : IfSome now.controller (λ c. held_of c ≡ so.last)
  pub answered : AreAnswered begun
  pub wrote : written ≡ append_known first (reply_texts begun)
  pub runs : start.plant.stopped ≡ false → now.plant.stopped ≡ false

pub going_none : (terms : Terms) (start : Moment) (written : Option (List ℕ)) → start.controller ≡ None → Going terms start start written written []
going_none terms start written none = record {
  so = record { told = refl; counts = refl; sessions = tt; are = all_some start.plant.told (λ t. tt); first = held_first; last = held_first; labs = refl };
  held = subst (λ (k : Option Control). IfSome k (λ c. held_of c ≡ held_first)) (sym none) tt;
  goes_on = subst (λ (k : Option Control). HasSession (record { plant = start.plant; controller = k }) Closed) (sym none) (goes_closed start.plant);
  answered = refl;
  wrote = sym (append_known-nil written);
  runs = λ is. is;
}

-- A RUN THAT ENDED
abbrev pub outside : Moment → Option (List ℕ) → Option (List ℕ) → Outside
outside now left written = record { left = left; plant = now.plant; written = written }

abbrev pub Ends : Terms → (start now : Moment) → Option (List ℕ) → Option (List ℕ) → Status → List Begun → Type 0
Ends terms start now first new status made =
    PiecesSoFar terms start now made × IfSome start.plant.told (λ t. EndsSo terms t.trace made status now.plant.stopped) × StatusAnswered status made × WroteReplies first new made status × (start.plant.stopped ≡ false → GoesOn status now.plant.stopped)

pub begun_ran : (terms : Terms) (start now : Moment) (first new left rest : Option (List ℕ)) (status : Status) (made : List Begun) → Ends terms start now first new status made → ((bytes : List ℕ) → left ≡ Some bytes → BegunCommands bytes rest (commands_of made) status)
    → (status ≡ statuses.Usage → ⊥) → Ran terms (Some Usual) (outside start left first) (outside now rest new) status made
begun_ran terms start now first new left rest status made ends begun not = record {
  refused = λ is. absurd (cc is);
  usage = λ is. absurd (not is);
  none = λ is. absurd (cc is);
  told = ends.0.told;
  counts = ends.0.counts;
  sessions = ends.0.sessions;
  goes_on = ends.4;
  labs = (ends.0.first, ends.0.last, ends.0.labs);
  pieces = ends.0.are;
  ends = ends.1;
  sound = sound start.plant.told ends.0.told ends.0.are;
  answered = ends.2;
  begun = begun;
  wrote = ends.3;
}
  where
    sound : (told : Option Told) → now.plant.told ≡ with_pieces told made → IfSome told (λ t. ArePieces terms t.trace made) → IfSome told (λ t. IsSound the_texts t.trace → IfSome now.plant.told (λ u. IsSound the_texts u.trace))
    sound None is are = tt
    sound (Some t) is are = λ first. to_told (Some t) now.plant.told made is (IsSound the_texts) (sound_after terms t.trace made are first)

-- where all are answered
pub going_ends : (terms : Terms) (start now : Moment) (first new : Option (List ℕ)) (begun : List Begun) → Going terms start now first new begun → (status : Status) → ((t : Told) → EndsSo terms t.trace begun status now.plant.stopped)
    → (now.plant.stopped ≡ false → GoesOn status now.plant.stopped) → (AreAnswered begun → StatusAnswered status begun) → (new ≡ append_known first (reply_texts begun) → WroteReplies first new begun status) → Ends terms start now first new status begun
going_ends terms start now first new begun going status ends goes_on answered wrote = (going.so, all_some start.plant.told ends, answered going.answered, wrote going.wrote, λ was. goes_on (going.runs was))

-- A COMMAND MORE
abbrev pub TakenBy : (Reply → Type 0) → Begun → Type 0
TakenBy taken b = (reply : Reply) × (b.piece.reply ≡ Some reply) × taken reply

module _ (terms : Terms) (start before now : Moment) (first old new : Option (List ℕ)) (begun : List Begun) (going : Going terms start before first old begun) (command : Command) (taken : Reply → Type 0) where
  wrote_more : (part : List ℕ) → new ≡ append_known old part → new ≡ append_known first (reply_texts begun ++ part)
  wrote_more part is = is ∙ ap (λ (w : Option (List ℕ)). append_known w part) going.wrote ∙ append_known-append first (reply_texts begun) part

  abbrev from : Session
  from = session_after Closed begun

  module _ (to : Session) (reply : Option Reply) (made : Made terms command (marked before) now from to reply) where
    abbrev one : Begun
    one = next terms start before now begun going.so command to reply made

    so_now : PiecesSoFar terms start now (begun ++ one ∷ [])
    so_now = one_more terms start before now begun going.so command to reply made going.goes_on.stands going.held

    last_now : so_now.last ≡ held_after one.piece made.labs.at made.labs.after
    unfolding so_now one_more
    last_now = refl

  pub going_more : Answered terms command before now from old new taken (Ok tt) → (b : Begun) × (b.piece.command ≡ command) × Going terms start now first new (begun ++ b ∷ []) × TakenBy taken b
  going_more (reply, to, made, wrote, took) =
      let b = one to (Some reply) made in (
        b,
        refl,
        record {
          so = so_now to (Some reply) made;
          goes_on = subst (HasSession now) (sym (session-push Closed begun b)) (made.goes_on refl);
          held = some_weaker now.controller _ _ (λ c is. is ∙ sym (last_now to (Some reply) made)) made.labs.last;
          answered = answered-push begun b going.answered refl;
          wrote = wrote_more (text_of reply) wrote ∙ ap (append_known first) (sym (texts-push begun b));
          runs = λ was. made.runs refl (going.runs was);
        },
        (reply, refl, took),
      )

  -- a reply that was cut
  pub going_cut : Answered terms command before now from old new taken (Err faults.WriteFault) → (made : List Begun) × (commands_of made ≡ commands_of begun ++ command ∷ []) × Ends terms start now first new statuses.WriteFault made
  going_cut (reply, to, made, n, less, wrote) =
      let b = one to (Some reply) made in (
        begun ++ b ∷ [],
        commands-push begun b,
        (
          so_now to (Some reply) made,
          all_some start.plant.told (λ t. tt),
          answered-push begun b going.answered refl,
          (begun, b, n, refl, less, wrote_more (take n (text_of reply)) wrote),
          λ was. made.runs refl (going.runs was),
        ),
      )

  -- a command that has no reply
  module _ (made : Made terms command (marked before) now from Closed None) (wrote : new ≡ old) where
    abbrev silent : List Begun
    silent = begun ++ one Closed None made ∷ []

    waits : LastIsNot silent
    waits = record { before = begun; last = one Closed None made; made_are = refl; answered = going.answered; waits = refl }

    wrote_none : new ≡ append_known first (reply_texts silent)
    wrote_none = wrote ∙ going.wrote ∙ ap (append_known first) (sym (append-nil (reply_texts begun)) ∙ sym (texts-push begun (one Closed None made)))

  pub going_memory : Answered terms command before now from old new taken (Err faults.Memory)
      → (made : List Begun) × ((commands_of made ≡ commands_of begun) ⊎ (commands_of made ≡ commands_of begun ++ command ∷ [])) × Ends terms start now first new statuses.Memory made
  going_memory (inl still, wrote) = (
    begun,
    inl refl,
    (
      record { told = ap (λ (p : Seen). p.told) still ∙ going.so.told; counts = subst (λ (p : Seen). Counts terms start.plant.faults begun p.faults) (sym still) going.so.counts; sessions = going.so.sessions; are = going.so.are; first = going.so.first; last = going.so.last; labs = going.so.labs },
      all_some start.plant.told (λ t runs. inl going.answered),
      inl going.answered,
      wrote ∙ going.wrote,
      λ was. tt,
    ),
  )
  going_memory (inr made, wrote) =
      (silent made wrote, inr (commands-push begun (one Closed None made)), (so_now Closed None made, wanting, inr (waits made wrote), wrote_none made wrote, λ was. tt))
    where
      last : Begun
      last = one Closed None made

      wanting : IfSome start.plant.told (λ t. EndsSo terms t.trace (silent made wrote) statuses.Memory now.plant.stopped)
      wanting = by now.plant.stopped refl
        where
          by : (stopped : Bool) → now.plant.stopped ≡ stopped → IfSome start.plant.told (λ t. EndsSo terms t.trace (silent made wrote) statuses.Memory stopped)
          by true is = all_some start.plant.told (λ t runs. absurd (cc runs))
          by false is =
              some_weaker start.plant.told _ _ (λ t wants runs. inr (record { before = begun; last = last; made_are = refl; answered = going.answered; waits = refl; wants = wants }))
              (at_mark terms start before now begun going.so command Closed None made (λ l. WantsOnly terms l last.piece) (made.wants refl is))

  -- sides that are no journal
  pub going_bad : (side : Side) (at : ℕ) → Answered terms command before now from old new taken (Err (faults.JournalBad side at)) → (made : List Begun) × (commands_of made ≡ commands_of begun ++ command ∷ []) × Ends terms start now first new (statuses.JournalBad side at) made
  unfolding waits
  going_bad side at (found, wrote) =
      let made = found.made in
      let last = one Closed None made in (
        silent made wrote,
        commands-push begun last,
        (
          so_now Closed None made,
          some_weaker start.plant.told _ _ (λ t finds. record { before = begun; last = last; made_are = refl; answered = going.answered; finds = finds })
              (at_mark terms start before now begun going.so command Closed None made (λ l. FindsNone l last.piece side at) found.finds),
          record { last_is = waits made wrote; no_drill = found.no_drill; closed = found.closed },
          wrote_none made wrote,
          λ was. found.runs,
        ),
      )

-- A RUN THAT ENDS WITH JournalBad
abbrev NoJournal : Side → ℕ → List Event → Type 0
NoJournal side at trace = IsNoJournal (disk A trace).reads (disk B trace).reads (2 ^ 32) side at

-- the sides read so at the exit
last_bad : (trace : List Event) (made : List Begun) (side : Side) (at : ℕ) → LastFindsNone trace made side at → NoJournal side at (trace_after trace made)
last_bad trace made side at l =
    subst (λ m. NoJournal side at (trace_after trace m)) (sym l.made_are)
    (subst (λ t. NoJournal side at t) (sym (trace-push trace l.before l.last))
    (subst (λ a. IsNoJournal a (disk B (trace_after trace l.before ++ steps_of l.last.piece)).reads (2 ^ 32) side at) (sym (l.finds.as_before A))
    (subst (λ b. IsNoJournal (disk A (trace_after trace l.before)).reads b (2 ^ 32) side at) (sym (l.finds.as_before B)) l.finds.no_journal)))

pub ran_bad : (terms : Terms) (choices : Option Choices) (old new : Outside) (side : Side) (at : ℕ) (made : List Begun) → Ran terms choices old new (statuses.JournalBad side at) made
    → IfSome new.plant.told (λ t. IsNoJournal (disk A t.trace).reads (disk B t.trace).reads (2 ^ 32) side at)
ran_bad terms choices old new side at made r = to_told old.plant.told new.plant.told made r.told (NoJournal side at) (some_weaker old.plant.told _ _ (λ t l. last_bad t.trace made side at l) r.ends)

-- over a sound trace the sides are a journal
pub sides_read : (trace : List Event) (side : Side) (at : ℕ) → ArePossible trace (disk A trace).reads (disk B trace).reads → IsSound the_texts trace → IsNoJournal (disk A trace).reads (disk B trace).reads (2 ^ 32) side at → ⊥
sides_read trace side at possible sound (bad is) = sound_not_bad the_texts trace _ _ side at possible sound is
sides_read trace side at possible sound (cannot_follow rs n read on stops is) = sound_follows the_texts trace _ _ rs n possible sound texts_once read stops
sides_read trace side at possible sound (no_room rs s read on lab less is) =
    let size : journal_length (disk A trace).reads (disk B trace).reads rs ≡ gate_after rs + 1 = ap (λ l. size_of l rs) on in
    let room = sound_room the_texts trace _ _ rs s possible sound texts_once read lab in
    omega (arith, size, room, less)

pub never_bad : (terms : Terms) (choices : Option Choices) (old new : Outside) (side : Side) (at : ℕ) (made : List Begun) → Ran terms choices old new (statuses.JournalBad side at) made
    → IfSome new.plant.told (λ t. ArePossible t.trace (disk A t.trace).reads (disk B t.trace).reads) → IfSome old.plant.told (λ t. IsSound the_texts t.trace → ⊥)
never_bad terms choices old new side at made r there =
    map_three old.plant.told (λ t l are possible sound. sides_read (trace_after t.trace made) side at possible (sound_after terms t.trace made are sound) (last_bad t.trace made side at l)) r.ends r.pieces
    (from_told old.plant.told new.plant.told made r.told (λ l. ArePossible l (disk A l).reads (disk B l).reads) there)
