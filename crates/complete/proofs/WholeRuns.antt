-- Completeness of a run, from what the run says alone.
use Rattle.std.specs.Prelude.{IfSome, is_some}
use Rattle.std.proofs.Common.{◌≡◌, ◌⊎◌, inl, inr, ℕ, true, List, [], ◌∷◌, ◌++◌, append_assoc, Option, Some, None, refl, sym, ◌∙◌, ap, subst}
use Rattle.std.proofs.lemmas.List.{append-nil}
use Rattle.lab_base.specs.Lists.{Has}
use Rattle.records_model.specs.Labs.{LabState}
use Rattle.plant.specs.Events.{Event}
use Rattle.plant.specs.Told.{Told}
use Rattle.plant.specs.declared.drill.Drill.{Drill}
use Rattle.plant.specs.declared.step.Side.{Side}
use Rattle.swap_turns.proofs.Stood.{stood_once}
use Rattle.records_model.specs.Works.{IsSound}
use Rattle.lab_state.specs.Texts.{the_texts}
use Rattle.lab_state.proofs.Canonical.{texts_once}
use Rattle.script_text.specs.Commands.{AtEnd, BadLine, IsScript}
use Rattle.script_text.specs.declared.command.Command.{Command}
use Rattle.lab_core.specs.Moments.{IsLabAt}
use Rattle.lab_core.specs.Sessions.{OpenSwap, Closed, Terms}
use Rattle.lab_core.specs.Tells.{opens_of}
use Rattle.lab_top.specs.declared.status.Status.{Status}
use Rattle.lab_top.specs.declared.status.Status.TheVariants.{BadScript, Done, JournalBad, Memory, ReadFault, Usage, WriteFault}
use Rattle.lab_top.specs.Pieces.{Begun, ArePieces, IsPiece, commands_of, session_after, steps_of, trace_after, with_drill_if, with_pieces, planned_of}
use Rattle.lab_top.specs.Ran.{AreAnswered, BegunBy, BegunCommands, EndsSo, LastFindsNone, Outside, Ran, number_of}
use Rattle.lab_words.specs.Words.{Choices}
use Rattle.lab_top.proofs.Pieces.{sides_read}
use Rattle.lab_top.proofs.Scripts.{script_once}
use Rattle.complete.specs.Complete.{AllGoesWell, AreStepsOf, IsComplete}
use Rattle.complete.specs.OpenCourses.{IsCourse, steps_in}
use Rattle.complete.proofs.Runs.{complete}
use Rattle.complete.proofs.RunCourses.{StandOnce, all_safe, going_after}

pub stand_once : StandOnce
stand_once trace s u x y = stood_once the_texts _ _ s u texts_once x y

piece_at : (terms : Terms) (trace : List Event) (before after : List Begun) (b : Begun) → ArePieces terms trace (before ++ b ∷ after) → IsSound the_texts trace → IsPiece terms (trace_after trace before) b.piece × IsSound the_texts (trace_after trace before)
piece_at terms trace [] after b are sound = (are.0, sound)
piece_at terms trace (x ∷ before) after b are sound = piece_at terms (trace ++ steps_of x.piece) before after b are.1 (are.0.done sound).sound

not_bad : (terms : Terms) (trace : List Event) (made : List Begun) (side : Side) (at : ℕ) → ArePieces terms trace made → IsSound the_texts trace → LastFindsNone trace made side at → ⊥
not_bad terms trace made side at are sound l =
    let here = piece_at terms trace l.before [] l.last (subst (λ m. ArePieces terms trace m) l.made_are are) sound in
    sides_read (trace_after trace l.before) side at here.0.readable here.1 l.finds.no_journal

-- the trace of what a plant tells grew by the run's steps
drilled : (t : Told) (o : Option Drill) → (u : Told) × (with_drill_if (Some t) o ≡ Some u) × (u.trace ≡ t.trace)
drilled t None = (t, refl, refl)
drilled t (Some drill) = (_, refl, refl)

grown : (t : Told) (made : List Begun) → (u : Told) × (with_pieces (Some t) made ≡ Some u) × (u.trace ≡ t.trace ++ steps_in made)
grown t [] = (t, refl, sym (append-nil t.trace))
grown t (b ∷ made) =
    let d = drilled (record { trace = t.trace ++ steps_of b.piece; marks = _; drills = t.drills }) (planned_of b) in
    let g = grown d.0 made in
    (g.0, ap (λ o. with_pieces o made) d.1 ∙ g.1, g.2 ∙ ap (λ l. l ++ steps_in made) d.2 ∙ append_assoc t.trace (steps_of b.piece) (steps_in made))

same_told : (u v : Told) → Some u ≡ Some v → u ≡ v
same_told u v is = cc is

left_same : (a b c : List Event) → a ++ b ≡ a ++ c → b ≡ c
left_same [] b c is = is
left_same (x ∷ a) b c is = left_same a b c (cc is)

pub whole : (terms : Terms) (choices : Option Choices) (old new : Outside) (status : Status) (made : List Begun) (t : Told) (steps : List Event) → Ran terms choices old new status made → old.plant.told ≡ Some t → IsSound the_texts t.trace
    → AreStepsOf t new.plant.told steps → AllGoesWell choices old status steps → (status ≡ Memory) ⊎ ((status ≡ Done) × IsComplete choices old new t.trace made)
whole terms choices old new status made t steps ran is sound grew well =
    let are = subst (λ (o : Option Told). IfSome o (λ u. ArePieces terms u.trace made)) is ran.pieces in
    let g = grown t made in
    let now : new.plant.told ≡ Some g.0 = ran.told ∙ ap (λ o. with_pieces o made) is ∙ g.1 in
    let same : steps ≡ steps_in made = left_same t.trace steps (steps_in made) (sym (grew g.0 now) ∙ g.2) in
    let goes = subst (λ l. AllGoesWell choices old status l) same well in
    complete terms choices old new made t is sound
    (all_safe terms stand_once [] made t.trace Closed are ran.sessions tt goes.plant (λ s at o none. absurd none))
    status ran goes
    (λ side at bad_is. not_bad terms t.trace made side at are sound (subst (λ x. EndsSo terms t.trace made x new.plant.stopped) bad_is (subst (λ (o : Option Told). IfSome o (λ u. EndsSo terms u.trace made status new.plant.stopped)) is ran.ends)))

-- A SCRIPT WITH A BAD LINE: the run ends there, with all commands before it answered
pub ends_bad : (terms : Terms) (choices : Option Choices) (old new : Outside) (status : Status) (made : List Begun) (t : Told) (bytes : List ℕ) (commands : List Command) (line : ℕ) → Ran terms choices old new status made → old.plant.told ≡ Some t → IsSound the_texts t.trace
    → is_some choices ≡ true → number_of choices ≡ None → old.left ≡ Some bytes → IsScript bytes commands (BadLine line) → (status ≡ ReadFault → ⊥) → (status ≡ WriteFault → ⊥)
    → (status ≡ Memory) ⊎ ((status ≡ BadScript line) × (commands_of made ≡ commands) × AreAnswered made)
ends_bad terms choices old new status made t bytes commands line ran is sound accepted plain left script source sink = by status ran source sink
  where
    has : (status : Status) → Ran terms choices old new status made → BegunCommands bytes new.left (commands_of made) status
    has status ran = subst (λ (n : Option ℕ). BegunBy n old.left new.left (commands_of made) status) plain ran.begun bytes left

    at_bad : (other : ℕ) → IsScript bytes (commands_of made) (BadLine other) → (commands_of made ≡ commands) × (other ≡ line)
    at_bad other here = let once = script_once bytes (commands_of made) commands (BadLine other) (BadLine line) here script in (once.0, cc once.1)

    by : (status : Status) → Ran terms choices old new status made → (status ≡ ReadFault → ⊥) → (status ≡ WriteFault → ⊥) → (status ≡ Memory) ⊎ ((status ≡ BadScript line) × (commands_of made ≡ commands) × AreAnswered made)
    by Memory ran source sink = inl refl
    by Done ran source sink = absurd (cc (script_once bytes (commands_of made) commands AtEnd (BadLine line) (has Done ran).0 script).1)
    by ReadFault ran source sink = absurd (source refl)
    by WriteFault ran source sink = absurd (sink refl)
    by Usage ran source sink = absurd (cc (sym (ap is_some (ran.usage refl)) ∙ accepted))
    by (BadScript other) ran source sink = let same = at_bad other (has (BadScript other) ran).0 in inr (ap BadScript same.1, same.0, ran.answered)
    by (JournalBad side at) ran source sink =
        absurd (not_bad terms t.trace made side at (subst (λ (o : Option Told). IfSome o (λ u. ArePieces terms u.trace made)) is ran.pieces) sound
        (subst (λ (o : Option Told). IfSome o (λ u. EndsSo terms u.trace made (JournalBad side at) new.plant.stopped)) is ran.ends))

-- the course of an open swap
pub course_of : (terms : Terms) (choices : Option Choices) (old new : Outside) (status : Status) (before after : List Begun) (t : Told) (s : LabState) (o : OpenSwap) → Ran terms choices old new status (before ++ after) → old.plant.told ≡ Some t
    → IsLabAt (trace_after t.trace before) s → Has (opens_of (session_after Closed before)) o → IsCourse before s o.running
course_of terms choices old new status before after t s o ran is at has =
    let are = subst (λ (x : Option Told). IfSome x (λ u. ArePieces terms u.trace (before ++ after))) is ran.pieces in
    (going_after terms stand_once [] before after t.trace Closed are ran.sessions tt (λ u there q none. absurd none) s at o has).course
