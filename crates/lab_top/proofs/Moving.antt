-- At each moment of a run the experiment of each open swap moves.
use Rattle.std.proofs.Common.{◌≡◌, ◌^◌, true, false, ◌&&◌, List, [], ◌∷◌, ◌++◌, length, arith, Option, Some, None, refl, sym, ◌∙◌, ap, subst}
use Rattle.std.specs.Prelude.{is_some, not, ◌≤◌}
use Rattle.std.proofs.lemmas.List.{append-nil}
use Rattle.lab_base.specs.Lists.{AllDiffer, Has}
use Rattle.plant.specs.Events.{Event}
use Rattle.plant.specs.Told.{Told}
use Rattle.plant.specs.declared.drill.Drill.{Drill}
use Rattle.records_model.specs.Labs.{LabState}
use Rattle.records_model.specs.Works.{IsSound}
use Rattle.journal_disk.specs.Before.{are_synced}
use Rattle.swap_turns.specs.Pieces.{has_restart}
use Rattle.swap_turns.proofs.Stood.{stood_once}
use Rattle.lab_state.specs.Texts.{the_texts}
use Rattle.lab_state.proofs.Canonical.{texts_once}
use Rattle.script_text.specs.Drills.{drill_of}
use Rattle.script_text.specs.declared.reply.Reply.{Reply}
use Rattle.lab_core.specs.Moments.{IsLabAt}
use Rattle.lab_core.specs.Sessions.{OpenSwap, Session, Closed, Open, Setting, After, Terms}
use Rattle.lab_core.specs.Tells.{AllMove, busy_of, opens_of}
use Rattle.lab_core.proofs.ListSteps.{all_move}
use Rattle.lab_top.specs.Pieces.{Piece, Begun, AreHandedOn, ArePieces, Finds, FirstLab, IsPiece, Leads, is_closed, is_early, session_after, steps_of, trace_after}
use Rattle.lab_top.specs.Ran.{Outside, Ran}
use Rattle.lab_words.specs.Words.{Choices}
use Rattle.lab_top.specs.declared.status.Status.{Status}
use Rattle.lab_top.proofs.RunLaws.{done, first_sane, pieces_of, told_of}
use Rattle.lab_top.proofs.TurnLaws.{all_few, handed_after, replied}

-- at a moment, whatever lab the sides stand for
abbrev pub MoveAt : List Event → Session → Type 0
MoveAt trace session = (s : LabState) → IsLabAt trace s → AllMove (opens_of session) s

-- ONE PIECE, in the lab that it goes from
pub first_moves : (terms : Terms) (trace : List Event) (piece : Piece) (l : Leads terms trace piece) → MoveAt trace piece.from → AllMove (opens_of piece.from) l.first
first_moves terms trace piece l moves = by piece.from refl
  where
    by : (from : Session) → piece.from ≡ from → AllMove (opens_of piece.from) l.first
    by Closed is = λ o there. absurd (subst (λ x. Has (opens_of x) o) is there)
    by (Open opens) is =
        let late : is_early piece ≡ false = ap (λ x. is_closed x && (has_restart piece.opening && not (are_synced piece.opening))) is in
        moves l.first (subst (λ early. FirstLab early trace l.first) late l.before)

module _ (terms : Terms) (trace : List Event) (piece : Piece) (is : IsPiece terms trace piece) (differ : AllDiffer (busy_of piece.from)) (moves : MoveAt trace piece.from) where
  by_drill : is_some piece.reply ≡ true → piece.opening ≡ [] → piece.own ≡ [] → (is_some piece.reply ≡ true → piece.to ≡ piece.from) → MoveAt (trace ++ steps_of piece) piece.to
  by_drill answered opening own same s at =
      subst (λ x. AllMove (opens_of x) s) (sym (same answered)) (moves s (subst (λ l. IsLabAt l s) ((λ i. trace ++ (opening i ++ own i)) ∙ append-nil trace) at))

  by_step : (opens : List OpenSwap) → piece.to ≡ Open opens → is_some piece.reply ≡ true → Leads terms trace piece → MoveAt (trace ++ steps_of piece) piece.to
  by_step opens to_is answered l s at = subst (λ u. AllMove (opens_of piece.to) u) (stood_once the_texts _ _ l.last s texts_once l.behind at) (subst (λ x. AllMove (opens_of x) l.last) (sym to_is) here)
    where
      set : Setting
      set = record { length = l.steps.length; limit = 2 ^ 32; devices = piece.faults.devices }

      own : List Event
      own = piece.own ++ l.steps.behind

      after : After
      after = record { reply = l.steps.told; lab = l.last; session = l.steps.session }

      ended : (reply : Option Reply) → piece.reply ≡ reply → is_some reply ≡ true → l.steps.session ≡ piece.to
      ended None told none = absurd (cc none)
      ended (Some reply) told some = (told_of terms trace piece l.first l.last l.steps reply told).1

      here : AllMove opens l.last
      here =
          all_move terms (Some trace) set l.first piece.from piece.opening own after piece.command opens (ended piece.reply refl answered ∙ to_is) (first_sane (is_early piece) trace l.first l.before).none differ (first_moves terms trace piece l moves) l.steps.step

  pub piece_moves : MoveAt (trace ++ steps_of piece) piece.to
  piece_moves = by piece.to refl
    where
      by : (to : Session) → piece.to ≡ to → MoveAt (trace ++ steps_of piece) piece.to
      by Closed to_is = λ s at o there. absurd (subst (λ x. Has (opens_of x) o) to_is there)
      by (Open opens) to_is = by_command (drill_of piece.command) refl
        where
          open_now : is_closed piece.to ≡ false
          open_now = ap is_closed to_is

          answered : is_some piece.reply ≡ true
          answered = replied terms trace piece piece.reply refl is open_now

          by_command : (drill : Option Drill) → drill_of piece.command ≡ drill → MoveAt (trace ++ steps_of piece) piece.to
          by_command (Some drill) it = let finds = subst (λ (d : Option Drill). Finds d piece.from trace piece) it is.finds in by_drill answered finds.0 finds.1 finds.2
          by_command None it = by_step opens to_is answered (is.leads it open_now)

-- AND ALL
all_moving : (terms : Terms) (trace : List Event) (session : Session) (made after : List Begun) → ArePieces terms trace (made ++ after) → AreHandedOn session (made ++ after) → length (opens_of session) ≤ 16 → AllDiffer (busy_of session) → MoveAt trace session
    → MoveAt (trace_after trace made) (session_after session made)
all_moving terms trace session [] after are handed few differ moves = moves
all_moving terms trace session (b ∷ made) after are handed few differ moves =
    let on = all_few terms trace session (b ∷ []) (made ++ after) are handed few differ in
    all_moving terms (trace ++ steps_of b.piece) b.piece.to made after are.1 handed.1 on.0 on.1
    (piece_moves terms trace b.piece are.0 (subst (λ x. AllDiffer (busy_of x)) (sym handed.0) differ) (subst (λ x. MoveAt trace x) (sym handed.0) moves))

-- IN ONE RUN, at any of its moments
pub moves_at : (terms : Terms) (choices : Option Choices) (old new : Outside) (status : Status) (before after : List Begun) (t : Told) → Ran terms choices old new status (before ++ after) → old.plant.told ≡ Some t
    → MoveAt (trace_after t.trace before) (session_after Closed before)
moves_at terms choices old new status before after t r told =
    all_moving terms t.trace Closed before after (pieces_of terms choices old new status (before ++ after) t r told) r.sessions (omega arith) tt (λ s at o there. absurd there)

-- in the lab that a command goes from, over a sound trace
pub moves_first : (terms : Terms) (choices : Option Choices) (old new : Outside) (status : Status) (before after : List Begun) (b : Begun) (t : Told) (r : Ran terms choices old new status (before ++ b ∷ after)) (told : old.plant.told ≡ Some t)
    (sound : IsSound the_texts t.trace) → AllMove (opens_of b.piece.from) (done terms choices old new status before after b t r told sound).leads.first
moves_first terms choices old new status before after b t r told sound =
    first_moves terms (trace_after t.trace before) b.piece (done terms choices old new status before after b t r told sound).leads
    (subst (λ x. MoveAt (trace_after t.trace before) x) (sym (handed_after Closed before (b ∷ after) r.sessions).0) (moves_at terms choices old new status before (b ∷ after) t r told))
