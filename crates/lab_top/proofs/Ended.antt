-- From `open` with a supplied solution to the end of that swap: the experiment that is answered as in there is in by that solution.
use Rattle.std.proofs.Common.{◌≡◌, ℕ, ◌≤◌, ◌^◌, true, false, ◌&&◌, not, is_some, List, [], ◌∷◌, ◌++◌, length, append_assoc, Option, Some, None, refl, sym, ◌∙◌, ap, subst}
use Rattle.std.proofs.lemmas.List.{append-nil}
use Rattle.lab_base.specs.Lists.{AllDiffer}
use Rattle.plant.specs.Events.{Event}
use Rattle.plant.specs.Told.{Told}
use Rattle.plant.specs.declared.drill.Drill.{Drill}
use Rattle.records_model.specs.Labs.{LabState}
use Rattle.records_model.specs.Works.{IsSound}
use Rattle.journal_disk.specs.Before.{are_synced}
use Rattle.swap_turns.specs.Pieces.{has_restart}
use Rattle.swap_turns.proofs.Stood.{stood_once}
use Rattle.lab_state.specs.Texts.{the_texts}
use Rattle.lab_state.proofs.Canonical.{texts_once}
use Rattle.script_text.specs.Drills.{drill_of}
use Rattle.script_text.specs.declared.command.Command.{Command}
use Rattle.script_text.specs.declared.command.Command.TheVariants.{SwapinWith}
use Rattle.script_text.specs.declared.reply.Reply.TheVariants.{In, More}
use Rattle.lab_core.specs.Commands.{LabStep}
use Rattle.lab_core.specs.Moments.{AllStandFor, IsLabAt}
use Rattle.lab_core.specs.Sessions.{OpenSwap, Session, Closed, Open, Setting, After, open_at, Terms}
use Rattle.lab_core.specs.Tells.{AllMove, GoesIn, IsInBy, IsTurnOf, busy_of, opens_of}
use Rattle.lab_core.proofs.BySolution.{begun_by, ended_by}
use Rattle.lab_core.proofs.SameSwaps.{lab_same}
use Rattle.lab_top.specs.Pieces.{Piece, Begun, AreHandedOn, AreOn, ArePieces, Finds, FirstLab, IsPiece, Leads, is_closed, is_early, may_shut, session_after, steps_of, trace_after}
use Rattle.lab_top.specs.Ran.{Outside, Ran}
use Rattle.lab_words.specs.Words.{Choices}
use Rattle.lab_top.specs.declared.status.Status.{Status}
use Rattle.lab_top.proofs.Answers.{all_stand}
use Rattle.lab_top.proofs.Moving.{moves_first}
use Rattle.lab_top.proofs.Pieces.{trace-push}
use Rattle.lab_top.proofs.RunLaws.{done, pieces_of, told_of, traces_join}
use Rattle.lab_top.proofs.TurnLaws.{all_few, few_open, handed_after, pieces_after, replied, sessions_join, stays_same}

module _ (exp text : List ℕ) where
  abbrev pub GoesAt : List Event → Session → Type 0
  GoesAt trace session = (s : LabState) → IsLabAt trace s → GoesIn (opens_of session) s exp text

  -- in the lab that a piece from an open session goes from
  first_goes : (terms : Terms) (trace : List Event) (piece : Piece) (opens : List OpenSwap) → piece.from ≡ Open opens → (l : Leads terms trace piece) → GoesAt trace piece.from → GoesIn opens l.first exp text
  first_goes terms trace piece opens is l goes =
      let late : is_early piece ≡ false = ap (λ x. is_closed x && (has_restart piece.opening && not (are_synced piece.opening))) is in
      subst (λ x. GoesIn (opens_of x) l.first exp text) is (goes l.first (subst (λ early. FirstLab early trace l.first) late l.before))

  -- the swap stays the same, and the lab
  carry : (opens to : List OpenSwap) (s u : LabState) (q : OpenSwap) (g : GoesIn opens s exp text) → open_at exp to ≡ Some q → q.running.swap ≡ g.swap.running.swap → u.lab ≡ s.lab → GoesIn to u exp text
  carry opens to s u q g is same lab = record {
    swap = q;
    is_open = is;
    lab = g.lab;
    is_lab = lab ∙ g.is_lab;
    wiring = g.wiring;
    mapping = g.mapping;
    tags = g.tags;
    new = ap (λ p. p.new) same ∙ g.new;
    reads = g.reads;
  }

  module _ (terms : Terms) (trace : List Event) (piece : Piece) (is : IsPiece terms trace piece) (differ : AllDiffer (busy_of piece.from)) (goes : GoesAt trace piece.from) (was_on : is_some (open_at exp (opens_of piece.from)) ≡ true) (on : is_some (open_at exp (opens_of piece.to)) ≡ true) where
    open_to : is_closed piece.to ≡ false
    open_to = by piece.to on
      where
        by : (to : Session) → is_some (open_at exp (opens_of to)) ≡ true → is_closed to ≡ false
        by Closed some = absurd (cc some)
        by (Open opens) some = refl

    by_drill : piece.opening ≡ [] → piece.own ≡ [] → piece.to ≡ piece.from → GoesAt (trace ++ steps_of piece) piece.to
    by_drill opening own same = λ s at.
        subst (λ x. GoesIn (opens_of x) s exp text) (sym same) (goes s (subst (λ l. IsLabAt l s) ((λ i. trace ++ (opening i ++ own i)) ∙ append-nil trace) at))

    by_step : (opens : List OpenSwap) → piece.from ≡ Open opens → (q : OpenSwap) → open_at exp (opens_of piece.to) ≡ Some q → (l : Leads terms trace piece) → GoesAt (trace ++ steps_of piece) piece.to
    by_step opens from_is q at_to l = λ s at. subst (λ u. GoesIn (opens_of piece.to) u exp text) (stood_once the_texts _ _ l.last s texts_once l.behind at) here
      where
        g : GoesIn opens l.first exp text
        g = first_goes terms trace piece opens from_is l goes

        here : GoesIn (opens_of piece.to) l.last exp text
        here =
            let set : Setting = record { length = l.steps.length; limit = 2 ^ 32; devices = piece.faults.devices } in
            let own = piece.own ++ l.steps.behind in
            let after : After = record { reply = l.steps.told; lab = l.last; session = l.steps.session } in
            let step : LabStep terms (Some trace) set l.first (Open opens) piece.command piece.opening own after
            = subst (λ f. LabStep terms (Some trace) set l.first f piece.command piece.opening own after) from_is l.steps.step in
            carry opens (opens_of piece.to) l.first l.last q g at_to
            (stays_same terms trace piece is open_to exp g.swap q differ (ap (λ f. open_at exp (opens_of f)) from_is ∙ g.is_open) at_to)
            (lab_same terms (Some trace) set l.first opens piece.command piece.opening own after exp g.swap (ap is_some g.is_lab) g.is_open step)

    by_swap : (q : Option OpenSwap) → open_at exp (opens_of piece.to) ≡ q → is_some q ≡ true → (from : Session) → piece.from ≡ from → (drill : Option Drill) → drill_of piece.command ≡ drill → GoesAt (trace ++ steps_of piece) piece.to
    by_swap q at_to some from from_is (Some drill) it =
        let finds = subst (λ (d : Option Drill). Finds d piece.from trace piece) it is.finds in
        by_drill finds.0 finds.1 (finds.2 (replied terms trace piece piece.reply refl is open_to))
    by_swap None at_to some from from_is None it = absurd (cc some)
    by_swap (Some q) at_to some (Open opens) from_is None it = by_step opens from_is q at_to (is.leads it open_to)
    by_swap (Some q) at_to some Closed from_is None it =
        let none : is_some (open_at exp (opens_of Closed)) ≡ true = subst (λ x. is_some (open_at exp (opens_of x)) ≡ true) from_is was_on in
        absurd (cc none)

    pub piece_goes : GoesAt (trace ++ steps_of piece) piece.to
    piece_goes = by_swap (open_at exp (opens_of piece.to)) refl on piece.from refl (drill_of piece.command) refl

  -- the command that begins it
  module _ (terms : Terms) (trace : List Event) (piece : Piece) (is : IsPiece terms trace piece) (lines : ℕ) (asks : piece.command ≡ SwapinWith true exp lines text) (replied_more : piece.reply ≡ Some (More exp)) where
    goes_to : (to : Session) → piece.to ≡ to → GoesAt (trace ++ steps_of piece) piece.to × (is_some (open_at exp (opens_of piece.to)) ≡ true)
    goes_to Closed to_is = let shut : may_shut (Some (More exp)) ≡ true = ap may_shut (sym replied_more) ∙ is.shuts (ap drill_of asks) (ap is_closed to_is) in absurd (cc shut)
    goes_to (Open opens) to_is =
        let l = is.leads (ap drill_of asks) (ap is_closed to_is) in
        let set : Setting = record { length = l.steps.length; limit = 2 ^ 32; devices = piece.faults.devices } in
        let own = piece.own ++ l.steps.behind in
        let after : After = record { reply = l.steps.told; lab = l.last; session = l.steps.session } in
        let told = told_of terms trace piece l.first l.last l.steps (More exp) replied_more in
        let step : LabStep terms (Some trace) set l.first piece.from (SwapinWith true exp lines text) piece.opening own after
        = subst (λ (c : Command). LabStep terms (Some trace) set l.first piece.from c piece.opening own after) asks l.steps.step in
        let g : GoesIn opens l.last exp text = begun_by terms set l.first piece.from exp text lines piece.opening own after opens step told.0 (told.1 ∙ to_is) in
        let at_to : open_at exp (opens_of piece.to) ≡ Some g.swap = ap (λ x. open_at exp (opens_of x)) to_is ∙ g.is_open in (
          (λ s at.
              subst (λ u. GoesIn (opens_of piece.to) u exp text) (stood_once the_texts _ _ l.last s texts_once l.behind at) (subst (λ x. GoesIn (opens_of x) l.last exp text) (sym to_is) g)),
          ap is_some at_to,
        )

  -- along others that leave it open
  goes_along : (terms : Terms) (trace : List Event) (session : Session) (made after : List Begun) → ArePieces terms trace (made ++ after) → AreHandedOn session (made ++ after) → length (opens_of session) ≤ 16 → AllDiffer (busy_of session)
      → is_some (open_at exp (opens_of session)) ≡ true → GoesAt trace session → AreOn exp made → GoesAt (trace_after trace made) (session_after session made) × (is_some (open_at exp (opens_of (session_after session made))) ≡ true)
  goes_along terms trace session [] after are handed few differ was_on goes on = (goes, was_on)
  goes_along terms trace session (b ∷ made) after are handed few differ was_on goes on =
      let next = all_few terms trace session (b ∷ []) (made ++ after) are handed few differ in
      goes_along terms (trace ++ steps_of b.piece) b.piece.to made after are.1 handed.1 next.0 next.1 on.0
      (piece_goes terms trace b.piece are.0 (subst (λ x. AllDiffer (busy_of x)) (sym handed.0) differ) (subst (λ x. GoesAt trace x) (sym handed.0) goes)
      (subst (λ x. is_some (open_at exp (opens_of x)) ≡ true) (sym handed.0) was_on) on.0) on.1

-- IN ONE RUN
module _ (terms : Terms) (choices : Option Choices) (old new : Outside) (status : Status) (before middle after : List Begun) (b c : Begun) (t : Told) (r : Ran terms choices old new status ((before ++ b ∷ middle) ++ c ∷ after))
    (told : old.plant.told ≡ Some t) (sound : IsSound the_texts t.trace) (exp text : List ℕ) (lines : ℕ) (asks : b.piece.command ≡ SwapinWith true exp lines text) (replied_more : b.piece.reply ≡ Some (More exp)) (on : AreOn exp middle) where
  abbrev front : List Begun
  front = before ++ b ∷ middle

  abbrev start : List Event
  start = trace_after t.trace before

  whole : Ran terms choices old new status (before ++ b ∷ (middle ++ c ∷ after))
  whole = subst (λ l. Ran terms choices old new status l) (append_assoc before (b ∷ middle) (c ∷ after)) r

  are : ArePieces terms start (b ∷ (middle ++ c ∷ after))
  are = pieces_after terms t.trace before (b ∷ (middle ++ c ∷ after)) (pieces_of terms choices old new status (before ++ b ∷ (middle ++ c ∷ after)) t whole told)

  handed : AreHandedOn (session_after Closed before) (b ∷ (middle ++ c ∷ after))
  handed = handed_after Closed before (b ∷ (middle ++ c ∷ after)) whole.sessions

  along : GoesAt exp text (trace_after start (b ∷ middle)) (session_after b.piece.to middle) × (is_some (open_at exp (opens_of (session_after b.piece.to middle))) ≡ true)
  along =
      let few = few_open terms choices old new status before (b ∷ (middle ++ c ∷ after)) whole t told in
      let next = all_few terms start (session_after Closed before) (b ∷ []) (middle ++ c ∷ after) are handed few.0 few.1 in
      let first = goes_to exp text terms start b.piece are.0 lines asks replied_more b.piece.to refl in
      goes_along exp text terms (start ++ steps_of b.piece) b.piece.to middle (c ∷ after) are.1 handed.1 next.0 next.1 first.1 first.0 on

  from_is : c.piece.from ≡ session_after b.piece.to middle
  from_is = (handed_after Closed front (c ∷ after) r.sessions).0 ∙ sessions_join Closed before (b ∷ middle)

  goes_here : GoesAt exp text (trace_after t.trace front) c.piece.from
  goes_here = subst (λ x. GoesAt exp text (trace_after t.trace front) x) (sym from_is) (subst (λ l. GoesAt exp text l (session_after b.piece.to middle)) (sym (traces_join t.trace before (b ∷ middle))) along.0)

  on_here : is_some (open_at exp (opens_of c.piece.from)) ≡ true
  on_here = subst (λ x. is_some (open_at exp (opens_of x)) ≡ true) (sym from_is) along.1

  module _ (turns : IsTurnOf exp c.piece.command) (replied_in : c.piece.reply ≡ Some (In exp)) where
    abbrev l : Leads terms (trace_after t.trace front) c.piece
    l = (done terms choices old new status front after c t r told sound).leads

    inside : (from : Session) → c.piece.from ≡ from → is_some (open_at exp (opens_of from)) ≡ true → IsInBy l.last exp text
    inside Closed is none = absurd (cc none)
    inside (Open opens) is some =
        let set : Setting = record { length = l.steps.length; limit = 2 ^ 32; devices = c.piece.faults.devices } in
        let own = c.piece.own ++ l.steps.behind in
        let ends : After = record { reply = l.steps.told; lab = l.last; session = l.steps.session } in
        let step : LabStep terms (Some (trace_after t.trace front)) set l.first (Open opens) c.piece.command c.piece.opening own ends
        = subst (λ f. LabStep terms (Some (trace_after t.trace front)) set l.first f c.piece.command c.piece.opening own ends) is l.steps.step in
        let all : AllMove opens l.first = subst (λ x. AllMove (opens_of x) l.first) is (moves_first terms choices old new status front after c t r told sound) in
        ended_by terms set l.first opens exp text own ends (told_of terms (trace_after t.trace front) c.piece l.first l.last l.steps (In exp) replied_in).0 (Some (trace_after t.trace front)) c.piece.command c.piece.opening turns step all
        (first_goes exp text terms (trace_after t.trace front) c.piece opens is l goes_here)

    pub ended_inside : (s : LabState) × AllStandFor (trace_after t.trace (front ++ c ∷ [])) s × IsInBy s exp text
    ended_inside = (
      l.last,
      subst (λ x. AllStandFor x l.last) (sym (trace-push t.trace front c)) (all_stand terms choices old new status front [] after c t r told sound (In exp) replied_in refl refl),
      inside c.piece.from refl on_here,
    )
