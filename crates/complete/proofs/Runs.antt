-- A run among steps that go well.
use Rattle.std.specs.Prelude.{IfSome, is_some}
use Rattle.std.proofs.Common.{◌≡◌, ◌⊎◌, inl, inr, ℕ, false, List, [], ◌∷◌, ◌++◌, append_assoc, Option, Some, None, refl, sym, ◌∙◌, ap, subst}
use Rattle.std.proofs.lemmas.List.{append-nil}
use Rattle.plant.specs.Events.{Event}
use Rattle.plant.specs.Told.{Told}
use Rattle.plant.specs.declared.step.Side.{Side}
use Rattle.records_model.specs.Labs.{LabState}
use Rattle.records_model.specs.Works.{IsSound}
use Rattle.lab_state.specs.Texts.{the_texts}
use Rattle.script_text.specs.Commands.{AreCommands, AtEnd, BadLine, Got, Lines}
use Rattle.script_text.specs.declared.command.Command.{Command}
use Rattle.script_text.specs.declared.reply.Reply.{Reply}
use Rattle.lab_core.specs.Sessions.{Terms}
use Rattle.lab_core.specs.Tells.{opens_of}
use Rattle.lab_top.specs.declared.status.Status.{Status}
use Rattle.lab_top.specs.declared.status.Status.TheVariants.{Done, ReadFault, WriteFault, Usage, BadScript, Memory, JournalBad}
use Rattle.lab_top.specs.Pieces.{Piece, Begun, ArePieces, ButForReply, FirstLab, IsDone, StepsFrom, commands_of, is_early, steps_of}
use Rattle.lab_top.specs.Ran.{BegunBy, Outside, Ran, number_of}
use Rattle.lab_words.specs.Words.{Choices}
use Rattle.complete.specs.Booted.{GoesWell}
use Rattle.complete.specs.Complete.{AllGoesWell, AreUncut, IsComplete, IsReadOut, IsUncut, IsWholeScript, OpensWell, is_cut}
use Rattle.complete.specs.OpenCourses.{steps_in}
use Rattle.complete.proofs.GoingWell.{settles_well, well_after}
use Rattle.complete.proofs.BatchUncut.{told_cut}
use Rattle.complete.proofs.DoneUncut.{AreSafe}
use Rattle.complete.proofs.StepUncut.{lab_step_uncut}

-- ONE PIECE
abbrev pub SafeAt : List Event → List Event → Piece → Type 0
SafeAt more trace piece = (s : LabState) → FirstLab (is_early piece) trace s → AreSafe (piece.own ++ more) piece.command s (opens_of piece.from)

module _ (terms : Terms) (trace : List Event) (piece : Piece) (more : List Event) (well : GoesWell (steps_of piece ++ more)) (done : IsDone terms trace piece) where
  told_so : (s after : LabState) (steps : StepsFrom terms trace piece s after) (reply : Reply) → piece.reply ≡ Some reply → (steps.told ≡ Some reply) × (steps.session ≡ piece.to) × (steps.behind ≡ [])
  told_so s after steps reply is = subst (λ (o : Option Reply). ButForReply o piece.to steps.told steps.session steps.behind) is steps.is_told

  reply_uncut : SafeAt more trace piece → (reply : Reply) → piece.reply ≡ Some reply → is_cut reply ≡ false
  reply_uncut safe reply is =
      let steps = done.leads.steps in
      let told = told_so done.leads.first done.leads.last steps reply is in
      let as_was : piece.own ++ steps.behind ≡ piece.own = ap (λ b. piece.own ++ b) told.2 ∙ append-nil piece.own in
      let goes = subst (λ o. GoesWell ((piece.opening ++ o) ++ more)) (sym as_was) well in
      let safe_here = subst (λ o. AreSafe (o ++ more) piece.command done.leads.first (opens_of piece.from)) (sym as_was) (safe done.leads.first done.leads.before) in
      sym (ap told_cut told.0) ∙ lab_step_uncut terms (Some trace) _ done.leads.first piece.opening (piece.own ++ steps.behind) more _ goes piece.command piece.from safe_here steps.step

  opens_well : OpensWell trace piece
  opens_well has =
      let to = done.opened has in
      let opens = to.1.opens in
      let all = subst GoesWell (append_assoc piece.opening piece.own more ∙ ap (λ l. l ++ (piece.own ++ more)) opens.is ∙ append_assoc opens.reading (opens.moving ++ opens.shifting) (piece.own ++ more)) well in
      let moved = subst GoesWell (append_assoc opens.moving opens.shifting (piece.own ++ more)) (well_after opens.reading ((opens.moving ++ opens.shifting) ++ (piece.own ++ more)) all) in
      (done.leads.first, done.leads.before, to.0, to.1, settles_well done.leads.first _ opens.outcomes opens.moving (opens.shifting ++ (piece.own ++ more)) to.0 opens.settles moved)

  pub piece_uncut : SafeAt more trace piece → IsUncut trace piece
  piece_uncut safe = record { reply = reply_uncut safe; opening = opens_well }

-- ALL OF THEM
abbrev pub AllSafe : List Event → List Begun → Type 0
AllSafe trace [] = Unit {0}
AllSafe trace (b ∷ made) = SafeAt (steps_in made) trace b.piece × AllSafe (trace ++ steps_of b.piece) made

pub all_uncut : (terms : Terms) (trace : List Event) (made : List Begun) → ArePieces terms trace made → IsSound the_texts trace → GoesWell (steps_in made) → AllSafe trace made → AreUncut trace made
all_uncut terms trace [] are sound well safe = tt
all_uncut terms trace (b ∷ made) are sound well safe =
    let done = are.0.done sound in (
      piece_uncut terms trace b.piece (steps_in made) well done safe.0,
      all_uncut terms (trace ++ steps_of b.piece) made are.1 done.sound (well_after (steps_of b.piece) (steps_in made) well) safe.1,
    )

-- A SCRIPT ENDS IN ONE WAY
one_ending : (number : ℕ) (lines : Lines) (a b : List Command) (line : ℕ) → AreCommands number lines a AtEnd → AreCommands number lines b (BadLine line) → ⊥
one_ending number lines [] [] line x y = cc (sym x ∙ y)
one_ending number lines [] (d ∷ b) line x y = cc (sym x ∙ y.2)
one_ending number lines (c ∷ a) [] line x y = cc (sym x.2 ∙ y)
one_ending number lines (c ∷ a) (d ∷ b) line x y =
    let same : Got c x.0 x.1 ≡ Got d y.0 y.1 = sym x.2 ∙ y.2 in
    let number_is : x.0 ≡ y.0 = cc same in
    let lines_are : x.1 ≡ y.1 = cc same in
    one_ending x.0 x.1 a b line x.3 (subst (λ l. AreCommands x.0 l b (BadLine line)) (sym lines_are) (subst (λ n. AreCommands n y.1 b (BadLine line)) (sym number_is) y.3))

not_bad : (number : Option ℕ) (old new : Option (List ℕ)) (commands : List Command) (line : ℕ) → IsWholeScript number old → BegunBy number old new commands (BadScript line) → ⊥
not_bad None old new commands line script begun = one_ending 0 _ script.2.0 commands line script.2.1 (begun script.0 script.1).0
not_bad (Some seed) old new commands line script begun = begun.1

read_out : (number : Option ℕ) (old new : Option (List ℕ)) (made : List Begun) → IsWholeScript number old → BegunBy number old new (commands_of made) Done → IsReadOut number old new made
read_out None old new made script begun = (λ bytes is. (begun bytes is).0, (begun script.0 script.1).1)
read_out (Some seed) old new made script begun = (begun.1, begun.0)

-- THE RUN
module _ (terms : Terms) (choices : Option Choices) (old new : Outside) (made : List Begun) (t : Told) (is_told : old.plant.told ≡ Some t) (sound : IsSound the_texts t.trace) (safe : AllSafe t.trace made) where
  pub complete : (status : Status) → Ran terms choices old new status made → AllGoesWell choices old status (steps_in made) → ((side : Side) (at : ℕ) → status ≡ JournalBad side at → ⊥) → (status ≡ Memory) ⊎ ((status ≡ Done) × IsComplete choices old new t.trace made)
  complete Memory ran well not_none = inl refl
  complete Done ran well not_none = inr (
    refl,
    record {
      read = read_out (number_of choices) old.left new.left made well.script ran.begun;
      answered = ran.answered;
      uncut = all_uncut terms t.trace made (subst (λ (o : Option Told). IfSome o (λ u. ArePieces terms u.trace made)) is_told ran.pieces) sound well.plant safe;
      wrote = ran.wrote;
    },
  )
  complete ReadFault ran well not_none = absurd (well.source refl)
  complete WriteFault ran well not_none = absurd (well.sink refl)
  complete Usage ran well not_none = absurd (cc (sym (ap is_some (ran.usage refl)) ∙ well.accepted))
  complete (BadScript line) ran well not_none = absurd (not_bad (number_of choices) old.left new.left _ line well.script ran.begun)
  complete (JournalBad side at) ran well not_none = absurd (not_none side at refl)
