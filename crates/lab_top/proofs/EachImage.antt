-- The lines of a batch and the reply to a play, in each image that a later stop may leave, also where that reply closes the controller.
use Rattle.std.proofs.Common.{◌≡◌, ℕ, ◌^◌, Bool, true, false, List, [], ◌∷◌, ◌++◌, Option, Some, refl, sym, ◌∙◌, ap, subst}
use Rattle.std.proofs.lemmas.Option.{same_Some}
use Rattle.plant.specs.Disks.{ArePossible, disk}
use Rattle.plant.specs.Events.{Event}
use Rattle.plant.specs.Told.{Told}
use Rattle.plant.specs.declared.step.Side.TheVariants.{A, B}
use Rattle.virt_topo.specs.declared.experiment.Experiment.{Experiment}
use Rattle.virt_topo.specs.declared.experiment.Phase.{Phase}
use Rattle.lab_model.specs.Sound.{is_moving}
use Rattle.records_model.specs.Labs.{LabState, is_out}
use Rattle.records_model.specs.Works.{IsSound}
use Rattle.records_model.proofs.LabLaws.{lab_sane}
use Rattle.swap_turns.proofs.Stood.{stood_once}
use Rattle.lab_state.specs.Texts.{the_texts}
use Rattle.lab_state.proofs.Canonical.{texts_once}
use Rattle.script_text.specs.declared.command.Command.{Command}
use Rattle.script_text.specs.declared.command.Command.TheVariants.{Batch, Play}
use Rattle.script_text.specs.declared.reply.Reply.{Reply}
use Rattle.script_text.specs.declared.reply.Reply.TheVariants as replies
use Rattle.script_text.specs.declared.reply.Served.{Served}
use Rattle.lab_core.specs.BatchLines.{BatchTells, there_in}
use Rattle.lab_core.specs.Commands.{LabStep, is_about}
use Rattle.lab_core.specs.Moments.{IsLabOfImage, StandForLab}
use Rattle.lab_core.specs.PlayTells.{PlayTells}
use Rattle.lab_core.specs.Sessions.{After, Setting, Terms}
use Rattle.lab_core.specs.Tells.{IsThere, is_in}
use Rattle.lab_core.proofs.BatchLines.{batch_so, batch_tells}
use Rattle.lab_core.proofs.ListSteps.{all_stay}
use Rattle.lab_core.proofs.PlayTells.{play_so, play_tells}
use Rattle.lab_top.specs.declared.status.Status.{Status}
use Rattle.lab_top.specs.Pieces.{AreOthers, ArePieces, Begun, ImagesAfter, IsDone, Piece, StepsFrom, is_early, leaves_one, steps_of, trace_after}
use Rattle.lab_top.specs.Ran.{Outside, Ran}
use Rattle.lab_top.proofs.Answers.{Rests, in_rests, out_rests}
use Rattle.lab_top.proofs.RunLaws.{behind, pieces_of, set_with, told_of, traces_join}
use Rattle.lab_top.proofs.Stepping.{first_image}
use Rattle.lab_words.specs.Words.{Choices}

-- WHAT RESTS IN ONE LAB rests so in another, of each experiment that these commands are not about
abbrev Carries : List Begun → LabState → LabState → Type 0
Carries middle s u = (is : Phase → Bool) → Rests is → (exp : List ℕ) → AreOthers exp middle → IsThere is s exp → IsThere is u exp

-- ONE PIECE: each image after it stands for a lab to which it leads from that of an image before it
record IsLed (terms : Terms) (trace : List Event) (piece : Piece) (x y : List ℕ) : Type 0 where
  first : LabState
  image : IsLabOfImage trace first
  last : LabState
  stand : StandForLab x y last
  steps : StepsFrom terms trace piece first last

module _ (terms : Terms) (trace : List Event) (piece : Piece) (readable : ArePossible trace (disk A trace).reads (disk B trace).reads) (done : IsDone terms trace piece) (x y : List ℕ) (possible : ArePossible (trace ++ steps_of piece) x y) where
  is_led : IsLed terms trace piece x y
  is_led = by (leaves_one piece.to piece.reply) done.images
    where
      by : (one : Bool) → ImagesAfter terms one trace piece done.leads.last → IsLed terms trace piece x y
      by true all =
          let l = done.leads in
          record { first = l.first; image = first_image trace readable (is_early piece) l.first l.before; last = l.last; stand = all x y possible; steps = l.steps }
      by false images = let i = images x y possible in record { first = i.0; image = i.2; last = i.1; stand = i.3; steps = i.4 }

  stays_there : (led : IsLed terms trace piece x y) (is : Phase → Bool) → Rests is → (exp : List ℕ) → is_about piece.command exp ≡ false → IsThere is led.first exp → IsThere is led.last exp
  stays_there led is rests exp other there =
      let e = there.experiment in
      let in_lab = set_with exp led.first e (lab_sane the_texts led.image.stand.records led.first led.image.stand.lab_of) led.first.lab refl there.found in
      let stays =
      all_stay terms (Some trace) (record { length = led.steps.length; limit = 2 ^ 32; devices = piece.faults.devices }) led.first piece.from piece.opening (piece.own ++ led.steps.behind)
      (record { reply = led.steps.told; lab = led.last; session = led.steps.session }) piece.command exp in_lab other
      (λ settled f found. subst (λ (z : Experiment). is_moving z ≡ false) (same_Some e f (sym there.found ∙ found)) (rests e there.is_so)) led.steps.step in
      record { experiment = e; found = stays.same ∙ there.found; is_so = there.is_so }

-- AFTER ONE, and after all of them, from what holds of a lab before
record IsNext (Holds : LabState → Type 0) (command : Command) (u : LabState) : Type 0 where
  from : LabState
  holds : Holds from
  stays : (is : Phase → Bool) → Rests is → (exp : List ℕ) → is_about command exp ≡ false → IsThere is from exp → IsThere is u exp

record IsCarried (Holds : LabState → Type 0) (middle : List Begun) (u : LabState) : Type 0 where
  from : LabState
  holds : Holds from
  carries : Carries middle from u

abbrev InEach : (LabState → Type 0) → List Event → Type 0
InEach Holds trace = (x y : List ℕ) → ArePossible trace x y → (s : LabState) × StandForLab x y s × Holds s

pieces_carry : (terms : Terms) (trace : List Event) (middle after : List Begun) (Holds : LabState → Type 0) → ArePieces terms trace (middle ++ after) → IsSound the_texts trace → InEach Holds trace → InEach (IsCarried Holds middle) (trace_after trace middle)
pieces_carry terms trace [] after Holds are sound each x y possible = let s = each x y possible in (s.0, s.1, record { from = s.0; holds = s.2; carries = λ is rests exp others there. there })
pieces_carry terms trace (b ∷ middle) after Holds are sound each x y possible =
    let rest = pieces_carry terms (trace ++ steps_of b.piece) middle after (IsNext Holds b.piece.command) are.1 (are.0.done sound).sound next x y possible in
    let c : IsCarried (IsNext Holds b.piece.command) middle rest.0 = rest.2 in
    (rest.0, rest.1, record { from = c.holds.from; holds = c.holds.holds; carries = λ is rests exp others there. c.carries is rests exp others.1 (c.holds.stays is rests exp others.0 there) })
  where
    next : InEach (IsNext Holds b.piece.command) (trace ++ steps_of b.piece)
    next v w may =
        let led = is_led terms trace b.piece are.0.readable (are.0.done sound) v w may in
        let s = each led.image.a led.image.b led.image.possible in
        let same : s.0 ≡ led.first = stood_once the_texts led.image.a led.image.b s.0 led.first texts_once s.1 led.image.stand in
        (led.last, led.stand, record { from = led.first; holds = subst Holds same s.2; stays = stays_there terms trace b.piece are.0.readable (are.0.done sound) v w may led })

-- IN ONE RUN: a command that is answered, and later ones
module _ (terms : Terms) (choices : Option Choices) (old new : Outside) (status : Status) (before middle after : List Begun) (b : Begun) (t : Told) (r : Ran terms choices old new status (before ++ b ∷ (middle ++ after))) (told : old.plant.told ≡ Some t)
    (sound : IsSound the_texts t.trace) (reply : Reply) (replied : b.piece.reply ≡ Some reply) where
  abbrev trace : List Event
  trace = trace_after t.trace before

  here : ArePieces terms trace (b ∷ (middle ++ after)) × IsSound the_texts trace
  here = behind terms t.trace before (b ∷ (middle ++ after)) (pieces_of terms choices old new status (before ++ b ∷ (middle ++ after)) t r told) sound

  -- by what the reply tells of the lab after each such lab step
  module _ (command : Command) (asks : b.piece.command ≡ command) (Holds : LabState → Type 0)
      (tells : (set : Setting) (s : LabState) (own : List Event) (end : After) → end.reply ≡ Some reply → LabStep terms (Some trace) set s b.piece.from command b.piece.opening own end → Holds end.lab) where
    behind_it : InEach Holds (trace ++ steps_of b.piece)
    behind_it x y possible =
        let led = is_led terms trace b.piece here.0.0.readable (here.0.0.done here.1) x y possible in
        let set : Setting = record { length = led.steps.length; limit = 2 ^ 32; devices = b.piece.faults.devices } in
        let own = b.piece.own ++ led.steps.behind in
        let end : After = record { reply = led.steps.told; lab = led.last; session = led.steps.session } in
        let step = subst (λ (c : Command). LabStep terms (Some trace) set led.first b.piece.from c b.piece.opening own end) asks led.steps.step in
        (led.last, led.stand, tells set led.first own end (told_of terms trace b.piece led.first led.last led.steps reply replied).0 step)

    carried : InEach (IsCarried Holds middle) (trace_after t.trace (before ++ b ∷ middle))
    carried x y possible =
        pieces_carry terms (trace ++ steps_of b.piece) middle after Holds here.0.1 (here.0.0.done here.1).sound behind_it x y
        (subst (λ l. ArePossible l x y) (traces_join t.trace before (b ∷ middle)) possible)

  pub lines_left : (moment lines : ℕ) (text : List ℕ) (served : Served) → b.piece.command ≡ Batch moment lines text → reply ≡ replies.Served served
      → (x y : List ℕ) → ArePossible (trace_after t.trace (before ++ b ∷ middle)) x y
      → (u : LabState) × StandForLab x y u × BatchTells (λ is exp. AreOthers exp middle → IsThere is u exp) text served
  lines_left moment lines text served asks is x y possible =
      let c =
      carried (Batch moment lines text) asks (λ s. BatchTells (there_in s) text served)
      (λ set s own end so step. batch_tells terms (Some trace) set s b.piece.from moment lines text b.piece.opening own end served (so ∙ ap (λ z. Some z) is) step) x y possible in
      let s : IsCarried (λ s. BatchTells (there_in s) text served) middle c.0 = c.2 in (
        c.0,
        c.1,
        batch_so (there_in s.from) (λ is exp. AreOthers exp middle → IsThere is c.0 exp) (λ exp there others. s.carries is_in in_rests exp others there) (λ exp there others. s.carries is_out out_rests exp others there)
            text served s.holds,
      )

  pub played_left : (exp name text last : List ℕ) (from until lines count : ℕ) (closing blaming : Bool) → b.piece.command ≡ Play exp from until lines text → reply ≡ replies.Played name count last closing blaming
      → (x y : List ℕ) → ArePossible (trace_after t.trace (before ++ b ∷ middle)) x y
      → (u : LabState) × StandForLab x y u × PlayTells (λ is exp. AreOthers exp middle → IsThere is u exp) exp (replies.Played name count last closing blaming)
  played_left exp name text last from until lines count closing blaming asks is x y possible =
      let c =
      carried (Play exp from until lines text) asks (λ s. PlayTells (there_in s) exp (replies.Played name count last closing blaming))
      (λ set s own end so step. play_tells terms (Some trace) set s b.piece.from exp name from until lines count text last closing blaming b.piece.opening own end (so ∙ ap (λ z. Some z) is) step) x y possible in
      let s : IsCarried (λ s. PlayTells (there_in s) exp (replies.Played name count last closing blaming)) middle c.0 = c.2 in (
        c.0,
        c.1,
        play_so (there_in s.from) (λ is exp. AreOthers exp middle → IsThere is c.0 exp) (λ exp there others. s.carries is_in in_rests exp others there) (λ exp there others. s.carries is_out out_rests exp others there)
            exp (replies.Played name count last closing blaming) s.holds,
      )
