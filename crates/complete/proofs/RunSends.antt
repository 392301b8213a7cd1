-- How many device commands a command of a run sends at most; and the numbers of a move.
use Rattle.std.specs.Prelude.{is_some}
use Rattle.std.specs.Str.{bytes_eq}
use Rattle.std.proofs.Common.{◌≡◌, ◌⊎◌, inl, inr, ℕ, ◌+◌, ◌*◌, Bool, true, false, ◌||◌, List, [], ◌∷◌, ◌++◌, Option, Some, None, refl, ◌∙◌, ap, subst, arith}
use Rattle.std.proofs.lemmas.List.{append-nil}
use Rattle.std.proofs.lemmas.Slice.Eq.{bytes_eq-Decides}
use Rattle.phys_lab.specs.Labs.{Lab}
use Rattle.plant.specs.Events.{Event}
use Rattle.plant.specs.Told.{Told}
use Rattle.virt_topo.specs.declared.mapping.Mapped.{Mapped}
use Rattle.records_model.specs.Labs.{LabState}
use Rattle.records_model.specs.Works.{IsSound}
use Rattle.lab_state.specs.Texts.{the_texts}
use Rattle.swap_turns.specs.Legs.{Forth}
use Rattle.script_text.specs.declared.reply.Reply.{Reply}
use Rattle.cost_rule.specs.declared.rule.RuleNumber.{RuleNumber}
use Rattle.lab_ahead.specs.declared.batch.Run.{Run}
use Rattle.lab_tasks.specs.Playing.{Playing}
use Rattle.lab_judge.specs.Serving.{Serving}
use Rattle.lab_core.specs.BatchList.{is_run_of, runs_in_turn}
use Rattle.lab_core.specs.Lists.{DoesNext, Ground}
use Rattle.lab_core.specs.PlayList.{events_in_turn}
use Rattle.lab_core.specs.Sessions.{OpenSwap, Session, After, Terms}
use Rattle.lab_core.specs.Tells.{BeginsAt, opens_of}
use Rattle.lab_core.proofs.Events.{events_are}
use Rattle.lab_core.proofs.Runs.{AreOf, runs_are}
use Rattle.lab_top.specs.declared.status.Status.{Status}
use Rattle.lab_top.specs.Pieces.{Begun, ButForReply, FirstLab, is_early, trace_after}
use Rattle.lab_top.specs.Ran.{Outside, Ran}
use Rattle.lab_words.specs.Words.{Choices}
use Rattle.lab_top.proofs.RunLaws.{done}
use Rattle.complete.specs.Bounds.{commands_in, most_from, nodes_in, pipes_in, rows_in}
use Rattle.complete.specs.Sends.{BeginsWithin, SendsWithin, is_list}
use Rattle.complete.proofs.StepSends.{OpensWithin, next_within, opening_within, own_within}

module _ (terms : Terms) (choices : Option Choices) (old new : Outside) (status : Status) (before after : List Begun) (b : Begun) (t : Told) (ran : Ran terms choices old new status (before ++ b ∷ after)) (told : old.plant.told ≡ Some t) (sound : IsSound the_texts t.trace) where
  abbrev trace : List Event
  trace = trace_after t.trace before

  pub opening_sends : (s : LabState) × FirstLab (is_early b.piece) trace s × OpensWithin s b.piece.opening
  opening_sends =
      let l = (done terms choices old new status before after b t ran told sound).leads in
      (l.first, l.before, opening_within terms (Some trace) _ l.first b.piece.opening (b.piece.own ++ l.steps.behind) _ b.piece.command b.piece.from l.steps.step)

  pub nothing_after : (reply : Option Reply) → is_some reply ≡ true → (to told_to : Session) (told_so : Option Reply) (behind : List Event) → ButForReply reply to told_so told_to behind → behind ≡ []
  nothing_after None answered to told_to told_so behind is = absurd (cc answered)
  nothing_after (Some reply) answered to told_to told_so behind is = is.2

  pub own_sends : is_some b.piece.reply ≡ true → is_list b.piece.command ≡ false
      → (commands_in b.piece.own ≡ 0) ⊎ ((s : LabState) × FirstLab (is_early b.piece) trace s × (mid : LabState) × BeginsAt b.piece.from s b.piece.opening mid × SendsWithin mid (opens_of b.piece.from) b.piece.command b.piece.own)
  own_sends answered plain =
      let l = (done terms choices old new status before after b t ran told sound).leads in
      let none = nothing_after b.piece.reply answered b.piece.to l.steps.session l.steps.told l.steps.behind l.steps.is_told in
      let own_is : b.piece.own ++ l.steps.behind ≡ b.piece.own = ap (λ m. b.piece.own ++ m) none ∙ append-nil b.piece.own in
      let step = own_within terms (Some trace) _ l.first b.piece.opening (b.piece.own ++ l.steps.behind) _ b.piece.command plain b.piece.from l.steps.step in
      elim (subst (λ o. (commands_in o ≡ 0) ⊎ ((mid : LabState) × BeginsAt b.piece.from l.first b.piece.opening mid × SendsWithin mid (opens_of b.piece.from) b.piece.command o)) own_is step.1)
      [ inl calm ↦ inl calm | inr x ↦ inr (l.first, l.before, x.0, x.1, x.2) ]

-- THE NEXT RUN of a batch, and the next event of `play`
pub of_these : (runs : List Run) → AreOf (is_run_of runs) runs
of_these [] run has = absurd has
of_these (x ∷ runs) run (inl same) = ap (λ b. b || is_run_of runs run.exp) (ap (λ (r : Run). bytes_eq r.exp run.exp) same ∙ (bytes_eq-Decides run.exp run.exp).1 refl)
of_these (x ∷ runs) run (inr has) = later (bytes_eq x.exp run.exp) (of_these runs run has)
  where
    later : (b : Bool) → is_run_of runs run.exp ≡ true → b || is_run_of runs run.exp ≡ true
    later true is = refl
    later false is = is

pub run_sends : (rule : RuleNumber) (moment : ℕ) (base : Ground) (trace : Option (List Event)) (front steps : List Event) (at : Serving) (s : LabState) (opens : List OpenSwap) (after : After) → DoesNext (runs_in_turn rule moment) base trace front at s opens steps after
    → (commands_in steps ≡ 0) ⊎ ((exp : List ℕ) × (is_run_of at.left exp ≡ true) × BeginsWithin s exp steps)
run_sends rule moment base trace front steps at s opens after next =
    next_within (runs_in_turn rule moment) (λ p. AreOf (is_run_of at.left) p.left) (is_run_of at.left) (runs_are rule moment (is_run_of at.left)) base trace front at s opens steps after (of_these at.left) next

pub event_sends : (exp : List ℕ) (base : Ground) (trace : Option (List Event)) (front steps : List Event) (at : Playing) (s : LabState) (opens : List OpenSwap) (after : After) → DoesNext (events_in_turn exp) base trace front at s opens steps after
    → (commands_in steps ≡ 0) ⊎ BeginsWithin s exp steps
event_sends exp base trace front steps at s opens after next =
    elim (next_within (events_in_turn exp) (λ p. Unit {0}) (λ n. bytes_eq n exp) (events_are exp (λ n. bytes_eq n exp) ((bytes_eq-Decides exp exp).1 refl)) base trace front at s opens steps after tt next) [
      | inl calm ↦ inl calm
      | inr x ↦ inr (subst (λ n. BeginsWithin s n steps) ((bytes_eq-Decides x.0 exp).0 x.1) x.2)
    ]

-- THE NUMBERS of a swap-in, a swap-out and a change, each with its undo
module _ (lab : Lab) (name : List ℕ) (m n : Mapped) where
  pub swap_in_most : most_from lab (record { name = name; old = None; new = Some m }) Forth ≡ 2 * rows_in lab (Some m) + 67 * nodes_in lab (Some m) + pipes_in lab (Some m)
  swap_in_most = omega arith

  pub swap_out_most : most_from lab (record { name = name; old = Some m; new = None }) Forth ≡ rows_in lab (Some m) + nodes_in lab (Some m)
  swap_out_most = omega arith

  pub change_most : most_from lab (record { name = name; old = Some m; new = Some n }) Forth
      ≡ 2 * (rows_in lab (Some m) + rows_in lab (Some n)) + 68 * nodes_in lab (Some m) + 67 * nodes_in lab (Some n) + (pipes_in lab (Some m) + pipes_in lab (Some n))
  change_most = omega arith
