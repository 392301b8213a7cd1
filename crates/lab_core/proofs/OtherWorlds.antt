-- A turn of one swap leaves the world of each other experiment as it was.
use Rattle.std.proofs.Common.{◌≡◌, ◌≢◌, ◌⊎◌, inl, inr, ⊎_elim, ℕ, Bool, true, false, fold, List, [], ◌++◌, Option, Some, None, Result, Ok, Err, refl, sym, ap, ◌∙◌, subst}
use Rattle.std.proofs.lemmas.List.Sums.{fold-append}
use Rattle.lab_base.specs.Lists.{Has}
use Rattle.phys_lab.specs.Labs.{Lab}
use Rattle.virt_topo.specs.declared.experiment.Experiment.{Experiment}
use Rattle.plant.specs.Events.{Event}
use Rattle.plant.specs.Worlds.{World, blank, world_after, world_of}
use Rattle.swap_turns.specs.Pieces.{has_command}
use Rattle.lab_model.specs.Leavings.{SameFor}
use Rattle.records_model.specs.Labs.{LabState, Sane, find, lab_in}
use Rattle.script_text.specs.declared.command.Command.{Command}
use Rattle.script_text.specs.declared.command.Command.TheVariants as commands
use Rattle.script_text.specs.declared.reply.Reply.{Reply}
use Rattle.script_text.specs.declared.reply.Reply.TheVariants.{NoLab, NotOpen, Unknown}
use Rattle.swap_turns.proofs.Elsewhere.{finish_elsewhere, same_world, turn_elsewhere}
use Rattle.lab_tasks.specs.Tasks.{Task, Turn, Finish}
use Rattle.lab_tasks.specs.Needs.{need_found, need_lab, need_open, ◌>>=◌}
use Rattle.lab_judge.specs.Judge.{judged_turn, judged_finish}
use Rattle.lab_core.specs.LabSteps.{Does, EndsSwap, IsDoneBy, JudgedBeside, Turns, does, no_memory}
use Rattle.lab_core.specs.Commands.{LabStep}
use Rattle.cost_rule.specs.declared.rule.RuleNumber.{RuleNumber}
use Rattle.swap_turns.proofs.Sounds.{world_stays}
use Rattle.lab_core.specs.Sessions.{OpenSwap, Open, Setting, After, names_of, Terms}
use Rattle.lab_tasks.specs.OpenNames.{is_among}
use Rattle.lab_core.specs.Tells.{IsTurnOf}
use Rattle.lab_core.proofs.TurnLaws.{answer_calm}

-- AS THEY ARE JUDGED: a refusal, or the turn, or the turns up to the end
abbrev pub IsThisOrRefused : Task → Result Task Reply → Type 0
IsThisOrRefused task judgement = ((refusal : Reply) × (judgement ≡ Err refusal)) ⊎ (judgement ≡ Ok task)

open_or_refused : (task : Task) (exp : List ℕ) (lab : Option Lab) (found : Option Experiment) (busy : Bool) → IsThisOrRefused task (need_lab lab >>= (λ l. need_found exp found >>= (λ e. need_open exp busy >>= (λ opened. Ok task))))
open_or_refused task exp None found busy = inl (NoLab, refl)
open_or_refused task exp (Some lab) None busy = inl (Unknown exp, refl)
open_or_refused task exp (Some lab) (Some e) false = inl (NotOpen exp, refl)
open_or_refused task exp (Some lab) (Some e) true = inr refl

pub turn_or_refused : (s : LabState) (busy : Bool) (exp : List ℕ) → ((refusal : Reply) × (judged_turn s busy exp ≡ Err refusal)) ⊎ (judged_turn s busy exp ≡ Ok (Turn exp))
turn_or_refused s busy exp = open_or_refused (Turn exp) exp s.lab (find exp s.experiments) busy

pub finish_or_refused : (s : LabState) (busy : Bool) (exp : List ℕ) → IsThisOrRefused (Finish exp) (judged_finish s busy exp)
finish_or_refused s busy exp = open_or_refused (Finish exp) exp s.lab (find exp s.experiments) busy

module _ (set : Setting) (s : LabState) (opens : List OpenSwap) (exp : List ℕ) (own : List Event) (after : After) (w : World) (e : Experiment) (sane : Sane s) (has : Has s.experiments e) (other : e.name ≢ exp) where
  abbrev Spares : List Event → Type 0
  Spares steps = SameFor (lab_in s.lab) e w (fold world_after w steps)

  without_steps : own ≡ [] → Spares own
  without_steps none = subst Spares (sym none) (same_world (lab_in s.lab) e w)

  -- with what stands after the turn
  with_after : (steps behind : List Event) → own ≡ steps ++ behind → has_command behind ≡ false → Spares steps → Spares own
  with_after steps behind own_is calm spares =
      subst (λ (v : World). SameFor (lab_in s.lab) e w v) (sym (ap (λ (l : List Event). fold world_after w l) own_is ∙ fold-append world_after w steps behind ∙ world_stays behind (fold world_after w steps) calm)) spares

  one_turned : Turns s opens exp own after → Spares own
  one_turned d =
      with_after d.steps d.behind d.own_is (answer_calm _ _ d.outcome d.behind after d.answered).0
      (turn_elsewhere s d.one.swap.running w e sane d.moves has (λ same. other (same ∙ d.one.name)) d.steps d.outcome after.lab d.turn)

  one_ended : EndsSwap s opens exp own after → Spares own
  one_ended d =
      with_after d.steps d.behind d.own_is (answer_calm _ _ d.outcome d.behind after d.answered).0
      (finish_elsewhere s d.one.swap.running w e sane d.moves has (λ same. other (same ∙ d.one.name)) d.steps d.outcome after.lab d.finishes)

  by_task : (task : Task) (judgement : Result Task Reply) → (Does set s opens (Ok task) own after → Spares own) → IsThisOrRefused task judgement → Does set s opens judgement own after → Spares own
  by_task task judgement each is did =
      ⊎_elim (λ refused. let told : Does set s opens (Err refused.0) own after = subst (λ (j : Result Task Reply). Does set s opens j own after) refused.1 did in without_steps told.nothing)
      (λ this. each (subst (λ (j : Result Task Reply). Does set s opens j own after) this did)) is

  turn_spares : (rule : RuleNumber) → IsDoneBy (JudgedBeside rule (commands.Turn exp) opens s) set s opens own after → Spares own
  turn_spares rule (no_memory wants) = without_steps wants.nothing
  turn_spares rule (does judgement judged did) =
      let busy = is_among (names_of opens) (Some exp) in
      by_task (Turn exp) (judged_turn s busy exp) one_turned (turn_or_refused s busy exp) (subst (λ (j : Result Task Reply). Does set s opens j own after) judged did)

  finish_spares : (rule : RuleNumber) → IsDoneBy (JudgedBeside rule (commands.Finish exp) opens s) set s opens own after → Spares own
  finish_spares rule (no_memory wants) = without_steps wants.nothing
  finish_spares rule (does judgement judged did) =
      let busy = is_among (names_of opens) (Some exp) in
      by_task (Finish exp) (judged_finish s busy exp) one_ended (finish_or_refused s busy exp) (subst (λ (j : Result Task Reply). Does set s opens j own after) judged did)

  step_spares : (terms : Terms) (at : Option (List Event)) (command : Command) (opening : List Event) → IsTurnOf exp command → LabStep terms at set s (Open opens) command opening own after → Spares own
  step_spares terms at command opening (inl is) step =
      let turn : LabStep terms at set s (Open opens) (commands.Turn exp) opening own after = subst (λ (c : Command). LabStep terms at set s (Open opens) c opening own after) is step in
      turn_spares terms.rule turn.1
  step_spares terms at command opening (inr is) step =
      let finish : LabStep terms at set s (Open opens) (commands.Finish exp) opening own after = subst (λ (c : Command). LabStep terms at set s (Open opens) c opening own after) is step in
      finish_spares terms.rule finish.1

-- OVER A TRACE
pub others_spared : (terms : Terms) (at : Option (List Event)) (set : Setting) (s : LabState) (opens : List OpenSwap) (command : Command) (opening own : List Event) (after : After) (trace : List Event) (exp : List ℕ) (e : Experiment)
    → Sane s → IsTurnOf exp command → Has s.experiments e → e.name ≢ exp → LabStep terms at set s (Open opens) command opening own after
    → SameFor (lab_in s.lab) e (world_of trace) (world_of (trace ++ own))
others_spared terms at set s opens command opening own after trace exp e sane turns has other step =
    subst (λ (v : World). SameFor (lab_in s.lab) e (world_of trace) v) (sym (fold-append world_after blank trace own))
    (step_spares set s opens exp own after (world_of trace) e sane has other terms at command opening turns step)
