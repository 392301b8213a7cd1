-- No judgement has a reply that tells of a cut course, a failed call of the journal or a stop.
use Rattle.std.proofs.Common.{◌≡◌, inl, inr, ℕ, Bool, true, false, List, length, Result, Ok, Err, refl, sym, subst, arith}
use Rattle.phys_lab.specs.Labs.{Lab}
use Rattle.virt_topo.specs.declared.experiment.Experiment.{Experiment}
use Rattle.virt_topo.specs.declared.mapping.Mapping.{Mapping}
use Rattle.virt_topo.specs.declared.wiring.Wiring.{Wiring}
use Rattle.ns_events.specs.declared.event.Event.{Event as LinkEvent}
use Rattle.records_model.specs.Labs.{LabState}
use Rattle.script_text.specs.declared.command.Command.{Command}
use Rattle.script_text.specs.declared.command.Command.TheVariants as commands
use Rattle.script_text.specs.declared.reply.Reply.{Reply}
use Rattle.script_text.specs.declared.reply.Reply.TheVariants as replies
use Rattle.cost_rule.specs.declared.rule.RuleNumber.{RuleNumber}
use Rattle.lab_tasks.specs.Needs.{OrRefused, asked, need_idle_in, need_idle_out, refused}
use Rattle.lab_tasks.specs.Tasks.{Task, Tell, Append, Swap, Turn, Finish}
use Rattle.lab_tasks.specs.Mappings.{in_slot, judged_change, judged_swapin_with, task_in}
use Rattle.lab_judge.specs.Judge.{Judged, judged_create_top, judged_delete, judged_ptop}
use Rattle.lab_judge.specs.Searches.{need_mapping}
use Rattle.lab_tasks.specs.Playing.{JudgedChange, JudgedEventAt, mapping_in, need_shape}
use Rattle.lab_judge.specs.Serving.{IsTested, IsTestedAs, JudgedPlace, JudgedRunAt, claimers_of, fits, full, span_of, waits}
use Rattle.lab_core.proofs.Events.{stand_in}
use Rattle.lab_core.proofs.Runs.{stand_in as stand_in_run}
use Rattle.lab_ahead.specs.declared.batch.Promise.{Promise}
use Rattle.lab_ahead.specs.declared.batch.Run.{Run}
use Rattle.lab_ahead.specs.declared.ends.End.{End}
use Rattle.lab_ahead.specs.declared.times.Left.{Left}
use Rattle.lab_ahead.specs.declared.waits.Span.{Span}
use Rattle.lab_ahead.specs.Ends.{left_for}
use Rattle.assign_core.specs.declared.whole.Solved.{Solved}
use Rattle.journal_rec.specs.declared.record.Record.{Record}
use Rattle.journal_rec.specs.declared.record.Way.{Way}
use Rattle.lab_core.specs.Tells.{IsTurnOf}
use Rattle.complete.specs.Complete.{is_cut}

-- the reply to one command alone: it tells of no cut course, and isn't that to a batch
abbrev pub cuts : Reply → Bool
cuts (replies.Served served) = true
cuts reply = is_cut reply

-- and only `turn` and `finish` turn a swap that was open before, that of the experiment that they name
abbrev pub IsJudgedUncut : Command → Result Task Reply → Type 0
IsJudgedUncut command (Err refusal) = cuts refusal ≡ false
IsJudgedUncut command (Ok (Tell told)) = cuts told ≡ false
IsJudgedUncut command (Ok (Append entry told)) = cuts told ≡ false
IsJudgedUncut command (Ok (Turn exp)) = IsTurnOf exp command
IsJudgedUncut command (Ok (Finish exp)) = IsTurnOf exp command
IsJudgedUncut command (Ok task) = Unit {0}

module _ (s : LabState) (busy : Bool) (count : ℕ) where
  ptop_uncut : (lines : ℕ) (text : List ℕ) → IsJudgedUncut (commands.Ptop lines text) (judged_ptop s text)
  ptop_uncut lines text = grind arith

  create_uncut : (exp : List ℕ) (lines : ℕ) (text : List ℕ) → IsJudgedUncut (commands.CreateTop exp lines text) (judged_create_top s exp text)
  create_uncut exp lines text = grind arith

  -- a swap, before its room is asked for
  abbrev IsSwapOnly : Result Task Reply → Type 0
  IsSwapOnly (Err refusal) = cuts refusal ≡ false
  IsSwapOnly (Ok (Swap exp way)) = Unit {0}
  IsSwapOnly (Ok task) = ⊥

  swapin_uncut : (exp text : List ℕ) → IsSwapOnly (judged_swapin_with s busy exp text)
  swapin_uncut exp text = grind arith

  slot_uncut : (command : Command) (only : Bool) (j : Result Task Reply) → IsSwapOnly j → IsJudgedUncut command (in_slot count only j)
  slot_uncut command only j is = grind arith

  delete_uncut : (exp : List ℕ) → IsJudgedUncut (commands.Delete exp) (judged_delete s busy exp)
  delete_uncut exp = grind arith

  pub judged_uncut : (rule : RuleNumber) (command : Command) (j : Result Task Reply) → Judged rule s busy count command j → IsJudgedUncut command j
  judged_uncut rule (commands.Ptop lines text) j is = subst (IsJudgedUncut (commands.Ptop lines text)) (sym is) (ptop_uncut lines text)
  judged_uncut rule (commands.CreateTop exp lines text) j is = subst (IsJudgedUncut (commands.CreateTop exp lines text)) (sym is) (create_uncut exp lines text)
  judged_uncut rule (commands.SwapinWith only exp lines text) j is = subst (IsJudgedUncut (commands.SwapinWith only exp lines text)) (sym is) (slot_uncut (commands.SwapinWith only exp lines text) only _ (swapin_uncut exp text))
  judged_uncut rule (commands.Delete exp) j is = subst (IsJudgedUncut (commands.Delete exp)) (sym is) (delete_uncut exp)
  judged_uncut rule (commands.Create exp lines text) j is = grind arith
  judged_uncut rule (commands.Swapin only exp seed) j is = grind arith
  judged_uncut rule (commands.Modify only exp seed lines text) j is = grind arith
  judged_uncut rule (commands.ModifyWith only exp lines top others map) j is = grind arith
  judged_uncut rule command j is = grind arith

-- OF AN EVENT OF `play`, which stands for a change, and turns no swap that was open before
pub event_turns : (name exp : List ℕ) → IsTurnOf name (stand_in exp) → ⊥
event_turns name exp (inl is) = cc is
event_turns name exp (inr is) = cc is

module _ (s : LabState) (busy : Bool) (count : ℕ) (exp : List ℕ) where
  abbrev Uncut : Result Task Reply → Type 0
  Uncut j = IsJudgedUncut (stand_in exp) j

  pub idle_uncut : (reply : Reply) → need_idle_in s busy exp ≡ Err reply → cuts reply ≡ false
  idle_uncut reply is = grind arith

  change_uncut : (lab : Lab) (e : Experiment) (w : Wiring) (m : Mapping) → Uncut (in_slot count false (judged_change s lab e w m))
  change_uncut lab e w m = grind arith

  shape_uncut : (text : Wiring) (event : LinkEvent) (now : Wiring) (reply : Reply) → need_shape exp text event now ≡ Err reply → cuts reply ≡ false
  shape_uncut text event now reply is = grind arith

  pub event_uncut : (text : Wiring) (event : LinkEvent) (j : Result Task Reply) → JudgedEventAt exp text event s busy count j → Uncut j
  event_uncut text event j (refused reply needed is) = subst Uncut (sym is) (idle_uncut reply needed)
  event_uncut text event j (asked p needed judged) = by judged
    where
      by : OrRefused (need_shape exp text event p.1.wiring) (λ shaped. JudgedChange exp text event s count p.0 p.1) j → Uncut j
      by (refused reply lacks is) = subst Uncut (sym is) (shape_uncut text event p.1.wiring reply lacks)
      by (asked shaped has change) = subst Uncut (sym change.is) (change_uncut p.0 p.1 change.wiring (mapping_in p.1.phase))

-- OF A RUN OF A BATCH, which stands for a swap-in
pub run_turns : (name exp : List ℕ) → IsTurnOf name (stand_in_run exp) → ⊥
run_turns name exp (inl is) = cc is
run_turns name exp (inr is) = cc is

module _ (s : LabState) (busy : Bool) (count : ℕ) (exp : List ℕ) where
  -- before its room is asked for
  abbrev IsToldUncut : Result Task Reply → Type 0
  IsToldUncut (Err refusal) = cuts refusal ≡ false
  IsToldUncut (Ok (Tell told)) = cuts told ≡ false
  IsToldUncut (Ok (Swap own way)) = Unit {0}
  IsToldUncut (Ok task) = ⊥

  abbrev RunUncut : Result Task Reply → Type 0
  RunUncut j = IsJudgedUncut (stand_in_run exp) j

  room_uncut : (j : Result Task Reply) → IsToldUncut j → RunUncut (in_slot count false j)
  room_uncut j is = grind arith

  out_uncut : (reply : Reply) → need_idle_out s busy exp ≡ Err reply → cuts reply ≡ false
  out_uncut reply is = grind arith

  found_uncut : (name : List ℕ) (found : Solved) (reply : Reply) → need_mapping name found ≡ Err reply → cuts reply ≡ false
  found_uncut name found reply is = grind arith

  tested_uncut : (space : Bool) (lab : Lab) (left : List Left) (promises : List Promise) (span : Span) (own : List ℕ) (way : Way) (j : Result Task Reply) → IsTested space lab left promises span own way j → IsToldUncut j
  tested_uncut space lab left promises span own way j (full none is) = subst IsToldUncut (sym is) tt
  tested_uncut space lab left promises span own way j (fits room all is) = subst IsToldUncut (sym is) tt
  tested_uncut space lab left promises span own way j (waits room wait short is) = subst IsToldUncut (sym is) refl

  module _ (rule : RuleNumber) (moment : ℕ) (promises : List Promise) (ends : List End) (run : Run) (space : Record → Bool) where
    place_uncut : (lab : Lab) (e : Experiment) (j : Result Task Reply) → JudgedPlace rule moment promises ends run space s lab e j → IsToldUncut j
    place_uncut lab e j placed = by placed.tested
      where
        by : OrRefused (need_mapping e.name placed.found) (λ m. IsTestedAs space lab (left_for (claimers_of (length lab.nodes) s.experiments) ends m.places) promises (span_of moment run) (task_in s lab e m)) j → IsToldUncut j
        by (refused reply needed is) = subst IsToldUncut (sym is) (found_uncut e.name placed.found reply needed)
        by (asked m some tested) = tested_uncut _ lab _ promises (span_of moment run) e.name _ j tested

    test_uncut : (j : Result Task Reply) → OrRefused (need_idle_out s busy exp) (λ p. JudgedPlace rule moment promises ends run space s p.0 p.1) j → IsToldUncut j
    test_uncut j (refused reply needed is) = subst IsToldUncut (sym is) (out_uncut reply needed)
    test_uncut j (asked p needed placed) = place_uncut p.0 p.1 j placed

pub run_uncut : (s : LabState) (busy : Bool) (count : ℕ) (rule : RuleNumber) (moment : ℕ) (promises : List Promise) (ends : List End) (run : Run) (space : Record → Bool) (j : Result Task Reply) → JudgedRunAt rule moment promises ends run space s busy count j
    → IsJudgedUncut (stand_in_run run.exp) j
run_uncut s busy count rule moment promises ends run space j judged =
    subst (IsJudgedUncut (stand_in_run run.exp)) (sym judged.is) (room_uncut s busy count run.exp judged.before (test_uncut s busy count run.exp rule moment promises ends run space judged.before judged.judged))
