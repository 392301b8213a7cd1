-- The judgements of a batch and of its runs, as the code makes them.
use Rattle.std.specs.Prelude.{if◌then◌else◌}
use Rattle.std.specs.List.{list_any, range_with_len}
use Rattle.std.proofs.Common.{◌≡◌, inl, inr, ℕ, ◌||◌, ◌==◌, Bool, List, [], ◌∷◌, filter, length, map, Option, Some, None, IfSome, Result, Ok, Err, refl, sym, ap, ◌∙◌, subst}
use Rattle.std.proofs.lemmas.Bool.{cases_Bool}
use Rattle.std.proofs.lemmas.List.{length-map}
use Rattle.std.proofs.lemmas.List.Folds.{list_any-append}
use Rattle.std.proofs.lemmas.List.FromFn.{length-range_with_len}
use Rattle.lab_base.specs.Lists.{listed}
use Rattle.lab_base.specs.declared.fault.TextFault.{TextFault}
use Rattle.lab_base.specs.declared.fault.TextRefused.{TextRefused}
use Rattle.lab_base.specs.declared.fault.TextRefused.TheVariants as texts
use Rattle.phys_lab.specs.Labs.{Lab}
use Rattle.records_model.specs.Labs.{LabState}
use Rattle.claims.specs.declared.claim.Entry.{Entry}
use Rattle.claims.specs.Held.{claim_nodes, is_in, nodes_in, owner_of}
use Rattle.claims.specs.Holds.{claim_of, hold_in}
use Rattle.lab_model.specs.Claims.{Old, New, claimed}
use Rattle.lab_model.specs.Shapes.{Place}
use Rattle.virt_topo.specs.declared.mapping.Mapped.{Mapped}
use Rattle.virt_topo.specs.declared.experiment.Experiment.{Experiment}
use Rattle.virt_topo.specs.declared.mapping.Mapping.{Mapping}
use Rattle.journal_rec.specs.declared.record.Record.{Record}
use Rattle.journal_rec.specs.declared.record.Record.TheVariants.{Begin}
use Rattle.journal_rec.specs.declared.record.Way.{Way}
use Rattle.cost_rule.specs.declared.rule.RuleNumber.{RuleNumber}
use Rattle.assign_core.specs.declared.whole.Solved.{Solved}
use Rattle.lab_ahead.specs.declared.batch.Batch.{Batch}
use Rattle.lab_ahead.specs.declared.batch.Promise.{Promise}
use Rattle.lab_ahead.specs.declared.batch.Run.{Run}
use Rattle.lab_ahead.specs.declared.ends.End.{End}
use Rattle.lab_ahead.specs.declared.times.Left.{Left}
use Rattle.lab_ahead.specs.declared.waits.Span.{Span}
use Rattle.lab_ahead.specs.declared.waits.Wait.{Wait}
use Rattle.lab_ahead.specs.Batches.{batch_of_text}
use Rattle.lab_ahead.specs.Moments.{FitsFor}
use Rattle.lab_ahead.specs.Waits.{IsShortAt}
use Rattle.line_text.specs.Refusals.{Reads}
use Rattle.script_text.specs.declared.reply.Reply.{Reply}
use Rattle.script_text.specs.declared.reply.Reply.TheVariants as replies
use Rattle.lab_judge.specs.declared.run.Queue.{Queue}
use Rattle.lab_tasks.specs.declared.task.Refusal.{Refusal}
use Rattle.lab_tasks.specs.declared.task.Refusal.TheVariants as refusals
use Rattle.lab_tasks.specs.declared.task.Task.{Task as TaskInHand}
use Rattle.lab_tasks.specs.declared.task.Task.TheVariants as tasks
use Rattle.lab_tasks.specs.Tasks.{Swap, Task, Tell, CanDo, IsJudged, IsRefusedBy, Refuses, task_of}
use Rattle.lab_tasks.specs.Needs.{asked, need_lab, need_meaning, refused}
use Rattle.lab_tasks.specs.Mappings.{task_in}
use Rattle.lab_judge.specs.Searches.{IsFound, need_mapping}
use Rattle.lab_judge.specs.JudgeRun.{IsJudgedBatch, IsSwapTask, held_back, left_beside}
use Rattle.lab_judge.specs.Serving.{IsTestedAs, JudgedBatch, JudgedPlace, claimers_at, claimers_of, claims_node, fits, full, places_node, span_of, wait_of, waits}

-- ---- A BATCH
-- a lab is wanting; or it is there
pub lab_wants : (s : LabState) (text : List ℕ) (refusal : Refusal) → Refuses {X = Unit {0}} (need_lab s.lab) (Err refusal) → IsJudgedBatch s text (Err refusal)
lab_wants s text (refusals.Refused reply) h = (refused reply h.0 refl, h.1)
lab_wants s text refusals.Memory h = tt

lab_there : (lab : Lab) (o : Option Lab) → o ≡ Some lab → need_lab o ≡ Ok lab
lab_there lab o is = ap need_lab is

module _ (s : LabState) (text : List ℕ) (lab : Lab) (there : s.lab ≡ Some lab) where
  pub batch_read : (batch : Batch) → batch_of_text text ≡ Ok batch → IsJudgedBatch s text (Ok batch)
  batch_read batch is = asked lab (lab_there lab s.lab there) (asked batch (ap (need_meaning replies.BadBatch) is) refl)

  pub batch_faulty : (fault : TextFault) → batch_of_text text ≡ Err fault → JudgedBatch s text (Err (replies.BadBatch fault))
  batch_faulty fault is = asked lab (lab_there lab s.lab there) (refused (replies.BadBatch fault) (ap (need_meaning replies.BadBatch) is) refl)

  pub batch_refused : (why : TextRefused) (refusal : Refusal) → Reads {X = Batch} (Err why) (batch_of_text text) → IsRefusedBy replies.BadBatch why refusal → IsJudgedBatch s text (Err refusal)
  batch_refused (texts.Text fault) refusal is h = subst (λ (r : Refusal). IsJudgedBatch s text (Err r)) (sym h.0) (batch_faulty fault is, h.1)
  batch_refused texts.Memory refusal is h = subst (λ (r : Refusal). IsJudgedBatch s text (Err r)) (sym h) tt

-- ---- WHO CLAIMS A NODE: its owner alone
placed_on : (n : ℕ) (places : List Place) → list_any (λ m. m == n) (map (λ m. m.0) (map (λ p. p.0) places)) ≡ list_any (λ p. p.0.0 == n) places
placed_on n [] = refl
placed_on n (p ∷ places) = ap (λ b. (p.0.0 == n) || b) (placed_on n places)

placed_by : (lab : Lab) (n : ℕ) (o : Option Mapped) → is_in n (nodes_in (hold_in lab o)) ≡ places_node n o
placed_by lab n None = refl
placed_by lab n (Some m) = placed_on n m.mapping.places

claims_as : (lab : Lab) (n : ℕ) (e : Experiment) → is_in n (claim_nodes (claim_of lab e)) ≡ claims_node n e
claims_as lab n e =
    list_any-append (λ m. m == n) (nodes_in (hold_in lab (claimed e Old))) (nodes_in (hold_in lab (claimed e New)))
    ∙ (λ i. placed_by lab n (claimed e Old) i || placed_by lab n (claimed e New) i)

module _ (lab : Lab) (es : List Experiment) (entries : List Entry)
    (alone : (n : ℕ) → map (λ e. e.name) (filter (λ e. is_in n (claim_nodes (claim_of lab e))) es) ≡ listed (owner_of claim_nodes entries n)) where
  owner_at : (n : ℕ) → listed (owner_of claim_nodes entries n) ≡ claimers_at es n
  owner_at n = sym (alone n) ∙ (λ i. map (λ (e : Experiment). e.name) (filter (λ e. claims_as lab n e i) es))

  pub owners_claim : (nodes : ℕ) → map (λ n. listed (owner_of claim_nodes entries n)) (range_with_len 0 nodes) ≡ claimers_of nodes es
  owners_claim nodes = λ i. map (λ n. owner_at n i) (range_with_len 0 nodes)

pub claimers_long : (nodes : ℕ) (es : List Experiment) → length (claimers_of nodes es) ≡ nodes
claimers_long nodes es = length-map (range_with_len 0 nodes) (claimers_at es) ∙ length-range_with_len 0 nodes

-- ---- A RUN IS TESTED
-- the task of the swap, held back by the wait
module _ (space : Record → Bool) (lab : Lab) (left : List Left) (promises : List Promise) (span : Span) where
  fits_so : (exp : List ℕ) (way : Way) → FitsFor lab left promises span.from span.length → IsTestedAs space lab left promises span (Swap exp way) (Ok (Swap exp way))
  fits_so exp way all = elim (cases_Bool (space (Begin exp way))) [
    | inl room ↦ fits room all refl
    | inr none ↦ full none refl
  ]

  abbrev in_ok : Task → Result Task Reply
  in_ok task = Ok task

  waits_so : (exp : List ℕ) (way : Way) (wait : Wait) → IsShortAt lab left promises span wait → IsTestedAs space lab left promises span (Swap exp way) (Ok (if space (Begin exp way) then Tell (wait_of exp wait) else Swap exp way))
  waits_so exp way wait short = elim (cases_Bool (space (Begin exp way))) [
    | inl room ↦ waits room wait short (ap (λ (b : Bool). in_ok (if b then Tell (wait_of exp wait) else Swap exp way)) room)
    | inr none ↦ full none (ap (λ (b : Bool). in_ok (if b then Tell (wait_of exp wait) else Swap exp way)) none)
  ]

  pub tested_so : (task : TaskInHand) → IsSwapTask task → (wait : Option Wait) → (wait ≡ None → FitsFor lab left promises span.from span.length) → IfSome wait (IsShortAt lab left promises span) → IsTestedAs space lab left promises span (task_of task) (Ok (held_back space task wait))
  tested_so (tasks.Swap swap) record_fits None all short = fits_so swap.exp swap.way (all refl)
  tested_so (tasks.Swap swap) record_fits (Some wait) all short = waits_so swap.exp swap.way wait short
  tested_so task record_fits wait all short = absurd record_fits

-- the record of a swap that can be done can be written
pub swap_record : (s : LabState) (task : TaskInHand) (exp : List ℕ) (way : Way) → task_of task ≡ Swap exp way → CanDo s task → IsSwapTask task
swap_record s (tasks.Swap swap) exp way is can = can.0
swap_record s (tasks.Tell reply) exp way is can = absurd (cc is)
swap_record s (tasks.Append entry reply) exp way is can = absurd (cc is)
swap_record s (tasks.BeginOnly swap) exp way is can = absurd (cc is)
swap_record s (tasks.Turn own) exp way is can = absurd (cc is)
swap_record s (tasks.Finish own) exp way is can = absurd (cc is)
swap_record s tasks.Recover exp way is can = absurd (cc is)

-- what is judged of a run of an experiment that is out
module _ (rule : RuleNumber) (moment : ℕ) (promises : List Promise) (ends : List End) (run : Run) (space : Record → Bool) (s : LabState) (lab : Lab) (e : Experiment) (found : Solved) (is_found : IsFound rule lab s.experiments e e.wiring run.seed found) where
  pub place_refused : (refusal : Refusal) → Refuses {X = Unit {0}} (need_mapping e.name found) (Err refusal) → IsJudged (JudgedPlace rule moment promises ends run space s lab e) (Err refusal)
  place_refused (refusals.Refused reply) h = (record { found = found; is_found = is_found; tested = refused reply h.0 refl }, h.1)
  place_refused refusals.Memory h = tt

  pub place_tested : (queue : Queue) → queue.ends ≡ ends → (m : Mapping) → need_mapping e.name found ≡ Ok m → (result : Result TaskInHand Refusal) → IsJudged (IsTestedAs space lab (left_beside lab s queue m) promises (span_of moment run) (task_in s lab e m)) result
      → IsJudged (JudgedPlace rule moment promises ends run space s lab e) result
  place_tested queue same m needed result h = by result (subst (λ (l : List End). IsJudged (IsTestedAs space lab (left_beside lab s (record queue { ends = l }) m) promises (span_of moment run) (task_in s lab e m)) result) same h)
    where
      by : (result : Result TaskInHand Refusal) → IsJudged (IsTestedAs space lab (left_beside lab s (record queue { ends = ends }) m) promises (span_of moment run) (task_in s lab e m)) result → IsJudged (JudgedPlace rule moment promises ends run space s lab e) result
      by (Ok task) h = record { found = found; is_found = is_found; tested = asked m needed h }
      by (Err (refusals.Refused reply)) h = (record { found = found; is_found = is_found; tested = asked m needed h.0 }, h.1)
      by (Err refusals.Memory) h = tt
