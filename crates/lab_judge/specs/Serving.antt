-- RUNS OF A BATCH, served one after another.
use Rattle.std.specs.Prelude.{◌≡◌, ℕ, ◌==◌, ◌||◌, Bool, true, false, List, [], filter, length, map, Option, Some, None, Result, Ok}
use Rattle.std.specs.List.{list_any, range_with_len}
use Rattle.phys_lab.specs.Labs.{Lab}
use Rattle.virt_topo.specs.declared.experiment.Experiment.{Experiment}
use Rattle.virt_topo.specs.declared.mapping.Mapped.{Mapped}
use Rattle.journal_rec.specs.declared.record.Record.{Record}
use Rattle.journal_rec.specs.declared.record.Record.TheVariants.{Begin}
use Rattle.journal_rec.specs.declared.record.Way.{Way}
use Rattle.lab_model.specs.Claims.{Old, New, claimed}
use Rattle.records_model.specs.Labs.{LabState}
use Rattle.cost_rule.specs.declared.rule.RuleNumber.{RuleNumber}
use Rattle.assign_core.specs.declared.whole.Solved.{Solved}
use Rattle.lab_ahead.specs.declared.batch.Batch.{Batch}
use Rattle.lab_ahead.specs.declared.batch.Promise.{Promise}
use Rattle.lab_ahead.specs.declared.batch.Run.{Run}
use Rattle.lab_ahead.specs.declared.ends.End.{End}
use Rattle.lab_ahead.specs.declared.times.Left.{Left}
use Rattle.lab_ahead.specs.declared.waits.Span.{Span}
use Rattle.lab_ahead.specs.declared.waits.Wait.{Wait}
use Rattle.lab_ahead.specs.Batches.{batch_of_text}
use Rattle.lab_ahead.specs.Ends.{left_for}
use Rattle.lab_ahead.specs.Moments.{FitsFor}
use Rattle.lab_ahead.specs.Waits.{IsShortAt}
use Rattle.script_text.specs.declared.reply.Reply.{Reply}
use Rattle.script_text.specs.declared.reply.Reply.TheVariants as replies
use Rattle.lab_tasks.specs.Needs.{OrRefused, need_idle_out, need_lab, need_meaning}
use Rattle.lab_tasks.specs.Tasks.{Swap, Task, Tell}
use Rattle.lab_tasks.specs.Mappings.{task_in}
use Rattle.lab_judge.specs.Judge.{InSlot}
use Rattle.lab_judge.specs.Searches.{IsFound, need_mapping}

-- a virtual node of that mapping, if there is one, is placed on the node of that number
abbrev pub places_node : ℕ → Option Mapped → Bool
places_node n None = false
places_node n (Some m) = list_any (λ p. p.0.0 == n) m.mapping.places

-- THE EXPERIMENT CLAIMS THE NODE, by its old mapping or its new one
abbrev pub claims_node : ℕ → Experiment → Bool
claims_node n e = places_node n (claimed e Old) || places_node n (claimed e New)

-- the experiments that claim a node; and by node of a lab of so many
abbrev pub claimers_at : List Experiment → ℕ → List (List ℕ)
claimers_at es n = map (λ e. e.name) (filter (claims_node n) es)

abbrev pub claimers_of : ℕ → List Experiment → List (List (List ℕ))
claimers_of nodes es = map (claimers_at es) (range_with_len 0 nodes)

-- A PLACE among the runs: the promises, the runs that are left, the experiments that this batch swapped in, each with its end, and the replies so far
pub record Serving : Type 0 where
  pub promises : List Promise
  pub left : List Run
  pub ends : List End
  pub told : List Reply

abbrev pub first_run : Batch → Serving
first_run batch = record { promises = batch.promises; left = batch.runs; ends = []; told = [] }

abbrev pub wait_of : List ℕ → Wait → Reply
wait_of exp wait = replies.Wait exp wait.at wait.need wait.have wait.kinds

-- THE TEST of a run's swap, by whether the journal has space for it, and by what is left: there is none, and the swap tells that; or its mapping fits
-- the run; or it doesn't, and the run waits
pub data IsTested (space : Bool) (lab : Lab) (left : List Left) (promises : List Promise) (span : Span) (exp : List ℕ) (way : Way) (judgement : Result Task Reply) : Type 0 where
  full : space ≡ false → judgement ≡ Ok (Swap exp way) → IsTested space lab left promises span exp way judgement
  fits : space ≡ true → FitsFor lab left promises span.from span.length → judgement ≡ Ok (Swap exp way) → IsTested space lab left promises span exp way judgement
  waits : space ≡ true → (wait : Wait) → IsShortAt lab left promises span wait → judgement ≡ Ok (Tell (wait_of exp wait)) → IsTested space lab left promises span exp way judgement

abbrev pub IsTestedAs : (Record → Bool) → Lab → List Left → List Promise → Span → Task → Result Task Reply → Type 0
IsTestedAs space lab left promises span (Swap exp way) judgement = IsTested (space (Begin exp way)) lab left promises span exp way judgement
IsTestedAs space lab left promises span task judgement = ⊥

-- the span of a run, from that moment on
abbrev pub span_of : ℕ → Run → Span
span_of moment run = record { from = moment; length = run.length }

module _ (rule : RuleNumber) (moment : ℕ) where
  -- A RUN of an experiment that is out: what the search finds is tested
  pub record JudgedPlace (promises : List Promise) (ends : List End) (run : Run) (space : Record → Bool) (s : LabState) (lab : Lab) (e : Experiment) (judgement : Result Task Reply) : Type 0 where
    pub found : Solved
    pub is_found : IsFound rule lab s.experiments e e.wiring run.seed found
    pub tested : OrRefused (need_mapping e.name found) (λ m. IsTestedAs space lab (left_for (claimers_of (length lab.nodes) s.experiments) ends m.places) promises (span_of moment run) (task_in s lab e m)) judgement

  -- refused as `swapin` would be, else what is found is tested; and then its swap needs room among the open ones
  abbrev pub JudgedTest : List Promise → List End → Run → (Record → Bool) → LabState → Bool → Result Task Reply → Type 0
  JudgedTest promises ends run space s busy = OrRefused (need_idle_out s busy run.exp) (λ p. JudgedPlace promises ends run space s p.0 p.1)

  abbrev pub JudgedRunAt : List Promise → List End → Run → (Record → Bool) → LabState → Bool → ℕ → Result Task Reply → Type 0
  JudgedRunAt promises ends run space s busy count = InSlot count false (JudgedTest promises ends run space s busy)

-- THE LIST THAT `batch` IS, or what refuses it: `no lab`, then the fault of its text
abbrev pub JudgedBatch : LabState → List ℕ → Result Serving Reply → Type 0
JudgedBatch s text = OrRefused (need_lab s.lab) (λ lab. OrRefused (need_meaning replies.BadBatch (batch_of_text text)) (λ batch judgement. judgement ≡ Ok (first_run batch)))
