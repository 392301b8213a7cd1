-- THE RUNS OF A BATCH IN TURN: the list that `batch` is.
use Rattle.std.specs.Prelude.{ℕ, ◌+◌, Bool, true, false, List, [], ◌∷◌, ◌++◌, drop, length, Result, Ok, Err}
use Rattle.std.specs.List.{list_any}
use Rattle.std.specs.Str.{bytes_eq}
use Rattle.lab_base.specs.declared.fault.TextFault.{TextFault}
use Rattle.journal_rec.specs.declared.record.Record.{Record}
use Rattle.records_model.specs.Labs.{LabState}
use Rattle.recovery.specs.Due.{is_busy}
use Rattle.cost_rule.specs.declared.rule.RuleNumber.{RuleNumber}
use Rattle.lab_ahead.specs.declared.batch.Batch.{Batch}
use Rattle.lab_ahead.specs.declared.batch.Promise.{Promise}
use Rattle.lab_ahead.specs.declared.batch.Run.{Run}
use Rattle.lab_ahead.specs.declared.ends.End.{End}
use Rattle.script_text.specs.Replies.{served_of}
use Rattle.script_text.specs.declared.reply.Reply.{Reply}
use Rattle.script_text.specs.declared.reply.Reply.TheVariants as replies
use Rattle.lab_tasks.specs.Tasks.{Task}
use Rattle.lab_core.specs.LabSteps.{has_space}
use Rattle.lab_core.specs.Lists.{Listing}
use Rattle.lab_core.specs.Sessions.{OpenSwap, names_of}
use Rattle.lab_judge.specs.Serving.{JudgedRunAt, Serving}

-- a run that was answered `in` is in up to its end
abbrev pub with_end : ℕ → List Run → Reply → List End → List End
with_end moment (run ∷ left) (replies.In exp) ends = ends ++ record { exp = run.exp; at = moment + run.length } ∷ []
with_end moment left reply ends = ends

abbrev pub no_runs : List Run → Bool
no_runs [] = true
no_runs (run ∷ left) = false

abbrev pub after_run : ℕ → Serving → Reply → Serving
after_run moment p reply = record { promises = p.promises; left = drop 1 p.left; ends = with_end moment p.left reply p.ends; told = p.told ++ reply ∷ [] }

module _ (rule : RuleNumber) (moment : ℕ) where
  -- what is judged of a run beside these open swaps
  abbrev pub JudgedRun : List Promise → List End → Run → (Record → Bool) → LabState → List OpenSwap → Result Task Reply → Type 0
  JudgedRun promises ends run space s opens = JudgedRunAt rule moment promises ends run space s (is_busy (names_of opens) run.exp) (length opens)

  abbrev pub JudgedNextRun : List Promise → List End → List Run → (Record → Bool) → LabState → List OpenSwap → Result Task Reply → Type 0
  JudgedNextRun promises ends [] space s opens = λ judgement. ⊥
  JudgedNextRun promises ends (run ∷ left) space s opens = JudgedRun promises ends run space s opens

  -- RUNS IN TURN: a line for each
  abbrev pub runs_in_turn : Listing Serving
  runs_in_turn = record {
    is_over = λ p. no_runs p.left;
    Judges = λ p set s opens. JudgedNextRun p.promises p.ends p.left (λ entry. has_space set entry) s opens;
    behind = after_run moment;
    whole = λ p. replies.Served (served_of p.told);
  }

-- one of these runs is of that experiment; and one of a text's
abbrev pub is_run_of : List Run → List ℕ → Bool
is_run_of runs name = list_any (λ run. bytes_eq run.exp name) runs

abbrev pub has_run : Result Batch TextFault → List ℕ → Bool
has_run (Ok batch) name = is_run_of batch.runs name
has_run (Err fault) name = false
