-- The task of a command is of no other experiment.
use Rattle.std.proofs.Common.{◌≡◌, ◌≢◌, ℕ, Bool, true, is_some, List, Option, Some, Ok, sym, ap, ◌∙◌, subst}
use Rattle.journal_rec.specs.declared.record.Record.{Record}
use Rattle.journal_rec.specs.declared.record.Record.TheVariants as records
use Rattle.journal_rec.specs.declared.record.Way.{Way}
use Rattle.journal_rec.specs.declared.record.Way.TheVariants.{In as WayIn, Out as WayOut, Change as WayChange, Change2 as WayChange2}
use Rattle.records_model.specs.Labs.{LabState, Move, Says}
use Rattle.lab_state.specs.Texts.{the_texts}
use Rattle.script_text.specs.declared.command.Command.{Command}
use Rattle.script_text.specs.declared.command.Command.TheVariants as commands
use Rattle.lab_tasks.specs.Tasks.{Task, Tell, Append, Swap, BeginOnly, Turn, Finish, Recover}
use Rattle.lab_tasks.specs.OpenNames.{name_of}
use Rattle.lab_core.proofs.Others.{IsApart, IsSpared}
use Rattle.lab_judge.proofs.Fits.{IsFit, IsOwn}

-- ---- THE TASK of a command is of no other experiment, where the lab was set
abbrev pub IsTaskApart : List ℕ → List (List ℕ) → LabState → Task → Type 0
IsTaskApart name busy s (Tell reply) = Unit {0}
IsTaskApart name busy s (Append entry reply) = (move : Move) → Says the_texts s entry move → IsApart name move
IsTaskApart name busy s (Swap exp way) = (exp ≢ name) × ((move : Move) → Says the_texts s (records.Begin exp way) move → IsApart name move)
IsTaskApart name busy s (BeginOnly exp way) = (exp ≢ name) × ((move : Move) → Says the_texts s (records.Begin exp way) move → IsApart name move)
IsTaskApart name busy s (Turn exp) = exp ≢ name
IsTaskApart name busy s (Finish exp) = exp ≢ name
IsTaskApart name busy s Recover = IsSpared busy s name

module _ (name : List ℕ) (s : LabState) (o : Option (List ℕ)) (other : o ≢ Some name) where
  own_apart : (exp : List ℕ) → o ≡ Some exp → exp ≢ name
  own_apart exp is = λ same. other (is ∙ ap (λ (n : List ℕ). Some n) same)

  begin_apart : (exp : List ℕ) (way : Way) → o ≡ Some exp → (move : Move) → Says the_texts s (records.Begin exp way) move → IsApart name move
  begin_apart exp (WayIn map tags) own move says = subst (IsApart name) (sym says.9) (own_apart exp own)
  begin_apart exp WayOut own move says = subst (IsApart name) (sym says) (own_apart exp own)
  begin_apart exp (WayChange top map tags) own move says = subst (IsApart name) (sym says.8) (own_apart exp own)
  begin_apart exp (WayChange2 top map tags) own move says = subst (IsApart name) (sym says.8) (own_apart exp own)

  entry_apart : (entry : Record) → is_some s.lab ≡ true → IsOwn s o entry → (move : Move) → Says the_texts s entry move → IsApart name move
  entry_apart (records.Lab ptop) there none move says = absurd (cc (ap is_some none, there))
  entry_apart (records.Create exp top) there own move says = subst (IsApart name) (sym says.2) (own_apart exp own)
  entry_apart (records.Create2 exp top) there own move says = subst (IsApart name) (sym says.2) (own_apart exp own)
  entry_apart (records.Delete exp) there own move says = subst (IsApart name) (sym says) (own_apart exp own)
  entry_apart entry there own move says = absurd own

pub task_apart : (name : List ℕ) (names : List (List ℕ)) (s : LabState) (command : Command) (busy : Bool) (count : ℕ) (task : Task) → IsFit s command busy count (Ok task) → (command ≡ commands.Recover → IsSpared names s name) → is_some s.lab ≡ true
    → name_of command ≢ Some name → IsTaskApart name names s task
task_apart name names s command busy count (Tell reply) fit spared there other = tt
task_apart name names s command busy count (Append entry reply) fit spared there other = entry_apart name s (name_of command) other entry there fit.1
task_apart name names s command busy count (Swap exp way) fit spared there other = (own_apart name s (name_of command) other exp fit.0, begin_apart name s (name_of command) other exp way fit.0)
task_apart name names s command busy count (BeginOnly exp way) fit spared there other = (own_apart name s (name_of command) other exp fit.0, begin_apart name s (name_of command) other exp way fit.0)
task_apart name names s command busy count (Turn exp) fit spared there other = own_apart name s (name_of command) other exp fit.0
task_apart name names s command busy count (Finish exp) fit spared there other = own_apart name s (name_of command) other exp fit.0
task_apart name names s command busy count Recover fit spared there other = spared fit
