-- The end of a whole text: its commands are evaluated one after another, and for each the line of the top-level
-- command under way, by which a host answers, is its own.
use Rattle.std.specs.Prelude.{ℕ, List, [], ◌∷◌, length, Result, Ok, Err}
use Rattle.lab_base.specs.declared.fault.Kind.{Kind}
use Rattle.lab_base.specs.declared.fault.TextFault.{TextFault}
use Rattle.lab_base.specs.declared.fault.TextRefused.{TextRefused}
use Rattle.lab_base.specs.declared.fault.TextRefused.TheVariants as refused
use Rattle.tcl_words.specs.declared.flaw.Flaw.{Flaw}
use Rattle.tcl_words.specs.declared.word.Command.{Command}
use Rattle.tcl_words.specs.Words.{CommandsOf, line_at}
use Rattle.tcl_eval.specs.declared.hosts.Called.{Called}
use Rattle.tcl_eval.specs.declared.halts.Halt.TheVariants.{Stop}
use Rattle.tcl_eval.specs.declared.runs.Ran.{Ran}
use Rattle.tcl_eval.specs.declared.runs.Ran.TheVariants.{Stopped, Ended}
use Rattle.tcl_eval.specs.Jobs.{One, Value, fails}
use Rattle.tcl_eval.specs.State.{State}
use Rattle.tcl_eval.specs.Evals.{Evals}

-- the last line of a text, 1 of the empty one
abbrev pub last_line_of : List ℕ → ℕ
last_line_of [] = 1
last_line_of (b ∷ bs) = line_at (b ∷ bs) (length bs)

-- a fault on a line
abbrev pub fault_on : ℕ → Kind → TextFault
fault_on line kind = record { line = line; kind = kind }

-- Commands of the text, one after another, with 32 levels: up to a stop or a fault, with the line of its command, or to the last line.
pub data RunsFrom {O : Type 0} (calls : ℕ → O → List (List ℕ) → Result Called Kind × O) (hears : O → List ℕ → List ℕ → Result (Unit {0}) Kind × O) (t : List ℕ) : List Command → State O → Result Ran TextFault → State O → Type 0 where
  ended : {s : State O} → RunsFrom calls hears t [] s (Ok (Ended (last_line_of t))) s
  stopped : {s u : State O} {c : Command} {cs : List Command} → Evals (calls c.line) hears 32 (One t c) s (Err Stop) u → RunsFrom calls hears t (c ∷ cs) s (Ok (Stopped c.line)) u
  failed : {s u : State O} {c : Command} {cs : List Command} {k : Kind} → Evals (calls c.line) hears 32 (One t c) s (fails k) u → RunsFrom calls hears t (c ∷ cs) s (Err (fault_on c.line k)) u
  next : {s u w : State O} {c : Command} {cs : List Command} {v : List ℕ} {r : Result Ran TextFault} → Evals (calls c.line) hears 32 (One t c) s (Ok (Value v)) u
      → RunsFrom calls hears t cs u r w → RunsFrom calls hears t (c ∷ cs) s r w

-- The whole text: the first fault of its splitting, with its own line, or its commands.
pub data Runs {O : Type 0} (calls : ℕ → O → List (List ℕ) → Result Called Kind × O) (hears : O → List ℕ → List ℕ → Result (Unit {0}) Kind × O) (t : List ℕ) : State O → Result Ran TextFault → State O → Type 0 where
  malformed : {s : State O} {e : Flaw} → CommandsOf t 0 (Err e) → Runs calls hears t s (Err (fault_on (line_at t e.at) e.kind)) s
  split : {s u : State O} {cs : List Command} {r : Result Ran TextFault} → CommandsOf t 0 (Ok cs) → RunsFrom calls hears t cs s r u → Runs calls hears t s r u

-- it ran so, unless memory ran out
unfoldable pub HasRun : {O : Type 0} → (ℕ → O → List (List ℕ) → Result Called Kind × O) → (O → List ℕ → List ℕ → Result (Unit {0}) Kind × O) → List ℕ → State O → State O → Result Ran TextRefused → Type 0
HasRun calls hears t s u (Ok ran) = Runs calls hears t s (Ok ran) u
HasRun calls hears t s u (Err (refused.Text fault)) = Runs calls hears t s (Err fault) u
HasRun calls hears t s u (Err refused.Memory) = Unit {0}

-- however the commands that are left run, the whole text runs so
unfoldable pub RunLeads : {O : Type 0} → (ℕ → O → List (List ℕ) → Result Called Kind × O) → (O → List ℕ → List ℕ → Result (Unit {0}) Kind × O) → List ℕ → List Command → State O → State O → Type 0
RunLeads calls hears t cs s x = (r : Result Ran TextFault) (u : _) → RunsFrom calls hears t cs s r u → Runs calls hears t x r u
