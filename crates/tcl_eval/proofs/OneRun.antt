-- A whole text has one end.
use Rattle.std.proofs.Common.{◌≡◌, ℕ, List, [], ◌∷◌, Result, Ok, Err, ap, ◌∙◌}
use Rattle.lab_base.specs.declared.fault.Kind.{Kind}
use Rattle.lab_base.specs.declared.fault.TextFault.{TextFault}
use Rattle.tcl_words.specs.declared.flaw.Flaw.{Flaw}
use Rattle.tcl_words.specs.declared.word.Command.{Command}
use Rattle.tcl_words.specs.Words.{CommandsOf, line_at}
use Rattle.tcl_eval.specs.declared.hosts.Called.{Called}
use Rattle.tcl_eval.specs.declared.halts.Halt.{Halt}
use Rattle.tcl_eval.specs.declared.halts.Halt.TheVariants.{Fault, Stop, Memory}
use Rattle.tcl_eval.specs.declared.runs.Ran.{Ran}
use Rattle.tcl_eval.specs.declared.runs.Ran.TheVariants.{Stopped, Ended}
use Rattle.tcl_eval.specs.Jobs.{One, Gain, Value, fails}
use Rattle.tcl_eval.specs.State.{State}
use Rattle.tcl_eval.specs.Evals.{Evals}
use Rattle.tcl_eval.specs.Runs as rules
use Rattle.tcl_eval.specs.Runs.{last_line_of, fault_on, RunsFrom, Runs}
use Rattle.tcl_eval.specs.Once.{RunsOnce}
use Rattle.tcl_words.proofs.Plans.{Plan, Ends, Asks, Knows, Follows, ends, asks, knows, follows_once}
use Rattle.tcl_words.proofs.OneSplitting.{commands_once}
use Rattle.tcl_eval.proofs.OneMeaning.{evals_once}

module _ {O : Type 0} (calls : ℕ → O → List (List ℕ) → Result Called Kind × O) (hears : O → List ℕ → List ℕ → Result (Unit {0}) Kind × O) (t : List ℕ) where
  -- a command has ended so
  abbrev IsEnd : Command → State O → Result Gain Halt × State O → Type 0
  IsEnd c s x = Evals (calls c.line) hears 32 (One t c) s x.0 x.1

  end_once : (c : Command) (s : State O) (a b : Result Gain Halt × State O) → IsEnd c s a → IsEnd c s b → a ≡ b
  end_once c s (r, u) (q, w) h g =
      let same : (r ≡ q) × (u ≡ w) = evals_once (calls c.line) hears 32 (One t c) s r q u w h g in
      ap (λ (x : Result Gain Halt). (x, u)) same.0 ∙ ap (λ (x : State O). (q, x)) same.1

  abbrev ended_plan : Command → List Command → Result Gain Halt × State O → Plan (List Command × State O) (Result Ran TextFault × State O)
  ended_plan c cs (Ok g, u) = Asks (cs, u) Ends
  ended_plan c cs (Err (Fault k), u) = Ends (Err (fault_on c.line k), u)
  ended_plan c cs (Err Stop, u) = Ends (Ok (Stopped c.line), u)
  ended_plan c cs (Err Memory, u) = Ends (Ok (Stopped c.line), u)

  abbrev running : List Command × State O → Plan (List Command × State O) (Result Ran TextFault × State O)
  running ([], s) = Ends (Ok (Ended (last_line_of t)), s)
  running (c ∷ cs, s) = Knows (Result Gain Halt × State O) (IsEnd c s) (end_once c s) (ended_plan c cs)

  runs_from_by : {cs : List Command} {s u : State O} {r : Result Ran TextFault} → RunsFrom calls hears t cs s r u → Follows running (running (cs, s)) (r, u)
  runs_from_by rules.ended = ends
  runs_from_by (rules.stopped {u = u} h) = knows (Err Stop, u) h ends
  runs_from_by (rules.failed {u = u} {k = k} h) = knows (fails k, u) h ends
  runs_from_by (rules.next {u = u} {v = v} h g) = knows (Ok (Value v), u) h (asks (runs_from_by g) ends)

  abbrev text_plan : State O → Result (List Command) Flaw → Plan (List Command × State O) (Result Ran TextFault × State O)
  text_plan s (Ok cs) = Asks (cs, s) Ends
  text_plan s (Err e) = Ends (Err (fault_on (line_at t e.at) e.kind), s)

  runs_by : {s u : State O} {r : Result Ran TextFault} → Runs calls hears t s r u
      → Follows running (Knows (Result (List Command) Flaw) (CommandsOf t 0) (commands_once t 0) (text_plan s)) (r, u)
  runs_by (rules.malformed {e = e} of) = knows (Err e) of ends
  runs_by (rules.split {cs = cs} of h) = knows (Ok cs) of (asks (runs_from_by h) ends)

  text_once : (s : State O) (r q : Result Ran TextFault) (u w : State O) → Runs calls hears t s r u → Runs calls hears t s q w → (r ≡ q) × (u ≡ w)
  text_once s r q u w h g =
      let same : (r, u) ≡ (q, w) = follows_once running (runs_by h) (runs_by g) in
      (ap (λ x. x.0) same, ap (λ x. x.1) same)

pub runs_once : {O : Type 0} (calls : ℕ → O → List (List ℕ) → Result Called Kind × O) (hears : O → List ℕ → List ℕ → Result (Unit {0}) Kind × O) → RunsOnce calls hears
runs_once calls hears t s r q u w h g = text_once calls hears t s r q u w h g
