-- Judgements of commands for which a search is made.
use Rattle.std.specs.Prelude.{◌≡◌, ℕ, Bool, true, false, List, Result, Ok, Err}
use Rattle.lab_base.specs.declared.fault.TextFault.{TextFault}
use Rattle.phys_lab.specs.Labs.{Lab}
use Rattle.phys_lab.specs.declared.free.Free.{Free}
use Rattle.virt_topo.specs.declared.mapping.Mapping.{Mapping}
use Rattle.virt_topo.specs.declared.wiring.Wiring.{Wiring}
use Rattle.virt_topo.specs.declared.experiment.Experiment.{Experiment}
use Rattle.lab_model.specs.Beside.{IsLeft}
use Rattle.records_model.specs.Labs.{LabState, others}
use Rattle.ns_text.specs.Wirings.{WiringOf}
use Rattle.cost_rule.specs.declared.rule.RuleNumber.{RuleNumber}
use Rattle.map_anneal.specs.Sought.{sought}
use Rattle.assign_core.specs.Exact.{IsAllowed}
use Rattle.assign_core.specs.declared.whole.Solved.{Solved}
use Rattle.assign_core.specs.declared.whole.Solved.TheVariants as solved
use Rattle.solution_text.specs.CanonicalSolution.{canonical_solution}
use Rattle.script_text.specs.declared.command.Command.{Command}
use Rattle.script_text.specs.declared.command.Command.TheVariants as commands
use Rattle.script_text.specs.declared.reply.Reply.{Reply}
use Rattle.script_text.specs.declared.reply.Reply.TheVariants.{NoneFits, GaveUp, Least, Local, Bad}
use Rattle.lab_tasks.specs.Mappings.{task_in, task_over}
use Rattle.lab_tasks.specs.Needs.{need_meaning, need_idle_out, need_idle_in, OrRefused, ◌>>=◌}
use Rattle.lab_tasks.specs.Tasks.{Task, Tell}

-- THE SEARCH: an answer that is allowed for the seed by the cost rule, on what the other experiments leave free
pub record IsFound (rule : RuleNumber) (lab : Lab) (es : List Experiment) (e : Experiment) (w : Wiring) (seed : ℕ) (found : Solved) : Type 0 where
  pub free : Free
  pub left : IsLeft lab (others e.name es) e free
  pub allowed : IsAllowed (sought lab free w rule) seed found

-- `none E` and `gave up E` exactly where it found no mapping
abbrev pub need_mapping : List ℕ → Solved → Result Mapping Reply
need_mapping exp (solved.Least mapping cost) = Ok mapping
need_mapping exp (solved.Local mapping cost) = Ok mapping
need_mapping exp solved.None = Err (NoneFits exp)
need_mapping exp solved.GaveUp = Err (GaveUp exp)

-- WHERE SEVERAL ANSWERS ARE ALLOWED, a judgement is one of these

-- an NS text has no wiring, or this is judged of its wiring
pub record JudgedText (exp text : List ℕ) (Judges : Wiring → Result Task Reply → Type 0) (judgement : Result Task Reply) : Type 0 where
  pub meaning : Result Wiring TextFault
  pub is : WiringOf text meaning
  pub judged : OrRefused (need_meaning (Bad exp) meaning) Judges judgement

-- this is judged of what a search finds
pub record JudgedFound (rule : RuleNumber) (s : LabState) (lab : Lab) (e : Experiment) (w : Wiring) (seed : ℕ) (judged : Solved → Result Task Reply) (judgement : Result Task Reply) : Type 0 where
  pub found : Solved
  pub is_found : IsFound rule lab s.experiments e w seed found
  pub is : judgement ≡ judged found

-- `solve`: the mapping that was found and its cost are told
abbrev pub judged_solved : Lab → Experiment → Solved → Result Task Reply
judged_solved lab e (solved.Least mapping cost) = Ok (Tell (Least e.name cost (canonical_solution lab e.wiring mapping)))
judged_solved lab e (solved.Local mapping cost) = Ok (Tell (Local e.name cost (canonical_solution lab e.wiring mapping)))
judged_solved lab e solved.None = Err (NoneFits e.name)
judged_solved lab e solved.GaveUp = Err (GaveUp e.name)

abbrev pub JudgedSolve : RuleNumber → LabState → Bool → List ℕ → ℕ → Result Task Reply → Type 0
JudgedSolve rule s busy exp seed = OrRefused (need_idle_out s busy exp) (λ p. JudgedFound rule s p.0 p.1 p.1.wiring seed (judged_solved p.0 p.1))

-- `swapin`: it goes in where a mapping was found
abbrev pub judged_entry : LabState → Lab → Experiment → Solved → Result Task Reply
judged_entry s lab e found = do
  mapping ← need_mapping e.name found
  Ok (task_in s lab e mapping)

abbrev pub JudgedSwapin : RuleNumber → LabState → Bool → List ℕ → ℕ → Result Task Reply → Type 0
JudgedSwapin rule s busy exp seed = OrRefused (need_idle_out s busy exp) (λ p. JudgedFound rule s p.0 p.1 p.1.wiring seed (judged_entry s p.0 p.1))

-- `modify`: it changes to the wiring of an NS text where a mapping was found
abbrev pub judged_move : LabState → Lab → Experiment → Wiring → Solved → Result Task Reply
judged_move s lab e w found = do
  mapping ← need_mapping e.name found
  Ok (task_over s lab e w mapping)

abbrev pub JudgedModify : RuleNumber → LabState → Bool → List ℕ → ℕ → List ℕ → Result Task Reply → Type 0
JudgedModify rule s busy exp seed text =
    OrRefused (need_idle_in s busy exp) (λ p. JudgedText exp text (λ w. JudgedFound rule s p.0 p.1 w seed (judged_move s p.0 p.1 w)))

-- a command for which a search is made
abbrev pub is_searched : Command → Bool
is_searched (commands.Solve exp seed) = true
is_searched (commands.Swapin only exp seed) = true
is_searched (commands.Modify only exp seed lines text) = true
is_searched command = false

-- TWO ANSWERS OF A SEARCH that may differ: locally best mappings, where the candidates are many
abbrev pub AreLocal : Solved → Solved → Type 0
AreLocal (solved.Local m c) (solved.Local n d) = Unit {0}
AreLocal a b = ⊥
