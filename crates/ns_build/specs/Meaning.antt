-- THE MEANING of an NS text.
use Rattle.std.specs.Prelude.{ℕ, ◌<◌, ◌≤◌, List, [], length, Result, Ok, Err}
use Rattle.lab_base.specs.declared.fault.Kind.TheVariants as kinds
use Rattle.lab_base.specs.declared.fault.TextFault.{TextFault}
use Rattle.lab_base.specs.declared.fault.TextRefused.{TextRefused}
use Rattle.lab_base.specs.declared.fault.TextRefused.TheVariants as refused
use Rattle.tcl_words.specs.Words.{line_at}
use Rattle.tcl_eval.specs.declared.runs.Ran.TheVariants.{Stopped, Ended}
use Rattle.tcl_eval.specs.State.{State, state}
use Rattle.tcl_eval.specs.Runs.{Runs, fault_on}
use Rattle.ns_build.specs.declared.asked.Asked.{Asked}
use Rattle.ns_build.specs.Networks.{Network, empty, topo_of, events_of}
use Rattle.ns_build.specs.Host.{called, assigned}

-- nothing is set or made, and 20,000 commands and conditions are left
abbrev pub start : State Network
start = state [] empty 20000

-- A text of more than 65,536 bytes is refused at the line of the first byte above. Any other is evaluated: up to `$ns run`, whose line counts,
-- to its end, where that is missing, or to its first fault.
pub data MeaningOf (t : List ℕ) : Result Asked TextFault → Type 0 where
  long : 65536 < length t → MeaningOf t (Err (fault_on (line_at t 65536) kinds.Long))
  asked : {line : ℕ} {s : State Network} → length t ≤ 65536 → Runs called assigned t start (Ok (Stopped line)) s → MeaningOf t (Ok (record { topo = topo_of s.objects; events = events_of s.objects; line = line }))
  not_run : {line : ℕ} {s : State Network} → length t ≤ 65536 → Runs called assigned t start (Ok (Ended line)) s → MeaningOf t (Err (fault_on line kinds.NotRun))
  faulty : {fault : TextFault} {s : State Network} → length t ≤ 65536 → Runs called assigned t start (Err fault) s → MeaningOf t (Err fault)

-- it is read so, unless memory ran out
unfoldable pub HasMeaning : List ℕ → Result Asked TextRefused → Type 0
HasMeaning t (Ok read) = MeaningOf t (Ok read)
HasMeaning t (Err (refused.Text fault)) = MeaningOf t (Err fault)
HasMeaning t (Err refused.Memory) = Unit {0}
