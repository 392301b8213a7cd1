use Rattle.std.proofs.Common.{drop}
use Rattle.tcl_eval.specs.Machines.{seen}
use Rattle.tcl_eval.specs.Runs.{RunLeads}
use Rattle.tcl_eval.proofs.machine.Machine.run_text.Given as goal

-- however the commands that are left run, the whole text runs so
abbrev pub invariant-loop-command : goal.invariant-loop-command
invariant-loop-command g l =
    RunLeads g.H.Host.calls g.H.Host.hears l.text (drop l.command-index l.command-items) (seen g.H.Host.objects l.self) (seen g.H.Host.objects l.fn.self)
