use Rattle.std.proofs.lemmas.Result.{err_from_is_err_and}
use Rattle.std.proofs.lemmas.List.{drop_all}
use Rattle.tcl_eval.specs.Machines.{seen}
use Rattle.tcl_eval.proofs.Texts.{run_refused, run_starts, run_next, run_stops, run_fails, run_free, run_ends}
use Rattle.tcl_eval.proofs.machine.Machine.run_text.Goals as goal

pub returns-in_err-commands : goal.returns-in_err-commands
returns-in_err-commands g c =
    let p = err_from_is_err_and c.from_residual.result c.from_residual.ensures.1 in
    record { runs = rw (p.1, p.2) (run_refused g.H.Host.calls g.H.Host.hears c.args.text.now (seen g.H.Host.objects c.args.self.now) c.in_err-commands.field-0.0 c.in_err-commands.ensures.refused) }

pub loop-command-init : goal.loop-command-init
loop-command-init g c =
    run_starts g.H.Host.calls g.H.Host.hears c.args.text.now c.deref-command-items.result.now (seen g.H.Host.objects c.args.self.now) (rw (← c.deref-command-items.ensures.value) at c.in_ok-commands.ensures.commands)

pub returns-in-Err-Stop : goal.returns-in-Err-Stop
returns-in-Err-Stop g c =
    record { runs = run_stops g.H.Host.calls g.H.Host.hears c.args.text.now c.deref-command-items.result.now c.loop-command.command-index c.command-item.result (seen g.H.Host.objects c.loop-command.self) (seen g.H.Host.objects c.command.new.self) (seen g.H.Host.objects c.args.self.now) c.loop-command-test.true c.command-item.is c.loop-command.invariant (rw c.in-Err-Stop.field-0-is at c.in-Err-Stop.ensures.evals) }

pub returns-in-Err-Fault : goal.returns-in-Err-Fault
returns-in-Err-Fault g c =
    record { runs = rw c.in-Err-Fault.kind-is (run_fails g.H.Host.calls g.H.Host.hears c.args.text.now c.deref-command-items.result.now c.loop-command.command-index c.command-item.result c.in-Err-Fault.kind (seen g.H.Host.objects c.loop-command.self) (seen g.H.Host.objects c.command.new.self) (seen g.H.Host.objects c.args.self.now) c.loop-command-test.true c.command-item.is c.loop-command.invariant (rw c.in-Err-Fault.field-0-is at c.in-Err-Fault.ensures.evals)) }

pub returns-in-Err-Memory : goal.returns-in-Err-Memory
returns-in-Err-Memory g c = record { runs = run_free g.H.Host.calls g.H.Host.hears c.args.text.now (seen g.H.Host.objects c.args.self.now) (seen g.H.Host.objects c.command.new.self) }

pub loop-command-preserved : goal.loop-command-preserved
loop-command-preserved g c =
    run_next g.H.Host.calls g.H.Host.hears c.args.text.now c.deref-command-items.result.now c.loop-command.command-index c.command-item.result (seen g.H.Host.objects c.loop-command.self) (seen g.H.Host.objects c.command.new.self) (seen g.H.Host.objects c.args.self.now) c.in-Ok.field-0 c.loop-command-test.true c.command-item.is c.loop-command.invariant c.in-Ok.ensures.evals

pub returns : goal.returns
returns g c =
    record { runs = run_ends g.H.Host.calls g.H.Host.hears c.args.text.now c.deref-command-items.result.now c.loop-command.command-index c.last_line.result (seen g.H.Host.objects c.loop-command.self) (seen g.H.Host.objects c.args.self.now) (drop_all c.loop-command.command-index c.deref-command-items.result.now c.loop-command-test.false) c.last_line.ensures c.loop-command.invariant }
