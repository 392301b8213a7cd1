use Rattle.std.proofs.Common.{◌≡◌, ◌++◌, List, ap, ◌∙◌}
use Rattle.lab_base.proofs.Tests.{some_weaker}
use Rattle.phys_lab.specs.Labs.{Lab}
use Rattle.virt_topo.specs.declared.experiment.Experiment.{Experiment}
use Rattle.plant.specs.Told.{Told}
use Rattle.plant.specs.Worlds.{world_of}
use Rattle.script_text.specs.declared.reply.AuditLine.{AuditLine}
use Rattle.lab_audit.specs.Diff.{AreLinesOf}
use Rattle.lab_audit.specs.Lines.{AreAllWanted}
use Rattle.lab_audit.proofs.switch_lines.push_switch.Goals as goal

pub returns-clause-lines : goal.returns-clause-lines
returns-clause-lines g c =
    let a = g.P.Plant.seen c.args.plant.now in
    let own = c.in_ok-own.own.items in
    let longer : c.append.new.lines ≡ c.args.lines.now ++ own = c.in_ok-append.ensures ∙ ap (λ (l : List AuditLine). c.args.lines.now ++ l) c.deref.ensures.value in
    some_weaker a.told (λ (t : Told). (lab : Lab) (es : List Experiment) → AreAllWanted lab es c.args.wanted.now → AreLinesOf lab es (world_of t.trace) c.args.switch own) _
    (λ t of. (own, longer, of))
    c.in_ok-own.ensures.lines
