use Rattle.std.proofs.Common.{◌≡◌, ◌++◌, ap, sym, ◌∙◌, subst, List, Option}
use Rattle.lab_base.proofs.Tests.{some_weaker}
use Rattle.phys_lab.specs.Labs.{Lab}
use Rattle.virt_topo.specs.declared.experiment.Experiment.{Experiment}
use Rattle.plant.specs.Told.{Told}
use Rattle.plant.specs.Worlds.{world_of}
use Rattle.lab_model.specs.Courses.{node_names}
use Rattle.records_model.specs.Labs.{lab_in}
use Rattle.script_text.specs.declared.reply.AuditLine.{AuditLine}
use Rattle.lab_audit.specs.Diff.{AreDiffering, AreLines, IsDiff, IsKnown, TellsSwitches}
use Rattle.lab_audit.specs.Lines.{AreAllWanted}
use Rattle.lab_audit.specs.declared.wanted.Wanted.{Wanted}
use Rattle.lab_audit.proofs.Comparing.{is_diff, tells_switches}
use Rattle.lab_audit.proofs.Reading.{both_told, told_before}
use Rattle.lab_audit.proofs.auditing.audit.Goals as goal

pub returns-clause-exact : goal.returns-clause-exact
returns-clause-exact g c =
    let a = g.P.Plant.seen c.args.plant.now in
    let b = g.P.Plant.seen c.switch_lines.new.plant in
    let es = c.args.state.now.state.experiments in
    let lab = c.in-Some.lab.now in
    let switches = c.in_ok-report.report in
    let nodes = c.in_ok-nodes.nodes in
    let wanted : AreAllWanted lab es c.deref.result.now = subst (λ (l : List Wanted). AreAllWanted lab es l) (sym c.deref.ensures.value) c.in_ok-wanted.ensures in
    let whole : c.append.new.lines ≡ switches ++ nodes = c.in_ok-append.ensures ∙ ap (λ (l : List AuditLine). switches ++ l) c.as_slice.ensures in
    let Nodes : Told → Type 0 = λ t. IsKnown lab es (world_of t.trace) → AreDiffering lab es (world_of t.trace) (node_names lab) nodes in
    both_told a.told (λ (t : Told). (es : List Experiment) → AreAllWanted lab es c.deref.result.now → AreLines lab es (world_of t.trace) lab.switches switches) Nodes _
    (λ t l n. subst (λ (o : Option Lab). IsKnown (lab_in o) es (world_of t.trace) → IsDiff (lab_in o) es (world_of t.trace) c.append.new.lines) c.in-Some.ensures.lab
    (λ known. subst (λ (r : List AuditLine). IsDiff lab es (world_of t.trace) r) (sym whole) (is_diff lab es (world_of t.trace) switches nodes (l es wanted) (n known))))
    c.in_ok-report.ensures.lines (told_before a b Nodes c.in_ok-report.ensures.reads c.in_ok-nodes.ensures.exact)

pub returns-clause-switches : goal.returns-clause-switches
returns-clause-switches g c =
    let a = g.P.Plant.seen c.args.plant.now in
    let es = c.args.state.now.state.experiments in
    let lab = c.in-Some.lab.now in
    let switches = c.in_ok-report.report in
    let nodes = c.in_ok-nodes.nodes in
    let wanted : AreAllWanted lab es c.deref.result.now = subst (λ (l : List Wanted). AreAllWanted lab es l) (sym c.deref.ensures.value) c.in_ok-wanted.ensures in
    let whole : c.append.new.lines ≡ switches ++ nodes = c.in_ok-append.ensures ∙ ap (λ (l : List AuditLine). switches ++ l) c.as_slice.ensures in
    some_weaker a.told (λ (t : Told). (es : List Experiment) → AreAllWanted lab es c.deref.result.now → AreLines lab es (world_of t.trace) lab.switches switches) _
    (λ t l. subst (λ (o : Option Lab). TellsSwitches (lab_in o) es (world_of t.trace) c.append.new.lines) c.in-Some.ensures.lab
    (subst (λ (r : List AuditLine). TellsSwitches lab es (world_of t.trace) r) (sym whole) (tells_switches lab es (world_of t.trace) switches nodes (l es wanted) c.in_ok-nodes.ensures.lines)))
    c.in_ok-report.ensures.lines
