use Rattle.std.proofs.Common.{◌≡◌, ap, sym, ◌∙◌, subst, List, ℕ, Bool, Option, true, None, Some, length, arith}
use Rattle.std.specs.Prelude.{◌↔◌, IfOk, is_some}
use Rattle.lab_base.proofs.Tests.{some_weaker}
use Rattle.phys_lab.specs.Labs.{Lab}
use Rattle.plant.specs.Told.{Told}
use Rattle.plant.specs.Worlds.{world_of, wiped}
use Rattle.virt_topo.specs.declared.mapping.Mapped.{Mapped}
use Rattle.lab_model.specs.Cabled.{SameNode}
use Rattle.lab_model.specs.Wants.{node_name}
use Rattle.records_model.specs.Labs.{lab_in}
use Rattle.lab_audit.specs.Diff.{standing}
use Rattle.lab_audit.specs.Nodes.{IsOff, claimer}
use Rattle.lab_audit.proofs.Owners.{claimer_suits, differs_free, differs_held}
use Rattle.lab_audit.proofs.Reading.{ok_to}
use Rattle.lab_audit.proofs.node_lines.differs.Goals as goal

pub claimer-requires-clause-node : goal.claimer-requires-clause-node
claimer-requires-clause-node g c = omega (arith, c.requires.node, ap (λ (o : Option Lab). length (lab_in o).nodes) c.requires.lab)

pub is_off-requires-clause-fits : goal.is_off-requires-clause-fits
is_off-requires-clause-fits g c =
    let s = c.args.state.now.state in
    let lab = c.args.lab.now in
    let first : claimer lab s.experiments (node_name lab c.args.node) ≡ Some c.in-Some.experiment.now =
    ap (λ (l : Lab). claimer l s.experiments (node_name l c.args.node)) (sym (ap lab_in c.requires.lab)) ∙ sym c.in-Some.ensures in
    claimer_suits s lab (node_name lab c.args.node) c.in-Some.experiment.now c.requires.sane c.requires.lab first

pub returns-in-Some-clause-exact : goal.returns-in-Some-clause-exact
returns-in-Some-clause-exact g c =
    let a = g.P.Plant.seen c.args.plant.now in
    let s = c.args.state.now.state in
    let lab = c.args.lab.now in
    let name = node_name lab c.args.node in
    let e = c.in-Some.experiment.now in
    let first : claimer lab s.experiments name ≡ Some e = ap (λ (l : Lab). claimer l s.experiments (node_name l c.args.node)) (sym (ap lab_in c.requires.lab)) ∙ sym c.in-Some.ensures in
    let Off : Told → Bool → Type 0 = λ t off. ((m : Mapped) → standing e ≡ Some m → is_some ((world_of t.trace).node name).boot ≡ true) → (off ≡ true) ↔ IsOff lab (world_of t.trace) name (standing e) in
    some_weaker a.told (λ (t : Told). IfOk c.is_off.result (Off t)) _
    (λ t is. ok_to c.is_off.result (Off t) _ (λ off exact. λ known. differs_held s lab (world_of t.trace) name e off c.requires.sane c.requires.lab first exact known) is)
    c.is_off.ensures.exact

pub returns-in-None-clause-exact : goal.returns-in-None-clause-exact
returns-in-None-clause-exact g c =
    let a = g.P.Plant.seen c.args.plant.now in
    let s = c.args.state.now.state in
    let lab = c.args.lab.now in
    let name = node_name lab c.args.node in
    let n = c.name_at-name.result in
    let first : claimer lab s.experiments name ≡ None = ap (λ (l : Lab). claimer l s.experiments (node_name l c.args.node)) (sym (ap lab_in c.requires.lab)) ∙ sym c.in-None.ensures in
    let Off : Told → List ℕ → Bool → Type 0 = λ t v off. is_some ((world_of t.trace).node v).boot ≡ true → (off ≡ true) ↔ (SameNode ((world_of t.trace).node v) wiped → ⊥) in
    some_weaker a.told (λ (t : Told). IfOk c.is_unwiped.result (Off t n)) _
    (λ t is. ok_to c.is_unwiped.result (Off t n) _ (λ off exact. λ known. differs_free s lab (world_of t.trace) name off c.requires.sane c.requires.lab first
    (subst (λ (v : List ℕ). Off t v off) c.name_at-name.ensures exact) known) is)
    c.is_unwiped.ensures.exact
