use Rattle.std.proofs.Common.{◌≡◌, ◌++◌, ap, ◌∙◌, List, ℕ, true}
use Rattle.std.specs.Prelude.{◌↔◌, is_some}
use Rattle.lab_base.proofs.Tests.{some_weaker}
use Rattle.plant.specs.Told.{Told}
use Rattle.plant.specs.Worlds.{world_of}
use Rattle.lab_model.specs.Wants.{node_name}
use Rattle.lab_audit.specs.Diff.{Differs, IsCompared}
use Rattle.lab_audit.specs.Nodes.{line_if}
use Rattle.lab_audit.proofs.Comparing.{own_line}
use Rattle.lab_audit.proofs.node_lines.push_node.Goals as goal

pub returns-clause-line : goal.returns-clause-line
returns-clause-line g c =
    let differs = c.in_ok-differs.differs in
    (differs, c.in_ok-push_if.ensures ∙ ap (λ (n : List ℕ). c.args.nodes.now ++ line_if differs n) c.name_at.ensures)

pub returns-clause-exact : goal.returns-clause-exact
returns-clause-exact g c =
    let a = g.P.Plant.seen c.args.plant.now in
    let es = c.args.state.now.state.experiments in
    let lab = c.args.lab.now in
    let name = node_name lab c.args.node in
    let differs = c.in_ok-differs.differs in
    let longer : c.push_if.new.nodes ≡ c.args.nodes.now ++ line_if differs name = c.in_ok-push_if.ensures ∙ ap (λ (n : List ℕ). c.args.nodes.now ++ line_if differs n) c.name_at.ensures in
    some_weaker a.told (λ (t : Told). (IsCompared lab es name → is_some ((world_of t.trace).node name).boot ≡ true) → (differs ≡ true) ↔ Differs lab es (world_of t.trace) name) _
    (λ t is. λ known. (line_if differs name, longer, own_line lab es (world_of t.trace) differs name (is known)))
    c.in_ok-differs.ensures.exact
