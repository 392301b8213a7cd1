use Rattle.std.proofs.Common.{◌≡◌, ◌<◌, ◌+◌, ◌++◌, [], ◌∷◌, List, None, ap, sym, subst, length, take, arith, ℕ, true}
use Rattle.std.specs.Prelude.{is_some}
use Rattle.plant.specs.Told.{Told}
use Rattle.plant.specs.Worlds.{world_of}
use Rattle.lab_model.specs.Courses.{node_names}
use Rattle.lab_model.specs.Wants.{node_name}
use Rattle.script_text.specs.declared.reply.AuditLine.{AuditLine}
use Rattle.lab_audit.specs.Diff.{AreDiffering, IsCompared, IsKnown}
use Rattle.lab_audit.specs.Nodes.{line_if}
use Rattle.lab_audit.proofs.Comparing.{AreOfNodes, differing_more, has_name, names_more, of_node, of_nodes_more}
use Rattle.lab_audit.proofs.Reading.{both_told, read_on, told_before}
use Rattle.lab_audit.proofs.node_lines.node_lines.Goals as goal

pub loop-node-preserved : goal.loop-node-preserved
loop-node-preserved g c =
    let a = g.P.Plant.seen c.args.plant.now in
    let b = g.P.Plant.seen c.loop-node.plant in
    let lab = c.args.lab.now in
    let es = c.args.state.now.state.experiments in
    let n = c.loop-node.node in
    let name = node_name lab (record { 0 = n }) in
    let old = c.loop-node.nodes in
    let new = c.push_node.new.nodes in
    let so_far = c.loop-node.invariant in
    let lt : n < length lab.nodes = omega (arith, ap length c.nodes-node-end.ensures) in
    let Next : Told → Type 0 = λ t. (IsCompared lab es name → is_some ((world_of t.trace).node name).boot ≡ true) → (own : List AuditLine) × (new ≡ old ++ own) × AreDiffering lab es (world_of t.trace) (name ∷ []) own in
    let next = told_before a b Next so_far.so_far c.in_ok-push_node.ensures.exact in
    let line = c.in_ok-push_node.ensures.line in
    record {
      so_far = read_on a b (g.P.Plant.seen c.push_node.new.plant) None so_far.so_far c.in_ok-push_node.ensures.reads;
      of_nodes = subst (λ (l : List AuditLine). AreOfNodes l) (sym line.1) (of_nodes_more old (line_if line.0 name) so_far.of_nodes (of_node line.0 name));
      lines = both_told a.told (λ (t : Told). IsKnown lab es (world_of t.trace) → AreDiffering lab es (world_of t.trace) (take n (node_names lab)) old) Next _
          (λ t l o. λ known.
          let own = o (λ compared. known name (has_name lab n lt) compared) in
          subst (λ (ls : List AuditLine). AreDiffering lab es (world_of t.trace) (take (n + 1) (node_names lab)) ls) (sym own.1)
          (subst (λ (ns : List (List ℕ)). AreDiffering lab es (world_of t.trace) ns (old ++ own.0)) (sym (names_more lab n lt)) (differing_more lab es (world_of t.trace) (take n (node_names lab)) name old own.0 (l known) own.2)))
          so_far.lines next;
    }
