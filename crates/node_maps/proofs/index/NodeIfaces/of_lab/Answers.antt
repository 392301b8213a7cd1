use Rattle.std.proofs.Common.{rules, ◌≡◌, ◌∙◌, inl, inr, List, [], Bool, true, false, length, get_or, replicate, ap, sym, arith}
use Rattle.std.proofs.lemmas.Bool.{cases_lt}
use Rattle.std.proofs.lemmas.List.{get_or_past, get_or-replicate}
use Rattle.node_maps.proofs.IndexLaws.{no_node}
use Rattle.node_maps.proofs.index.NodeIfaces.of_lab.Goals as goal

pub returns : goal.returns
returns c =
    let lab = c.args.lab.now in
    let n = length lab.nodes in
    let lists = c.in_ok-lists.lists.items in
    let all : c.in_ok-used.used.items ≡ replicate (length c.nodes.result.now) true = search rules in
    let used = c.deref.ensures.value ∙ all ∙ ap (λ l. replicate (length l) true) c.nodes.ensures in
    record {
      each = λ node. elim (cases_lt node n) [
        | inl below ↦ c.in_ok-lists.ensures.each node (ap (λ (l : List Bool). get_or l node false) used ∙ get_or-replicate n node true false below)
        | inr past ↦ get_or_past lists node [] (omega (arith, past, c.in_ok-lists.ensures.nodes)) ∙ sym (no_node 0 lab.ifaces node n c.ifaces-linked.ensures.linked.nodes past)
      ];
    }
