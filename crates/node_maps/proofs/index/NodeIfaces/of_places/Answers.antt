use Rattle.std.proofs.Common.{◌∙◌, inl, inr, List, [], Bool, false, length, get_or, ap, sym, arith}
use Rattle.std.proofs.lemmas.Bool.{cases_lt}
use Rattle.std.proofs.lemmas.List.{get_or_past}
use Rattle.node_maps.proofs.IndexLaws.{no_node}
use Rattle.node_maps.proofs.index.NodeIfaces.of_places.Goals as goal

pub returns : goal.returns
returns c =
    let lab = c.args.lab.now in
    let n = length lab.nodes in
    let lists = c.in_ok-lists.lists.items in
    record {
      each = λ k d lt.
          let node = (get_or c.args.places.now k d).0.0 in
          elim (cases_lt node n) [
            | inl below ↦ c.in_ok-lists.ensures.each node (ap (λ (l : List Bool). get_or l node false) c.deref.ensures.value ∙ c.in_ok-used.ensures.used k d lt (omega (arith, below, ap length c.nodes.ensures)))
            | inr past ↦ get_or_past lists node [] (omega (arith, past, c.in_ok-lists.ensures.nodes)) ∙ sym (no_node 0 lab.ifaces node n c.ifaces-linked.ensures.linked.nodes past)
          ];
    }
