use Rattle.std.proofs.Common.{◌≡◌, ◌<◌, ◌+◌, ◌++◌, ◌∷◌, [], ℕ, List, length, map, get_or, None, Ok, sym, ap, subst, ◌∙◌, length-append}
use Rattle.virt_topo.specs.declared.wiring.VirtNode.{VirtNode}
use Rattle.top_text.specs.Adding.{kept}
use Rattle.top_text.specs.Tables.{segments_on}
use Rattle.top_text.proofs.AddedLaws.{names_more, new_node, numbers_with_node}
use Rattle.top_text.proofs.adding.add_node.Goals as goal

pub check_node-requires-clause-asks : goal.check_node-requires-clause-asks
check_node-requires-clause-asks c = (c.args.read.1.0, c.asks_of.ensures)

pub put-requires : goal.put-requires
put-requires c = new_node c.args.so_far.now.wiring c.args.so_far.now.tables _ c.requires.kept c.requires.tables c.in_ok-check_node.ensures

pub returns-clause-takes : goal.returns-clause-takes
returns-clause-takes c =
    let w = c.args.so_far.now.wiring in
    ap (λ a. kept (record w { nodes = w.nodes ++ record { name = c.args.read.0; asks = a; desires = c.args.read.1.1.1; os = c.args.read.1.1.0; fixed = None } ∷ [] })) (sym c.asks_of.ensures)
    ∙ c.in_ok-check_node.ensures ∙ ap (λ (l : List VirtNode). Ok (record w { nodes = l })) (sym c.in_ok-push.ensures.ok)

pub returns-clause-keeps : goal.returns-clause-keeps
returns-clause-keeps c =
    let w = c.args.so_far.now.wiring in
    let t = c.args.so_far.now.tables in
    let is = c.requires.tables in
    let pushed = sym c.in_ok-push.ensures.ok in
    record {
      kept = subst (λ (l : List VirtNode). kept (record w { nodes = l }) ≡ Ok (record w { nodes = l })) pushed c.in_ok-check_node.ensures;
      tables = record {
        classes = is.classes;
        nodes = names_more (λ (v : VirtNode). v.name) t.nodes.keys _ w.nodes _ is.nodes c.in_ok-put.ensures ∙ ap (λ (l : List VirtNode). map (λ v. v.name) l) pushed;
        segments = is.segments;
        addresses = is.addresses;
        piped = is.piped;
        ends = is.ends;
        each_node = ap (λ (l : List (List ℕ)). length l) c.in_ok-put_node.ensures ∙ length-append t.on_node.items ([] ∷ []) ∙ ap (λ n. n + 1) is.each_node ∙ sym (length-append w.nodes (_ ∷ [])) ∙ ap (λ (l : List VirtNode). length l) pushed;
        on_node = subst (λ (l : List VirtNode). (v : ℕ) → v < length l → get_or c.put_node.new.on_node.items v [] ≡ segments_on w.segments v) pushed (numbers_with_node w t _ c.put_node.new.on_node.items c.requires.kept is c.in_ok-put_node.ensures);
        each_segment = is.each_segment;
        joined = is.joined;
      };
    }
