use Rattle.std.proofs.Common.{◌≡◌, List, map, Ok, sym, ap, subst, ◌∙◌}
use Rattle.virt_topo.specs.declared.wiring.Class.{Class}
use Rattle.top_text.specs.Adding.{kept}
use Rattle.top_text.proofs.AddedLaws.{names_more, new_class}
use Rattle.top_text.proofs.adding.add_class.Goals as goal

pub put-requires : goal.put-requires
put-requires c = new_class c.args.so_far.now.wiring c.args.so_far.now.tables c.args.class c.requires.kept c.requires.tables c.in_ok-check_class.ensures

pub returns-clause-takes : goal.returns-clause-takes
returns-clause-takes c = c.in_ok-check_class.ensures ∙ ap (λ (l : List Class). Ok (record c.args.so_far.now.wiring { classes = l })) (sym c.in_ok-push.ensures.ok)

pub returns-clause-keeps : goal.returns-clause-keeps
returns-clause-keeps c =
    let w = c.args.so_far.now.wiring in
    let is = c.requires.tables in
    let pushed = sym c.in_ok-push.ensures.ok in
    record {
      kept = subst (λ (l : List Class). kept (record w { classes = l }) ≡ Ok (record w { classes = l })) pushed c.in_ok-check_class.ensures;
      tables = record {
        classes = names_more (λ (d : Class). d.name) c.args.so_far.now.tables.classes.keys _ w.classes c.args.class is.classes c.in_ok-put.ensures ∙ ap (λ (l : List Class). map (λ d. d.name) l) pushed;
        nodes = is.nodes;
        segments = is.segments;
        addresses = is.addresses;
        piped = is.piped;
        ends = is.ends;
        each_node = is.each_node;
        on_node = is.on_node;
        each_segment = is.each_segment;
        joined = is.joined;
      };
    }
