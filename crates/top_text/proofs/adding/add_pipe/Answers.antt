use Rattle.std.proofs.Common.{◌≡◌, Bool, true, false, List, length, get_or, Ok, sym, ap, subst, arith, ◌∙◌}
use Rattle.std.proofs.Math.ListN.{set}
use Rattle.std.proofs.lemmas.List.{length-set}
use Rattle.std.specs.List.{list_any, flat_map}
use Rattle.virt_topo.specs.declared.wiring.Pipe.{Pipe}
use Rattle.top_text.specs.Adding.{kept, with_pipe}
use Rattle.top_text.specs.Tables.{same_end, ends_of_pipe, joins}
use Rattle.top_text.proofs.SegmentLaws.{joined_with}
use Rattle.top_text.proofs.AddedLaws.{new_ends, piped_with, piped_segments}
use Rattle.top_text.proofs.adding.add_pipe.Goals as goal

pub put-requires : goal.put-requires
put-requires c = (new_ends c.args.so_far.now.wiring c.args.so_far.now.tables _ c.requires.kept c.requires.tables c.in_ok-check_pipe.ensures).0

pub put-requires-2 : goal.put-requires-2
put-requires-2 c =
    subst (λ l. list_any (same_end (c.virt_number-node.result, c.args.read.1.0.1)) l ≡ false) (sym c.in_ok-put.ensures) (new_ends c.args.so_far.now.wiring c.args.so_far.now.tables _ c.requires.kept c.requires.tables c.in_ok-check_pipe.ensures).1

pub join-requires-clause-first : goal.join-requires-clause-first
join-requires-clause-first c =
    let segments = piped_segments c.args.so_far.now.wiring c.args.so_far.now.tables _ c.requires.kept c.requires.tables c.in_ok-check_pipe.ensures in
    omega (arith, c.segment-first.ensures, segments.from, segments.from_there, c.requires.tables.each_segment)

pub join-requires-clause-second : goal.join-requires-clause-second
join-requires-clause-second c =
    let segments = piped_segments c.args.so_far.now.wiring c.args.so_far.now.tables _ c.requires.kept c.requires.tables c.in_ok-check_pipe.ensures in
    omega (arith, c.segment-second.ensures, segments.to, segments.to_there, c.requires.tables.each_segment)

pub returns-clause-takes : goal.returns-clause-takes
returns-clause-takes c =
    let w = c.args.so_far.now.wiring in
    let read = c.args.read in
    ap (λ n. kept (with_pipe w (record { node = n; from = read.1.0.0; to = read.1.0.1; there = read.1.1.0; back = read.1.1.1 }))) (sym c.virt_number-node.ensures)
    ∙ c.in_ok-check_pipe.ensures ∙ ap (λ (l : List Pipe). Ok (record w { pipes = l })) (sym c.in_ok-push.ensures.ok)

pub returns-clause-keeps : goal.returns-clause-keeps
returns-clause-keeps c =
    let w = c.args.so_far.now.wiring in
    let t = c.args.so_far.now.tables in
    let is = c.requires.tables in
    let pushed = sym c.in_ok-push.ensures.ok in
    let segments = piped_segments w t _ c.requires.kept is c.in_ok-check_pipe.ensures in
    let now = c.join.ensures ∙ (λ i. set (set t.joined.items ((c.segment-first.ensures ∙ segments.from) i) true) ((c.segment-second.ensures ∙ segments.to) i) true) in
    record {
      kept = subst (λ (l : List Pipe). kept (record w { pipes = l }) ≡ Ok (record w { pipes = l })) pushed c.in_ok-check_pipe.ensures;
      tables = record {
        classes = is.classes;
        nodes = is.nodes;
        segments = is.segments;
        addresses = is.addresses;
        piped = piped_with w _ t.piped.keys _ _ is.piped c.in_ok-put.ensures c.in_ok-put-2.ensures ∙ ap (λ (l : List Pipe). flat_map ends_of_pipe l) pushed;
        ends = is.ends;
        each_node = is.each_node;
        on_node = is.on_node;
        each_segment = ap (λ (l : List Bool). length l) c.join.ensures ∙ length-set (set t.joined.items c.segment-first.result true) c.segment-second.result true ∙ length-set t.joined.items c.segment-first.result true ∙ is.each_segment;
        joined = λ s lt.
            subst (λ (l : List Pipe). get_or c.join.new.joined.items s false ≡ list_any (joins w s) l) pushed
            (joined_with w _ t.joined.items c.join.new.joined.items is.each_segment is.joined segments.from_there segments.to_there now s lt);
      };
    }
