use Rattle.std.proofs.Common.{◌≡◌, ◌<◌, ◌+◌, ◌++◌, ◌∷◌, [], ℕ, Bool, false, List, map, length, get_or, Ok, sym, ap, subst, arith, ◌∙◌, length-append}
use Rattle.std.specs.Prelude.{nat_lt, nat_eq}
use Rattle.std.specs.List.{list_all, list_any}
use Rattle.virt_topo.specs.declared.wiring.Segment.{Segment}
use Rattle.virt_topo.specs.declared.wiring.VirtEnd.{VirtEnd}
use Rattle.virt_topo.specs.Ends.{end_nodes}
use Rattle.virt_topo.specs.Owners.{at_ends}
use Rattle.virt_topo.specs.Repeats.{stands_again}
use Rattle.virt_topo.specs.Soundness.{all_ends}
use Rattle.virt_topo.proofs.EndLaws.{nodes_of}
use Rattle.virt_topo.proofs.MoreLaws.{known_with_segment, count_more}
use Rattle.top_text.specs.Adding.{kept, with_segment}
use Rattle.top_text.specs.Tables.{addresses_of, segments_on, joins}
use Rattle.top_text.proofs.KeptLaws.{tests_of}
use Rattle.top_text.proofs.TableLaws.{of_one}
use Rattle.top_text.proofs.AddedLaws.{names_more, new_segment, new_addresses, once_so_far, again_with, addresses_with, numbers_with_segment, joined_with_segment}
use Rattle.top_text.proofs.adding.add_segment.Goals as goal

pub repeats_addresses-requires : goal.repeats_addresses-requires
repeats_addresses-requires c = once_so_far c.args.so_far.now.wiring c.args.so_far.now.tables.addresses.keys c.requires.reading.kept c.requires.reading.tables.addresses

pub check_segment-requires-clause-again : goal.check_segment-requires-clause-again
check_segment-requires-clause-again c =
    let keys = c.args.so_far.now.tables.addresses.keys in
    c.in_ok-again.ensures.again ∙ ap (λ (l : List VirtEnd). stands_again nat_eq (keys ++ addresses_of l)) c.as_slice-ends.ensures ∙ again_with c.args.so_far.now.wiring keys c.args.segment.ends c.requires.reading.tables.addresses

pub put-requires : goal.put-requires
put-requires c = new_segment c.args.so_far.now.wiring c.args.so_far.now.tables.segments.keys c.args.segment c.requires.reading.kept c.requires.reading.tables.segments c.in_ok-check_segment.ensures

pub put_ends-requires : goal.put_ends-requires
put_ends-requires c =
    let w = c.args.so_far.now.wiring in
    (λ i. list_all (λ e. nat_lt e.node (c.requires.reading.tables.each_node i)) (c.as_slice-ends.ensures i))
    ∙ sym (known_with_segment w c.args.segment (tests_of w c.requires.reading.kept).known) ∙ (tests_of (with_segment w c.args.segment) c.in_ok-check_segment.ensures).known

pub returns-clause-takes : goal.returns-clause-takes
returns-clause-takes c = c.in_ok-check_segment.ensures ∙ ap (λ (l : List Segment). Ok (record c.args.so_far.now.wiring { segments = l })) (sym c.in_ok-push.ensures.ok)

pub returns-clause-keeps : goal.returns-clause-keeps
returns-clause-keeps c =
    let w = c.args.so_far.now.wiring in
    let t = c.args.so_far.now.tables in
    let s = c.args.segment in
    let is = c.requires.reading.tables in
    let pushed = sym c.in_ok-push.ensures.ok in
    let none : c.in_ok-again.again ≡ false =
    c.in_ok-again.ensures.again ∙ ap (λ (l : List VirtEnd). stands_again nat_eq (t.addresses.keys ++ addresses_of l)) c.as_slice-ends.ensures ∙ new_addresses w t s c.requires.reading.kept is c.in_ok-check_segment.ensures in
    record {
      kept = subst (λ (l : List Segment). kept (record w { segments = l }) ≡ Ok (record w { segments = l })) pushed c.in_ok-check_segment.ensures;
      tables = record {
        classes = is.classes;
        nodes = is.nodes;
        segments = names_more (λ (x : Segment). x.name) t.segments.keys _ w.segments s is.segments c.in_ok-put.ensures ∙ ap (λ (l : List Segment). map (λ x. x.name) l) pushed;
        addresses =
            addresses_with w s t.addresses.keys _ is.addresses (c.in_ok-again.ensures.keys none ∙ ap (λ (l : List VirtEnd). t.addresses.keys ++ addresses_of l) c.as_slice-ends.ensures)
            ∙ ap (λ (l : List Segment). addresses_of (all_ends l)) pushed;
        piped = is.piped;
        ends = omega (arith, is.ends, ap (λ (l : List VirtEnd). length l) c.as_slice-ends.ensures, count_more w.segments s, ap (λ (l : List Segment). length (end_nodes l)) pushed);
        each_node = c.in_ok-put_ends.ensures.count ∙ is.each_node;
        on_node = λ v lt.
            subst (λ (l : List Segment). get_or c.put_ends.new.on_node.items v [] ≡ segments_on l v) pushed
            (numbers_with_segment w s t.on_node.items c.put_ends.new.on_node.items is.on_node is.each_node
            (λ u within. c.in_ok-put_ends.ensures.numbers u within ∙ (λ i. get_or t.on_node.items u [] ++ at_ends u (nodes_of (c.as_slice-ends.ensures i)) (of_one (c.len-number.ensures i) (c.as_slice-ends.ensures i)))) v lt);
        each_segment = ap (λ (l : List Bool). length l) c.in_ok-put_segment.ensures ∙ length-append t.joined.items (false ∷ []) ∙ ap (λ n. n + 1) is.each_segment ∙ sym (length-append w.segments (s ∷ [])) ∙ ap (λ (l : List Segment). length l) pushed;
        joined =
            subst (λ (l : List Segment). (n : ℕ) → n < length l → get_or c.put_segment.new.joined.items n false ≡ list_any (joins (record w { segments = l }) n) w.pipes) pushed
            (joined_with_segment w t s c.put_segment.new.joined.items c.requires.reading.kept is c.in_ok-put_segment.ensures);
      };
    }
