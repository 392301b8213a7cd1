use Rattle.std.proofs.Common.{◌≡◌, ◌∙◌, ◌++◌, ℕ, List, [], get_or, ap, sym, arith, ◌==◌}
use Rattle.std.proofs.lemmas.List.{get_or_read}
use Rattle.node_maps.specs.declared.ends.End.{End}
use Rattle.map_state.specs.Nodes.{is_host, numbers_of}
use Rattle.map_state.proofs.ListedLaws.{times, times_append, none_before, none_more, times_more, all_before, sorted_numbers}
use Rattle.map_state.proofs.give.list_ends.Goals as goal
use Rattle.map_state.proofs.give.list_ends.Goals.{then-hosts-virt+in_ok-extend_from_slice, else-hosts-virt}

pub loop-virt-init : goal.loop-virt-init
loop-virt-init c = record {
  listed = λ k. ap (times k) (c.clear.ensures.items ∙ none_before c.args.hosts.now c.args.node.0 0 c.args.search.now.mapper.ends.now);
}

pub loop-virt-preserved : goal.loop-virt-preserved
loop-virt-preserved c =
    let x = c.args.search.now in
    let es = x.mapper.ends.now in
    let hosts = c.args.hosts.now in
    let n = c.args.node.0 in
    let v = c.loop-virt.virt in
    let before = c.loop-virt.listed.items in
    let own : List ℕ = numbers_of 0 (λ e. e.node == v) es in
    let lists = x.table.now.own.items in
    let virt = c.loop-virt-test.true in
    let hosted = c.requires.hosts in
    let counted = c.requires.search.table.own.one_each in
    let its : (l : List ℕ) → l ≡ get_or lists v l → l ≡ own = λ l at.
    get_or_read lists v l (omega (arith, virt, hosted, counted)) at [] ∙ c.requires.search.table.own.each v (omega (arith, virt, hosted)) ∙ ap (λ (l : List End). numbers_of 0 (λ e. e.node == v) l) (sym c.requires.search.mapper.ends) in
    elim c.if-hosts-virt.branch [
      | then-hosts-virt+in_ok-extend_from_slice w ↦ record {
        listed = λ k.
            let more = ap (times k) (ap (λ y. y.items) w.listed-is ∙ w.in_ok-extend_from_slice.ensures.items ∙ ap (λ (l : List ℕ). before ++ l) (w.as_slice.ensures ∙ its w.index.result.now w.index.ensures)) in
            let parts = times_append k before own in
            let had = c.loop-virt.invariant.listed k in
            let law = times_more k hosts n v es w.if-hosts-virt.true in
            omega (arith, more, parts, had, law);
      }
      | else-hosts-virt w ↦ record {
        listed = λ k. ap (times k) (ap (λ y. y.items) w.listed-is) ∙ c.loop-virt.invariant.listed k ∙ ap (times k) (none_more hosts n v es w.if-hosts-virt.false);
      }
    ]

pub returns : goal.returns
returns c =
    let x = c.args.search.now in
    let es = x.mapper.ends.now in
    let hosts = c.args.hosts.now in
    let n = c.args.node.0 in
    let v = c.loop-virt.virt in
    sorted_numbers (is_host hosts n) es c.loop-virt.listed.items c.sort_unstable.new.self.items
    (λ k. c.loop-virt.invariant.listed k ∙ ap (times k) (all_before hosts n v es (omega (arith, c.loop-virt-test.false))))
    c.sort_unstable.ensures.permutation c.sort_unstable.ensures.sorted
