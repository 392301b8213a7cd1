use Rattle.std.proofs.Common.{◌≡◌, ◌∙◌, ℕ, List, length, take, drop, get_or, ap, sym, arith}
use Rattle.std.proofs.lemmas.List.{get_or_default}
use Rattle.lab_base.specs.declared.ids.IfaceId.{IfaceId}
use Rattle.virt_topo.specs.declared.wiring.Segment.{Segment}
use Rattle.lab_model.specs.Rules.{are_joined}
use Rattle.trunk_sums.specs.Summed.{first_end, no_segment}
use Rattle.map_state.proofs.JointLaws.{own_range, range_within}
use Rattle.map_state.proofs.joints.keeps_f7.Goals as goal

pub split_at-requires : goal.split_at-requires
split_at-requires c =
    let w = c.args.search.now.mapper.wiring.now in
    let s = c.args.segment in
    let table = c.requires.search.table in
    let count = table.firsts.one_each in
    let first : ◌≡◌ {A = ℕ} c.index.result.now (first_end w.segments s) =
    c.index.ensures ∙ get_or_default c.args.search.now.table.now.firsts.items s c.index.result.now 0 (omega (arith, c.requires.segment, count)) ∙ table.firsts.each s c.requires.segment in
    let range = range_within w.segments s c.requires.segment in
    let plugs = c.requires.shaped.plugs in
    let all = ap length c.as_slice-2.ensures in
    omega (arith, first, range, plugs, all)

pub split_at-requires-2 : goal.split_at-requires-2
split_at-requires-2 c =
    let w = c.args.search.now.mapper.wiring.now in
    let s = c.args.segment in
    let table = c.requires.search.table in
    let count = table.firsts.one_each in
    let first : ◌≡◌ {A = ℕ} c.index.result.now (first_end w.segments s) =
    c.index.ensures ∙ get_or_default c.args.search.now.table.now.firsts.items s c.index.result.now 0 (omega (arith, c.requires.segment, count)) ∙ table.firsts.each s c.requires.segment in
    let item : Segment = c.index-as_slice-segment.result in
    let own : get_or c.as_slice.result.now s item ≡ get_or w.segments s no_segment = ap (λ (l : List Segment). get_or l s item) c.as_slice.ensures ∙ get_or_default w.segments s item no_segment c.requires.segment in
    let ends : ◌≡◌ {A = ℕ} c.len-ends.result (length (get_or w.segments s no_segment).ends) = c.len-ends.ensures ∙ ap (λ (y : Segment). length y.ends) own in
    let range = range_within w.segments s c.requires.segment in
    let plugs = c.requires.shaped.plugs in
    let all = ap length c.as_slice-2.ensures in
    omega (arith, first, ends, range, plugs, all, c.split_at.ensures.back_len)

pub returns : goal.returns
returns c =
    let lab = c.args.search.now.mapper.lab.now in
    let w = c.args.search.now.mapper.wiring.now in
    let m = c.args.mapping.now in
    let s = c.args.segment in
    let table = c.requires.search.table in
    let count = table.firsts.one_each in
    let first : ◌≡◌ {A = ℕ} c.index.result.now (first_end w.segments s) =
    c.index.ensures ∙ get_or_default c.args.search.now.table.now.firsts.items s c.index.result.now 0 (omega (arith, c.requires.segment, count)) ∙ table.firsts.each s c.requires.segment in
    let item : Segment = c.index-as_slice-segment.result in
    let own : get_or c.as_slice.result.now s item ≡ get_or w.segments s no_segment = ap (λ (l : List Segment). get_or l s item) c.as_slice.ensures ∙ get_or_default w.segments s item no_segment c.requires.segment in
    let ends : ◌≡◌ {A = ℕ} c.len-ends.result (length (get_or w.segments s no_segment).ends) = c.len-ends.ensures ∙ ap (λ (y : Segment). length y.ends) own in
    c.are_joined.ensures
    ∙ ap (λ (l : List IfaceId). are_joined lab l)
    (c.split_at-2.ensures.front
    ∙ ap (λ (l : List IfaceId). take c.len-ends.result l) (c.split_at.ensures.back ∙ ap (λ (l : List IfaceId). drop c.index.result.now l) c.as_slice-2.ensures)
    ∙ (λ j. take (ends j) (drop (first j) m.plugs))
    ∙ sym (own_range w.segments m.plugs s c.requires.segment))
