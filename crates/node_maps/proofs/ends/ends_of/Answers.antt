use Rattle.std.proofs.Common.{◌≡◌, ◌<◌, ◌≤◌, ◌+◌, ◌++◌, ◌∙◌, ℕ, List, length, map, drop, get_or, ap, sym, arith, append_assoc}
use Rattle.std.proofs.lemmas.List.{drop_all, append-nil}
use Rattle.lab_base.proofs.Lists.{item_at}
use Rattle.virt_topo.specs.declared.wiring.Segment.{Segment}
use Rattle.node_maps.specs.declared.ends.End.{End}
use Rattle.node_maps.specs.NodeMaps.{segment_end, ends_from}
use Rattle.node_maps.proofs.ends.ends_of.Goals as goal

step : (segments : List Segment) (i : ℕ) (s : Segment) (old new : List End) → i < length segments → s ≡ get_or segments i s
    → new ≡ old ++ map (segment_end i s) s.ends → old ++ ends_from i (drop i segments) ≡ ends_from 0 segments → new ++ ends_from (i + 1) (drop (i + 1) segments) ≡ ends_from 0 segments
step segments i s old new lt is made inv =
    let rest = ends_from (i + 1) (drop (i + 1) segments) in
    ap (λ (l : List End). l ++ rest) made ∙ append_assoc old (map (segment_end i s) s.ends) rest
    ∙ sym (ap (λ (l : List Segment). old ++ ends_from i l) (item_at segments i s lt is)) ∙ inv

last : (segments : List Segment) (i : ℕ) (all : List End) → length segments ≤ i → all ++ ends_from i (drop i segments) ≡ ends_from 0 segments → all ≡ ends_from 0 segments
last segments i all le inv = sym (append-nil all) ∙ ap (λ (l : List Segment). all ++ ends_from i l) (sym (drop_all i segments le)) ∙ inv

pub loop-number-preserved : goal.loop-number-preserved
loop-number-preserved c = step c.args.segments.now c.loop-number.number c.index-segments-number.result c.loop-number.listed.items c.push_ends.new.listed.items (omega arith) c.index-segments-number.is c.in_ok-push_ends.ensures c.loop-number.invariant

pub returns : goal.returns
returns c = last c.args.segments.now c.loop-number.number c.loop-number.listed.items (omega arith) c.loop-number.invariant
