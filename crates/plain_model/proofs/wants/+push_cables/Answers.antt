use Rattle.std.proofs.Common.{◌≡◌, ◌<◌, ℕ, ◌∷◌, ◌++◌, List, All, length, take, drop, sym, subst, ap, arith, length-drop, ◌∙◌}
use Rattle.std.proofs.lemmas.List.Elements.{All-take, All-drop}
use Rattle.lab_base.specs.declared.ids.IfaceId.{IfaceId}
use Rattle.virt_topo.specs.declared.wiring.Segment.{Segment}
use Rattle.virt_topo.specs.Cables.{cables}
use Rattle.virt_topo.specs.Ends.{end_nodes}
use Rattle.lab_model.specs.Wants.{owned_rows}
use Rattle.plain_model.proofs.WantLaws.{on_ok, ends_of, cables_pushed}
use Rattle.plain_model.proofs.wants.+push_cables.Goals as goal

pub split_at-requires : goal.split_at-requires
split_at-requires t c =
    let s = c.in-Some-Some.segment.now in
    let ends : length (end_nodes c.args.segments.now) ≡ length (end_nodes (s ∷ c.in-Some-Some.others.now)) = ap (λ (l : List Segment). length (end_nodes l)) c.in-Some-Some.ensures.cases.0 in
    omega (arith, ends, ends_of s c.in-Some-Some.others.now, c.len.ensures, c.requires.plugged)

pub push_cable-requires : goal.push_cable-requires
push_cable-requires t c =
    subst (λ (l : List IfaceId). All (λ i. i.0 < length c.args.lab.now.ifaces) l) (sym c.split_at.ensures.front) (All-take (λ (i : IfaceId). i.0 < length c.args.lab.now.ifaces) c.len.result c.args.plugs.now c.requires.within)

pub push_cables-requires : goal.push_cables-requires
push_cables-requires t c =
    let s = c.in-Some-Some.segment.now in
    let ends : length (end_nodes c.args.segments.now) ≡ length (end_nodes (s ∷ c.in-Some-Some.others.now)) = ap (λ (l : List Segment). length (end_nodes l)) c.in-Some-Some.ensures.cases.0 in
    let back : length c.split_at.result.1.now ≡ length (drop c.len.result c.args.plugs.now) = ap length c.split_at.ensures.back in (
      omega (arith, c.decreases, ap length c.in-Some-Some.ensures.cases.0),
      (
        omega (arith, ends, ends_of s c.in-Some-Some.others.now, c.len.ensures, c.requires.plugged, back, length-drop c.len.result c.args.plugs.now),
        subst (λ (l : List IfaceId). All (λ i. i.0 < length c.args.lab.now.ifaces) l) (sym c.split_at.ensures.back) (All-drop (λ (i : IfaceId). i.0 < length c.args.lab.now.ifaces) c.len.result c.args.plugs.now c.requires.within),
      ),
    )

pub returns-in_ok-push_cable-in-Some-Some : goal.returns-in_ok-push_cable-in-Some-Some
returns-in_ok-push_cable-in-Some-Some t c =
    let s = c.in-Some-Some.segment.now in
    let lab = c.args.lab.now in
    let plugs = c.args.plugs.now in
    let front : c.split_at.result.0.now ≡ take (length s.ends) plugs = c.split_at.ensures.front ∙ ap (λ (n : ℕ). take n plugs) c.len.ensures in
    let back : c.split_at.result.1.now ≡ drop (length s.ends) plugs = c.split_at.ensures.back ∙ ap (λ (n : ℕ). drop n plugs) c.len.ensures in
    on_ok c.push_cables.result c.push_cables.ensures (λ e.
    cables_pushed lab s c.in-Some-Some.others.now plugs c.split_at.result.0.now c.split_at.result.1.now c.in-Some-Some.tag.now c.in-Some-Some.rest.now
    c.args.listed.now.items c.push_cable.new.listed.items c.push_cables.new.listed.items front back c.in_ok-push_cable-in-Some-Some.ensures e
    ∙ (λ i. c.args.listed.now.items ++ owned_rows lab (cables (sym c.in-Some-Some.ensures.cases.0 i) plugs) (sym c.in-Some-Some.ensures'.cases.0 i)))
