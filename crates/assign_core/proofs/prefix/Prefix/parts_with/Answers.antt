use Rattle.std.proofs.Common.{◌≡◌, ◌≤◌, ◌∙◌, ◌+◌, ◌++◌, ◌∷◌, [], ℕ, length, map, Bool, true, false, cond, eqb, ap, sym, subst, arith}
use Rattle.std.proofs.lemmas.List.{get_or_read}
use Rattle.lab_model.specs.Shapes.{Place}
use Rattle.cost_rule.specs.declared.parts.Parts.{Parts}
use Rattle.cost_rule.specs.Cost.{different, same_node, soft_at}
use Rattle.map_state.specs.Hosted.{hosted_at}
use Rattle.map_state.proofs.HostedNodeLaws.{one_if}
use Rattle.assign_core.specs.Prefixes.{first_soft}
use Rattle.assign_core.proofs.FirstParts.{first_small, used_more, soft_more}
use Rattle.assign_core.proofs.prefix.Prefix.parts_with.Goals as goal

at_most : (b : Bool) → cond b 1 0 ≤ 1
at_most true = omega arith
at_most false = omega arith

pub soft_at-more-requires-clause-virt : goal.soft_at-more-requires-clause-virt
soft_at-more-requires-clause-virt c = (let more = c.requires.more in omega (arith, more, c.len-next.ensures, c.args.self.now.places.ok.0))

pub index-requires : goal.index-requires
index-requires c =
    let node = c.requires.node in
    let each = c.requires.prefix.one_each in
    let len = c.args.self.now.hosted.ok.0 in
    omega (arith, node, each, len)

pub overflow_add-result : goal.overflow_add-result
overflow_add-result c =
    let x = c.args.search.now.mapper in
    let was = c.requires.prefix in
    let small = first_small x.lab.now x.wiring.now c.args.self.now.places.items c.range-kept.ensures.lab c.requires.search.mapper.sound was.within was.are in
    let nodes = ap (λ (p : Parts). p.nodes) was.parts in
    let one : c.one_if-joined.result ≤ 1 = subst (λ (n : ℕ). n ≤ 1) (sym c.one_if-joined.ensures) (at_most (eqb c.index.result.now 0)) in
    omega (arith, small.0, nodes, one)

pub overflow_add-result-2 : goal.overflow_add-result-2
overflow_add-result-2 c =
    let x = c.args.search.now.mapper in
    let was = c.requires.prefix in
    let small = first_small x.lab.now x.wiring.now c.args.self.now.places.items c.range-kept.ensures.lab c.requires.search.mapper.sound was.within was.are in
    let soft = ap (λ (p : Parts). p.soft) was.parts in
    omega (arith, small.1, soft, c.soft_at-more.ensures.small)

pub returns : goal.returns
returns c =
    let x = c.args.search.now.mapper in
    let places = c.args.self.now.places.items in
    let items = c.args.self.now.hosted.items in
    let p : Place = c.args.place.now in
    let was = c.requires.prefix in
    let node = c.requires.node in
    let each = was.one_each in
    let next : c.len-next.result ≡ length places = omega (arith, c.len-next.ensures, c.args.self.now.places.ok.0) in
    let count : c.index.result.now ≡ hosted_at places p.0.0 = get_or_read items p.0.0 c.index.result.now (omega (arith, node, each)) c.index.ensures 0 ∙ was.hosted p.0.0 node in
    let flag : ◌≡◌ {A = ℕ} c.one_if-joined.result (one_if (eqb (hosted_at places p.0.0) 0)) = c.one_if-joined.ensures ∙ ap (λ (k : ℕ). one_if (eqb k 0)) count in
    let used = used_more places p in
    let had = ap (λ (q : Parts). q.nodes) was.parts in
    let nodes : c.args.self.now.parts.nodes + c.one_if-joined.result ≡ different same_node (map (λ (q : Place). q.0.0) (places ++ p ∷ [])) = omega (arith, used, had, flag) in
    let own : ◌≡◌ {A = ℕ} c.soft_at-more.result (soft_at x.lab.now x.wiring.now (length places) p.0) = c.soft_at-more.ensures.sum ∙ ap (λ (k : ℕ). soft_at x.lab.now x.wiring.now k p.0) next in
    let grown = soft_more x.lab.now x.wiring.now places p in
    let missed = ap (λ (q : Parts). q.soft) was.parts in
    let soft : c.args.self.now.parts.soft + c.soft_at-more.result ≡ first_soft x.lab.now x.wiring.now (places ++ p ∷ []) = omega (arith, own, grown, missed) in
    (λ j. record { uses = 0; nodes = nodes j; soft = soft j })
