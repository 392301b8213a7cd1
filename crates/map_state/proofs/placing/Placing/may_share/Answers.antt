use Rattle.std.proofs.Common.{◌≡◌, ◌∙◌, ℕ, List, get_or, ap, sym, arith}
use Rattle.std.proofs.lemmas.List.{get_or_read}
use Rattle.lab_model.specs.Shapes.{Place}
use Rattle.node_maps.specs.Moved.{may_share}
use Rattle.map_state.specs.Hosted.{hosted_at}
use Rattle.map_state.proofs.HostedNodeLaws.{first_shares}
use Rattle.map_state.proofs.placing.Placing.may_share.Goals as goal

pub returns-then-index-eq0 : goal.returns-then-index-eq0
returns-then-index-eq0 c =
    let x = c.args.search.now.mapper in
    let p = c.args.place.now in
    let t = c.requires.trying in
    let node = t.node in
    let each = t.one_each in
    let at : ◌≡◌ {A = ℕ} c.index.result.now (get_or c.args.self.now.hosted.items p.0.0 0) = get_or_read c.args.self.now.hosted.items p.0.0 c.index.result.now (omega (arith, node, each)) c.index.ensures 0 in
    let hosted = t.hosted p.0.0 node in
    let empty = c.if-index-eq0.true in
    let none : hosted_at t.earlier p.0.0 ≡ 0 = omega (arith, at, hosted, empty) in
    sym (ap (λ (ps : List Place). may_share x.lab.now x.wiring.now ps p.0.0) t.places ∙ first_shares x.lab.now x.wiring.now t.earlier p t.more none t.typed)
