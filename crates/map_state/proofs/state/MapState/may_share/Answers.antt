use Rattle.std.proofs.Common.{◌≡◌, ◌∙◌, ℕ, sym, arith}
use Rattle.std.proofs.lemmas.List.{get_or_default}
use Rattle.map_state.specs.Hosted.{hosted_at}
use Rattle.map_state.proofs.StateLaws.{alone_shares}
use Rattle.map_state.proofs.state.MapState.may_share.Goals as goal

pub returns-then-index-le1 : goal.returns-then-index-le1
returns-then-index-le1 c =
    let x = c.args.search.now.mapper in
    let m = c.args.self.now.mapping in
    let n = c.args.node.0 in
    let laid = c.requires.state in
    let hosted = c.args.self.now.hosting.hosted.items in
    let each = laid.hosting.one_each in
    let node = c.requires.node in
    let here : ◌≡◌ {A = ℕ} c.index.result.now (hosted_at m.places n) =
    c.index.ensures ∙ get_or_default hosted n c.index.result.now 0 (omega (arith, node, each)) ∙ laid.hosting.hosted n node in
    sym (alone_shares x.lab.now x.wiring.now m n c.range-kept.ensures.lab laid.shaped node (omega (arith, here, c.if-index-le1.true)))
