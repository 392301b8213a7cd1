use Rattle.std.proofs.Common.{◌≡◌, ◌∙◌, ◌++◌, ◌∷◌, [], length, get_or, arith}
use Rattle.std.proofs.Math.ListN.{set}
use Rattle.std.proofs.Math.Seq.{get_or-append_seam, set-append_seam}
use Rattle.map_state.proofs.remake.note_back.Goals as goal

pub returns : goal.returns
returns c =
    let back = c.args.back.now.items in
    let change = c.args.change.now in
    let last = c.len-last.result in
    let x = c.index_mut.result.now in
    let pushed : c.push.new.self.items ≡ back ++ change ∷ [] = c.in_ok-push.ensures.items in
    let at : last ≡ length back = (let is = c.len-last.ensures in let len = c.args.back.now.ok.0 in omega (arith, is, len)) in
    let same : x ≡ change = c.index_mut.ensures.value ∙ (λ j. get_or (pushed j) (at j) x) ∙ get_or-append_seam back change [] x in
    (λ j. set (pushed j) (at j) (record { row = (same j).row; end = (same j).end; to = c.args.plug }))
    ∙ set-append_seam back change [] (record { row = change.row; end = change.end; to = c.args.plug })
