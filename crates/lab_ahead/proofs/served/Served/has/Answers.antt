use Rattle.std.proofs.Common.{◌<◌, Bool, List, false, length, get_or, ap, sym, ◌∙◌, arith}
use Rattle.std.proofs.lemmas.List.{get_or_read}
use Rattle.lab_ahead.proofs.ServedLaws.{row_read, rows_length}
use Rattle.lab_ahead.proofs.served.Served.has.Goals as goal

pub index-requires-2 : goal.index-requires-2
index-requires-2 c =
    let table = c.args.self.now.rows.items in
    let row = row_read table c.args.number c.index.result.now (omega (arith, rows_length table, c.requires.served.many, c.requires.number)) c.index.ensures in
    omega (arith, ap (λ (l : List Bool). length l) row, (c.requires.served.each c.args.number c.requires.number).wide, c.requires.node, c.index.result.now.ok.0)

pub returns : goal.returns
returns c =
    let table = c.args.self.now.rows.items in
    let row = row_read table c.args.number c.index.result.now (omega (arith, rows_length table, c.requires.served.many, c.requires.number)) c.index.ensures in
    let each = c.requires.served.each c.args.number c.requires.number in
    let inside : c.args.node.0 < length c.index.result.now.items = omega (arith, ap (λ (l : List Bool). length l) row, each.wide, c.requires.node) in
    get_or_read c.index.result.now.items c.args.node.0 c.index-2.result.now inside c.index-2.ensures false
    ∙ ap (λ (l : List Bool). get_or l c.args.node.0 false) (sym row) ∙ each.is c.args.node.0 c.requires.node
