use Rattle.std.proofs.Common.{◌<◌, Bool, List, length, ap, arith}
use Rattle.lab_ahead.proofs.LookLaws.{table_length, table_row}
use Rattle.lab_ahead.proofs.giving.Giving.can_give.Goals as goal

pub index-requires-2 : goal.index-requires-2
index-requires-2 c =
    let inside : c.args.need < length c.args.self.now.rows.items = omega (arith, table_length c.args.self.now, c.requires.need) in
    let row = table_row c.args.self.now c.args.need c.index.result.now inside c.index.ensures in
    omega (arith, ap (λ (l : List Bool). length l) row, c.requires.whole.wide c.args.need c.requires.need, c.requires.place, c.index.result.now.ok.0)
