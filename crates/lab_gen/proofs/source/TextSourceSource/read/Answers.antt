use Rattle.std.proofs.Common.{◌+◌, ◌-◌, take, drop, ◌∙◌, ap, arith}
use Rattle.lab_io.proofs.Copied.{taken_from}
use Rattle.lab_gen.proofs.source.TextSourceSource.read.Goals as goal

pub returns-clause-took : goal.returns-clause-took
returns-clause-took c =
    let at = c.args.self.now.at in
    let n = c.min-n.result in
    taken_from c.args.self.now.text c.copy_from_slice.new.self _ at n (omega (arith, c.min-n.ensures, c.len.ensures, c.args.self.now.within)) (c.copy_from_slice.ensures.after ∙ ap (λ l. take (at + n - at) (drop at l)) c.bytes.ensures)
