use Rattle.std.proofs.Common.{bit_and, bit_xor, arith}
use Rattle.std.proofs.lemmas.Nat.Bits.{bit_at_and, bit_at_or}
use Rattle.trunk_sums.proofs.gains.Gains.takes.Goals as goal

pub returns : goal.returns
returns c t =
    let apart = bit_xor c.args.from c.args.to in
    let onto = bit_and c.args.to apart in
    let off = bit_and c.args.from apart in
    let g = c.args.self.now in
    let both = bit_at_or (bit_and onto g.onto_takes) (bit_and off g.off_takes) t in
    let first = bit_at_and onto g.onto_takes t in
    let second = bit_at_and off g.off_takes t in
    let there = bit_at_and c.args.to apart t in
    let here = bit_at_and c.args.from apart t in
    omega (arith, both, first, second, there, here)
