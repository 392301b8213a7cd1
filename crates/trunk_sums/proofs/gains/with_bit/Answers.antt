use Rattle.std.proofs.Common.{◌∙◌, Bool, cond, ap, sym}
use Rattle.std.specs.Int.{w64}
use Rattle.std.proofs.lemmas.Nat.Bits.{bit_at_set_same, bit_at_set_other, bit_at_clear_same, bit_at_clear_other}
use Rattle.trunk_sums.proofs.gains.with_bit.Goals as goal

pub returns-then-set-clause-own : goal.returns-then-set-clause-own
returns-then-set-clause-own c = bit_at_set_same w64 c.args.word c.args.trunk c.requires ∙ sym (ap (λ (b : Bool). cond b 1 0) c.if-set.true)

pub returns-then-set-clause-others : goal.returns-then-set-clause-others
returns-then-set-clause-others c t lt apart = bit_at_set_other w64 c.args.word c.args.trunk c.requires t apart

pub returns-else-set-clause-own : goal.returns-else-set-clause-own
returns-else-set-clause-own c = bit_at_clear_same w64 c.args.word c.args.trunk c.requires ∙ sym (ap (λ (b : Bool). cond b 1 0) c.if-set.false)

pub returns-else-set-clause-others : goal.returns-else-set-clause-others
returns-else-set-clause-others c t lt apart = bit_at_clear_other w64 c.args.word c.args.trunk c.requires t lt apart
