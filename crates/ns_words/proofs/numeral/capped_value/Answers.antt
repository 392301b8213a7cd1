use Rattle.ns_words.proofs.Amounts.{IsNext, next_digit, capped_more}
use Rattle.ns_words.proofs.numeral.capped_value.Goals as goal

pub loop-digit-preserved : goal.loop-digit-preserved
loop-digit-preserved c =
    let next : IsNext c.args.digits.now c.loop-digit.digit-index = next_digit c.args.digits.now c.loop-digit.digit-index c.requires c.loop-digit-test.true in
    capped_more _ _ _ _ _ _ c.loop-digit.invariant c.min-value.ensures c.from.ensures next.next
