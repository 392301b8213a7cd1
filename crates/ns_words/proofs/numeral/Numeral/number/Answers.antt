use Rattle.std.proofs.Common.{arith}
use Rattle.std.specs.Str.Parse.{digits_value}
use Rattle.ns_words.proofs.Amounts.{few_digits, few_places, amount_fits, capped_most}
use Rattle.ns_words.proofs.numeral.Numeral.number.Goals as goal

pub returns-clause-value : goal.returns-clause-value
returns-clause-value c =
    let exact = (few_digits c.args.self.now.fraction.now c.requires.numeral.fraction c.requires.numeral.few).0 in
    cc

pub returns-clause-fits : goal.returns-clause-fits
returns-clause-fits c =
    let small = (few_digits c.args.self.now.fraction.now c.requires.numeral.fraction c.requires.numeral.few) in
    let places = few_places _ c.requires.numeral.few in
    amount_fits c.from.result c.from-2.result c.from-3.result
    (omega (arith, c.from.ensures, c.capped_value.ensures, capped_most (digits_value 10 c.args.self.now.whole.now)))
    (omega (arith, c.from-2.ensures, c.requires.power, places.1))
    (omega (arith, c.from-3.ensures, c.capped_value-2.ensures, small.0, small.1))
