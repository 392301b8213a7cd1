use Rattle.std.proofs.Common.{sym, ap, ◌∙◌, arith}
use Rattle.ns_words.specs.Quantities.{second_units}
use Rattle.ns_words.specs.Seen.{numeral_seen}
use Rattle.ns_words.specs.Values.{Numeral}
use Rattle.ns_words.proofs.Measures.{value_is}
use Rattle.ns_words.proofs.Exact.{no_time, some_time, time_exact}
use Rattle.ns_words.proofs.quantities.time.Goals as goal

pub returns-then-numeral-gt-MAX_PLACES-clause-value : goal.returns-then-numeral-gt-MAX_PLACES-clause-value
returns-then-numeral-gt-MAX_PLACES-clause-value c =
    sym (no_time c.args.word.now c.numeral_in-numeral.result.fraction.now (ap (λ (n : Numeral). n.fraction) c.numeral_in-numeral.ensures.value) (omega (arith, c.if-numeral-gt-MAX_PLACES.true)))

pub returns-then-numeral-gt-MAX_PLACES-clause-exact : goal.returns-then-numeral-gt-MAX_PLACES-clause-exact
returns-then-numeral-gt-MAX_PLACES-clause-exact c micros =
    let none = returns-then-numeral-gt-MAX_PLACES-clause-value c in
    ((λ h. (time_exact c.args.word.now micros).0 (sym none ∙ h)), (λ q. none ∙ (time_exact c.args.word.now micros).1 q))

pub returns-clause-value : goal.returns-clause-value
returns-clause-value c =
    value_is second_units 1 0 1000000000000 c.args.word.now (numeral_seen c.numeral_in-numeral.result) c.second_scale.result c.measured.result c.measured.ensures c.second_scale.ensures.value
    c.numeral_in-numeral.ensures.value
    ∙ sym (some_time c.args.word.now c.numeral_in-numeral.result.fraction.now (ap (λ (n : Numeral). n.fraction) c.numeral_in-numeral.ensures.value) (omega (arith, c.if-numeral-gt-MAX_PLACES.false)))

pub returns-clause-exact : goal.returns-clause-exact
returns-clause-exact c micros =
    ((λ h. (time_exact c.args.word.now micros).0 (sym (returns-clause-value c) ∙ h)), (λ q. returns-clause-value c ∙ (time_exact c.args.word.now micros).1 q))
