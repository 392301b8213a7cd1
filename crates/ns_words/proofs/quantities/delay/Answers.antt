use Rattle.std.proofs.Common.{sym, ◌∙◌}
use Rattle.ns_words.specs.Quantities.{time_units}
use Rattle.ns_words.specs.Seen.{numeral_seen}
use Rattle.ns_words.specs.Values.{delay_of}
use Rattle.ns_words.proofs.Measures.{value_is}
use Rattle.ns_words.proofs.Exact.{delay_exact}
use Rattle.ns_words.proofs.quantities.delay.Goals as goal

pub returns-clause-value : goal.returns-clause-value
unfolding delay_of
returns-clause-value c =
    c.narrow.ensures ∙ value_is time_units 1 0 10000000 c.args.word.now (numeral_seen c.numeral_in-numeral.result) c.time_scale.result c.measured.result c.measured.ensures c.time_scale.ensures.value
    c.numeral_in-numeral.ensures.value

pub returns-clause-exact : goal.returns-clause-exact
returns-clause-exact c micros =
    ((λ h. (delay_exact c.args.word.now micros).0 (sym (returns-clause-value c) ∙ h)), (λ q. returns-clause-value c ∙ (delay_exact c.args.word.now micros).1 q))
