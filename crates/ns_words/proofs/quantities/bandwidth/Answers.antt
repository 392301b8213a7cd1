use Rattle.std.proofs.Common.{sym, ◌∙◌}
use Rattle.ns_words.specs.Quantities.{rate_units}
use Rattle.ns_words.specs.Seen.{numeral_seen}
use Rattle.ns_words.specs.Values.{bandwidth_of}
use Rattle.ns_words.proofs.Measures.{value_is}
use Rattle.ns_words.proofs.Exact.{bandwidth_exact}
use Rattle.ns_words.proofs.quantities.bandwidth.Goals as goal

pub returns-clause-value : goal.returns-clause-value
unfolding bandwidth_of
returns-clause-value c =
    value_is rate_units 1000 1 1000000000 c.args.word.now (numeral_seen c.numeral_in-numeral.result) c.rate_scale.result c.measured.result c.measured.ensures c.rate_scale.ensures.value
    c.numeral_in-numeral.ensures.value

pub returns-clause-exact : goal.returns-clause-exact
returns-clause-exact c kbps =
    ((λ h. (bandwidth_exact c.args.word.now kbps).0 (sym (returns-clause-value c) ∙ h)), (λ q. returns-clause-value c ∙ (bandwidth_exact c.args.word.now kbps).1 q))
