use Rattle.std.proofs.Common.{sym, ◌∙◌}
use Rattle.ns_words.specs.Quantities.{loss_units}
use Rattle.ns_words.specs.Seen.{numeral_seen}
use Rattle.ns_words.specs.Values.{loss_of}
use Rattle.ns_words.proofs.Measures.{value_is}
use Rattle.ns_words.proofs.Exact.{loss_exact}
use Rattle.ns_words.proofs.quantities.loss.Goals as goal

pub returns-clause-value : goal.returns-clause-value
unfolding loss_of
returns-clause-value c =
    c.narrow.ensures ∙ value_is loss_units 1 0 1000000 c.args.word.now (numeral_seen c.numeral_in-numeral.result) c.loss_scale.result c.measured.result c.measured.ensures c.loss_scale.ensures.value
    c.numeral_in-numeral.ensures.value

pub returns-clause-exact : goal.returns-clause-exact
returns-clause-exact c ppm =
    ((λ h. (loss_exact c.args.word.now ppm).0 (sym (returns-clause-value c) ∙ h)), (λ q. returns-clause-value c ∙ (loss_exact c.args.word.now ppm).1 q))
