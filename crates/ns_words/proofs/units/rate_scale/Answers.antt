use Rattle.std.proofs.lemmas.List.{take_rest}
use Rattle.ns_words.proofs.LetterLaws.{by_first}
use Rattle.ns_words.proofs.units.rate_scale.Goals as goal

pub returns-in-Some-clause-value : goal.returns-in-Some-clause-value
returns-in-Some-clause-value c =
    by_first c.args.unit.now _ c.letter_scale.result c.ended.result c.in-Some.scale c.in-len1-up.len_at_least c.letter_scale.ensures c.in-Some.is (take_rest c.args.unit.now 1) c.ended.ensures
