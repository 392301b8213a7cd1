use Rattle.std.proofs.Common.{◌-◌, length, take, drop, sym, ap, subst, ◌∙◌}
use Rattle.std.specs.List.{position_or_len}
use Rattle.std.proofs.lemmas.List.{take_rest}
use Rattle.ns_words.specs.Seen.{IsNumeral}
use Rattle.ns_words.specs.Values.{is_no_digit, leading, numeral_from, numeral_of}
use Rattle.ns_words.proofs.Measures.{IsParsed, parsed}
use Rattle.ns_words.proofs.numeral.numeral_in.Goals as goal

pub returns-clause-value : goal.returns-clause-value
returns-clause-value c =
    let w = c.args.word.now in
    let at = c.digits_len-at.ensures.value in
    c.numeral_from.ensures
    ∙ (λ i. numeral_from (take (at i) w) (take (length w - at i) (drop (at i) w)))
    ∙ ap (numeral_from (leading w)) (take_rest w (position_or_len is_no_digit w))

pub returns-clause-numeral : goal.returns-clause-numeral
returns-clause-numeral c =
    let p : IsParsed c.args.word.now (numeral_of c.args.word.now) = parsed c.args.word.now in
    let n : IsNumeral (numeral_of c.args.word.now) = record { whole = p.whole; fraction = p.fraction; few = p.few } in
    subst IsNumeral (sym (returns-clause-value c)) n
