use Rattle.std.proofs.Common.{◌∙◌, length, ap, arith}
use Rattle.std.specs.Prelude.{unwrap_or}
use Rattle.ns_words.specs.Values.{is_no_digit}
use Rattle.ns_words.proofs.Leading.{place_or_length, within_length}
use Rattle.ns_words.proofs.numeral.digits_len.Goals as goal

pub returns-clause-value : goal.returns-clause-value
returns-clause-value c =
    c.unwrap_or.ensures ∙ ap (λ o. unwrap_or o (length c.args.bytes.now)) c.first_other.ensures ∙ place_or_length is_no_digit c.args.bytes.now

pub returns-clause-within : goal.returns-clause-within
returns-clause-within c = omega (arith, returns-clause-value c, within_length is_no_digit c.args.bytes.now)
