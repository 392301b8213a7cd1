use Rattle.std.proofs.Common.{◌≡◌, take}
use Rattle.std.specs.Str.Parse.{digits_value}
use Rattle.ns_words.specs.Seen.{capped}
use Rattle.ns_words.proofs.numeral.capped_value.Given as goal

-- the digits so far, capped
abbrev pub invariant-loop-digit : goal.invariant-loop-digit
invariant-loop-digit l = l.value ≡ capped (digits_value 10 (take l.digit-index l.digits))
