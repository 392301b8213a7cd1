use Rattle.std.proofs.Common.{codes}
use Rattle.std.specs.Str.Parse.{ExplainsUnsignedError, HasUnsignedDigitsIfOk, ParsesUnsigned}
use Rattle.clap.specs.Matches.{found_of, one_text}
use Rattle.lab_words.proofs.Numbers.{no_number, number_by}
use Rattle.lab_words.proofs.words.number_in.Goals as goal

pub returns-in-Ok : goal.returns-in-Ok
returns-in-Ok c =
    number_by (λ bs r. ParsesUnsigned 64 10 bs r × ExplainsUnsignedError 10 bs r × HasUnsignedDigitsIfOk bs r) (λ text r given. given.0) (one_text (found_of c.args.matches.now) (codes "gen")) c.try_get_one.result c.in-Ok.number c.in-Ok.is
    c.try_get_one.ensures.none c.try_get_one.ensures.value

pub returns-in-Err : goal.returns-in-Err
returns-in-Err c =
    no_number (λ bs r. ParsesUnsigned 64 10 bs r × ExplainsUnsignedError 10 bs r × HasUnsignedDigitsIfOk bs r) (λ text r given. given.0) (one_text (found_of c.args.matches.now) (codes "gen")) c.try_get_one.result c.in-Err.field-0 c.in-Err.is
    c.try_get_one.ensures.none c.try_get_one.ensures.value
