use Rattle.std.proofs.Common.{◌∙◌, sym, ap}
use Rattle.std.specs.Prelude.{option_map}
use Rattle.clap.specs.Matches.{found_of}
use Rattle.lab_words.specs.Places.{seen_of}
use Rattle.lab_words.proofs.Choosing.{refused_by, taken}
use Rattle.lab_words.proofs.words.read_words.Goals as goal

pub returns-in-Err : goal.returns-in-Err
returns-in-Err c = refused_by c.args.words.now c.in-Err.error c.fault_of.result c.in-Err.ensures.faults c.fault_of.ensures

pub returns-in-Some : goal.returns-in-Some
returns-in-Some c = taken c.args.words.now (found_of c.in-Ok.matches) c.in-Ok.ensures.faults c.in-Ok.ensures.rows ∙ sym c.chosen_in.ensures ∙ ap (option_map seen_of) c.in-Some.is

pub returns : goal.returns
returns c = taken c.args.words.now (found_of c.in-Ok.matches) c.in-Ok.ensures.faults c.in-Ok.ensures.rows ∙ sym c.chosen_in.ensures ∙ ap (option_map seen_of) c.in-None.is
