use Rattle.std.proofs.Common.{Ok, ap, ◌∙◌}
use Rattle.plant_file.specs.Kept.{entries_of}
use Rattle.plant_file.specs.Lines.{tables_of_text}
use Rattle.plant_file.proofs.TablesAgain.{tables_again}
use Rattle.plant_file.proofs.tables.Tables.text.Goals as goal

pub returns-clause-again : goal.returns-clause-again
returns-clause-again c =
    ap tables_of_text (c.as_slice.ensures.value ∙ c.self.invariant.is)
    ∙ tables_again (entries_of c.self.inside.lines.items) c.self.invariant.printable
    ∙ ap Ok c.self.view_is
