use Rattle.plant_file.proofs.TablesAgain.{tables_again}
use Rattle.plant_file.proofs.laws.tables_are_read_back.Goals as goal

pub returns : goal.returns
returns c = tables_again
