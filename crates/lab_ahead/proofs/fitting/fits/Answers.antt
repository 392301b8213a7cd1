use Rattle.lab_ahead.proofs.Shown.{is_table}
use Rattle.lab_ahead.proofs.fitting.fits.Goals as goal

pub fits_by-requires-clause-table : goal.fits_by-requires-clause-table
fits_by-requires-clause-table c = is_table c.args.lab.now c.args.left.now c.args.needs.now _ c.in_ok-table.ensures

pub returns-clause-shows : goal.returns-clause-shows
returns-clause-shows c = c.fits_by.ensures.shows c.args.lab.now c.in_ok-table.ensures

pub returns-clause-exact : goal.returns-clause-exact
returns-clause-exact c = c.fits_by.ensures.exact c.args.lab.now c.in_ok-table.ensures
