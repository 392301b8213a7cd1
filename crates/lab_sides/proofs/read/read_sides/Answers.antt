use Rattle.std.proofs.Common.{sym}
use Rattle.journal_model.specs.Journals.{head, live}
use Rattle.journal_disk.proofs.Placing.{on_live, wrong_live}
use Rattle.lab_sides.proofs.Placing.{wrong_read}
use Rattle.lab_sides.proofs.read.read_sides.Goals as goal

pub read_side-requires : goal.read_side-requires
read_side-requires c = on_live (live (head c.args.a.now) (head c.args.b.now)) c.in-On.side (sym c.in-On.ensures)

pub returns-in-Wrong : goal.returns-in-Wrong
returns-in-Wrong c =
    wrong_read c.args.a.now c.args.b.now c.in-Wrong.side c.new.result (wrong_live (live (head c.args.a.now) (head c.args.b.now)) c.in-Wrong.side (sym c.in-Wrong.ensures)) c.new.ensures
