use Rattle.std.proofs.Common.{Some, sym, ap, ◌∙◌}
use Rattle.plant_file.specs.declared.entry.Entry.{Entry}
use Rattle.plant_file.specs.declared.lines_kept.Line.{Line}
use Rattle.plant_file.specs.Entries.{is_keyed}
use Rattle.plant_file.specs.Kept.{entries_of}
use Rattle.plant_file.proofs.KeptLaws.{found_at, none_found}
use Rattle.plant_file.proofs.lines_kept.find_line.Goals as goal

pub returns-in-Some : goal.returns-in-Some
returns-in-Some c =
    ap (λ (e : Entry). Some e) c.deref.ensures
    ∙ sym (ap (λ (l : Line). Some l.entry.value) c.index-lines-spot.is)
    ∙ found_at c.args.key.now c.args.lines.now c.in-Some.spot c.in-Some.ensures c.index-lines-spot.result c.index-lines-spot.is

pub returns-in-None : goal.returns-in-None
returns-in-None c = sym (none_found (is_keyed c.args.key.now) (entries_of c.args.lines.now) c.in-None.ensures)
