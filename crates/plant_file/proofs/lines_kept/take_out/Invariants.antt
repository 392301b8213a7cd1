use Rattle.std.proofs.Common.{◌≡◌, vec_len}
use Rattle.plant_file.specs.Entries.{is_keyed, without}
use Rattle.plant_file.specs.Kept.{entries_of, AreKept}
use Rattle.plant_file.proofs.lines_kept.take_out.Given as goal

abbrev pub invariant-loop : goal.invariant-loop
invariant-loop l = record {
  kept : AreKept l.lines.items l.text.items;
  others : without (is_keyed l.key) (entries_of l.lines.items) ≡ without (is_keyed l.key) (entries_of l.initial.lines.items);
}

abbrev pub decreases-loop : goal.decreases-loop
decreases-loop l = vec_len l.lines
