use Rattle.std.proofs.Common.{◌≡◌, ◌+◌, false, length, take, drop}
use Rattle.std.specs.List.{list_any}
use Rattle.plant_file.specs.Entries.{is_keyed}
use Rattle.plant_file.specs.Kept.{entries_of}
use Rattle.plant_file.proofs.KeptLaws.{text_of_lines}
use Rattle.plant_file.proofs.lines_kept.spot_of.Given as goal

abbrev pub invariant-loop-here : goal.invariant-loop-here
invariant-loop-here l = record {
  rest : l.rest ≡ text_of_lines (drop l.here-index l.lines);
  whole : length (text_of_lines (take l.here-index l.lines)) + length l.rest ≡ length l.text;
  line : l.line ≡ l.here-index;
  none : list_any (is_keyed l.key) (entries_of (take l.here-index l.lines)) ≡ false;
}
