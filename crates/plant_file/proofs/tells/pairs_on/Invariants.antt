use Rattle.std.proofs.Common.{◌≡◌, take}
use Rattle.std.specs.List.{filter_map}
use Rattle.plant_file.specs.Kept.{entries_of}
use Rattle.plant_file.specs.OnDevices.{pair_on}
use Rattle.plant_file.proofs.tells.pairs_on.Given as goal

abbrev pub invariant-loop-line : goal.invariant-loop-line
invariant-loop-line l = l.pairs.items ≡ filter_map (pair_on l.switch) (entries_of (take l.line-index l.lines))
