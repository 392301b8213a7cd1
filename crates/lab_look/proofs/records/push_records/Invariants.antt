use Rattle.std.proofs.Common.{◌≡◌, ◌++◌, take}
use Rattle.std.specs.List.{flat_map}
use Rattle.lab_look.specs.Records.{record_line}
use Rattle.lab_look.proofs.records.push_records.Given as goal

abbrev pub invariant-loop-own : goal.invariant-loop-own
invariant-loop-own l = l.text ≡ l.initial.text ++ flat_map record_line (take l.own-index l.found)
