use Rattle.std.proofs.Common.{◌≡◌, ◌++◌, take}
use Rattle.std.specs.List.{flat_map}
use Rattle.lab_view.specs.Lines.{trunk_line}
use Rattle.lab_view.proofs.lines.push_trunks.Given as goal

abbrev pub invariant-loop-trunk : goal.invariant-loop-trunk
invariant-loop-trunk l = l.text ≡ l.initial.text ++ flat_map (trunk_line l.view) (take l.trunk-index l.view.trunks)
