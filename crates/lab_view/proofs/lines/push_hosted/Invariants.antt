use Rattle.std.proofs.Common.{◌≡◌, ◌++◌, take}
use Rattle.std.specs.List.{flat_map}
use Rattle.lab_view.specs.Lines.{spaced}
use Rattle.lab_view.proofs.lines.push_hosted.Given as goal

abbrev pub invariant-loop-guest : goal.invariant-loop-guest
invariant-loop-guest l = l.text ≡ l.initial.text ++ flat_map spaced (take l.guest-index l.hosted)
