use Rattle.std.proofs.Common.{◌≡◌, ◌++◌, map, take}
use Rattle.std.specs.List.{enumerate_from}
use Rattle.net_plan.specs.Parts.{member_segment}
use Rattle.net_plan.proofs.segments.push_member_segments.Given as goal

abbrev pub invariant-loop-place : goal.invariant-loop-place
invariant-loop-place l = l.segments ≡ l.initial.segments ++ map (member_segment l.lan l.first) (take l.place (enumerate_from 0 l.end-items))
