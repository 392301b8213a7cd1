use Rattle.std.proofs.Common.{◌≡◌, map, take}
use Rattle.top_text.specs.Adding.{end_at}
use Rattle.top_text.proofs.adding.ends_of.Given as goal

abbrev pub invariant-loop-end : goal.invariant-loop-end
invariant-loop-end l = l.listed ≡ map (end_at l.so_far.wiring) (take l.end-index l.ends)
