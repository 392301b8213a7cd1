use Rattle.std.proofs.Common.{◌≡◌, filter, take}
use Rattle.ns_events.specs.Pipes.{is_of}
use Rattle.ns_events.proofs.pipes.own_pipes.Given as goal

abbrev pub invariant-loop-pipe : goal.invariant-loop-pipe
invariant-loop-pipe l = l.own.items ≡ filter (is_of l.wiring l.link) (take l.pipe-index l.pipe-items)
