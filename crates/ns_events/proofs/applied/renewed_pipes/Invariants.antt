use Rattle.std.proofs.Common.{◌≡◌, ◌++◌, drop, length}
use Rattle.ns_events.specs.Pipes.{is_of}
use Rattle.ns_events.specs.Renewed.{renewed, renewed_pipe}
use Rattle.ns_events.proofs.applied.renewed_pipes.Given as goal

abbrev pub invariant-loop-pipe : goal.invariant-loop-pipe
invariant-loop-pipe l =
    let own = is_of l.now l.event.link in
    let new = renewed_pipe l.event.what (length l.text) in
    l.pipes ++ renewed own new (drop l.pipe-index l.pipe-items) l.left ≡ renewed own new l.pipe-items l.text
