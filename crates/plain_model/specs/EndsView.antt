-- The ends of a pipe as contracts see them.
use Rattle.plain_model.specs.Isolation.{PipeEnds}
use Rattle.plain_model.specs.declared.pipe_ends.PipeEnds.TheInside.{Inside}

abbrev pub ends_of : Inside → PipeEnds
ends_of p = record { node = p.node; from = p.from; to = p.to }
