-- A watch as contracts see it.
use Rattle.node_state.specs.Watched.{Watched}
use Rattle.node_state.specs.declared.watch.Watch.TheInside.{Inside}

abbrev pub watched_of : Inside → Watched
watched_of w = record { last = w.last; polls = w.polls }
