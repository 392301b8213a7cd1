-- The pipes after an event, one after another.
use Rattle.std.specs.Prelude.{ℕ, Bool, List, [], ◌∷◌, if◌then◌else◌}
use Rattle.virt_topo.specs.declared.wiring.Pipe.{Pipe}
use Rattle.ns_events.specs.declared.event.What.{What}
use Rattle.ns_events.specs.declared.event.What.TheVariants as whats
use Rattle.ns_events.specs.Changes.{lost, shaped_pipe}

-- a pipe of the link, which in the text's wiring is another, one of so many
abbrev pub renewed_pipe : What → ℕ → Pipe → Pipe → Pipe
renewed_pipe whats.Down count p t = record p { there = lost p.there; back = lost p.back }
renewed_pipe whats.Up count p t = record p { there = t.there; back = t.back }
renewed_pipe (whats.Rates rates) count p t = record p { there = (shaped_pipe count rates p.node).there; back = (shaped_pipe count rates p.node).back }

-- each of the link's pipes is made anew with the next of the text's
abbrev pub renewed : (Pipe → Bool) → (Pipe → Pipe → Pipe) → List Pipe → List Pipe → List Pipe
renewed own f ps [] = ps
renewed own f [] (t ∷ ts) = []
renewed own f (p ∷ ps) (t ∷ ts) = if own p then f p t ∷ renewed own f ps ts else p ∷ renewed own f ps (t ∷ ts)
