-- The pipes of a link or LAN.
use Rattle.std.specs.Prelude.{ℕ, Bool, not, ◌||◌, ◌==◌, List, filter, length}
use Rattle.lab_base.specs.declared.rates.Rates.{Rates}
use Rattle.lab_base.specs.Names.{same_name}
use Rattle.virt_topo.specs.declared.wiring.Pipe.{Pipe}
use Rattle.virt_topo.specs.declared.wiring.Wiring.{Wiring}
use Rattle.virt_topo.specs.Ends.{pipe_from}
use Rattle.virt_topo.specs.Soundness.{owner_at}

-- the link or LAN owns the segments that the pipe joins
abbrev pub is_of : Wiring → List ℕ → Pipe → Bool
is_of w link p = same_name (owner_at w (pipe_from w p)) link

-- its pipes, in their order, and those of all others
abbrev pub own_pipes : Wiring → List ℕ → List Pipe
own_pipes w link = filter (is_of w link) w.pipes

abbrev pub other_pipes : Wiring → List ℕ → List Pipe
other_pipes w link = filter (λ p. not (is_of w link p)) w.pipes

-- the ends that a pipe joins, and its rates there and back
abbrev pub ends_of : Pipe → ℕ × ℕ × ℕ
ends_of p = (p.node, p.from, p.to)

abbrev pub rates_of : Pipe → Rates × Rates
rates_of p = (p.there, p.back)

-- the link has no pipe, or another number of pipes than in the text's wiring
abbrev pub lacks_shape : List ℕ → Wiring → Wiring → Bool
lacks_shape link text now =
    (length (own_pipes now link) == 0) || not (length (own_pipes now link) == length (own_pipes text link))
