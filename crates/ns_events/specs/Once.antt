-- The due events, and the wiring that an event leaves, are unique; and its rates are those that an expansion gives.
use Rattle.std.specs.Prelude.{◌≡◌, ℕ, true, false, List, length, map}
use Rattle.virt_topo.specs.declared.topo.AskedLink.{AskedLink}
use Rattle.virt_topo.specs.declared.wiring.Wiring.{Wiring}
use Rattle.virt_topo.specs.Topos.{limits_link}
use Rattle.virt_topo.specs.Soundness.{IsSound}
use Rattle.net_plan.specs.Parts.{is_shaped, pipes_of}
use Rattle.ns_events.specs.declared.event.Event.{Event}
use Rattle.ns_events.specs.Schedules.{IsSchedule}
use Rattle.ns_events.specs.Changes.{IsApplied, KeepsLimits, shaped_pipe}
use Rattle.ns_events.specs.Pipes.{own_pipes, lacks_shape}

abbrev pub ScheduleIsOne : Type 0
ScheduleIsOne = (from to : ℕ) (events one other : List Event) → IsSchedule from to events one → IsSchedule from to events other → one ≡ other

abbrev pub AppliedIsOne : Type 0
AppliedIsOne = (e : Event) (text now one other : Wiring) → IsApplied e text now one → IsApplied e text now other → one ≡ other

-- the pipes of a shaped link or LAN are those of its rates
abbrev pub GivenAreShaped : Type 0
GivenAreShaped = (first : ℕ) (l : AskedLink) → limits_link l ≡ true → is_shaped l.rates ≡ true
    → pipes_of (first, l) ≡ map (λ p. shaped_pipe (length (pipes_of (first, l))) l.rates p.node) (pipes_of (first, l))

-- an event leaves each link and LAN as many pipes as it has
abbrev pub ShapesStay : Type 0
ShapesStay = (e : Event) (text now new : Wiring) → IsApplied e text now new → (link : List ℕ) → length (own_pipes new link) ≡ length (own_pipes now link)

-- a sound wiring is sound after an event of a sound text, whose link has its shape
abbrev pub StaysSound : Type 0
StaysSound = (e : Event) (text now new : Wiring) → IsSound text → IsSound now → KeepsLimits e.what → lacks_shape e.link text now ≡ false
    → IsApplied e text now new → IsSound new
