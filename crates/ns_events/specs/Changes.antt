-- WHAT AN EVENT CHANGES: the rates of the pipes of its link, and nothing else.
use Rattle.std.specs.Prelude.{◌≡◌, ℕ, Bool, true, false, ◌==◌, List, length, map, Result, Ok, Err, if◌then◌else◌}
use Rattle.lab_base.specs.declared.rates.Rates.{Rates}
use Rattle.virt_topo.specs.declared.wiring.Pipe.{Pipe}
use Rattle.virt_topo.specs.declared.wiring.Wiring.{Wiring}
use Rattle.virt_topo.specs.Soundness.{are_rates}
use Rattle.net_plan.specs.Parts.{link_pipe, lan_pipe}
use Rattle.ns_events.specs.declared.event.Event.{Event}
use Rattle.ns_events.specs.declared.event.What.{What}
use Rattle.ns_events.specs.declared.event.What.TheVariants as whats
use Rattle.ns_events.specs.declared.fault.ApplyFault.{ApplyFault}
use Rattle.ns_events.specs.declared.fault.ApplyFault.TheVariants as faults
use Rattle.ns_events.specs.Pipes.{own_pipes, other_pipes, ends_of, rates_of}

-- everything is lost
abbrev pub lost : Rates → Rates
lost rates = record rates { ppm = 1000000 }

-- a pipe of a shaped link, which has one, or of a shaped LAN, which has one for each of its members
abbrev pub shaped_pipe : ℕ → Rates → ℕ → Pipe
shaped_pipe count rates node = if count == 1 then link_pipe rates node else lan_pipe rates node

-- the rates of the link's pipes, which are these in the text's wiring and these in the present one
abbrev pub wanted : What → List Pipe → List Pipe → List (Rates × Rates)
wanted whats.Down text now = map (λ p. (lost p.there, lost p.back)) now
wanted whats.Up text now = map rates_of text
wanted (whats.Rates rates) text now = map (λ p. rates_of (shaped_pipe (length text) rates p.node)) now

-- the wiring after an event
pub record IsApplied (e : Event) (text now new : Wiring) : Type 0 where
  pub rest : new ≡ record now { pipes = new.pipes }
  pub ends : map ends_of new.pipes ≡ map ends_of now.pipes
  pub others : other_pipes new e.link ≡ other_pipes now e.link
  pub own : map rates_of (own_pipes new e.link) ≡ wanted e.what (own_pipes text e.link) (own_pipes now e.link)

-- `Shape` comes exactly where the shape lacks, unless memory runs out
abbrev pub TellsShape : Bool → Result Wiring ApplyFault → Type 0
TellsShape lacks (Ok new) = lacks ≡ false
TellsShape lacks (Err faults.Shape) = lacks ≡ true
TellsShape lacks (Err faults.Memory) = Unit {0}

-- its rates keep the limits
abbrev pub KeepsLimits : What → Type 0
KeepsLimits whats.Down = Unit {0}
KeepsLimits whats.Up = Unit {0}
KeepsLimits (whats.Rates rates) = are_rates rates ≡ true
