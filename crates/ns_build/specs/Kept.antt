-- The invariant of a network while a text makes it.
use Rattle.std.specs.Prelude.{◌≡◌, ◌⊎◌, ℕ, ◌+◌, ◌<◌, ◌≤◌, ◌==◌, false, Bool, List, [], ◌∷◌, length, map, codes}
use Rattle.std.specs.List.{list_any}
use Rattle.lab_base.specs.Lists.{Has}
use Rattle.lab_base.specs.Names.{same_name}
use Rattle.virt_topo.specs.Topos.{IsTopo}
use Rattle.ns_words.specs.declared.names.Numbered.{Numbered}
use Rattle.ns_words.specs.declared.names.Numbered.TheVariants as numbered
use Rattle.ns_words.specs.Objects.{numbered_name_of}
use Rattle.ns_events.specs.declared.event.Event.{Event}
use Rattle.ns_events.specs.Changes.{KeepsLimits}
use Rattle.ns_build.specs.declared.task.Planned.{Planned}
use Rattle.ns_build.specs.Networks.{Network, topo_of}

-- a variable's name has no dot
abbrev pub has_dot : List ℕ → Bool
has_dot name = list_any (λ b. b == 46) name

-- each name is that of its number, the first one k, or given by a variable
abbrev pub AreNumbered : Numbered → ℕ → List (List ℕ) → Type 0
AreNumbered of k [] = Unit {0}
AreNumbered of k (name ∷ names) = ((has_dot name ≡ false) ⊎ (name ≡ numbered_name_of of k)) × AreNumbered of (k + 1) names

-- an event is of a link or LAN that is there, and its rates keep the limits
pub record IsKeptEvent (n : Network) (e : Planned) : Type 0 where
  pub known : e.index < length n.links
  pub limits : KeepsLimits e.what

-- the same of the rates of all events
abbrev pub AllKeepLimits : List Event → Type 0
AllKeepLimits events = (e : Event) → Has events e → KeepsLimits e.what

pub record IsKept (n : Network) : Type 0 where
  pub topo : IsTopo (topo_of n)
  -- nodes that are made later ask for the type `pc`
  pub plain : list_any (λ c. same_name c.name (codes "pc")) n.classes ≡ false
  pub node_names : AreNumbered numbered.Node 1 (map (λ v. v.name) n.nodes)
  pub link_names : AreNumbered numbered.Link 1 (map (λ l. l.name) n.links)
  pub few_events : length n.events ≤ 1024
  pub events : (e : Planned) → Has n.events e → IsKeptEvent n e
