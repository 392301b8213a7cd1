-- The wiring that an asked network is expanded to, or why there is none.
use Rattle.std.specs.Prelude.{◌≡◌, ℕ, ◌+◌, ◌==◌, not, List, [], ◌∷◌, ◌++◌, length, map, option_map, Result, Ok, Err, if◌then◌else◌}
use Rattle.std.specs.List.{flat_map}
use Rattle.std.specs.Option.{ok_or}
use Rattle.virt_topo.specs.declared.wiring.Wiring.{Wiring}
use Rattle.virt_topo.specs.declared.topo.AskedLink.{AskedLink}
use Rattle.virt_topo.specs.Topos.{Topo, IsTopo}
use Rattle.virt_topo.specs.Soundness.{keeps_limits, IsSound}
use Rattle.net_plan.specs.declared.fault.PlanFault.{PlanFault}
use Rattle.net_plan.specs.declared.fault.PlanFault.TheVariants as faults
use Rattle.net_plan.specs.Parts.{asked_node, delay_nodes, delays, segments_of, pipes_of}
use Rattle.net_plan.specs.Addresses.{has_bad_address, addressed}

-- each link or LAN with the number of the first of its delay nodes: these are numbered in the order of links
abbrev pub numbered : ℕ → List AskedLink → List (ℕ × AskedLink)
numbered first [] = []
numbered first (l ∷ links) = (first, l) ∷ numbered (first + delays l) links

-- the wiring of a network, whose links and LANs are these: the asked nodes come first, then the delay nodes
abbrev pub wired : Topo → List AskedLink → Wiring
wired t links = record {
  classes = t.classes;
  nodes = map asked_node t.nodes ++ flat_map delay_nodes links;
  segments = flat_map segments_of (numbered (length t.nodes) links);
  pipes = flat_map pipes_of (numbered (length t.nodes) links);
}

-- with the address of each end; limits come first, and they hang on no address
unfoldable pub expansion : Topo → Result Wiring PlanFault
expansion t =
    if not (keeps_limits (wired t t.links)) then Err faults.Limit
    else if length t.nodes == 0 then Err faults.Empty
    else if has_bad_address t.links then Err faults.Address
    else ok_or (option_map (wired t) (addressed t.links)) faults.Subnet

-- a call answers so, or wants memory
abbrev pub Answers : {X : Type 0} → Result X PlanFault → Result X PlanFault → Type 0
Answers (Ok x) wanted = wanted ≡ Ok x
Answers (Err faults.Memory) wanted = Unit {0}
Answers (Err fault) wanted = wanted ≡ Err fault

-- what a network is expanded to is sound
abbrev pub ExpansionsAreSound : Type 0
ExpansionsAreSound = (t : Topo) (w : Wiring) → IsTopo t → expansion t ≡ Ok w → IsSound w
