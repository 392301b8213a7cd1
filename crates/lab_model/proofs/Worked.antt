-- The definitions on worked examples, by computation.
use Rattle.std.proofs.Common.{◌≡◌, ℕ, Bool, true, false, Some, None, List, [], ◌∷◌, length, map, refl}
use Rattle.lab_model.specs.Rules.{keeps_f5}
use Rattle.phys_lab.specs.Sides.{on_first_side}
use Rattle.phys_lab.specs.Labs.{Lab}
use Rattle.phys_lab.specs.declared.parts.Node.{Node}
use Rattle.phys_lab.specs.declared.parts.Iface.{Iface}
use Rattle.virt_topo.specs.declared.wiring.Asks.TheVariants.{Plain}
use Rattle.virt_topo.specs.declared.wiring.VirtNode.{VirtNode}
use Rattle.virt_topo.specs.declared.wiring.VirtEnd.{VirtEnd}
use Rattle.virt_topo.specs.declared.mapping.Mapped.{Mapped}
use Rattle.plant.specs.Worlds.{Row}
use Rattle.plant.specs.declared.device.DeviceOp.TheVariants.{Join, Leave, Load, Wipe, Shape}
use Rattle.std.proofs.Common.{Ok, Err}
use Rattle.lab_base.specs.declared.rates.Rates.{Rates}
use Rattle.plant.specs.declared.device.Answer.TheVariants.{Done}
use Rattle.plant.specs.declared.device.Fault.TheVariants.{Failed}
use Rattle.plant.specs.Events.{Did}
use Rattle.plant.specs.Worlds.{World, world_of}
use Rattle.virt_topo.specs.declared.experiment.Experiment.{Experiment}
use Rattle.virt_topo.specs.declared.experiment.Phase.TheVariants.{In}
use Rattle.lab_model.specs.Kept.{is_kept}
use Rattle.lab_model.specs.Beside.{is_unclaimed, has_room, has_ids, are_free_tags}
use Rattle.lab_model.specs.Cabled.{AllWanted, FreeWiped}
use Rattle.lab_model.specs.Uses.{trunk_use}
use Rattle.lab_model.specs.Wants.{cables_in, rows_of}
use Rattle.lab_model.specs.Courses.{commands, undo}

abbrev node : ℕ → Node
node n = record { name = n ∷ []; types = []; features = [] }

abbrev iface : ℕ → ℕ → ℕ → Iface
iface n switch port = record { link = n ∷ []; node = record { 0 = n }; name = 7 ∷ []; switch = record { 0 = switch }; port = port; kbps = 1000000 }

-- two switches, two nodes on each, one trunk of 100000
abbrev lab_q : Lab
lab_q = record {
  range = (100, 103);
  switches = (21 ∷ []) ∷ (22 ∷ []) ∷ [];
  nodes = node 0 ∷ node 1 ∷ node 2 ∷ node 3 ∷ [];
  ifaces = iface 0 0 1 ∷ iface 1 0 2 ∷ iface 2 1 1 ∷ iface 3 1 2 ∷ [];
  trunks = record { link = 9 ∷ []; first = (record { 0 = 0 }, 24); second = (record { 0 = 1 }, 24); kbps = 100000 } ∷ [];
}

abbrev virt : ℕ → VirtNode
virt n = record { name = n ∷ []; asks = Plain []; desires = []; os = 5 ∷ []; fixed = None }

abbrev end' : ℕ → VirtEnd
end' n = record { node = n; address = None }

-- a link of a and b on two nodes
abbrev pair : ℕ → ℕ → ℕ → ℕ → Mapped
pair kbps p q tag = record {
  wiring = record { classes = []; nodes = virt 0 ∷ virt 1 ∷ []; segments = record { name = 1 ∷ []; owner = 1 ∷ []; kbps = kbps; multiplexed = false; ends = end' 0 ∷ end' 1 ∷ [] } ∷ []; pipes = [] };
  mapping = record { places = (record { 0 = p }, []) ∷ (record { 0 = q }, []) ∷ []; plugs = record { 0 = p } ∷ record { 0 = q } ∷ [] };
  tags = record { 0 = tag } ∷ [];
}

-- a LAN of four
abbrev four : Mapped
four = record {
  wiring = record { classes = []; nodes = virt 0 ∷ virt 1 ∷ virt 2 ∷ virt 3 ∷ []; segments = record { name = 1 ∷ []; owner = 1 ∷ []; kbps = 50000; multiplexed = false; ends = end' 0 ∷ end' 1 ∷ end' 2 ∷ end' 3 ∷ [] } ∷ []; pipes = [] };
  mapping = record { places = (record { 0 = 0 }, []) ∷ (record { 0 = 1 }, []) ∷ (record { 0 = 2 }, []) ∷ (record { 0 = 3 }, []) ∷ []; plugs = record { 0 = 0 } ∷ record { 0 = 1 } ∷ record { 0 = 2 } ∷ record { 0 = 3 } ∷ [] };
  tags = record { 0 = 100 } ∷ [];
}

-- sides of the trunk
sides : map (on_first_side lab_q.trunks 0) (0 ∷ 1 ∷ []) ≡ true ∷ false ∷ []
sides = refl

-- the trunk is exactly full
full : trunk_use lab_q 0 (cables_in (pair 100000 0 2 100)) ≡ 100000
full = refl

lan : trunk_use lab_q 0 (cables_in four) ≡ 100000
lan = refl

unused : trunk_use lab_q 0 (cables_in (pair 100000 0 1 100)) ≡ 0
unused = refl

abbrev row : ℕ → ℕ → ℕ → Row
row s p v = record { switch = s ∷ []; port = p; vlan = v }

-- the rows of a link across the trunk, and of one on a switch
across : map (λ o. o.row) (rows_of lab_q (pair 1 0 2 100)) ≡ row 21 1 100 ∷ row 22 1 100 ∷ row 21 24 100 ∷ row 22 24 100 ∷ []
across = refl

within : map (λ o. o.row) (rows_of lab_q (pair 1 0 1 100)) ≡ row 21 1 100 ∷ row 21 2 100 ∷ []
within = refl

-- a change in place keeps both nodes: four rows are left, four are joined, nothing is loaded
change : length (commands lab_q (Some (pair 1 0 2 100)) (Some (pair 1 0 2 101))).clear ≡ 4
change = refl

change_load : (commands lab_q (Some (pair 1 0 2 100)) (Some (pair 1 0 2 101))).load ≡ []
change_load = refl

swap_in : (commands lab_q None (Some (pair 1 0 1 100))).cable ≡ Join (21 ∷ []) 1 (record { 0 = 100 }) ∷ Join (21 ∷ []) 2 (record { 0 = 100 }) ∷ []
swap_in = refl

swap_in_load : (commands lab_q None (Some (pair 1 0 1 100))).load ≡ Load (0 ∷ []) (5 ∷ []) ∷ Load (1 ∷ []) (5 ∷ []) ∷ []
swap_in_load = refl

swap_in_boot : (commands lab_q None (Some (pair 1 0 1 100))).boot ≡ (0 ∷ []) ∷ (1 ∷ []) ∷ []
swap_in_boot = refl

undone : (undo lab_q None (Some (pair 1 0 1 100))).clear ≡ Leave (21 ∷ []) 1 (record { 0 = 100 }) ∷ Leave (21 ∷ []) 2 (record { 0 = 100 }) ∷ Wipe (0 ∷ []) ∷ Wipe (1 ∷ []) ∷ []
undone = refl

-- two multiplexed links of a and b over one interface on each side
abbrev shared : ℕ → Bool → Mapped
shared kbps flag = record {
  wiring = record {
    classes = [];
    nodes = virt 0 ∷ virt 1 ∷ [];
    segments = record { name = 1 ∷ []; owner = 1 ∷ []; kbps = 600000; multiplexed = true; ends = end' 0 ∷ end' 1 ∷ [] } ∷ record { name = 2 ∷ []; owner = 2 ∷ []; kbps = kbps; multiplexed = flag; ends = end' 0 ∷ end' 1 ∷ [] } ∷ [];
    pipes = [];
  };
  mapping = record { places = (record { 0 = 0 }, []) ∷ (record { 0 = 1 }, []) ∷ []; plugs = record { 0 = 0 } ∷ record { 0 = 1 } ∷ record { 0 = 0 } ∷ record { 0 = 1 } ∷ [] };
  tags = record { 0 = 100 } ∷ record { 0 = 101 } ∷ [];
}

abbrev f5_of : Mapped → List Bool
f5_of m = map (keeps_f5 lab_q m.wiring m.mapping) (0 ∷ 1 ∷ 2 ∷ 3 ∷ [])

-- 600000 and 400000 are an interface's 1000000; one kbps more, or a segment that isn't multiplexed, breaks the rule at the third end
shared_full : f5_of (shared 400000 true) ≡ true ∷ true ∷ true ∷ true ∷ []
shared_full = refl

shared_over : f5_of (shared 400001 true) ≡ true ∷ true ∷ false ∷ false ∷ []
shared_over = refl

shared_plain : f5_of (shared 400000 false) ≡ true ∷ true ∷ false ∷ false ∷ []
shared_plain = refl

-- one row for each port and id
shared_rows : map (λ o. o.row) (rows_of lab_q (shared 400000 true)) ≡ row 21 1 100 ∷ row 21 2 100 ∷ row 21 1 101 ∷ row 21 2 101 ∷ []
shared_rows = refl

-- WRONG WORLDS AND MAPPINGS, each refused by the word that should refuse it
abbrev rates : Rates
rates = record { kbps = 1000; micros = 0; ppm = 0 }

-- a pipe was left on a node that nobody claims
abbrev left_pipe : World
left_pipe = world_of (Did (Shape (0 ∷ []) 5 (7 ∷ []) (7 ∷ []) rates rates) true (Ok Done) ∷ [])

pipe_left : FreeWiped lab_q [] left_pipe → ⊥
pipe_left free = let same = free (0 ∷ []) (λ e h. absurd h) in let none = same.pipes 5 in absurd (cc none)

-- a row that nobody wants
abbrev left_row : World
left_row = world_of (Did (Join (21 ∷ []) 1 (record { 0 = 100 })) true (Ok Done) ∷ [])

row_left : AllWanted lab_q [] left_row → ⊥
row_left wanted = (wanted (row 21 1 100) refl).1

-- and a command that failed and wasn't applied leaves nothing
unsent : (world_of (Did (Join (21 ∷ []) 1 (record { 0 = 100 })) false (Err Failed) ∷ [])).rows (row 21 1 100) ≡ false
unsent = refl

-- a node of which the new mapping wants another pipe isn't kept; one of which it wants the same is
abbrev delayed : ℕ → Mapped
delayed kbps = record {
  wiring = record {
    classes = [];
    nodes = virt 0 ∷ virt 1 ∷ [];
    segments = record { name = 1 ∷ []; owner = 1 ∷ []; kbps = 1; multiplexed = false; ends = end' 0 ∷ end' 1 ∷ [] } ∷ record { name = 2 ∷ []; owner = 1 ∷ []; kbps = 1; multiplexed = false; ends = end' 0 ∷ end' 1 ∷ [] } ∷ [];
    pipes = record { node = 0; from = 0; to = 1; there = record rates { kbps = kbps }; back = rates } ∷ [];
  };
  mapping = record { places = (record { 0 = 0 }, []) ∷ (record { 0 = 1 }, []) ∷ []; plugs = record { 0 = 0 } ∷ record { 0 = 1 } ∷ record { 0 = 0 } ∷ record { 0 = 1 } ∷ [] };
  tags = record { 0 = 100 } ∷ record { 0 = 101 } ∷ [];
}

other_pipe : is_kept lab_q (Some (delayed 1)) (Some (delayed 2)) (0 ∷ []) ≡ false
other_pipe = refl

same_pipe : is_kept lab_q (Some (delayed 1)) (Some (delayed 1)) (0 ∷ []) ≡ true
same_pipe = refl

no_pipe : is_kept lab_q (Some (delayed 1)) (Some (delayed 2)) (1 ∷ []) ≡ true
no_pipe = refl

-- a trunk over its kbps, a node twice claimed, an id out of range and one that stands twice
abbrev exp : ℕ → Mapped → Experiment
exp name m = record { name = name ∷ []; wiring = m.wiring; phase = In m.mapping m.tags }

over : has_room lab_q (exp 65 (pair 100000 0 2 100) ∷ []) (pair 1 1 3 101).wiring (pair 1 1 3 101).mapping 0 ≡ false
over = refl

claimed_twice : is_unclaimed lab_q (exp 65 (pair 1 0 2 100) ∷ []) (pair 1 0 1 101).mapping 0 ≡ false
claimed_twice = refl

no_such_id : are_free_tags lab_q [] (pair 1 0 1 104).wiring (pair 1 0 1 104).tags ≡ false
no_such_id = refl

id_in_use : are_free_tags lab_q (exp 65 (pair 1 0 2 100) ∷ []) (pair 1 1 3 100).wiring (pair 1 1 3 100).tags ≡ false
id_in_use = refl

-- three segments where two ids are left
no_ids : has_ids lab_q (exp 65 (delayed 1) ∷ []) (exp 66 (pair 1 0 1 102)) (delayed 1).wiring ≡ false
no_ids = refl
