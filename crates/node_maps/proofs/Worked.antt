-- The interface rule on worked examples, by computation.
use Rattle.std.proofs.Common.{◌≡◌, ℕ, Bool, true, false, Option, Some, None, List, [], ◌∷◌, map, refl}
use Rattle.std.specs.Option.{option_map}
use Rattle.lab_base.specs.declared.ids.IfaceId.{IfaceId}
use Rattle.phys_lab.specs.Labs.{Lab}
use Rattle.phys_lab.specs.declared.parts.Iface.{Iface}
use Rattle.virt_topo.specs.declared.wiring.Asks.TheVariants.{Plain}
use Rattle.virt_topo.specs.declared.wiring.VirtNode.{VirtNode}
use Rattle.virt_topo.specs.declared.wiring.Segment.{Segment}
use Rattle.virt_topo.specs.declared.wiring.Wiring.{Wiring}
use Rattle.lab_model.specs.Shapes.{Place}
use Rattle.node_maps.specs.NodeMaps.{plugs_of}

abbrev iface : ℕ → ℕ → Iface
iface n kbps = record { link = n ∷ []; node = record { 0 = n }; name = 7 ∷ []; switch = record { 0 = 0 }; port = n; kbps = kbps }

-- two nodes with an interface each, and one with two
abbrev lab : Lab
lab = record {
  range = (100, 103);
  switches = (21 ∷ []) ∷ [];
  nodes = record { name = 0 ∷ []; types = (5 ∷ [], 1) ∷ []; features = [] } ∷ record { name = 1 ∷ []; types = (5 ∷ [], 1) ∷ []; features = [] } ∷ record { name = 2 ∷ []; types = (5 ∷ [], 2) ∷ []; features = [] } ∷ [];
  ifaces = iface 0 100000 ∷ iface 1 100000 ∷ iface 2 100000 ∷ iface 2 100000 ∷ [];
  trunks = [];
}

abbrev virt : ℕ → VirtNode
virt n = record { name = n ∷ []; asks = Plain (5 ∷ []); desires = []; os = 6 ∷ []; fixed = None }

abbrev between : ℕ → ℕ → Bool → Segment
between name kbps flag = record { name = name ∷ []; owner = name ∷ []; kbps = kbps; multiplexed = flag; ends = record { node = 0; address = None } ∷ record { node = 1; address = None } ∷ [] }

abbrev links : Segment → Segment → Wiring
links x y = record { classes = []; nodes = virt 0 ∷ virt 1 ∷ []; segments = x ∷ y ∷ []; pipes = [] }

abbrev at : ℕ → ℕ → List Place
at a b = (record { 0 = a }, 5 ∷ []) ∷ (record { 0 = b }, 5 ∷ []) ∷ []

abbrev numbers : Option (List IfaceId) → Option (List ℕ)
numbers o = option_map (λ plugs. map (λ i. i.0) plugs) o

-- two multiplexed links share the interfaces of both nodes
shared : numbers (plugs_of lab (links (between 1 10000 true) (between 2 10000 true)) (at 0 1)) ≡ Some (0 ∷ 1 ∷ 0 ∷ 1 ∷ [])
shared = refl

-- one of them alone doesn't
plain : numbers (plugs_of lab (links (between 1 10000 true) (between 2 10000 false)) (at 0 1)) ≡ None
plain = refl

-- nor do both where they are too fast together
over : numbers (plugs_of lab (links (between 1 60000 true) (between 2 40001 true)) (at 0 1)) ≡ None
over = refl

-- two virtual nodes on one node: the ends of one link take two interfaces, those of the next share them
one_node : numbers (plugs_of lab (links (between 1 10000 true) (between 2 10000 true)) (at 2 2)) ≡ Some (2 ∷ 3 ∷ 2 ∷ 3 ∷ [])
one_node = refl

-- while only the first virtual node is placed
half_placed : numbers (plugs_of lab (links (between 1 10000 true) (between 2 10000 true)) ((record { 0 = 2 }, 5 ∷ []) ∷ [])) ≡ Some (2 ∷ 2 ∷ [])
half_placed = refl
