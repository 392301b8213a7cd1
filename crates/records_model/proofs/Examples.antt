-- The definitions on worked examples, by computation.
use Rattle.std.proofs.Common.{◌≡◌, ℕ, false, Some, None, List, [], ◌∷◌, ◌++◌, take, refl, lit<, lit≤}
use Rattle.phys_lab.specs.Labs.{Lab}
use Rattle.phys_lab.specs.declared.parts.Node.{Node}
use Rattle.phys_lab.specs.declared.parts.Iface.{Iface}
use Rattle.virt_topo.specs.declared.violation.Broken.TheVariants.{F1, F2, F5, F6, F8}
use Rattle.virt_topo.specs.declared.violation.Subject.TheVariants.{Virt, Node as NodeOf, End, Trunk as TrunkOf, Vlans}
use Rattle.virt_topo.specs.declared.wiring.Asks.TheVariants.{Plain}
use Rattle.virt_topo.specs.declared.wiring.VirtNode.{VirtNode}
use Rattle.virt_topo.specs.declared.wiring.VirtEnd.{VirtEnd}
use Rattle.virt_topo.specs.declared.wiring.Wiring.{Wiring}
use Rattle.virt_topo.specs.declared.mapping.Mapping.{Mapping}
use Rattle.virt_topo.specs.declared.mapping.Mapped.{Mapped}
use Rattle.virt_topo.specs.declared.experiment.Experiment.{Experiment}
use Rattle.virt_topo.specs.declared.experiment.Phase.TheVariants.{Out, Moving}
use Rattle.plant.specs.declared.step.Side.TheVariants.{A}
use Rattle.journal_rec.specs.declared.record.Record.TheVariants.{Delete}
use Rattle.lab_model.specs.Beside.{violation_beside}
use Rattle.journal_rec.specs.Payloads.{payload}
use Rattle.journal_model.specs.Journals.{head, live, New, Wrong, Records, Bad, journal_length, cut_off}
use Rattle.records_model.specs.Labs.{at_first, LabState, SetLab, Creates, Deletes, BeginsIn, BeginsOut, Commits, Aborts, moved, inside}

abbrev pc : List ℕ
pc = 112 ∷ 99 ∷ []

abbrev node : ℕ → Node
node n = record { name = n ∷ []; types = (pc, 1) ∷ []; features = [] }

abbrev iface : ℕ → ℕ → ℕ → Iface
iface n switch port = record { link = n ∷ []; node = record { 0 = n }; name = 7 ∷ []; switch = record { 0 = switch }; port = port; kbps = 1000000 }

-- two switches, two nodes on each, one trunk of 100000
abbrev lab_q : ℕ → Lab
lab_q last = record {
  range = (100, last);
  switches = (21 ∷ []) ∷ (22 ∷ []) ∷ [];
  nodes = node 0 ∷ node 1 ∷ node 2 ∷ node 3 ∷ [];
  ifaces = iface 0 0 1 ∷ iface 1 0 2 ∷ iface 2 1 1 ∷ iface 3 1 2 ∷ [];
  trunks = record { link = 9 ∷ []; first = (record { 0 = 0 }, 24); second = (record { 0 = 1 }, 24); kbps = 100000 } ∷ [];
}

abbrev virt : ℕ → VirtNode
virt n = record { name = n ∷ []; asks = Plain pc; desires = []; os = 5 ∷ []; fixed = None }

abbrev end' : ℕ → VirtEnd
end' n = record { node = n; address = None }

abbrev top : ℕ → Wiring
top kbps = record { classes = []; nodes = virt 0 ∷ virt 1 ∷ []; segments = record { name = 1 ∷ []; owner = 1 ∷ []; kbps = kbps; multiplexed = false; ends = end' 0 ∷ end' 1 ∷ [] } ∷ []; pipes = [] }

abbrev on : ℕ → ℕ → Mapping
on p q = record { places = (record { 0 = p }, pc) ∷ (record { 0 = q }, pc) ∷ []; plugs = record { 0 = p } ∷ record { 0 = q } ∷ [] }

abbrev pair : ℕ → ℕ → ℕ → ℕ → Mapped
pair kbps p q tag = record { wiring = top kbps; mapping = on p q; tags = record { 0 = tag } ∷ [] }

abbrev out : ℕ → ℕ → Experiment
out name kbps = record { name = name ∷ []; wiring = top kbps; phase = Out }

-- two segments between two nodes
abbrev double : Wiring
double = record { classes = []; nodes = virt 0 ∷ virt 1 ∷ []; segments = record { name = 1 ∷ []; owner = 1 ∷ []; kbps = 10000; multiplexed = false; ends = end' 0 ∷ end' 1 ∷ [] } ∷ record { name = 2 ∷ []; owner = 2 ∷ []; kbps = 10000; multiplexed = false; ends = end' 0 ∷ end' 1 ∷ [] } ∷ []; pipes = [] }

-- the trunk is exactly full, and then takes no more
full : violation_beside (lab_q 103) [] (out 65 100000) (top 100000) (on 0 2) ≡ None
full = refl

over : violation_beside (lab_q 103) (inside (out 65 100000) (pair 100000 0 2 100) ∷ []) (out 66 1) (top 1) (on 1 3) ≡ Some (F6, TrunkOf (record { 0 = 0 }))
over = refl

-- a node that another experiment has
taken : violation_beside (lab_q 103) (inside (out 65 100000) (pair 100000 0 2 100) ∷ []) (out 66 1) (top 1) (on 0 1) ≡ Some (F1, Virt 0)
taken = refl

-- two virtual nodes on one node of count 1
crowded : violation_beside (lab_q 103) [] (out 65 1) (top 1) (on 0 0) ≡ Some (F2, NodeOf (record { 0 = 0 }))
crowded = refl

-- an interface that an earlier end has
twice : violation_beside (lab_q 103) [] (out 65 1) double (record { places = (record { 0 = 0 }, pc) ∷ (record { 0 = 1 }, pc) ∷ []; plugs = record { 0 = 0 } ∷ record { 0 = 1 } ∷ record { 0 = 0 } ∷ record { 0 = 1 } ∷ [] }) ≡ Some (F5, End 2)
twice = refl

-- a change with one VLAN id more, and without
change_fits : violation_beside (lab_q 103) [] (inside (out 65 100000) (pair 100000 0 2 100)) (top 100000) (on 0 2) ≡ None
change_fits = refl

no_id : violation_beside (lab_q 100) [] (inside (out 65 100000) (pair 100000 0 2 100)) (top 100000) (on 0 2) ≡ Some (F8, Vlans)
no_id = refl

-- WHAT CAN FOLLOW
abbrev created : LabState
created = record { lab = Some (lab_q 103); experiments = out 65 100000 ∷ out 66 1 ∷ [] }

abbrev moving : LabState
moving = record { lab = Some (lab_q 103); experiments = record { name = 65 ∷ []; wiring = top 100000; phase = Moving None (Some (pair 100000 0 2 100)) } ∷ out 66 1 ∷ [] }

abbrev inside_one : LabState
inside_one = record { lab = Some (lab_q 103); experiments = inside (out 65 100000) (pair 100000 0 2 100) ∷ out 66 1 ∷ [] }

no_lab_yet : moved at_first (Deletes (65 ∷ [])) ≡ None
no_lab_yet = refl

lab_first : moved at_first (SetLab (lab_q 103)) ≡ Some (record { lab = Some (lab_q 103); experiments = [] })
lab_first = refl

lab_once : moved created (SetLab (lab_q 103)) ≡ None
lab_once = refl

name_once : moved created (Creates (66 ∷ []) (top 1)) ≡ None
name_once = refl

begins : moved created (BeginsIn (65 ∷ []) (on 0 2) (record { 0 = 100 } ∷ [])) ≡ Some moving
begins = refl

-- the trunk and the tag of a moving experiment are taken
no_trunk_left : moved moving (BeginsIn (66 ∷ []) (on 1 3) (record { 0 = 101 } ∷ [])) ≡ None
no_trunk_left = refl

no_tag : moved moving (BeginsIn (66 ∷ []) (on 1 1) (record { 0 = 100 } ∷ [])) ≡ None
no_tag = refl

commits : moved moving (Commits (65 ∷ [])) ≡ Some inside_one
commits = refl

aborts : moved moving (Aborts (65 ∷ [])) ≡ Some created
aborts = refl

no_delete : moved inside_one (Deletes (65 ∷ [])) ≡ None
no_delete = refl

goes_out : moved inside_one (BeginsOut (65 ∷ [])) ≡ Some (record { lab = Some (lab_q 103); experiments = record { name = 65 ∷ []; wiring = top 100000; phase = Moving (Some (pair 100000 0 2 100)) None } ∷ out 66 1 ∷ [] })
goes_out = refl

-- THE BYTES: a side with one Delete A, of 26 bytes
abbrev head_bytes : List ℕ
head_bytes = 165 ∷ 76 ∷ 65 ∷ 66 ∷ 74 ∷ 82 ∷ 78 ∷ 76 ∷ 49 ∷ 1 ∷ 0 ∷ 0 ∷ 0 ∷ 0 ∷ 0 ∷ 0 ∷ 0 ∷ []

abbrev one_delete : List ℕ
one_delete = head_bytes ++ 165 ∷ 3 ∷ 0 ∷ 0 ∷ 0 ∷ 3 ∷ 1 ∷ 65 ∷ 0 ∷ []

abbrev delete_a : Rattle.journal_rec.specs.declared.record.Record.Record
delete_a = Delete (65 ∷ [])

spelled : payload delete_a ≡ 3 ∷ 1 ∷ 65 ∷ []
spelled = refl

one_record : Records one_delete [] (delete_a ∷ [])
one_record = (0 ∷ [], record { fields = refl; size = lit< tt }, refl, (0, [], refl, λ e. cc e))

its_length : journal_length one_delete [] (delete_a ∷ []) ≡ 26
its_length = refl

-- after another byte there is none, also when the side is cut to 24 bytes
none_shut : Records (take 24 (head_bytes ++ 55 ∷ 3 ∷ 0 ∷ 0 ∷ 0 ∷ 3 ∷ 1 ∷ 65 ∷ 0 ∷ [])) [] []
none_shut = (55, 3 ∷ 0 ∷ 0 ∷ 0 ∷ 3 ∷ 1 ∷ [], refl, λ e. cc e)

-- a length past the end is bad at 17
too_long : Bad (head_bytes ++ 165 ∷ 255 ∷ 0 ∷ 0 ∷ 0 ∷ 3 ∷ 1 ∷ 65 ∷ 0 ∷ []) [] A 17
too_long = (refl, ([], (255 ∷ 0 ∷ 0 ∷ 0 ∷ 3 ∷ 1 ∷ 65 ∷ 0 ∷ [], refl, cut_off (lit≤ tt) (lit< tt)), refl))

-- heads: a new journal, an equal epoch, a foreign side
blank_sides : live (head []) (head (0 ∷ [])) ≡ New
blank_sides = refl

two_epochs : live (head one_delete) (head one_delete) ≡ Wrong A
two_epochs = refl
