-- The place or plug of a line, and the mapping of a whole solution text.
use Rattle.std.specs.Prelude.{◌+◌, ℕ, Bool, false, ◌==◌, ◌&&◌, List, [], ◌∷◌, length, position, codes, replicate, slice_index_or, slice_set, Option, Some, None, is_some, option_map, Result, Ok, Err, if◌then◌else◌}
use Rattle.lab_base.specs.Texts.{lines_of}
use Rattle.lab_base.specs.Parts.{name_of}
use Rattle.lab_base.specs.Kinds.{both_of}
use Rattle.lab_base.specs.declared.fault.Kind.{Kind}
use Rattle.lab_base.specs.declared.fault.Kind.TheVariants as kinds
use Rattle.lab_base.specs.declared.fault.TextFault.{TextFault}
use Rattle.lab_base.specs.declared.ids.NodeId.{NodeId}
use Rattle.lab_base.specs.declared.ids.IfaceId.{IfaceId}
use Rattle.lab_base.specs.Names.{same_name}
use Rattle.line_text.specs.Reading.{and_then, read_from}
use Rattle.line_text.specs.Fields.{field_at}
use Rattle.line_text.specs.Pairs.{pair_at, numbered}
use Rattle.phys_lab.specs.Labs.{Lab}
use Rattle.virt_topo.specs.Ends.{end_nodes}
use Rattle.virt_topo.specs.Soundness.{end_of}
use Rattle.virt_topo.specs.declared.wiring.Wiring.{Wiring}
use Rattle.virt_topo.specs.declared.mapping.Mapping.{Mapping}
use Rattle.lab_model.specs.Shapes.{Place, has_name, node_at}
use Rattle.top_text.specs.Adding.{virt_named}
use Rattle.solution_text.specs.declared.given.Given.{Given}

-- LINES, BY THEIR FIELDS AFTER THE KEYWORD

-- a virtual node, a node and a type
abbrev pub PlaceRead : Type 0
PlaceRead = List ℕ × (List ℕ × List ℕ)

-- `node V NODE TYPE`
abbrev pub place_line : List (List ℕ) → Result PlaceRead Kind
place_line fields = if length fields == 3 then both_of (name_of (field_at fields 0)) (both_of (name_of (field_at fields 1)) (name_of (field_at fields 2))) else Err kinds.Fields

-- two names, joined by the field's one colon
abbrev pub pair_parts : Option (List ℕ × List ℕ) → Result (List ℕ × List ℕ) Kind
pair_parts None = Err kinds.Fields
pair_parts (Some parts) = both_of (name_of parts.0) (name_of parts.1)

abbrev pub pair_of : List ℕ → Result (List ℕ × List ℕ) Kind
pair_of field = pair_parts (pair_at 58 field)

-- a virtual node with the number of its end, and a node with the name of its interface
abbrev pub PlugRead : Type 0
PlugRead = (List ℕ × ℕ) × (List ℕ × List ℕ)

-- `plug V:K NODE:IFACE`
abbrev pub plug_line : List (List ℕ) → Result PlugRead Kind
plug_line fields = if length fields == 2 then both_of (numbered 0 65535 (field_at fields 0)) (pair_of (field_at fields 1)) else Err kinds.Fields

-- WHAT NAMES NAME

abbrev pub node_named : Lab → List ℕ → Option ℕ
node_named lab name = position (λ n. same_name name n.name) lab.nodes

-- the number of the end of virtual node v that has k earlier ends of v
abbrev pub end_by : Wiring → ℕ → Option ℕ → Option ℕ
end_by w k None = None
end_by w k (Some v) = end_of w v k

abbrev pub end_named : Wiring → List ℕ × ℕ → Option ℕ
end_named w end = end_by w end.1 (virt_named w end.0)

-- the number of the interface of that name on a node
abbrev pub iface_on : Lab → ℕ → List ℕ → Option ℕ
iface_on lab node name = position (λ i. (node == i.node.0) && same_name name i.name) lab.ifaces

abbrev pub iface_by : Lab → List ℕ → Option ℕ → Option ℕ
iface_by lab name None = None
iface_by lab name (Some node) = iface_on lab node name

abbrev pub iface_named : Lab → List ℕ × List ℕ → Option ℕ
iface_named lab iface = iface_by lab iface.1 (node_named lab iface.0)

-- WHAT A LINE ADDS TO WHAT IS GIVEN SO FAR, OR ITS FAULT

-- the entry of that number has its line already
abbrev pub is_given : {X : Type 0} → List (Option X) → Option ℕ → Bool
is_given entries None = false
is_given entries (Some n) = is_some (slice_index_or entries n None)

abbrev pub place_given : Given → ℕ → Place → Given
place_given given v place = record given { places = slice_set given.places v (Some place) }

abbrev pub plug_given : Given → ℕ → IfaceId → Given
plug_given given e plug = record given { plugs = slice_set given.plugs e (Some plug) }

-- a place has one of its node's types
abbrev pub typed : Lab → Given → ℕ → NodeId → List ℕ → Result Given Kind
typed lab given v node type = if has_name (node_at lab node).types type then Ok (place_given given v (node, type)) else Err kinds.Unknown

abbrev pub placed_on : Lab → Given → Option ℕ → Option ℕ → List ℕ → Result Given Kind
placed_on lab given (Some v) (Some node) type = typed lab given v (record { 0 = node }) type
placed_on lab given virt other type = Err kinds.Unknown

abbrev pub with_place : Lab → Given → Option ℕ → Option ℕ → List ℕ → Result Given Kind
with_place lab given virt node type = if is_given given.places virt then Err kinds.Twice else placed_on lab given virt node type

abbrev pub with_place_line : Lab → Wiring → Given → PlaceRead → Result Given Kind
with_place_line lab w given read = with_place lab given (virt_named w read.0) (node_named lab read.1.0) read.1.1

abbrev pub plugged_in : Given → Option ℕ → Option ℕ → Result Given Kind
plugged_in given (Some e) (Some iface) = Ok (plug_given given e (record { 0 = iface }))
plugged_in given end other = Err kinds.Unknown

abbrev pub with_plug : Given → Option ℕ → Option ℕ → Result Given Kind
with_plug given end iface = if is_given given.plugs end then Err kinds.Twice else plugged_in given end iface

abbrev pub with_plug_line : Lab → Wiring → Given → PlugRead → Result Given Kind
with_plug_line lab w given read = with_plug given (end_named w read.0) (iface_named lab read.1)

-- a line by its keyword
abbrev pub line_keyed : Lab → Wiring → Given → List ℕ → List (List ℕ) → Result Given Kind
line_keyed lab w given keyword fields =
    if same_name keyword (codes "node") then and_then (place_line fields) (with_place_line lab w given)
    else if same_name keyword (codes "plug") then and_then (plug_line fields) (with_plug_line lab w given)
    else Err kinds.Word

abbrev pub line_given : Lab → Wiring → Given → List (List ℕ) → Result Given Kind
line_given lab w given [] = Err kinds.Word
line_given lab w given (keyword ∷ fields) = line_keyed lab w given keyword fields

-- nothing is given yet
abbrev pub nothing : Wiring → Given
nothing w = record { places = replicate (length w.nodes) None; plugs = replicate (length (end_nodes w.segments)) None }

-- the entries, if each one is given
abbrev pub all_given : {X : Type 0} → List (Option X) → Option (List X)
all_given [] = Some []
all_given (None ∷ entries) = None
all_given (Some x ∷ entries) = option_map (λ xs. x ∷ xs) (all_given entries)

-- an entry without its line is `missing`, after the last line
abbrev pub mapped : ℕ → Option (List Place) → Option (List IfaceId) → Result Mapping TextFault
mapped line (Some places) (Some plugs) = Ok (record { places = places; plugs = plugs })
mapped line places plugs = Err (record { line = line; kind = kinds.Missing })

abbrev pub completed : ℕ → Result Given TextFault → Result Mapping TextFault
completed line (Err fault) = Err fault
completed line (Ok given) = mapped line (all_given given.places) (all_given given.plugs)

-- the mapping of a text, or the fault of its first line that has one
abbrev pub mapping_of_text : Lab → Wiring → List ℕ → Result Mapping TextFault
mapping_of_text lab w text = completed (length (lines_of text) + 1) (read_from (line_given lab w) 1 (Ok (nothing w)) (lines_of text))
