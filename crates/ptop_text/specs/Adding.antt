-- The lab so far with a line of a ptop text added, or the line's fault.
use Rattle.std.specs.Prelude.{ℕ, true, false, ◌&&◌, ◌||◌, List, [], ◌∷◌, map, position, codes, Option, Some, None, is_some, Result, Ok, Err, if◌then◌else◌}
use Rattle.lab_base.specs.Texts.{lines_of}
use Rattle.lab_base.specs.declared.fault.Kind.{Kind}
use Rattle.lab_base.specs.declared.fault.Kind.TheVariants as kinds
use Rattle.lab_base.specs.declared.fault.TextFault.{TextFault}
use Rattle.lab_base.specs.declared.ids.NodeId.{NodeId}
use Rattle.lab_base.specs.declared.ids.SwitchId.{SwitchId}
use Rattle.lab_base.specs.Names.{same_name}
use Rattle.phys_lab.specs.Labs.{Lab}
use Rattle.phys_lab.specs.Faults.{range_fault, switch_fault, node_fault, iface_fault, trunk_fault, empty_lab, with_switch, with_node, with_iface, with_trunk}
use Rattle.phys_lab.specs.declared.fault.LabFault.{LabFault}
use Rattle.phys_lab.specs.declared.fault.LabFault.TheVariants as faults
use Rattle.phys_lab.specs.declared.parts.Iface.{Iface}
use Rattle.phys_lab.specs.declared.parts.Trunk.{Trunk}
use Rattle.ptop_text.specs.declared.link.FirstEnd.TheVariants as ends
use Rattle.ptop_text.specs.declared.device.Device.{Device}
use Rattle.ptop_text.specs.declared.device.Device.TheVariants as devices
use Rattle.ptop_text.specs.declared.so_far.LabSoFar.{LabSoFar}
use Rattle.line_text.specs.Reading.{and_then, read_from}
use Rattle.ptop_text.specs.Lines.{LinkRead, vlans_line, device_line, link_line}

-- why a part can't be added to the lab, as the kind of its line
abbrev pub kind_of : LabFault → Kind
kind_of faults.Range = kinds.Range
kind_of faults.Twice = kinds.Twice
kind_of faults.Unknown = kinds.Unknown
kind_of faults.PortTaken = kinds.Port
kind_of faults.Cycle = kinds.Cycle
kind_of other = kinds.Limit

-- the lab with a part more, if it has no fault
abbrev pub made : LabSoFar → Lab → Option LabFault → Result LabSoFar Kind
made so_far lab None = Ok (record so_far { lab = lab })
made so_far lab (Some fault) = Err (kind_of fault)

-- a second `vlans` line is `twice`
abbrev pub with_range : LabSoFar → ℕ × ℕ → Result LabSoFar Kind
with_range so_far (first, last) =
    if is_some (range_fault first last) then Err kinds.Range
    else if so_far.has_range then Err kinds.Twice
    else Ok (record { lab = record so_far.lab { range = (first, last) }; has_range = true })

abbrev pub with_device : LabSoFar → Device → Result LabSoFar Kind
with_device so_far (devices.Switch name) = made so_far (with_switch so_far.lab name) (switch_fault so_far.lab name)
with_device so_far (devices.Node node) = made so_far (with_node so_far.lab node) (node_fault so_far.lab node)

-- the number of the switch or node of a name; 65535, which names nothing, where there is none
abbrev pub number_or_none : Option ℕ → ℕ
number_or_none (Some n) = n
number_or_none None = 65535

abbrev pub switch_at : Lab → List ℕ → Option ℕ
switch_at lab name = position (same_name name) lab.switches

abbrev pub node_at : Lab → List ℕ → Option ℕ
node_at lab name = position (same_name name) (map (λ node. node.name) lab.nodes)

abbrev pub switch_number : Lab → List ℕ → SwitchId
switch_number lab name = record { 0 = number_or_none (switch_at lab name) }

abbrev pub node_number : Lab → List ℕ → NodeId
node_number lab name = record { 0 = number_or_none (node_at lab name) }

-- the kind of a link's fault: where the first end is known and the second is a node, the line is neither form of a link
abbrev pub unknown_kind : Lab → List ℕ → List ℕ → Kind
unknown_kind lab first second = if (is_some (switch_at lab first) || is_some (node_at lab first)) && is_some (node_at lab second) then kinds.Ends else kinds.Unknown

abbrev pub link_kind : Lab → List ℕ → List ℕ → LabFault → Kind
link_kind lab first second faults.Unknown = unknown_kind lab first second
link_kind lab first second fault = kind_of fault

abbrev pub linked : LabSoFar → List ℕ → List ℕ → Lab → Option LabFault → Result LabSoFar Kind
linked so_far first second lab None = Ok (record so_far { lab = lab })
linked so_far first second lab (Some fault) = Err (link_kind so_far.lab first second fault)

abbrev pub trunk_of : Lab → List ℕ → List ℕ × ℕ → List ℕ × ℕ → ℕ → Trunk
trunk_of lab link first second kbps = record { link = link; first = (switch_number lab first.0, first.1); second = (switch_number lab second.0, second.1); kbps = kbps }

abbrev pub iface_of : Lab → List ℕ → List ℕ × List ℕ → List ℕ × ℕ → ℕ → Iface
iface_of lab link first second kbps = record { link = link; node = node_number lab first.0; name = first.1; switch = switch_number lab second.0; port = second.1; kbps = kbps }

abbrev pub with_trunk_line : LabSoFar → List ℕ → List ℕ → Trunk → Result LabSoFar Kind
with_trunk_line so_far first second trunk = linked so_far first second (with_trunk so_far.lab trunk) (trunk_fault so_far.lab trunk)

abbrev pub with_iface_line : LabSoFar → List ℕ → List ℕ → Iface → Result LabSoFar Kind
with_iface_line so_far first second iface = linked so_far first second (with_iface so_far.lab iface) (iface_fault so_far.lab iface)

abbrev pub with_link : LabSoFar → LinkRead → Result LabSoFar Kind
with_link so_far (link, ((first, ends.Port port), (second, kbps))) = with_trunk_line so_far first second.0 (trunk_of so_far.lab link (first, port) second kbps)
with_link so_far (link, ((first, ends.Iface name), (second, kbps))) = with_iface_line so_far first second.0 (iface_of so_far.lab link (first, name) second kbps)

-- a line by its keyword
abbrev pub added : LabSoFar → List (List ℕ) → Result LabSoFar Kind
added so_far [] = Err kinds.Word
added so_far (keyword ∷ fields) =
    if same_name keyword (codes "vlans") then and_then (vlans_line fields) (with_range so_far)
    else if same_name keyword (codes "node") then and_then (device_line fields) (with_device so_far)
    else if same_name keyword (codes "link") then and_then (link_line so_far.lab fields) (with_link so_far)
    else Err kinds.Word

-- a lab without parts; without a `vlans` line the ids are 2 to 4094
abbrev pub start : LabSoFar
start = record { lab = empty_lab 2 4094; has_range = false }

abbrev pub lab_read : Result LabSoFar TextFault → Result Lab TextFault
lab_read (Ok so_far) = Ok so_far.lab
lab_read (Err fault) = Err fault

-- the lab of a text, or the fault of its first line that has one
abbrev pub lab_of_text : List ℕ → Result Lab TextFault
lab_of_text text = lab_read (read_from added 1 (Ok start) (lines_of text))
