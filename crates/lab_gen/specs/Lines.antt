-- The lines of the script, by their numbers.
use Rattle.std.specs.Prelude.{ℕ, List}
use Rattle.lab_gen.specs.Script.{interface_line, node_line, switch_line, trunk_line, virtual_link_line, virtual_node_line}
use Rattle.lab_gen.specs.declared.lines.Line.{Line}
use Rattle.lab_gen.specs.declared.lines.Line.TheVariants.{Switch, Node, Interface, Trunk, VirtualNode, VirtualLink}

abbrev pub line_of : Line → ℕ → List ℕ
line_of Switch = switch_line
line_of Node = node_line
line_of (Interface node) = interface_line node
line_of Trunk = trunk_line
line_of VirtualNode = virtual_node_line
line_of VirtualLink = virtual_link_line
