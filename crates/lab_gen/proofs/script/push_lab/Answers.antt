use Rattle.std.proofs.Common.{[], ◌∷◌, ◌++◌, map, codes}
use Rattle.std.specs.List.{flat_map}
use Rattle.std.proofs.lemmas.Result.{on_ok_weaker}
use Rattle.lab_gen.specs.Script.{interface_lines, lab_lines, node_line, numbers, switch_line, trunk_line}
use Rattle.lab_gen.proofs.Texts.{lines_added}
use Rattle.lab_gen.proofs.script.push_lab.Goals as goal

pub returns : goal.returns
unfolding lab_lines
returns c =
    let start = c.args.text.now in
    let first = codes "vlans 100 199" ∷ [] in
    let switches = map switch_line (numbers 1 4) in
    let nodes = map node_line (numbers 1 64) in
    let interfaces = flat_map interface_lines (numbers 1 64) in
    let one = lines_added start c.push_bytes.new.self c.push_lines.new.text first switches c.in_ok-push_bytes.ensures.ok c.in_ok-push_lines.ensures in
    let two = lines_added start c.push_lines.new.text c.push_lines-2.new.text (first ++ switches) nodes one c.in_ok-push_lines-2.ensures in
    let three = lines_added start c.push_lines-2.new.text c.push_interfaces.new.text (first ++ switches ++ nodes) interfaces two c.in_ok-push_interfaces.ensures in
    on_ok_weaker c.push_lines-3.result (lines_added start c.push_interfaces.new.text c.push_lines-3.new.text (first ++ switches ++ nodes ++ interfaces) (map trunk_line (numbers 2 3)) three) c.push_lines-3.ensures
