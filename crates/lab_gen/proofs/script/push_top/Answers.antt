use Rattle.std.proofs.Common.{◌-◌, map}
use Rattle.std.proofs.lemmas.Result.{on_ok_weaker}
use Rattle.lab_gen.specs.Script.{numbers, top_lines, virtual_node_line, virtual_link_line}
use Rattle.lab_gen.proofs.Texts.{lines_added}
use Rattle.lab_gen.proofs.script.push_top.Goals as goal

pub returns : goal.returns
unfolding top_lines
returns c =
    let n = c.args.nodes in
    on_ok_weaker c.push_lines-2.result (lines_added c.args.text.now c.push_lines.new.text c.push_lines-2.new.text (map virtual_node_line (numbers 1 n)) (map virtual_link_line (numbers 1 (n - 1))) c.in_ok-push_lines.ensures) c.push_lines-2.ensures
