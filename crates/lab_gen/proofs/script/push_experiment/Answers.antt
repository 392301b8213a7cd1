use Rattle.std.proofs.Common.{◌∙◌, List, ℕ, [], ◌∷◌, ◌++◌, ap, append-nil, append_assoc, sym}
use Rattle.std.proofs.lemmas.Result.{on_ok_weaker}
use Rattle.lab_gen.specs.Script.{create_line, experiment_lines, swapin_line, swapout_lines, text_of, top_lines}
use Rattle.lab_gen.proofs.Texts.{line_added, lines_added}
use Rattle.lab_gen.proofs.script.push_experiment.Goals as goal

pub returns : goal.returns
unfolding experiment_lines
returns c =
    let start = c.args.text.now in
    let k = c.args.number in
    let n = c.args.nodes in
    let create = create_line k n ∷ [] in
    let one = line_added start start c.push_command.new.text [] (create_line k n) (sym (append-nil start)) c.in_ok-push_command.ensures in
    let two = lines_added start c.push_command.new.text c.push_top.new.text create (top_lines n) one c.in_ok-push_top.ensures in
    let three = line_added start c.push_top.new.text c.push_command-2.new.text (create ++ top_lines n) (swapin_line k) two c.in_ok-push_command-2.ensures in
    let regroup = append_assoc (create ++ top_lines n) (swapin_line k ∷ []) (swapout_lines k) in
    on_ok_weaker c.push_swapout.result (λ is. lines_added start c.push_command-2.new.text c.push_swapout.new.text (create ++ top_lines n ++ swapin_line k ∷ []) (swapout_lines k) three is ∙ ap (λ (l : List (List ℕ)). start ++ text_of l) regroup)
    c.push_swapout.ensures
