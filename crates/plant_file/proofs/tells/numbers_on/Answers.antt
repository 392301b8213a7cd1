use Rattle.std.proofs.Common.{[], ◌++◌, sym, ap₂, ◌∙◌}
use Rattle.std.specs.List.{cons_option}
use Rattle.plant_file.specs.OnDevices.{number_on}
use Rattle.plant_file.proofs.LinesGiven.{given_more}
use Rattle.plant_file.proofs.tells.numbers_on.Goals as goal

pub loop-line-preserved : goal.loop-line-preserved
loop-line-preserved c =
    c.in_ok-add.ensures
    ∙ ap₂ (λ l o. l ++ cons_option o []) c.loop-line.invariant c.number_on.ensures
    ∙ sym (given_more (number_on c.args.node.now) c.args.lines.now c.loop-line.line-index c.line-item.result c.loop-line-test.true c.line-item.is)
