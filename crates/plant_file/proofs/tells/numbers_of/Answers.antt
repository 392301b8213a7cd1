use Rattle.std.proofs.Common.{List, ap, ◌∙◌}
use Rattle.std.specs.List.{filter_map}
use Rattle.plant_file.specs.declared.entry.Entry.{Entry}
use Rattle.plant_file.specs.Holding.{node_in}
use Rattle.plant_file.specs.OnDevices.{number_on}
use Rattle.plant_file.proofs.PipesTold.{numbers_are, pipes_fit, numbers_few}
use Rattle.plant_file.proofs.tells.numbers_of.Goals as goal

are : goal.returns-clause-numbers
are c =
    numbers_are c.args.node.now c.args.tables.now c.in_ok-numbers.numbers.items c.sort.new.self.items c.dedup.new.self.items
    (c.in_ok-numbers.ensures ∙ ap (λ (l : List Entry). filter_map (number_on c.args.node.now) l) c.lines.ensures.entries)
    c.in_ok-sort.ensures.permutation c.in_ok-sort.ensures.sorted c.dedup.ensures.filtered

pub returns-clause-numbers : goal.returns-clause-numbers
returns-clause-numbers c = are c

pub returns-clause-fits : goal.returns-clause-fits
returns-clause-fits c = pipes_fit c.args.node.now c.args.tables.now c.lines.ensures.printable

pub returns-clause-few : goal.returns-clause-few
returns-clause-few c = numbers_few (node_in c.args.tables.now c.args.node.now) c.dedup.new.self.items (are c) (pipes_fit c.args.node.now c.args.tables.now c.lines.ensures.printable)
