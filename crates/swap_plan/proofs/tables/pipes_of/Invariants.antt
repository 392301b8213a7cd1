use Rattle.std.proofs.Common.{◌≡◌, filter, map, take}
use Rattle.std.specs.Str.{bytes_eq}
use Rattle.lab_model.specs.Courses.{node_names}
use Rattle.lab_model.specs.Wants.{place_of}
use Rattle.swap_plan.specs.Plans.{untagged}
use Rattle.swap_plan.proofs.tables.pipes_of.Given as goal

abbrev pub invariant-loop-pipe : goal.invariant-loop-pipe
invariant-loop-pipe l = l.lists.items ≡ map (λ name. filter (λ p. bytes_eq (place_of l.lab (untagged l.wiring l.mapping) p.node) name) (take l.pipe-index l.wiring.pipes)) (node_names l.lab)
