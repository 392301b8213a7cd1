use Rattle.std.proofs.Common.{ap, ◌∙◌}
use Rattle.lab_model.specs.Courses.{node_names}
use Rattle.swap_plan.specs.Plans.{hosts_at, built, cleared}
use Rattle.swap_plan.proofs.plans.ops_in.Goals as goal

pub returns-clause-commands : goal.returns-clause-commands
returns-clause-commands c = c.in_ok-commands.ensures ∙ ap (λ oses. built c.args.lab.now c.args.wiring.now c.args.mapping.now c.args.rows.now (hosts_at (node_names c.args.lab.now) oses)) c.deref.ensures.value

pub returns-clause-undo : goal.returns-clause-undo
returns-clause-undo c = c.in_ok-undo.ensures ∙ ap (λ oses. cleared c.args.rows.now (hosts_at (node_names c.args.lab.now) oses)) c.deref-2.ensures.value
