use Rattle.lab_tasks.proofs.JudgeSwap.{entry_if, ids_fit, sound_of, tags_as_many}
use Rattle.lab_tasks.proofs.swap.swap_to.Goals as goal

pub take_tags-requires-clause-there : goal.take_tags-requires-clause-there
take_tags-requires-clause-there c = c.requires.out.there

pub take_tags-requires-clause-keeps : goal.take_tags-requires-clause-keeps
take_tags-requires-clause-keeps c = (c.args.mapping.now, c.requires.keeps)

pub plan_swap_in-requires-clause-sound : goal.plan_swap_in-requires-clause-sound
plan_swap_in-requires-clause-sound c = sound_of c.args.case.now.state.now.state c.args.case.now.lab.now c.args.case.now.experiment.now c.requires.out.there

pub plan_swap_in-requires-clause-shaped : goal.plan_swap_in-requires-clause-shaped
plan_swap_in-requires-clause-shaped c = c.requires.keeps.shaped

pub plan_swap_in-requires-clause-tagged : goal.plan_swap_in-requires-clause-tagged
plan_swap_in-requires-clause-tagged c = tags_as_many c.args.case.now.state.now.state c.args.case.now.lab.now c.args.case.now.experiment.now c.args.case.now.experiment.now.wiring c.args.mapping.now c.in_ok-tags.tags c.requires.out.there (c.in_ok-tags.ensures c.args.mapping.now c.requires.keeps)

pub plan_swap_in-requires-clause-ids : goal.plan_swap_in-requires-clause-ids
plan_swap_in-requires-clause-ids c = ids_fit c.args.case.now.state.now.state c.args.case.now.lab.now c.args.case.now.experiment.now c.args.case.now.experiment.now.wiring c.args.mapping.now c.in_ok-tags.tags c.requires.out.there (c.in_ok-tags.ensures c.args.mapping.now c.requires.keeps)

pub returns-clause-task : goal.returns-clause-task
returns-clause-task c = (entry_if c.args.case.now.state.now.state c.args.case.now.lab.now c.args.case.now.experiment.now c.args.mapping.now c.in_ok-tags.tags c.requires.out c.requires.keeps (c.in_ok-tags.ensures c.args.mapping.now c.requires.keeps) c.plan_swap_in.result c.plan_swap_in.ensures).0

pub returns-clause-can : goal.returns-clause-can
returns-clause-can c = (entry_if c.args.case.now.state.now.state c.args.case.now.lab.now c.args.case.now.experiment.now c.args.mapping.now c.in_ok-tags.tags c.requires.out c.requires.keeps (c.in_ok-tags.ensures c.args.mapping.now c.requires.keeps) c.plan_swap_in.result c.plan_swap_in.ensures).1
