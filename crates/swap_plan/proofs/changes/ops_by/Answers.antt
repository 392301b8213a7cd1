use Rattle.std.proofs.Common.{◌≡◌, length, ap, ◌∙◌}
use Rattle.lab_model.specs.Courses.{node_names}
use Rattle.swap_plan.specs.Plans.{hosts_at, fresh_os, wiped_os, changed}
use Rattle.swap_plan.proofs.Hosts.{hosts_by}
use Rattle.swap_plan.proofs.PlanLaws.{change_commands, change_undo}
use Rattle.swap_plan.proofs.TableLaws.{hosts_are, one_for_each}
use Rattle.swap_plan.proofs.changes.ops_by.Goals as goal

pub returns-clause-commands : goal.returns-clause-commands
returns-clause-commands c =
    let lab = c.args.change.now.lab.now in
    let old = c.args.change.now.old.now in
    let new = c.args.change.now.new.now in
    let names = node_names lab in
    let leaving : hosts_at names c.deref.result.now ≡ hosts_by (fresh_os lab old new old) names = ap (hosts_at names) (c.deref.ensures.value ∙ c.requires.fresh.leaving) ∙ hosts_are (fresh_os lab old new old) names in
    let coming : hosts_at names c.deref-2.result.now ≡ hosts_by (fresh_os lab old new new) names = ap (hosts_at names) (c.deref-2.ensures.value ∙ c.requires.fresh.coming) ∙ hosts_are (fresh_os lab old new new) names in
    c.in_ok-commands.ensures ∙ (λ i. changed lab new (c.requires.left i) (leaving i) (c.requires.rows i) (coming i)) ∙ change_commands lab old new c.requires.change.old_fit c.requires.change.new_fit

pub returns-clause-undo : goal.returns-clause-undo
returns-clause-undo c =
    let lab = c.args.change.now.lab.now in
    let old = c.args.change.now.old.now in
    let new = c.args.change.now.new.now in
    let names = node_names lab in
    let leaving : hosts_at names c.deref.result.now ≡ hosts_by (fresh_os lab old new old) names = ap (hosts_at names) (c.deref.ensures.value ∙ c.requires.fresh.leaving) ∙ hosts_are (fresh_os lab old new old) names in
    let wiped : hosts_at names c.deref-3.result.now ≡ hosts_by (wiped_os lab old new) names = ap (hosts_at names) (c.deref-3.ensures.value ∙ c.requires.fresh.wiped) ∙ hosts_are (wiped_os lab old new) names in
    c.in_ok-undo.ensures ∙ (λ i. changed lab old (c.requires.rows i) (wiped i) (c.requires.left i) (leaving i)) ∙ change_undo lab old new c.requires.change.old_fit c.requires.change.new_fit

pub changing-requires-clause-fit : goal.changing-requires-clause-fit
changing-requires-clause-fit c = c.requires.change.new_fit

pub changing-requires-clause-table : goal.changing-requires-clause-table
changing-requires-clause-table c = c.requires.change.after

pub changing-requires-clause-left : goal.changing-requires-clause-left
changing-requires-clause-left c =
    let x = c.args.change.now in
    ap length c.deref.ensures.value ∙ one_for_each x.lab.now (fresh_os x.lab.now x.old.now x.new.now x.old.now) _ c.requires.fresh.leaving

pub changing-requires-clause-wanted : goal.changing-requires-clause-wanted
changing-requires-clause-wanted c =
    let x = c.args.change.now in
    ap length c.deref-2.ensures.value ∙ one_for_each x.lab.now (fresh_os x.lab.now x.old.now x.new.now x.new.now) _ c.requires.fresh.coming

pub changing-requires-2-clause-fit : goal.changing-requires-2-clause-fit
changing-requires-2-clause-fit c = c.requires.change.old_fit

pub changing-requires-2-clause-table : goal.changing-requires-2-clause-table
changing-requires-2-clause-table c = c.requires.change.before

pub changing-requires-2-clause-left : goal.changing-requires-2-clause-left
changing-requires-2-clause-left c =
    let x = c.args.change.now in
    ap length c.deref-3.ensures.value ∙ one_for_each x.lab.now (wiped_os x.lab.now x.old.now x.new.now) _ c.requires.fresh.wiped

pub changing-requires-2-clause-wanted : goal.changing-requires-2-clause-wanted
changing-requires-2-clause-wanted c =
    let x = c.args.change.now in
    ap length c.deref.ensures.value ∙ one_for_each x.lab.now (fresh_os x.lab.now x.old.now x.new.now x.old.now) _ c.requires.fresh.leaving
