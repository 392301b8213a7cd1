use Rattle.std.specs.Option.{option_or}
use Rattle.std.proofs.Common.{◌≡◌, [], cond, None, get_or, refl, ◌∙◌}
use Rattle.lab_model.specs.Courses.{node_names}
use Rattle.swap_plan.specs.Plans.{os_of}
use Rattle.swap_plan.proofs.TableLaws.{os_there}
use Rattle.swap_plan.proofs.changes.fresh_node.Goals as goal

pub returns-clause-leaving : goal.returns-clause-leaving
returns-clause-leaving c =
    let lab = c.args.change.now.lab.now in
    let old = c.args.change.now.old.now in
    let name = get_or (node_names lab) c.args.node [] in
    let one : c.index-one.result.now ≡ os_of lab old name = c.index-one.ensures ∙ os_there lab (os_of lab old) c.args.change.now.before.now.oses.items c.args.node name c.index-one.result.now c.requires.change.before.oses c.requires.node refl in
    c.fresh_os-leaving.ensures ∙ (λ i. cond (c.is_kept-kept.ensures i) None (one i))

pub returns-clause-coming : goal.returns-clause-coming
returns-clause-coming c =
    let lab = c.args.change.now.lab.now in
    let new = c.args.change.now.new.now in
    let name = get_or (node_names lab) c.args.node [] in
    let other : c.index-other.result.now ≡ os_of lab new name = c.index-other.ensures ∙ os_there lab (os_of lab new) c.args.change.now.after.now.oses.items c.args.node name c.index-other.result.now c.requires.change.after.oses c.requires.node refl in
    c.fresh_os-coming.ensures ∙ (λ i. cond (c.is_kept-kept.ensures i) None (other i))

pub returns-clause-wiped : goal.returns-clause-wiped
returns-clause-wiped c =
    let lab = c.args.change.now.lab.now in
    let old = c.args.change.now.old.now in
    let new = c.args.change.now.new.now in
    let name = get_or (node_names lab) c.args.node [] in
    let one : c.index-one.result.now ≡ os_of lab old name = c.index-one.ensures ∙ os_there lab (os_of lab old) c.args.change.now.before.now.oses.items c.args.node name c.index-one.result.now c.requires.change.before.oses c.requires.node refl in
    let other : c.index-other.result.now ≡ os_of lab new name = c.index-other.ensures ∙ os_there lab (os_of lab new) c.args.change.now.after.now.oses.items c.args.node name c.index-other.result.now c.requires.change.after.oses c.requires.node refl in
    c.wiped_os-wiped.ensures ∙ (λ i. cond (c.is_kept-kept.ensures i) None (option_or (one i) (other i)))
