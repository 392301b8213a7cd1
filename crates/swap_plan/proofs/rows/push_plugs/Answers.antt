use Rattle.std.proofs.Common.{◌∙◌, ◌++◌, ◌∷◌, [], ap}
use Rattle.lab_model.specs.Wants.{plug_row}
use Rattle.swap_plan.proofs.RowLaws.{pushed_more}
use Rattle.swap_plan.proofs.rows.push_plugs.Goals as goal

pub plug_port-requires : goal.plug_port-requires
plug_port-requires c = c.requires c.loop-plug.plug-index (record { 0 = 0 }) c.loop-plug-test.true

pub loop-plug-preserved : goal.loop-plug-preserved
loop-plug-preserved c =
    let old = c.loop-plug.rows.items in
    pushed_more (plug_row c.args.lab.now c.args.vlan.0) c.args.plugs.now c.loop-plug.plug-index (record { 0 = 0 }) c.args.rows.now.items old _ c.loop-plug-test.true c.loop-plug.invariant
    (c.in_ok-push.ensures.items ∙ ap (λ row. old ++ row ∷ []) c.plug_port.ensures)
