use Rattle.std.specs.List.{flat_map}
use Rattle.std.proofs.Common.{[], arith, refl}
use Rattle.std.proofs.lemmas.Grind.{flat_map-append}
use Rattle.swap_plan.specs.Plans.{load_host}
use Rattle.swap_plan.proofs.TableLaws.{listed_more, listed_all}
use Rattle.swap_plan.proofs.loads.loads.Goals as goal

pub loop-node-preserved : goal.loop-node-preserved
loop-node-preserved c =
    listed_more (flat_map (load_host c.args.lab.now c.args.wiring.now c.args.mapping.now)) (flat_map-append (load_host c.args.lab.now c.args.wiring.now c.args.mapping.now)) c.args.lab.now c.args.oses.now c.requires.one_each c.loop-node.node _ _ _ [] c.loop-node.listed _
    (omega (arith, c.loop-node-test.true)) refl c.index-oses-node.is c.loop-node.invariant c.in_ok-push_loads.ensures

pub returns : goal.returns
returns c =
    listed_all (flat_map (load_host c.args.lab.now c.args.wiring.now c.args.mapping.now)) (flat_map-append (load_host c.args.lab.now c.args.wiring.now c.args.mapping.now)) c.args.lab.now c.args.oses.now c.requires.one_each c.loop-node.node [] c.loop-node.listed (omega (arith, c.loop-node-test.false)) c.loop-node.invariant
