use Rattle.std.proofs.Common.{arith, map, refl}
use Rattle.std.proofs.lemmas.List.{map-append}
use Rattle.plant.specs.declared.device.DeviceOp.TheVariants.{Wipe}
use Rattle.swap_plan.specs.Plans.{Host}
use Rattle.swap_plan.proofs.TableLaws.{listed_more, listed_all}
use Rattle.swap_plan.proofs.plans.push_wipes.Goals as goal

pub loop-node-preserved : goal.loop-node-preserved
loop-node-preserved c =
    listed_more (map (λ (h : Host). Wipe h.node)) (map-append (λ (h : Host). Wipe h.node)) c.args.lab.now c.args.oses.now c.requires.one_each c.loop-node.node _ _ _ c.args.listed.now c.loop-node.listed _
    (omega (arith, c.loop-node-test.true)) refl c.index-oses-node.is c.loop-node.invariant c.in_ok-push_wipe.ensures

pub returns : goal.returns
returns c =
    listed_all (map (λ (h : Host). Wipe h.node)) (map-append (λ (h : Host). Wipe h.node)) c.args.lab.now c.args.oses.now c.requires.one_each c.loop-node.node c.args.listed.now c.loop-node.listed (omega (arith, c.loop-node-test.false)) c.loop-node.invariant
