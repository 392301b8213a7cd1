use Rattle.std.proofs.Common.{sym, arith}
use Rattle.lab_base.proofs.Members.{Has-slice_get}
use Rattle.lab_state.specs.Packing.{packed_one}
use Rattle.lab_state.specs.Texts.{the_texts}
use Rattle.lab_state.proofs.PackSteps.{packs_none, packs_push, packs_all}
use Rattle.lab_state.proofs.packing.push_all.Goals as goal

pub loop-n-init : goal.loop-n-init
loop-n-init c = packs_none c.args.packed.now

pub push_one-requires : goal.push_one-requires
push_one-requires c =
    let e = c.in-Some.experiment.now in
    let has = Has-slice_get c.args.experiments.now.list c.loop-n.n e (sym c.in-Some.ensures) in
    record { sound = c.requires.sound e has; fits = λ which m is. c.requires.fits e which m has is }

pub loop-n-preserved : goal.loop-n-preserved
loop-n-preserved c =
    packs_push (packed_one the_texts c.args.lab.now) c.args.packed.now c.loop-n.packed c.push_one.new.packed c.args.experiments.now.list c.loop-n.n c.in-Some.experiment.now (sym c.in-Some.ensures) c.loop-n.invariant c.in_ok-push_one.ensures

pub returns : goal.returns
returns c = packs_all (packed_one the_texts c.args.lab.now) c.args.packed.now c.loop-n.packed c.args.experiments.now.list c.loop-n.n (omega arith) c.loop-n.invariant
