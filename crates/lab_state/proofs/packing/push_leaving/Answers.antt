use Rattle.std.proofs.Common.{Option, Some, [], ◌∷◌, sym, subst}
use Rattle.std.specs.Prelude.{OnOk}
use Rattle.virt_topo.specs.declared.mapping.Mapped.{Mapped}
use Rattle.virt_topo.specs.declared.experiment.Phase.TheVariants.{Moving}
use Rattle.journal_rec.specs.declared.record.Record.TheVariants.{Begin}
use Rattle.journal_rec.specs.declared.record.Way.TheVariants.{Out as WayOut}
use Rattle.lab_state.specs.Packing.{turn, stand, packed_phase, PacksMore}
use Rattle.lab_state.specs.Texts.{the_texts}
use Rattle.lab_state.proofs.PackSteps.{packs_then}
use Rattle.lab_state.proofs.packing.push_leaving.Goals as goal

pub returns-in-Some : goal.returns-in-Some
returns-in-Some c =
    let lab = c.args.lab.now in
    let exp = c.args.exp in
    let old = c.args.old.now in
    subst (λ (o : Option Mapped). OnOk c.push_turn.result (PacksMore c.args.packed.now c.push_turn.new.packed (packed_phase the_texts lab exp old.wiring (Moving (Some old) o)))) (sym c.in-Some.is)
    (packs_then c.push_turn.result c.args.packed.now c.push_stand.new.packed c.push_turn.new.packed (stand the_texts lab exp old) (turn the_texts lab exp c.in-Some.new ∷ []) c.in_ok-push_stand.ensures c.push_turn.ensures)

pub returns-in-None : goal.returns-in-None
returns-in-None c =
    let lab = c.args.lab.now in
    let exp = c.args.exp in
    let old = c.args.old.now in
    subst (λ (o : Option Mapped). OnOk c.push_exit.result (PacksMore c.args.packed.now c.push_exit.new.packed (packed_phase the_texts lab exp old.wiring (Moving (Some old) o)))) (sym c.in-None.is)
    (packs_then c.push_exit.result c.args.packed.now c.push_stand.new.packed c.push_exit.new.packed (stand the_texts lab exp old) (Begin exp WayOut ∷ []) c.in_ok-push_stand.ensures c.push_exit.ensures)

pub push_turn-requires : goal.push_turn-requires
push_turn-requires c = c.requires.new c.in-Some.new c.in-Some.is
