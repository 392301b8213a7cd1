use Rattle.std.proofs.Common.{Option, List, sym, subst}
use Rattle.std.specs.Prelude.{OnOk}
use Rattle.virt_topo.specs.declared.mapping.Mapped.{Mapped}
use Rattle.virt_topo.specs.declared.experiment.Phase.TheVariants.{Moving}
use Rattle.journal_rec.specs.declared.record.Record.{Record}
use Rattle.lab_state.specs.Packing.{packed_phase, PacksMore}
use Rattle.lab_state.specs.Texts.{the_texts}
use Rattle.lab_state.proofs.PackSteps.{leaving_any}
use Rattle.lab_state.proofs.packing.push_moving.Goals as goal

pub returns-in-Some : goal.returns-in-Some
returns-in-Some c =
    let lab = c.args.lab.now in
    let exp = c.args.exp in
    let old = c.in-Some.old in
    subst (λ (o : Option Mapped). OnOk c.push_leaving.result (PacksMore c.args.packed.now c.push_leaving.new.packed (packed_phase the_texts lab exp c.args.wiring.now (Moving o c.args.new.now)))) (sym c.in-Some.is)
    (subst (λ (l : List Record). OnOk c.push_leaving.result (PacksMore c.args.packed.now c.push_leaving.new.packed l)) (leaving_any the_texts lab exp old.wiring c.args.wiring.now old c.args.new.now) c.push_leaving.ensures)

pub push_leaving-requires-clause-old : goal.push_leaving-requires-clause-old
push_leaving-requires-clause-old c = c.requires.old c.in-Some.old c.in-Some.is
