use Rattle.std.proofs.Common.{[], ◌∷◌}
use Rattle.virt_topo.specs.Wirings.{mapped}
use Rattle.journal_rec.specs.declared.record.Record.TheVariants.{Commit}
use Rattle.lab_state.specs.Packing.{creation, entry}
use Rattle.lab_state.specs.Texts.{the_texts}
use Rattle.lab_state.proofs.PackSteps.{packs_on, packs_then}
use Rattle.lab_state.proofs.packing.push_stand.Goals as goal

pub returns : goal.returns
returns c =
    let m = mapped c.args.wiring.now c.args.mapping.now c.args.tags.now in
    let first = creation the_texts c.args.exp c.args.wiring.now ∷ [] in
    let second = entry the_texts c.args.lab.now c.args.exp m ∷ [] in
    let both = packs_on c.args.packed.now c.push_creation.new.packed c.push_entry.new.packed first second c.in_ok-push_creation.ensures c.in_ok-push_entry.ensures in
    packs_then c.push_commit.result c.args.packed.now c.push_entry.new.packed c.push_commit.new.packed (creation the_texts c.args.exp c.args.wiring.now ∷ entry the_texts c.args.lab.now c.args.exp m ∷ []) (Commit c.args.exp ∷ []) both c.push_commit.ensures
