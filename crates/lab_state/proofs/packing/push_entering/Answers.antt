use Rattle.std.proofs.Common.{[], ◌∷◌}
use Rattle.lab_state.specs.Packing.{creation, entry}
use Rattle.lab_state.specs.Texts.{the_texts}
use Rattle.lab_state.proofs.PackSteps.{packs_then}
use Rattle.lab_state.proofs.packing.push_entering.Goals as goal

pub returns : goal.returns
returns c =
    packs_then c.push_entry.result c.args.packed.now c.push_creation.new.packed c.push_entry.new.packed (creation the_texts c.args.exp c.args.new.now.wiring ∷ []) (entry the_texts c.args.lab.now c.args.exp c.args.new.now ∷ []) c.in_ok-push_creation.ensures c.push_entry.ensures
