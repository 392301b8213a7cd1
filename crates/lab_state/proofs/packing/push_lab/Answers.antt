use Rattle.std.proofs.Common.{ℕ, List, [], ◌∷◌, subst}
use Rattle.std.specs.Prelude.{OnOk}
use Rattle.journal_rec.specs.declared.record.Record.TheVariants.{Lab}
use Rattle.lab_state.specs.Packing.{PacksMore}
use Rattle.lab_state.proofs.PackSteps.{lab_is_short}
use Rattle.lab_state.proofs.packing.push_lab.Goals as goal

pub push-requires : goal.push-requires
push-requires c = lab_is_short c.in_ok-ptop.ptop c.in_ok-ptop.ensures.size

pub returns : goal.returns
returns c = subst (λ (t : List ℕ). OnOk c.push.result (PacksMore c.args.packed.now c.push.new.packed (Lab t ∷ []))) c.in_ok-ptop.ensures.text c.push.ensures
