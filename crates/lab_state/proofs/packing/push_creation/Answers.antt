use Rattle.std.proofs.Common.{ℕ, Bool, List, [], ◌∷◌, subst, sym, ap, ◌∙◌}
use Rattle.std.specs.Prelude.{OnOk}
use Rattle.virt_topo.specs.Sharing.{has_multiplexed}
use Rattle.journal_rec.specs.Payloads.{IsShort}
use Rattle.journal_rec.specs.declared.record.Record.{Record}
use Rattle.records_model.specs.Labs.{create_in}
use Rattle.lab_state.specs.Packing.{PacksMore}
use Rattle.lab_state.proofs.PackSteps.{creation_short}
use Rattle.lab_state.proofs.packing.push_creation.Goals as goal

pub push-requires : goal.push-requires
push-requires c = subst (λ (r : Record). IsShort r) (sym c.creation-entry.ensures) (creation_short c.has_multiplexed.result c.args.exp c.in_ok-top.top c.bytes-named.ensures.named (c.in_ok-top.ensures.size c.requires))

pub returns : goal.returns
returns c =
    subst (λ (r : Record). OnOk c.push.result (PacksMore c.args.packed.now c.push.new.packed (r ∷ [])))
    (c.creation-entry.ensures ∙ ap (λ (b : Bool). create_in b c.args.exp c.in_ok-top.top) c.has_multiplexed.ensures ∙ ap (λ (t : List ℕ). create_in (has_multiplexed c.args.wiring.now) c.args.exp t) c.in_ok-top.ensures.text)
    c.push.ensures
