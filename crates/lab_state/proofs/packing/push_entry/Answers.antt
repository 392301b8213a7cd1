use Rattle.std.proofs.Common.{◌≤◌, ℕ, List, [], ◌∷◌, length, subst, sym}
use Rattle.std.specs.Prelude.{OnOk}
use Rattle.lab_base.specs.declared.ids.VlanId.{VlanId}
use Rattle.virt_topo.specs.Wirings.{mapped}
use Rattle.journal_rec.specs.declared.record.Record.TheVariants.{Begin}
use Rattle.journal_rec.specs.declared.record.Way.TheVariants.{In as WayIn}
use Rattle.lab_state.specs.Packing.{PacksMore}
use Rattle.lab_state.proofs.PackSteps.{entry_short, few_tags}
use Rattle.lab_state.proofs.packing.push_entry.Goals as goal

pub push-requires : goal.push-requires
push-requires c =
    let few = few_tags c.args.lab.now (mapped c.args.wiring.now c.args.mapping.now c.args.tags.now) c.requires in
    entry_short c.args.exp c.in_ok-map.map c.in_ok-tags.tags c.bytes-named.ensures.named (c.in_ok-map.ensures.size c.requires.sound) (subst (λ (l : List VlanId). length l ≤ 512) (sym c.in_ok-tags.ensures) few)

pub returns : goal.returns
returns c =
    subst (λ (t : List ℕ). OnOk c.push.result (PacksMore c.args.packed.now c.push.new.packed (Begin c.args.exp (WayIn t c.args.tags.now) ∷ []))) c.in_ok-map.ensures.text
    (subst (λ (l : List VlanId). OnOk c.push.result (PacksMore c.args.packed.now c.push.new.packed (Begin c.args.exp (WayIn c.in_ok-map.map l) ∷ []))) c.in_ok-tags.ensures c.push.ensures)
