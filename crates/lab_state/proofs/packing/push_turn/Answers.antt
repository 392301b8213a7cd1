use Rattle.std.proofs.Common.{◌≤◌, ℕ, Bool, List, [], ◌∷◌, length, subst, sym, ap, ◌∙◌}
use Rattle.std.specs.Prelude.{OnOk}
use Rattle.lab_base.specs.declared.ids.VlanId.{VlanId}
use Rattle.virt_topo.specs.Sharing.{has_multiplexed}
use Rattle.journal_rec.specs.Payloads.{IsShort}
use Rattle.journal_rec.specs.declared.record.Record.TheVariants.{Begin}
use Rattle.journal_rec.specs.declared.record.Way.{Way}
use Rattle.records_model.specs.Labs.{change_in}
use Rattle.lab_state.specs.Packing.{PacksMore}
use Rattle.lab_state.specs.Texts.{the_texts}
use Rattle.lab_state.proofs.PackSteps.{turn_short, few_tags}
use Rattle.lab_state.proofs.packing.push_turn.Goals as goal

pub push-requires : goal.push-requires
push-requires c =
    let few = few_tags c.args.lab.now c.args.new.now c.requires in
    subst (λ (w : Way). IsShort (Begin c.args.exp w)) (sym c.change-way.ensures)
    (turn_short c.has_multiplexed.result c.args.exp c.in_ok-top.top c.in_ok-map.map c.in_ok-tags.tags c.bytes-named.ensures.named (c.in_ok-top.ensures.size c.requires.sound) (c.in_ok-map.ensures.size c.requires.sound)
    (subst (λ (l : List VlanId). length l ≤ 512) (sym c.in_ok-tags.ensures) few))

pub returns : goal.returns
returns c =
    let new = c.args.new.now in
    let second = has_multiplexed new.wiring in
    let map = the_texts.solution c.args.lab.now new.wiring new.mapping in
    let top = the_texts.top new.wiring in
    subst (λ (w : Way). OnOk c.push.result (PacksMore c.args.packed.now c.push.new.packed (Begin c.args.exp w ∷ [])))
    (c.change-way.ensures
    ∙ ap (λ (b : Bool). change_in b c.in_ok-top.top c.in_ok-map.map c.in_ok-tags.tags) c.has_multiplexed.ensures
    ∙ ap (λ (t : List ℕ). change_in second t c.in_ok-map.map c.in_ok-tags.tags) c.in_ok-top.ensures.text
    ∙ ap (λ (t : List ℕ). change_in second top t c.in_ok-tags.tags) c.in_ok-map.ensures.text
    ∙ ap (λ (l : List VlanId). change_in second top map l) c.in_ok-tags.ensures)
    c.push.ensures
