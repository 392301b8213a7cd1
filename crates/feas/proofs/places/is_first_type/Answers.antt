use Rattle.std.proofs.Common.{◌≡◌, ◌+◌, Bool, false, cond, drop, get_or, sym, ap, arith, ◌∙◌}
use Rattle.virt_topo.specs.declared.wiring.VirtNode.{VirtNode}
use Rattle.virt_topo.specs.Wirings.{no_virt}
use Rattle.lab_model.specs.Rules.{is_member, first_type, no_place}
use Rattle.feas.proofs.HostedNodeLaws.{first_step}
use Rattle.feas.proofs.places.is_first_type.Goals as goal

pub loop-virt-preserved : goal.loop-virt-preserved
loop-virt-preserved c =
    let vs = c.args.wiring.now.nodes in
    let places = c.args.mapping.now.places in
    let step = first_step c.args.class vs places c.loop-virt.virt no_virt no_place (omega arith) (omega arith) in
    let other : is_member c.args.class (get_or vs c.loop-virt.virt no_virt).asks ≡ false = sym (ap (λ (v : VirtNode). is_member c.args.class v.asks) c.virt_at.ensures) ∙ sym c.is_member.ensures ∙ c.if-is_member.false in
    let later = first_type c.args.class (drop (c.loop-virt.virt + 1) vs) (drop (c.loop-virt.virt + 1) places) in
    sym (step ∙ ap (λ (b : Bool). cond b (get_or places c.loop-virt.virt no_place).1 later) other) ∙ c.loop-virt.invariant
