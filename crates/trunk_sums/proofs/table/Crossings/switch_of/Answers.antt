use Rattle.std.proofs.Common.{◌<◌, ◌∙◌, ℕ, length, ap, sym, subst, arith}
use Rattle.std.proofs.lemmas.List.{length-map}
use Rattle.lab_base.specs.declared.ids.SwitchId.{SwitchId}
use Rattle.trunk_sums.specs.Between.{no_iface}
use Rattle.trunk_sums.proofs.BetweenLaws.{switch_read}
use Rattle.trunk_sums.proofs.table.Crossings.switch_of.Goals as goal

pub index-requires : goal.index-requires
index-requires c = omega (arith, c.requires.plug, ap length c.requires.table.switches, length-map c.args.lab.now.ifaces (λ i. i.switch))

pub returns-clause-is : goal.returns-clause-is
returns-clause-is c = ap (λ (x : SwitchId). x.0) (c.index.ensures ∙ switch_read c.args.lab.now c.args.self.now.switches.items c.args.plug.0 c.index.result.now c.requires.table.switches c.requires.plug)

pub returns-clause-within : goal.returns-clause-within
returns-clause-within c =
    let linked = c.ifaces-linked.ensures.linked in
    subst (λ (n : ℕ). n < length c.args.lab.now.switches) (sym (returns-clause-is c)) (linked.switches c.args.plug.0 no_iface c.requires.plug)
