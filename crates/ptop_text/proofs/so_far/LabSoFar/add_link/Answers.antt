use Rattle.std.proofs.Common.{sym, subst}
use Rattle.phys_lab.specs.declared.parts.Iface.{Iface}
use Rattle.phys_lab.specs.declared.parts.Trunk.{Trunk}
use Rattle.ptop_text.specs.Adding.{with_trunk_line, with_iface_line}
use Rattle.line_text.specs.Refusals.{Takes}
use Rattle.ptop_text.proofs.LinkLaws.{port_link, iface_link}
use Rattle.ptop_text.proofs.so_far.LabSoFar.add_link.Goals as goal

pub returns-in-Port : goal.returns-in-Port
returns-in-Port c =
    let first = c.switch_number.ensures in
    let second = c.switch_number-switch.ensures in
    let read = c.args.read in
    subst (λ r. Takes c.add_trunk.result c.add_trunk.new.self r) (sym (port_link c.args.self.now read c.in-Port.at c.in-Port.is))
    (subst (λ (t : Trunk). Takes c.add_trunk.result c.add_trunk.new.self (with_trunk_line c.args.self.now read.1.0.0 read.1.1.0.0 t))
    (λ i. record { link = read.0; first = (first i, c.in-Port.at); second = (second i, read.1.1.0.1); kbps = read.1.1.1 })
    c.add_trunk.ensures)

pub returns-in-Iface : goal.returns-in-Iface
returns-in-Iface c =
    let first = c.node_number.ensures in
    let second = c.switch_number-switch.ensures in
    let read = c.args.read in
    subst (λ r. Takes c.add_iface.result c.add_iface.new.self r) (sym (iface_link c.args.self.now read c.in-Iface.name c.in-Iface.is))
    (subst (λ (t : Iface). Takes c.add_iface.result c.add_iface.new.self (with_iface_line c.args.self.now read.1.0.0 read.1.1.0.0 t))
    (λ i. record { link = read.0; node = first i; name = c.in-Iface.name; switch = second i; port = read.1.1.0.1; kbps = read.1.1.1 })
    c.add_iface.ensures)
