use Rattle.std.proofs.Common.{List, sym, subst}
use Rattle.phys_lab.specs.declared.parts.Iface.{Iface}
use Rattle.solution_text.specs.Names.{IsIface}
use Rattle.solution_text.proofs.OwnNames.{iface_found}
use Rattle.solution_text.proofs.near.find_iface.Goals as goal

pub returns-in-Some : goal.returns-in-Some
returns-in-Some c =
    sym (iface_found c.args.lab.now c.range-kept.ensures.lab c.args.node c.args.name c.in-Some.number
    (subst (λ (l : List Iface). IsIface l c.args.node c.args.name c.in-Some.number) c.ifaces.ensures.list c.in-Some.ensures))
