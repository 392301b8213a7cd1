use Rattle.std.proofs.Common.{ℕ, ◌<◌, Option, sym, subst}
use Rattle.std.specs.Prelude.{IfSome}
use Rattle.solution_text.proofs.IfaceCount.{iface_fits}
use Rattle.solution_text.proofs.names.Names.iface.Goals as goal

pub returns-clause-within : goal.returns-clause-within
returns-clause-within c =
    subst (λ (o : Option ℕ). IfSome o (λ i. i < 65536)) (sym c.iface_by.ensures) (iface_fits c.args.self.now.lab.now c.args.name c.node-node.result c.range-kept.ensures.lab)
