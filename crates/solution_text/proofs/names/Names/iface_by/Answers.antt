use Rattle.std.proofs.Common.{Option, ℕ, sym, ap, ◌∙◌}
use Rattle.solution_text.specs.Solutions.{iface_by}
use Rattle.solution_text.proofs.names.Names.iface_by.Goals as goal

pub returns-in-Some : goal.returns-in-Some
returns-in-Some c = c.iface_on.ensures ∙ ap (λ (v : Option ℕ). iface_by c.args.self.now.lab.now c.args.name v) (sym c.in-Some.is)
