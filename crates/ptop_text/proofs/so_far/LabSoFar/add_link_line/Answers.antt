use Rattle.std.proofs.Common.{sym, subst, ◌∙◌}
use Rattle.line_text.specs.Reading.{and_then}
use Rattle.ptop_text.specs.Adding.{with_link}
use Rattle.line_text.specs.Refusals.{Takes}
use Rattle.ptop_text.proofs.so_far.LabSoFar.add_link_line.Goals as goal

pub returns : goal.returns
returns c = subst (λ r. Takes c.add_link.result c.add_link.new.self (and_then r (with_link c.args.self.now))) (sym c.in_ok-link.was ∙ c.link_in.ensures) c.add_link.ensures
