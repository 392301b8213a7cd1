use Rattle.std.proofs.Common.{◌≡◌, ◌≤◌, ℕ, List, length, sym, subst, ap, ◌∙◌, arith}
use Rattle.std.proofs.lemmas.Grind.{common_steps}
use Rattle.ptop_text.specs.Adding.{lab_of_text}
use Rattle.ptop_text.specs.Canonical.{canonical}
use Rattle.ptop_text.proofs.LabAgain.{canonical_again}
use Rattle.ptop_text.proofs.Sizes.{canonical_length}
use Rattle.ptop_text.proofs.print.print_ptop.Goals as goal

pub returns-clause-again : goal.returns-clause-again
returns-clause-again c =
    let text : c.push_trunks.new.text ≡ canonical c.args.lab.now = grind (arith, common_steps) in
    ap lab_of_text text ∙ canonical_again c.args.lab.now c.range.ensures.lab

pub returns-clause-size : goal.returns-clause-size
returns-clause-size c =
    let text : c.push_trunks.new.text ≡ canonical c.args.lab.now = grind (arith, common_steps) in
    subst (λ (t : List ℕ). length t ≤ 16777216) (sym text) (canonical_length c.args.lab.now c.range.ensures.lab)
