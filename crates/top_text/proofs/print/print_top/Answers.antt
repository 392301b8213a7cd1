use Rattle.std.proofs.Common.{◌≡◌, ◌≤◌, ℕ, List, length, ap, sym, subst, arith, ◌∙◌}
use Rattle.std.proofs.lemmas.Grind.{common_steps}
use Rattle.top_text.specs.Adding.{wiring_of_text}
use Rattle.top_text.specs.Canonical.{canonical_top}
use Rattle.top_text.proofs.TopWhole.{top_again}
use Rattle.top_text.proofs.TopSizes.{top_length}
use Rattle.top_text.proofs.print.print_top.Goals as goal

pub returns-clause-again : goal.returns-clause-again
returns-clause-again c = λ sound.
    let w = c.args.wiring.now in
    let text : c.push_all.new.text ≡ canonical_top w = grind (arith, common_steps) in
    ap wiring_of_text text ∙ top_again w sound c.in_ok-push_all.ensures.named

pub returns-clause-size : goal.returns-clause-size
returns-clause-size c = λ sound.
    let w = c.args.wiring.now in
    let text : c.push_all.new.text ≡ canonical_top w = grind (arith, common_steps) in
    subst (λ (t : List ℕ). length t ≤ 16777216) (sym text) (top_length w sound c.in_ok-push_all.ensures.named)
