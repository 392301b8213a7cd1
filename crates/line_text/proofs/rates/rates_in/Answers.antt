use Rattle.std.proofs.Common.{◌∙◌}
use Rattle.lab_base.specs.Kinds.{both_of}
use Rattle.line_text.specs.Rates.{as_rates}
use Rattle.line_text.proofs.rates.rates_in.Goals as goal

pub returns : goal.returns
returns c =
    let behind = c.both-behind.ensures ∙ (λ i. both_of (c.weight_in-delay.ensures i) (c.weight_in-loss.ensures i)) in
    let whole = c.both-whole.ensures ∙ (λ i. both_of (c.number_in-speed.ensures i) (behind i)) in
    c.as_rates.ensures ∙ (λ i. as_rates (whole i))
