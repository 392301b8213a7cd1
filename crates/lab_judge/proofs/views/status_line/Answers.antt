use Rattle.std.proofs.Common.{◌∙◌}
use Rattle.lab_judge.proofs.Claimed.{counted_of_one}
use Rattle.lab_judge.proofs.views.status_line.Goals as goal

pub returns : goal.returns
returns c = λ lab es is_lab of_es holding has.
    let e = c.args.experiment.now in
    let a = counted_of_one lab es c.args.claims.now e is_lab holding of_es has in
    let n = c.counted_of-counted.ensures.nodes ∙ a.nodes in
    let v = c.counted_of-counted.ensures.ids ∙ a.ids in
    λ i. record { exp = e.name; phase = c.phase_word.ensures i; nodes = n i; vlans = v i }
