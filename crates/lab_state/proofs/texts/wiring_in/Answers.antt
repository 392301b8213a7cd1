use Rattle.std.proofs.Common.{◌≡◌, true, false, sym, ◌∙◌}
use Rattle.std.specs.Cmp.{booleans_Decides}
use Rattle.lab_state.proofs.SwapLaws.{other_format}
use Rattle.lab_state.proofs.texts.wiring_in.Goals as goal

pub returns-else-has_multiplexed-second-clause-bad : goal.returns-else-has_multiplexed-second-clause-bad
returns-else-has_multiplexed-second-clause-bad c =
    other_format c.in_ok-wiring.wiring c.args.text.now c.args.second c.in_ok-wiring.ensures.ok.0 c.in_ok-wiring.ensures.ok.1
    (λ is. let both : false ≡ true = sym c.if-has_multiplexed-second.false ∙ (booleans_Decides c.has_multiplexed.result c.args.second).1 (c.has_multiplexed.ensures ∙ is) in cc both)
