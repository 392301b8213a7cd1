use Rattle.std.proofs.Common.{◌≡◌, ◌∷◌, rules, ◌∙◌}
use Rattle.feas.proofs.JoinLaws.{star}
use Rattle.map_state.proofs.joints.are_joined.Goals as goal

pub returns-in-Some : goal.returns-in-Some
returns-in-Some c =
    let is : c.args.plugs.now ≡ c.in-Some.first.now ∷ c.in-Some._others.now = search rules in
    c.is_joined_to_all.ensures ∙ star c.args.lab.now c.in-Some.first.now c.in-Some._others.now c.args.plugs.now is
