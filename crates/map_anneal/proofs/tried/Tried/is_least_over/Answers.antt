use Rattle.std.proofs.Common.{◌≤◌, arith}
use Rattle.std.proofs.lemmas.Bool.{leb-true}
use Rattle.map_anneal.proofs.tried.Tried.is_least_over.Goals as goal

pub returns : goal.returns
returns g c = λ is plugs.
    let le : c.args.below ≤ c.from.result = leb-true c.args.below c.from.result is in
    let least = c.parts_at_rest.ensures.least c.args.rule.now.number plugs in
    omega (arith, le, c.from.ensures, c.ask_parts.ensures, least)
