use Rattle.std.proofs.Common.{◌≡◌, ◌≤◌, Option, false, subst, sym, arith}
use Rattle.std.proofs.lemmas.Bool.{leb-true}
use Rattle.map_anneal.specs.declared.priced.Priced.{Priced}
use Rattle.assign_core.specs.Bests.{is_below}
use Rattle.assign_core.proofs.Choosing.{not_below}
use Rattle.assign_core.proofs.prefix.are_dear.Goals as goal

pub returns-in-Some : goal.returns-in-Some
returns-in-Some g c = λ is cost above.
    let kept : Priced = c.in-Some.kept in
    let le : kept.cost ≤ c.ask_parts.result = leb-true kept.cost c.ask_parts.result is in
    subst (λ (o : Option Priced). is_below cost o ≡ false) (sym c.in-Some.is) (not_below cost kept (omega (arith, le, c.ask_parts.ensures, above)))
