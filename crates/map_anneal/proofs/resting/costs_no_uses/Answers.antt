use Rattle.std.proofs.Common.{◌≡◌, ◌<◌, ◌∙◌, ℕ, sym, arith}
use Rattle.std.proofs.lemmas.Bool.{eqb-true}
use Rattle.cost_rule.specs.declared.parts.Parts.{Parts}
use Rattle.cost_rule.proofs.UseLaws.{parts_without_uses, hangs_on_none}
use Rattle.map_anneal.proofs.resting.costs_no_uses.Goals as goal

pub ask_parts-requires : goal.ask_parts-requires
ask_parts-requires g c = parts_without_uses c.args.parts c.requires

pub returns : goal.returns
returns g c = λ is.
    let number = c.args.rule.now.number in
    let p : Parts = c.args.parts in
    let some : 0 < p.uses = omega (arith, c.if-parts-eq0.false) in
    let alike : ◌≡◌ {A = ℕ} c.ask_parts.result c.ask_parts-2.result = eqb-true c.ask_parts.result c.ask_parts-2.result is in
    hangs_on_none number p some (sym c.ask_parts-2.ensures ∙ sym alike ∙ c.ask_parts.ensures)
