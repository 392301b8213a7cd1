use Rattle.std.proofs.Common.{◌≡◌, ℕ, refl, ap, sym, subst, arith}
use Rattle.virt_topo.specs.declared.mapping.Mapping.{Mapping}
use Rattle.cost_rule.specs.declared.parts.Parts.{Parts}
use Rattle.cost_rule.specs.Parts.{parts_of, cost_of_parts, without_uses, AreParts}
use Rattle.cost_rule.proofs.PartLaws.{cost_is}
use Rattle.cost_rule.proofs.UseLaws.{parts_without_uses, costs_less}
use Rattle.map_state.proofs.state.MapState.parts_at_rest.Goals as goal

pub returns-clause-parts : goal.returns-clause-parts
returns-clause-parts c =
    let hosting = c.requires.state.hosting in
    (λ j. record { uses = 0; nodes = hosting.nodes j; soft = hosting.soft j })

pub returns-clause-fit : goal.returns-clause-fit
returns-clause-fit c =
    let x = c.args.search.now.mapper in
    let m = c.args.self.now.mapping in
    let are : AreParts (parts_of x.lab.now x.wiring.now m) = record {
      lab = x.lab.now;
      wiring = x.wiring.now;
      mapping = m;
      kept = c.range-kept.ensures.lab;
      sound = c.requires.search.mapper.sound;
      shaped = c.requires.state.shaped;
      are = refl;
    } in
    subst (λ (q : Parts). AreParts q) (sym (returns-clause-parts c)) (parts_without_uses (parts_of x.lab.now x.wiring.now m) are)

pub returns-clause-least : goal.returns-clause-least
returns-clause-least c = λ number plugs.
    let x = c.args.search.now.mapper in
    let hosting = c.args.self.now.hosting in
    let m : Mapping = record { places = c.args.self.now.mapping.places; plugs = plugs } in
    let less = costs_less number (parts_of x.lab.now x.wiring.now m) in
    let same : ◌≡◌ {A = ℕ} (cost_of_parts number (record { uses = 0; nodes = hosting.nodes; soft = hosting.soft })) (cost_of_parts number (without_uses (parts_of x.lab.now x.wiring.now m))) = ap (cost_of_parts number) (returns-clause-parts c) in
    let whole = cost_is number x.lab.now x.wiring.now m in
    omega (arith, less, same, whole)
