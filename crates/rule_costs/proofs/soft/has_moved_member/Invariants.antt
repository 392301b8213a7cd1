use Rattle.std.proofs.Common.{◌≡◌, ◌<◌, ℕ, true}
use Rattle.virt_topo.specs.Wirings.{virt_at}
use Rattle.lab_model.specs.Rules.{is_member, place_at}
use Rattle.rule_costs.proofs.soft.has_moved_member.Given as goal

abbrev pub invariant-loop-virt : goal.invariant-loop-virt
invariant-loop-virt l =
    (v : ℕ) → v < l.virt → is_member l.class (virt_at l.wiring v).asks ≡ true → place_at l.from v ≡ place_at l.to v
