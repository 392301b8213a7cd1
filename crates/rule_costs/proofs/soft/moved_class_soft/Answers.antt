use Rattle.std.proofs.Common.{◌≡◌, ℕ, ap, arith}
use Rattle.rule_costs.specs.declared.moved.Moved.{Moved}
use Rattle.rule_costs.proofs.SoftLaws.{class_alike}
use Rattle.rule_costs.proofs.soft.moved_class_soft.Goals as goal

pub returns-then-not-has_moved_member-clause-difference : goal.returns-then-not-has_moved_member-clause-difference
returns-then-not-has_moved_member-clause-difference c =
    let stay = c.has_moved_member.ensures c.if-not-has_moved_member.true in
    let same = class_alike c.args.wiring.now c.args.from.now c.args.to.now c.args.class c.requires.from c.requires.to stay in
    let before : ◌≡◌ {A = ℕ} c.nothing.result.before 0 = ap (λ (x : Moved). x.before) c.nothing.ensures in
    let after : ◌≡◌ {A = ℕ} c.nothing.result.after 0 = ap (λ (x : Moved). x.after) c.nothing.ensures in
    omega (arith, same, before, after)
