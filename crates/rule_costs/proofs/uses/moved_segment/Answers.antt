use Rattle.std.proofs.Common.{◌≡◌, ℕ, List, ap, arith}
use Rattle.lab_base.specs.declared.ids.IfaceId.{IfaceId}
use Rattle.rule_costs.specs.declared.moved.Moved.{Moved}
use Rattle.rule_costs.specs.Uses.{uses_of}
use Rattle.rule_costs.proofs.UseLaws.{plugs_same}
use Rattle.rule_costs.proofs.uses.moved_segment.Goals as goal

pub returns-then-eq-clause-difference : goal.returns-then-eq-clause-difference
returns-then-eq-clause-difference c =
    let same = plugs_same c.args.old.now c.args.new.now c.eq.result c.eq.ensures c.if-eq.true in
    let uses : ◌≡◌ {A = ℕ} (uses_of c.args.lab.now (record { segment = c.args.segment.now; plugs = c.args.old.now })) (uses_of c.args.lab.now (record { segment = c.args.segment.now; plugs = c.args.new.now })) =
    ap (λ (l : List IfaceId). uses_of c.args.lab.now (record { segment = c.args.segment.now; plugs = l })) same in
    let before : ◌≡◌ {A = ℕ} c.nothing.result.before 0 = ap (λ (x : Moved). x.before) c.nothing.ensures in
    let after : ◌≡◌ {A = ℕ} c.nothing.result.after 0 = ap (λ (x : Moved). x.after) c.nothing.ensures in
    omega (arith, uses, before, after)
