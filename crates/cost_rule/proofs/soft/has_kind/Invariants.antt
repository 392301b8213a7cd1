use Rattle.std.proofs.Common.{◌≡◌}
use Rattle.std.specs.List.{list_any}
use Rattle.lab_base.specs.Names.{same_name}
use Rattle.cost_rule.specs.Counting.{types_from}
use Rattle.cost_rule.proofs.soft.has_kind.Given as goal

abbrev pub invariant-loop-virt : goal.invariant-loop-virt
invariant-loop-virt l =
    list_any (same_name l.kind) (types_from l.wiring l.mapping l.class l.virt) ≡ list_any (same_name l.kind) (types_from l.wiring l.mapping l.class l.from)
