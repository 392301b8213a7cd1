use Rattle.std.proofs.Common.{Bool, true, cond, sym, ap, arith, ◌∙◌, ◌+◌}
use Rattle.std.specs.List.{list_any}
use Rattle.lab_base.specs.Names.{same_name}
use Rattle.cost_rule.specs.Counting.{types_from}
use Rattle.cost_rule.proofs.KindSteps.{any_step}
use Rattle.cost_rule.proofs.soft.has_kind.Goals as goal

pub returns-then-is_of_kind : goal.returns-then-is_of_kind
returns-then-is_of_kind c =
    let w = c.args.wiring.now in
    let m = c.args.mapping.now in
    let later = list_any (same_name c.args.kind) (types_from w m c.args.class (c.loop-virt.virt + 1)) in
    let step = any_step w m c.args.class c.loop-virt.virt c.args.kind (omega arith) (omega arith) in
    sym (step ∙ ap (λ (b : Bool). cond b true later) (sym c.is_of_kind.ensures ∙ c.if-is_of_kind.true)) ∙ c.loop-virt.invariant

pub loop-virt-preserved : goal.loop-virt-preserved
loop-virt-preserved c =
    let w = c.args.wiring.now in
    let m = c.args.mapping.now in
    let later = list_any (same_name c.args.kind) (types_from w m c.args.class (c.loop-virt.virt + 1)) in
    let step = any_step w m c.args.class c.loop-virt.virt c.args.kind (omega arith) (omega arith) in
    sym (step ∙ ap (λ (b : Bool). cond b true later) (sym c.is_of_kind.ensures ∙ c.if-is_of_kind.false)) ∙ c.loop-virt.invariant
