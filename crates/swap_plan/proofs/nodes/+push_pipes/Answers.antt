use Rattle.std.proofs.Common.{inl, refl, sym, subst}
use Rattle.lab_base.specs.Lists.{Has}
use Rattle.swap_plan.proofs.PipeLaws.{placed}
use Rattle.swap_plan.proofs.nodes.+push_pipes.Goals as goal

pub is_placed_on-requires-clause-virt : goal.is_placed_on-requires-clause-virt
is_placed_on-requires-clause-virt t c =
    let first = subst (λ l. Has l c.in-Some.pipe.now) (sym c.in-Some.ensures.cases.0) (inl refl) in
    placed c.args.lab.now c.args.wiring.now c.args.mapping.now c.in-Some.pipe.now c.requires.sound c.requires.shaped (c.requires.pipes c.in-Some.pipe.now first)
